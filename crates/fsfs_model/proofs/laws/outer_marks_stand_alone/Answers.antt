use Rattle.std.proofs.Common.{refl, []}
use Rattle.fsfs_model.proofs.Owns.{outer_push, made_push}
use Rattle.fsfs_model.proofs.laws.outer_marks_stand_alone.Goals as goal

pub returns : goal.returns
returns c = record { none_made = refl; none_outer = refl; made_more = made_push []; outer_more = outer_push [] }
