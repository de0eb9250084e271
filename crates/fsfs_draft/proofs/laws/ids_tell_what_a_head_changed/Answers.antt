use Rattle.fsfs_draft.proofs.HeadLaw.{head_laws}
use Rattle.fsfs_draft.proofs.laws.ids_tell_what_a_head_changed.Goals as goal

pub returns : goal.returns
returns c = head_laws
