use Rattle.fsfs_turn.proofs.MayPack.{may_pack_alone}
use Rattle.fsfs_turn.proofs.laws.a_lone_pass_may_pack.Goals as goal

pub returns : goal.returns
returns c = may_pack_alone
