use Rattle.fsfs_merge.proofs.LandedWholeLaw.{merges_take_and_leave}
use Rattle.fsfs_merge.proofs.landed_laws.merges_take_and_leave.Goals as goal

pub returns : goal.returns
returns c = merges_take_and_leave
