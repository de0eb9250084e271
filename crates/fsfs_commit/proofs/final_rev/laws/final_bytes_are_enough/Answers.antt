use Rattle.fsfs_commit.proofs.FinalBytesLaw.{final_bytes_are_enough}
use Rattle.fsfs_commit.proofs.final_rev.laws.final_bytes_are_enough.Goals as goal

pub returns : goal.returns
returns c = final_bytes_are_enough
