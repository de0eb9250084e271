use Rattle.fsfs_job_run.proofs.Finite.{edited_maps}
use Rattle.fsfs_job_run.proofs.serial.laws.edited_trees_are_maps.Goals as goal

pub returns : goal.returns
returns c = edited_maps
