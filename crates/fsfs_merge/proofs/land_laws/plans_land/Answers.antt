use Rattle.fsfs_merge.proofs.Planned.{plans_land}
use Rattle.fsfs_merge.proofs.land_laws.plans_land.Goals as goal

pub returns : goal.returns
returns c = plans_land
