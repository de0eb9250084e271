use Rattle.fsfs_create.proofs.Knowing.{known_now}
use Rattle.fsfs_create.proofs.store_opening.open_store.Goals as goal

pub returns-in-Ok-clause-known : goal.returns-in-Ok-clause-known
returns-in-Ok-clause-known g c = known_now (g.D.Disk.trace c.args.disk) (g.D.Disk.trace c.open.new.disk) c.in-Ok.said _ c.in-Ok.ensures.firm c.in-Ok.ensures.opened c.new.ensures.known
