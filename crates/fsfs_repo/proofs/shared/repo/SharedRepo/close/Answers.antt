use Rattle.fsfs_repo.proofs.Leaving.{leaves_so}
use Rattle.fsfs_repo.proofs.shared.repo.SharedRepo.close.Goals as goal

pub close-requires-clause-table : goal.close-requires-clause-table
close-requires-clause-table g c = (c.requires.sits.0, c.args.self.sized.0, c.args.self.sized.1, c.requires.sits.1)

pub close-requires-clause-sits : goal.close-requires-clause-sits
close-requires-clause-sits g c = c.requires.sits.2

pub returns-clause-left : goal.returns-clause-left
returns-clause-left g c = leaves_so (g.D.Disk.trace c.close.result) c.args.seat.me.0 c.close.ensures.met
