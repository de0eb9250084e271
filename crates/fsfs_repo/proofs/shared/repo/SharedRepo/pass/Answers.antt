use Rattle.std.proofs.Common.{ap, ◌∙◌}
use Rattle.std.specs.Prelude.{is_some}
use Rattle.fsfs_repo.proofs.shared.repo.SharedRepo.pass.Goals as goal

pub new-requires-clause-sits : goal.new-requires-clause-sits
new-requires-clause-sits g c = (c.requires.sits.0, c.args.self.now.sized.0, c.args.self.now.sized.1, c.requires.sits.1)

pub new-requires-clause-sitting : goal.new-requires-clause-sitting
new-requires-clause-sitting g c = c.requires.sits.2

pub new-requires-clause-met : goal.new-requires-clause-met
new-requires-clause-met g c = c.requires.tells.0

pub new-requires-clause-short : goal.new-requires-clause-short
new-requires-clause-short g c = c.requires.tells.2

pub returns-clause-known : goal.returns-clause-known
returns-clause-known g c = λ disk told. c.new.ensures.known (ap (λ d. is_some (g.D.Disk.trace d)) c.said_again-first.ensures ∙ disk) told (c.requires.tells.1 told)
