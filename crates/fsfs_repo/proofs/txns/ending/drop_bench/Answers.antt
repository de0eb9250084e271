use Rattle.fsfs_repo.proofs.Commits.{not_gone}
use Rattle.fsfs_repo.proofs.txns.ending.drop_bench.Goals as goal

pub purge-requires : goal.purge-requires
purge-requires g c = record { due = λ bound. c.requires.due bound }

pub returns-in-Ok-clause-dropped : goal.returns-in-Ok-clause-dropped
returns-in-Ok-clause-dropped g c = λ m known none given. c.in-Ok.ensures.spent m known none given

pub returns-in-Err-clause-dropped : goal.returns-in-Err-clause-dropped
returns-in-Err-clause-dropped g c = λ m known none given. not_gone _ c.args.name.now.number.number m c.in-Err.field-0 (c.in-Err.ensures.spent m known none given)

pub returns-in-Ok-clause-listed : goal.returns-in-Ok-clause-listed
returns-in-Ok-clause-listed g c = c.in-Ok.ensures.others

pub returns-in-Err-clause-listed : goal.returns-in-Err-clause-listed
returns-in-Err-clause-listed g c = (c.in-Err.ensures.cause.failed, c.in-Err.ensures.left)
