use Rattle.fsfs_workers.proofs.Going.{by_floor}
use Rattle.fsfs_workers.proofs.jobs.seeing.see.Goals as goal

pub returns-in-Ok-clause-seen : goal.returns-in-Ok-clause-seen
returns-in-Ok-clause-seen g c = λ v known none. let f = c.in-Ok.ensures.floor v known c.name-file.ensures in let b = by_floor f.2 f.1 v f.0 none f.6 in (f.0, f.4, b.0, b.1, b.2, b.3)

pub returns-in-Err-clause-seen : goal.returns-in-Err-clause-seen
returns-in-Err-clause-seen g c = λ v known none. let f = c.in-Err.ensures.floor v known c.name-file.ensures in let b = by_floor f.2 f.1 v f.0 none f.6 in (f.0, f.4, b.0, b.1, b.2, b.3)
