use Rattle.fsfs_history.proofs.HistoryLemmas.{point_met, absent_met, file_met}
use Rattle.fsfs_history.proofs.history.point_at.Goals as goal

pub returns-in-Point-clause-told : goal.returns-in-Point-clause-told
returns-in-Point-clause-told g c = λ look knows. point_met look c.args.rev c.args.path.now c.in_ok-way.way c.in-Point.at c.in-Point.is (c.in_ok-way.ensures.told look knows) (c.in_ok-way.ensures.rooted look knows)

pub returns-in-Absent-clause-told : goal.returns-in-Absent-clause-told
returns-in-Absent-clause-told g c = λ look knows. absent_met look c.args.rev c.args.path.now c.in_ok-way.way c.in-Absent.field-0 c.in-Absent.is (c.in_ok-way.ensures.told look knows)

pub returns-in-File-clause-told : goal.returns-in-File-clause-told
returns-in-File-clause-told g c = λ look knows. file_met look c.args.rev c.args.path.now c.in_ok-way.way c.in-File.field-0 c.in-File.is (c.in_ok-way.ensures.told look knows)
