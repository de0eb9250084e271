use Rattle.fsfs_history.proofs.HistoryTexts.{found_point, found_absent, found_file, found_wrong}
use Rattle.fsfs_history.proofs.history.point_found.Goals as goal

pub returns-in-Ok-Point-clause-told : goal.returns-in-Ok-Point-clause-told
returns-in-Ok-Point-clause-told g c = λ look knows. found_point look c.args.rev c.args.path.now c.way_to.result c.in-Ok-Point.field-0 c.in-Ok-Point.is (c.way_to.ensures.told look knows) c.in-Ok-Point.at c.in-Ok-Point.field-0-is (c.way_to.ensures.rooted look knows)

pub returns-in-Ok-Absent-clause-told : goal.returns-in-Ok-Absent-clause-told
returns-in-Ok-Absent-clause-told g c = λ look knows. found_absent look c.args.rev c.args.path.now c.way_to.result c.in-Ok-Absent.field-0 c.in-Ok-Absent.is (c.way_to.ensures.told look knows) c.in-Ok-Absent.names c.in-Ok-Absent.field-0-is

pub returns-in-Ok-File-clause-told : goal.returns-in-Ok-File-clause-told
returns-in-Ok-File-clause-told g c = λ look knows. found_file look c.args.rev c.args.path.now c.way_to.result c.in-Ok-File.field-0 c.in-Ok-File.is (c.way_to.ensures.told look knows) c.in-Ok-File.names c.in-Ok-File.field-0-is

pub returns-in-Err-clause-told : goal.returns-in-Err-clause-told
returns-in-Err-clause-told g c = λ look knows. rw c.from.ensures (found_wrong look c.args.rev c.args.path.now c.in-Err.error (c.in-Err.ensures.told look knows))
