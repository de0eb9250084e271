use Rattle.fsfs_look.proofs.LookAnswers.{not_found, node_met, lacking_met, blocked_met}
use Rattle.fsfs_look.proofs.path.found_at.Goals as goal

pub returns-in-Ok-Node-clause-told : goal.returns-in-Ok-Node-clause-told
returns-in-Ok-Node-clause-told g c = λ look knows. node_met look c.args.rev c.args.path.now c.node_at.result c.in-Ok-Node.field-0 c.in-Ok-Node.is (c.node_at.ensures.told look knows) c.in-Ok-Node.found c.in-Ok-Node.field-0-is

pub returns-in-Ok-Absent-clause-told : goal.returns-in-Ok-Absent-clause-told
returns-in-Ok-Absent-clause-told g c = λ look knows. lacking_met look c.args.rev c.args.path.now c.node_at.result c.in-Ok-Absent.field-0 c.in-Ok-Absent.is (c.node_at.ensures.told look knows) c.in-Ok-Absent.names c.in-Ok-Absent.field-0-is

pub returns-in-Ok-File-clause-told : goal.returns-in-Ok-File-clause-told
returns-in-Ok-File-clause-told g c = λ look knows. blocked_met look c.args.rev c.args.path.now c.node_at.result c.in-Ok-File.field-0 c.in-Ok-File.is (c.node_at.ensures.told look knows) c.in-Ok-File.names c.in-Ok-File.field-0-is

pub returns-in-Err-clause-told : goal.returns-in-Err-clause-told
returns-in-Err-clause-told g c = λ look knows. rw c.from.ensures (not_found look c.args.rev c.args.path.now c.in-Err.error (c.in-Err.ensures.told look knows))
