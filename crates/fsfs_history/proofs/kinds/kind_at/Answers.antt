use Rattle.std.proofs.Common.{ap}
use Rattle.fsfs_dag.specs.Views.{met_value}
use Rattle.fsfs_stands.specs.ChangedTexts.{kind_met}
use Rattle.fsfs_history.proofs.KindLemmas.{kind_found, kind_unmet}
use Rattle.fsfs_history.proofs.kinds.kind_at.Goals as goal

pub returns-in-Ok-Node-clause-told : goal.returns-in-Ok-Node-clause-told
returns-in-Ok-Node-clause-told g c = λ look knows.
    kind_found look c.args.rev c.args.path.now c.args.absent c.node_at.result (c.node_at.ensures.told look knows) c.in-Ok-Node.field-0 c.in-Ok-Node.found.node.kind c.in-Ok-Node.is (ap (λ m. kind_met c.args.absent (met_value m)) c.in-Ok-Node.field-0-is)

pub returns-in-Ok-Absent-clause-told : goal.returns-in-Ok-Absent-clause-told
returns-in-Ok-Absent-clause-told g c = λ look knows.
    kind_found look c.args.rev c.args.path.now c.args.absent c.node_at.result (c.node_at.ensures.told look knows) c.in-Ok-Absent.field-0 c.args.absent c.in-Ok-Absent.is (ap (λ m. kind_met c.args.absent (met_value m)) c.in-Ok-Absent.field-0-is)

pub returns-in-Ok-File-clause-told : goal.returns-in-Ok-File-clause-told
returns-in-Ok-File-clause-told g c = λ look knows.
    kind_found look c.args.rev c.args.path.now c.args.absent c.node_at.result (c.node_at.ensures.told look knows) c.in-Ok-File.field-0 c.args.absent c.in-Ok-File.is (ap (λ m. kind_met c.args.absent (met_value m)) c.in-Ok-File.field-0-is)

pub returns-in-Err-clause-told : goal.returns-in-Err-clause-told
returns-in-Err-clause-told g c = λ look knows. kind_unmet look c.args.rev c.args.path.now c.args.absent c.node_at.result (c.node_at.ensures.told look knows) c.in-Err.error c.in-Err.is
