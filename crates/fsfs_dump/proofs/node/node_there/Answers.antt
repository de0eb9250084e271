use Rattle.std.proofs.Common.{false, Err, sym, subst}
use Rattle.fsfs_revision.specs.declared.wrong.ReadError.{ReadError}
use Rattle.fsfs_revision.specs.Damage.Readings.{Answers}
use Rattle.fsfs_dump.specs.Readings.{NodeBy}
use Rattle.fsfs_dump.proofs.NodeLemmas.{node_value, node_met, node_within, nothing_met, file_met, unmet}
use Rattle.fsfs_dump.proofs.node.node_there.Goals as goal

pub returns-in-Ok-Node-clause-told : goal.returns-in-Ok-Node-clause-told
returns-in-Ok-Node-clause-told g c = λ look knows. node_met look c.args.rev c.args.item.now c.node_at.result (c.node_at.ensures.told look knows) c.in-Ok-Node.field-0 c.in-Ok-Node.found c.in-Ok-Node.is c.in-Ok-Node.field-0-is

pub returns-in-Ok-Node-clause-within : goal.returns-in-Ok-Node-clause-within
returns-in-Ok-Node-clause-within g c = λ look knows. node_within look c.args.rev c.args.item.now c.node_at.result (c.node_at.ensures.told look knows) c.in-Ok-Node.field-0 c.in-Ok-Node.found c.in-Ok-Node.is c.in-Ok-Node.field-0-is

pub returns-in-Ok-Absent-clause-told : goal.returns-in-Ok-Absent-clause-told
returns-in-Ok-Absent-clause-told g c = λ look knows.
    subst (λ (e : ReadError). Answers node_value (NodeBy look c.args.rev c.args.item.now false) (Err e)) (sym c.damaged.ensures)
    (nothing_met look c.args.rev c.args.item.now c.node_at.result (c.node_at.ensures.told look knows) c.in-Ok-Absent.field-0 _ c.in-Ok-Absent.is c.in-Ok-Absent.field-0-is)

pub returns-in-Ok-File-clause-told : goal.returns-in-Ok-File-clause-told
returns-in-Ok-File-clause-told g c = λ look knows.
    subst (λ (e : ReadError). Answers node_value (NodeBy look c.args.rev c.args.item.now false) (Err e)) (sym c.damaged-in-Ok-File.ensures)
    (file_met look c.args.rev c.args.item.now c.node_at.result (c.node_at.ensures.told look knows) c.in-Ok-File.field-0 _ c.in-Ok-File.is c.in-Ok-File.field-0-is)

pub returns-in-Err-clause-told : goal.returns-in-Err-clause-told
returns-in-Err-clause-told g c = λ look knows. unmet look c.args.rev c.args.item.now c.node_at.result (c.node_at.ensures.told look knows) c.in-Err.error c.in-Err.is
