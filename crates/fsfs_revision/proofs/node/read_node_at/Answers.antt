use Rattle.std.proofs.Common.{true, false, refl, sym, subst, take, ◌∙◌}
use Rattle.fsfs_noderev.specs.Steps.{IsOutOfMemory}
use Rattle.fsfs_noderev.proofs.Taking.{means_same, node_read}
use Rattle.fsfs_revision.proofs.DamageLemmas.{nothing_read, of_transaction, not_ordered}
use Rattle.fsfs_revision.proofs.node.read_node_at.Goals as goal

pub returns-in-Err-Fault-clause-read : goal.returns-in-Err-Fault-clause-read
returns-in-Err-Fault-clause-read c = nothing_read c.args.at.now c.args.bytes.now _ c.damaged.ensures (λ v w. subst IsOutOfMemory c.in-Err-Fault.field-0-is (c.in-Err-Fault.ensures.only v w))

pub returns-then-not-is_of_revision-clause-read : goal.returns-then-not-is_of_revision-clause-read
returns-then-not-is_of_revision-clause-read c =
    of_transaction c.args.at.now c.args.bytes.now _ c.take_node-node.result c.damaged-then-not-is_of_revision.ensures
    (λ v w. means_same c.read_fields.new.fields c.take_node-node.result v c.take_node-node.ensures (c.in-Ok.ensures.only v w)) (sym c.is_of_revision.ensures ∙ c.if-not-is_of_revision.true)

pub returns-then-not-is_ordered-clause-read : goal.returns-then-not-is_ordered-clause-read
returns-then-not-is_ordered-clause-read c =
    not_ordered c.args.at.now c.args.bytes.now _ c.take_node-node.result c.damaged-then-not-is_ordered.ensures
    (node_read (take 65536 c.args.bytes.now) c.read_fields.new.fields c.take_node-node.result c.in-Ok.ensures.found c.take_node-node.ensures)
    (λ v w. means_same c.read_fields.new.fields c.take_node-node.result v c.take_node-node.ensures (c.in-Ok.ensures.only v w))
    (sym c.is_of_revision.ensures ∙ c.if-not-is_of_revision.false) (sym c.is_ordered.ensures ∙ c.if-not-is_ordered.true)

pub returns-clause-read : goal.returns-clause-read
returns-clause-read c =
    ((node_read (take 65536 c.args.bytes.now) c.read_fields.new.fields c.take_node-node.result c.in-Ok.ensures.found c.take_node-node.ensures, sym c.is_of_revision.ensures ∙ c.if-not-is_of_revision.false), sym c.is_ordered.ensures ∙ c.if-not-is_ordered.false)
