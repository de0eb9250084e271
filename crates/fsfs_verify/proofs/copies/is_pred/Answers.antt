use Rattle.std.proofs.Common.{sym, ap, ◌∙◌}
use Rattle.std.specs.Prelude.{Option, Some}
use Rattle.fsfs_noderev.specs.declared.node_id.NodeId.{NodeId}
use Rattle.fsfs_dag.specs.Views.{met_value}
use Rattle.fsfs_dag.proofs.IdLemmas.{id_true}
use Rattle.fsfs_verify.proofs.copies.is_pred.Goals as goal

pub returns-in-Node-clause-yes : goal.returns-in-Node-clause-yes
returns-in-Node-clause-yes c = λ same.
    (c.in-Node.found.node, ap met_value c.in-Node.is, c.in-Some.is ∙ ap (λ (id : NodeId). let o : Option NodeId = Some id in o) (sym (id_true c.in-Node.found.node.id c.in-Some.id (sym c.same_id.ensures ∙ same))))
