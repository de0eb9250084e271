use Rattle.std.proofs.Common.{sym, ap, ◌∙◌}
use Rattle.std.specs.Prelude.{Option, Some}
use Rattle.fsfs_noderev.specs.declared.node_id.NodeId.{NodeId}
use Rattle.fsfs_dag.proofs.IdLemmas.{id_true}
use Rattle.fsfs_verify.proofs.roots.follows.Goals as goal

pub returns-then-same_id-clause-yes : goal.returns-then-same_id-clause-yes
returns-then-same_id-clause-yes c = λ same.
    record { pred = c.in-Some.is ∙ ap (λ (id : NodeId). let o : Option NodeId = Some id in o) (id_true c.in-Some.id c.args.last.now.id (sym c.same_id.ensures ∙ c.if-same_id.true)); root = c.same_root.ensures.same same }
