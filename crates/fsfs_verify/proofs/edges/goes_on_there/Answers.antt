use Rattle.std.proofs.Common.{sym, ◌∙◌}
use Rattle.fsfs_dag.specs.Views.{entry_value}
use Rattle.fsfs_dag.proofs.IdLemmas.{id_true}
use Rattle.fsfs_verify.proofs.EdgeLemmas.{goes_on_some}
use Rattle.fsfs_verify.proofs.edges.goes_on_there.Goals as goal

pub returns-in-Some-before-clause-yes : goal.returns-in-Some-before-clause-yes
returns-in-Some-before-clause-yes c = λ same.
    let before = c.in-Some-before.before.now in
    rw c.in-Some-before.is (goes_on_some (entry_value before) c.args.node.now c.in-Some.id c.in-Some.is (id_true before.id c.in-Some.id (sym c.same_id.ensures ∙ same)))
