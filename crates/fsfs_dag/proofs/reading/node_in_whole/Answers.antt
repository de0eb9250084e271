use Rattle.std.proofs.Common.{drop, take, List, ℕ}
use Rattle.std.proofs.lemmas.Result.{err_from_is_err_and}
use Rattle.fsfs_noderev.specs.declared.node_rev.NodeRev.{NodeRev}
use Rattle.fsfs_revision.specs.Damages.{NodeIn}
use Rattle.fsfs_dag.proofs.Fitting.{node_fits}
use Rattle.fsfs_dag.proofs.Windows.{window_stops, node_seen}
use Rattle.fsfs_dag.proofs.reading.node_in_whole.Goals as goal

pub returns-in_err-count-clause-told : goal.returns-in_err-count-clause-told
returns-in_err-count-clause-told g c = λ look told.
    let p = err_from_is_err_and c.from_residual.result c.from_residual.ensures.1 in
    rw (p.1, p.2) (window_stops (λ (n : ℕ). take n c.window.new.buffer) (λ (v : NodeRev). v) look c.args.at.now 65536 c.in_err-count.field-0.0 (λ (bytes : List ℕ). NodeIn c.args.at.now (drop c.args.at.now.offset bytes)) (c.in_err-count.ensures.told look told))

pub returns-clause-told : goal.returns-clause-told
returns-clause-told g c = λ look told. node_seen look c.args.at.now _ c.read_node_at.result (c.in_ok-count.ensures.told look told) c.read_node_at.ensures.read

pub returns-clause-writable : goal.returns-clause-writable
returns-clause-writable g c = node_fits c.args.at.now _ c.read_node_at.result c.read_node_at.ensures.read
