use Rattle.std.proofs.Common.{sym, ◌∙◌, arith}
use Rattle.fsfs_dag.proofs.Fitting.{node_fits}
use Rattle.fsfs_dag.proofs.Windows.{decided_in_front}
use Rattle.fsfs_dag.proofs.reading.node_read.Goals as goal

pub returns-then-is_decided-clause-told : goal.returns-then-is_decided-clause-told
returns-then-is_decided-clause-told g c = λ look told.
    decided_in_front look c.args.at.now 1024 _ c.read_node_at-read.result (omega arith) (c.in_ok-count.ensures.told look told) c.read_node_at-read.ensures.read (sym c.is_decided.ensures ∙ c.if-is_decided.true)

pub returns-then-is_decided-clause-writable : goal.returns-then-is_decided-clause-writable
returns-then-is_decided-clause-writable g c = node_fits c.args.at.now _ c.read_node_at-read.result c.read_node_at-read.ensures.read
