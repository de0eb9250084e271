use Rattle.std.proofs.Common.{sym, ◌∙◌}
use Rattle.fsfs_dag.proofs.seen_bytes.node_beside.Goals as goal

pub returns-then-is_decided-clause-told : goal.returns-then-is_decided-clause-told
returns-then-is_decided-clause-told g c = λ look told seen. c.node_kept-kept.ensures.told look seen (sym c.is_decided.ensures ∙ c.if-is_decided.true)
