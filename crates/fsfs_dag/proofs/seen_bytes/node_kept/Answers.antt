use Rattle.fsfs_dag.proofs.SeenLemmas.{decided_in_part}
use Rattle.fsfs_dag.proofs.seen_bytes.node_kept.Goals as goal

pub returns-in-None-clause-told : goal.returns-in-None-clause-told
returns-in-None-clause-told c = λ look seen is.
    let e = rw c.damaged.ensures at is in
    absurd cc

pub returns-in-Some-clause-told : goal.returns-in-Some-clause-told
returns-in-Some-clause-told c = λ look seen is.
    let w = c.in-Some.ensures look seen in
    decided_in_part look c.args.at.now w.0 _ c.read_node_at.result w.1 c.read_node_at.ensures.read is
