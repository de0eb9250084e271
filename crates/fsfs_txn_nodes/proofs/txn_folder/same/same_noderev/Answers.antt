use Rattle.fsfs_txn_nodes.proofs.SameLemmas.{all_decided}
use Rattle.fsfs_txn_nodes.proofs.txn_folder.same.same_noderev.Goals as goal

pub returns : goal.returns
returns c =
    all_decided c.args.a.now c.args.b.now c.same_node_id.result c.same_kind.result c.same_predecessor.result c.same_counts.result c.same_contents.result c.same_contents-2.result c.same_path.result c.same_source.result c.same_root.result c.same_flags.result
    c.same_node_id.ensures c.same_kind.ensures c.same_predecessor.ensures c.same_counts.ensures c.same_contents.ensures c.same_contents-2.ensures c.same_path.ensures c.same_source.ensures c.same_root.ensures c.same_flags.ensures
