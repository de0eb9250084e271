use Rattle.std.proofs.Common.{Some, false}
use Rattle.fsfs_noderev.specs.declared.rep.Contents.TheVariants as contents
use Rattle.fsfs_dag.specs.Listing.Views.{listed}
use Rattle.fsfs_txn_nodes.proofs.memory.changed.relinked.Goals as goal

pub returns : goal.returns
returns c = record {
  entries = listed c.in_ok-entries.entries;
  listed = c.in_ok-entries.ensures;
  new_is = λ i. record {
    node = record (c.in_ok-node.ensures i) { predecessor = Some c.args.dir.link.head; count = c.args.dir.link.count; text = Some contents.Own; is_fresh_txn_root = false };
    entries = Some (listed c.in_ok-entries.entries);
    props = c.in_ok-props.ensures i;
  };
}
