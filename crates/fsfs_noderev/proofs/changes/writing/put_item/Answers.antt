use Rattle.fsfs_noderev.proofs.ChangesWrites.{item_written}
use Rattle.fsfs_noderev.proofs.changes.writing.put_item.Goals as goal

pub returns : goal.returns
returns c = item_written c.args.item.now c.in_ok-put_first_line.ensures c.in_ok-push.ensures.items c.in_ok-put_second_line.ensures c.in_ok-push-2.ensures.items c.requires.flags
