use Rattle.std.proofs.Common.{refl}
use Rattle.fsfs_noderev.specs.Changes.Items.{IsItem}
use Rattle.fsfs_txn_files.proofs.ChangeLemmas.{alone}
use Rattle.fsfs_txn_files.proofs.change.FileChange.item.Goals as goal

pub returns : goal.returns
returns c =
    record { file_is = refl; how_is = refl; text_is = alone IsItem c.new-text.result.items c.put_item.new.out.items c.args.item.now c.new-text.ensures.items c.in_ok-put_item.ensures }
