use Rattle.std.proofs.Common.{refl}
use Rattle.fsfs_txn_files.proofs.change.FileChange.children.Goals as goal

pub returns : goal.returns
returns c =
    let list = c.in_ok-text.ensures in
    record {
      file_is = refl;
      how_is = refl;
      text_is = record { pairs = list.pairs; text_is = list.text_is; dump = list.dump; lead = list.lead };
    }
