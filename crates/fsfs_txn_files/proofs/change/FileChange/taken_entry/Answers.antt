use Rattle.std.proofs.Common.{ℕ, List, refl, subst}
use Rattle.fsfs_layout.specs.Hash.Dump.{Field}
use Rattle.fsfs_txn_files.proofs.ChangeLemmas.{alone}
use Rattle.fsfs_txn_files.proofs.change.FileChange.taken_entry.Goals as goal

pub returns : goal.returns
returns c =
    let text = c.drop_entry.new.out.items in
    let said = alone (Field 68) c.new-text.result.items text c.as_bytes.result.now c.new-text.ensures.items c.in_ok-drop_entry.ensures.record_of in
    record { file_is = refl; how_is = refl; text_is = subst (λ (n : List ℕ). Field 68 text n) c.as_bytes.ensures.value said }
