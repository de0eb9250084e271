use Rattle.std.proofs.Common.{ℕ, List, refl, subst}
use Rattle.fsfs_layout.specs.Hash.Dump.{Pair}
use Rattle.fsfs_txn_files.proofs.ChangeLemmas.{alone}
use Rattle.fsfs_txn_files.proofs.change.FileChange.put_entry.Goals as goal

pub returns : goal.returns
returns c =
    let text = c.add_entry.new.out.items in
    let said = alone Pair c.new-text.result.items text (c.as_bytes.result.now, c.as_slice.result.now) c.new-text.ensures.items c.in_ok-add_entry.ensures.entry in
    record {
      file_is = refl;
      how_is = refl;
      text_is = record {
        value = c.in_ok-value.value.items;
        value_is = c.in_ok-value.ensures.told;
        text_is = subst (λ (p : List ℕ × List ℕ). Pair text p) (λ i. (c.as_bytes.ensures.value i, c.as_slice.ensures.value i)) said;
      };
    }
