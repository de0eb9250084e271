-- Which folder is that of which label.
use Rattle.std.proofs.Common.{◌≡◌, ◌⊎◌, ℕ, List, [], ◌∷◌, ◌++◌, Bool, true, false, cond, ⊎_elim, refl, sym, ap, ◌∙◌, arith}
use Rattle.std.proofs.lemmas.Option.{same_Some, none-some}
use Rattle.std.proofs.lemmas.List.{length-append, take_at}
use Rattle.std.specs.Prelude.{◌≤◌, ◌<◌, ◌-◌, ◌^◌, length, take, drop, codes, Option, Some, None}
use Rattle.std.specs.Fmt.{decimal}
use Rattle.fsfs_base.specs.Grammar.Base36.{base36}
use Rattle.fsfs_base.specs.Grammar.Numeral.{numeral_at}
use Rattle.fsfs_base.proofs.Numerals.{numeral_again}
use Rattle.fsfs_base.proofs.Unique.{decimal_plain}
use Rattle.fsfs_base.proofs.Base36Texts.{base36_numeral}
use Rattle.fsfs_base.specs.Fields.RevNums.{last_rev}
use Rattle.fsfs_base.specs.Fields.TxnNames.{txn_text, txn_name_at}
use Rattle.fsfs_base.specs.Files.{same_text}
use Rattle.fsfs_base.proofs.TxnNameTexts.{txn_name_spells}
use Rattle.fsfs_disk.specs.Labels.{Label, Txn, Pack, HotCopy}
use Rattle.fsfs_folders.proofs.PathLemmas.{same_itself}
use Rattle.fsfs_folders.specs.SameText.{text_cases}
use Rattle.fsfs_folders.specs.LabelPaths.{bench_folder, between, txns_of, packs_of, first_of, label_at, IsFitting}
use Rattle.fsfs_folders.specs.Told.{is_in_bench}

first_is : (path : List ℕ) (labels : List Label) (l : Label) → first_of path labels ≡ Some l → bench_folder l ≡ path
first_is path [] l e = absurd (none-some l e)
first_is path (k ∷ labels) l e =
    ⊎_elim (λ s. ap bench_folder (sym (same_Some k l (sym (ap (λ b. cond b (Some k) (first_of path labels)) s.1) ∙ e))) ∙ s.0)
    (λ o. first_is path labels l (sym (ap (λ b. cond b (Some k) (first_of path labels)) o.1) ∙ e)) (text_cases (bench_folder k) path)

-- a folder is that of its label
pub label_is : (path : List ℕ) (l : Label) → label_at path ≡ Some l → bench_folder l ≡ path
unfolding label_at
label_is path l e = first_is path _ l e

pub folder_in_bench : (l : Label) → is_in_bench (bench_folder l) ≡ true
unfolding is_in_bench
folder_in_bench (Txn base number) = refl
folder_in_bench (Pack shard) = refl
folder_in_bench HotCopy = refl

pub no_label : (path : List ℕ) → is_in_bench path ≡ false → label_at path ≡ None
no_label path outside = by_label (label_at path) refl
  where
    by_label : (o : Option Label) → label_at path ≡ o → label_at path ≡ None
    by_label None e = e
    by_label (Some l) e = let h : true ≡ false = sym (folder_in_bench l) ∙ ap is_in_bench (label_is path l e) ∙ outside in cc

-- what stands between is found
pub between_is : (text back : List ℕ) (k : ℕ) → length back ≡ k → take (length (text ++ back) - k) (text ++ back) ≡ text
between_is text back k is =
    let place : length (text ++ back) - k ≡ length text = omega (arith, length-append text back, is) in
    ap (λ n. take n (text ++ back)) place ∙ take_at text back (length text) refl

first_head : (l : Label) (labels : List Label) → first_of (bench_folder l) (l ∷ labels) ≡ Some l
first_head l labels = ap (λ b. cond b (Some l) (first_of (bench_folder l) labels)) (same_itself (bench_folder l))

skip_txns : (path : List ℕ) (o : Option (ℕ × ℕ)) (labels : List Label) → ((base number : ℕ) → same_text (bench_folder (Txn base number)) path ≡ false) → first_of path (txns_of o ++ labels) ≡ first_of path labels
skip_txns path None labels apart = refl
skip_txns path (Some p) labels apart = ap (λ b. cond b (Some (Txn p.0 p.1)) (first_of path labels)) (apart p.0 p.1)

pub skip_packs : (path : List ℕ) (o : Option ℕ) (labels : List Label) → ((shard : ℕ) → same_text (bench_folder (Pack shard)) path ≡ false) → first_of path (packs_of o ++ labels) ≡ first_of path labels
skip_packs path None labels apart = refl
skip_packs path (Some s) labels apart = ap (λ b. cond b (Some (Pack s)) (first_of path labels)) (apart s)

txn_again : (base number : ℕ) → base ≤ last_rev → number ≤ 170581728179578208255 → txn_name_at (txn_text base number) ≡ Some (base, number)
txn_again base number low small =
    txn_name_spells.again (txn_text base number) (base, number)
    (decimal base, base36 number, decimal_plain last_rev base low (omega (arith, low)), (base36_numeral number (omega (arith, small)), small), refl)

txn_found : (base number : ℕ) → base ≤ last_rev → number ≤ 170581728179578208255 → txn_name_at (between 16 4 (bench_folder (Txn base number))) ≡ Some (base, number)
txn_found base number low small = ap txn_name_at (between_is (txn_text base number) (codes ".txn") 4 refl) ∙ txn_again base number low small

pack_found : (shard : ℕ) → shard ≤ 4294967295 → numeral_at 10 4294967295 (between 8 6 (bench_folder (Pack shard))) ≡ Some shard
pack_found shard low = ap (numeral_at 10 4294967295) (between_is (decimal shard) (codes ".bench") 6 refl)
    ∙ numeral_again 10 4294967295 (decimal shard) shard (omega arith) (decimal_plain 4294967295 shard low (omega (arith, low)))

-- the folder of a label is that of no other
pub label_again : (l : Label) → IsFitting l → label_at (bench_folder l) ≡ Some l
unfolding label_at
label_again (Txn base number) fits =
    let path = bench_folder (Txn base number) in
    ap (λ o. first_of path (txns_of o ++ (packs_of (numeral_at 10 4294967295 (between 8 6 path)) ++ HotCopy ∷ []))) (txn_found base number fits.0 fits.1)
    ∙ first_head (Txn base number) (packs_of (numeral_at 10 4294967295 (between 8 6 path)) ++ HotCopy ∷ [])
label_again (Pack shard) fits =
    let path = bench_folder (Pack shard) in
    skip_txns path (txn_name_at (between 16 4 path)) (packs_of (numeral_at 10 4294967295 (between 8 6 path)) ++ HotCopy ∷ []) (λ base number. refl)
    ∙ ap (λ o. first_of path (packs_of o ++ HotCopy ∷ [])) (pack_found shard fits)
    ∙ first_head (Pack shard) (HotCopy ∷ [])
label_again HotCopy fits =
    let path = bench_folder HotCopy in
    skip_txns path (txn_name_at (between 16 4 path)) (packs_of (numeral_at 10 4294967295 (between 8 6 path)) ++ HotCopy ∷ []) (λ base number. refl)
    ∙ skip_packs path (numeral_at 10 4294967295 (between 8 6 path)) (HotCopy ∷ []) (λ shard. refl)
    ∙ first_head HotCopy []
