-- The folders of transactions that a listing finds are those of the labels that are kept.
use Rattle.std.proofs.Common.{◌≡◌, ◌⊎◌, ℕ, List, [], ◌∷◌, ◌++◌, Bool, true, false, cond, inl, inr, ⊎_elim, refl, sym, ap, subst, ◌∙◌, arith}
use Rattle.std.proofs.lemmas.Bool.{cases_Bool, and_from, and_parts, or_cases, not-true, not_from_false, le-leb}
use Rattle.std.proofs.lemmas.Fmt.{length-decimal-le}
use Rattle.std.proofs.lemmas.List.{length-append, append-nil, append_cancel_left}
use Rattle.std.proofs.lemmas.Option.{same_Some, none-some}
use Rattle.std.specs.Prelude.{◌≤◌, ◌<◌, ◌-◌, ◌^◌, ◌==◌, ◌||◌, ◌&&◌, not, nat_le, length, get_or, take, is_some, codes, Option, Some, None, IfSome}
use Rattle.std.specs.Fmt.{decimal}
use Rattle.std.proofs.lemmas.List.Sorted.{IsPermutation-trans}
use Rattle.std.specs.Ordering.{nat_cmp}
use Rattle.std.specs.Cmp.Lexicographic.{slice_cmp}
use Rattle.std.specs.List.Sorted.{IsSorted, IsPermutation}
use Rattle.fsfs_base.specs.Grammar.Base36.{base36}
use Rattle.fsfs_base.specs.Grammar.Cuts.{Lacks}
use Rattle.fsfs_base.specs.Grammar.Numeral.{IsPlain, numeral_at}
use Rattle.fsfs_base.proofs.Base36Texts.{length-last_digits}
use Rattle.fsfs_base.proofs.CutLemmas.{two_lack}
use Rattle.fsfs_base.proofs.Spelling.{plain_lacks}
use Rattle.fsfs_base.specs.Fields.RevNums.{IsRev, last_rev}
use Rattle.fsfs_base.proofs.RevNumTexts.{rev_text_lacks}
use Rattle.fsfs_base.specs.Fields.TxnNames.{IsTxnName, txn_text, txn_name_at}
use Rattle.fsfs_base.specs.Files.{same_text}
use Rattle.fsfs_base.proofs.TxnNameTexts.{txn_name_spells}
use Rattle.fsfs_base.proofs.FileLemmas.{same_is}
use Rattle.fsfs_disk.specs.Labels.{Label, Txn, Pack, HotCopy, same_label, has_label, with_label, without_label, txn_entries, IsListing}
use Rattle.fsfs_disk.specs.Trace.{labels_after, labels_now}
use Rattle.fsfs_disk.proofs.LabelLemmas.{same_label-itself, same_label-same, has-without_label, has-without}
use Rattle.fsfs_folders.specs.System.Paths.{has_path, has_slash, within}
use Rattle.fsfs_folders.specs.System.Listing.{is_entry, are_apart, IsListOf}
use Rattle.fsfs_folders.specs.System.CallRecord.{CallRecord, IsEmptyAt, names_now}
use Rattle.fsfs_folders.proofs.PathLemmas.{has_head, has_tail, or_right}
use Rattle.fsfs_folders.specs.SameText.{text_cases}
use Rattle.fsfs_folders.specs.LabelPaths.{bench_folder, between, txns_of, packs_of, first_of, label_at, IsFitting}
use Rattle.fsfs_folders.specs.TxnEntries.{is_txn_entry, txns_among}
use Rattle.fsfs_folders.specs.Told.{labels_of, operations_of, trace_of}
use Rattle.fsfs_folders.specs.Standing.{told}
use Rattle.fsfs_folders.proofs.LabelPathLemmas.{label_is, between_is, skip_packs}
use Rattle.fsfs_folders.proofs.KeptLabels.{kept_by_folder, kept_is_own, kept_once, are_once}
use Rattle.fsfs_folders.proofs.Permuted.{permuted}

-- which names in a folder are txns'
pub among_has : (names : List (List ℕ)) (q : List ℕ) → has_path (txns_among names) q ≡ (has_path names q && is_txn_entry q)
among_has [] q = refl
among_has (n ∷ ns) q =
    ⊎_elim
    (λ t. ap (λ b. has_path (cond b (n ∷ txns_among ns) (txns_among ns)) q) t ∙ ap (λ b. same_text q n || b) (among_has ns q)
    ∙ ⊎_elim (λ s. ap (λ b. b || (has_path ns q && is_txn_entry q)) s.1 ∙ sym (ap (λ b. (b || has_path ns q) && is_txn_entry q) s.1 ∙ ap is_txn_entry s.0 ∙ t))
    (λ o. ap (λ b. b || (has_path ns q && is_txn_entry q)) o.1 ∙ sym (ap (λ b. (b || has_path ns q) && is_txn_entry q) o.1)) (text_cases q n))
    (λ f. ap (λ b. has_path (cond b (n ∷ txns_among ns) (txns_among ns)) q) f ∙ among_has ns q
    ∙ ⊎_elim (λ s. both_false (has_path ns q) (is_txn_entry q) (ap is_txn_entry s.0 ∙ f) ∙ sym (ap (λ b. (b || has_path ns q) && is_txn_entry q) s.1 ∙ ap is_txn_entry s.0 ∙ f))
    (λ o. sym (ap (λ b. (b || has_path ns q) && is_txn_entry q) o.1)) (text_cases q n)) (cases_Bool (is_txn_entry n))
  where
    both_false : (x y : Bool) → y ≡ false → (x && y) ≡ false
    both_false true y e = e
    both_false false y e = refl

pub among_apart : (names : List (List ℕ)) → are_apart names ≡ true → are_apart (txns_among names) ≡ true
among_apart [] apart = refl
among_apart (n ∷ ns) apart =
    let parts : (not (has_path ns n) ≡ true) × (are_apart ns ≡ true) = and_parts (not (has_path ns n)) (are_apart ns) apart in
    by_test (is_txn_entry n) parts.0 (among_apart ns parts.1)
  where
    by_test : (b : Bool) → not (has_path ns n) ≡ true → are_apart (txns_among ns) ≡ true → are_apart (cond b (n ∷ txns_among ns) (txns_among ns)) ≡ true
    by_test true new rest = and_from (not (has_path (txns_among ns) n)) (are_apart (txns_among ns)) (not_from_false (has_path (txns_among ns) n) (among_has ns n ∙ ap (λ b. b && is_txn_entry n) (not-true (has_path ns n) new))) rest
    by_test false new rest = rest

-- one name more
pub among_append : (names : List (List ℕ)) (name : List ℕ) → txns_among (names ++ name ∷ []) ≡ txns_among names ++ cond (is_txn_entry name) (name ∷ []) []
among_append [] name = refl
among_append (n ∷ ns) name = by_test (is_txn_entry n) (among_append ns name)
  where
    by_test : (b : Bool) → txns_among (ns ++ name ∷ []) ≡ txns_among ns ++ cond (is_txn_entry name) (name ∷ []) []
        → cond b (n ∷ txns_among (ns ++ name ∷ [])) (txns_among (ns ++ name ∷ [])) ≡ cond b (n ∷ txns_among ns) (txns_among ns) ++ cond (is_txn_entry name) (name ∷ []) []
    by_test true e = ap (λ l. n ∷ l) e
    by_test false e = e

pub none_pushed : (found : List (List ℕ)) (name : List ℕ) → is_txn_entry name ≡ false → found ≡ found ++ cond (is_txn_entry name) (name ∷ []) []
none_pushed found name e = sym (ap (λ b. found ++ cond b (name ∷ []) []) e ∙ append-nil found)

pub one_pushed : (found more : List (List ℕ)) (name copy : List ℕ) → copy ≡ name → is_txn_entry name ≡ true → more ≡ found ++ copy ∷ [] → more ≡ found ++ cond (is_txn_entry name) (name ∷ []) []
one_pushed found more name copy same e is = is ∙ ap (λ c. found ++ c ∷ []) same ∙ sym (ap (λ b. found ++ cond b (name ∷ []) []) e)

-- the entry of a transaction
abbrev entry : ℕ → ℕ → List ℕ
entry base number = txn_text base number ++ codes ".txn"

entries_have : (labels : List Label) (base number : ℕ) → has_label (Txn base number) labels ≡ true → has_path (txn_entries labels) (entry base number) ≡ true
entries_have [] base number has = let h : false ≡ true = has in cc
entries_have (Txn b n ∷ labels) base number has =
    ⊎_elim (λ same. ap (λ l. has_path (entry b n ∷ txn_entries labels) (of_txn l)) (sym (same_label-same (Txn b n) (Txn base number) same)) ∙ has_head (entry b n) (txn_entries labels))
    (λ later. has_tail (entry b n) (entry base number) (txn_entries labels) (entries_have labels base number later)) (or_cases (same_label (Txn b n) (Txn base number)) (has_label (Txn base number) labels) has)
  where
    of_txn : Label → List ℕ
    of_txn (Txn b n) = entry b n
    of_txn (Pack shard) = []
    of_txn HotCopy = []
entries_have (Pack shard ∷ labels) base number has = entries_have labels base number has
entries_have (HotCopy ∷ labels) base number has = entries_have labels base number has

pub entry_is : (labels : List Label) (q : List ℕ) → has_path (txn_entries labels) q ≡ true → (base : ℕ) × ((number : ℕ) × (has_label (Txn base number) labels ≡ true) × (q ≡ entry base number))
entry_is [] q has = let h : false ≡ true = has in cc
entry_is (Txn b n ∷ labels) q has =
    ⊎_elim (λ s. (b, (n, ap (λ x. x || has_label (Txn b n) labels) (same_label-itself (Txn b n)), same_is q (entry b n) s)))
    (λ later. let more = entry_is labels q later in (more.0, (more.1.0, or_right (same_label (Txn b n) (Txn more.0 more.1.0)) (has_label (Txn more.0 more.1.0) labels) more.1.1, more.1.2)))
    (or_cases (same_text q (entry b n)) (has_path (txn_entries labels) q) has)
entry_is (Pack shard ∷ labels) q has = entry_is labels q has
entry_is (HotCopy ∷ labels) q has = entry_is labels q has

-- labels that are those of their folders have entries of their own
pub entries_apart : (labels : List Label) → are_once labels ≡ true → ((l : Label) → has_label l labels ≡ true → label_at (bench_folder l) ≡ Some l) → are_apart (txn_entries labels) ≡ true
entries_apart [] once own = refl
entries_apart (Txn b n ∷ labels) once own =
    let parts : (not (has_label (Txn b n) labels) ≡ true) × (are_once labels ≡ true) = and_parts (not (has_label (Txn b n) labels)) (are_once labels) once in
    and_from (not (has_path (txn_entries labels) (entry b n))) (are_apart (txn_entries labels)) (not_from_false (has_path (txn_entries labels) (entry b n)) (by_test (has_path (txn_entries labels) (entry b n)) (λ has.
    let other = entry_is labels (entry b n) has in
    let mine : label_at (bench_folder (Txn b n)) ≡ Some (Txn b n) = own (Txn b n) (ap (λ x. x || has_label (Txn b n) labels) (same_label-itself (Txn b n))) in
    let its : label_at (bench_folder (Txn other.0 other.1.0)) ≡ Some (Txn other.0 other.1.0) = own (Txn other.0 other.1.0) (or_right (same_label (Txn b n) (Txn other.0 other.1.0)) (has_label (Txn other.0 other.1.0) labels) other.1.1) in
    let same : Txn b n ≡ Txn other.0 other.1.0 = same_Some (Txn b n) (Txn other.0 other.1.0) (sym mine ∙ ap (λ e. label_at (codes "db/transactions/" ++ e)) other.1.2 ∙ its) in
    let h : true ≡ false = sym other.1.1 ∙ ap (λ l. has_label l labels) (sym same) ∙ not-true (has_label (Txn b n) labels) parts.0 in cc)))
    (entries_apart labels parts.1 (λ l has. own l (or_right (same_label (Txn b n) l) (has_label l labels) has)))
  where
    by_test : (x : Bool) → (x ≡ true → ⊥) → x ≡ false
    by_test true h = absurd (h refl)
    by_test false h = refl
entries_apart (Pack shard ∷ labels) once own =
    entries_apart labels (and_parts (not (has_label (Pack shard) labels)) (are_once labels) once).1 (λ l has. own l (or_right (same_label (Pack shard) l) (has_label l labels) has))
entries_apart (HotCopy ∷ labels) once own =
    entries_apart labels (and_parts (not (has_label HotCopy labels)) (are_once labels) once).1 (λ l has. own l (or_right (same_label HotCopy l) (has_label l labels) has))

-- an entry's name has no slash, and is short
no_slash : (text : List ℕ) → Lacks 47 text → has_slash (text ++ codes ".txn") ≡ false
no_slash [] lacks = refl
no_slash (c ∷ cs) lacks = ap (λ b. b || has_slash (cs ++ codes ".txn")) lacks.0 ∙ no_slash cs lacks.1

abbrev base_of : Label → ℕ
base_of (Txn base number) = base
base_of (Pack shard) = 0
base_of HotCopy = 0

abbrev number_of : Label → ℕ
number_of (Txn base number) = number
number_of (Pack shard) = 0
number_of HotCopy = 0

module _ (base number : ℕ) where
  abbrev path : List ℕ
  path = bench_folder (Txn base number)

  abbrev rest : List Label
  rest = packs_of (numeral_at 10 4294967295 (between 8 6 path)) ++ HotCopy ∷ []

  no_other : first_of path rest ≡ None
  no_other = skip_packs path (numeral_at 10 4294967295 (between 8 6 path)) (HotCopy ∷ []) (λ shard. refl)

  of_parts : (o : Option (ℕ × ℕ)) → txn_name_at (between 16 4 path) ≡ o → first_of path (txns_of o ++ rest) ≡ Some (Txn base number) → IsTxnName (txn_text base number) (base, number)
  of_parts None e own = absurd (none-some (Txn base number) (sym no_other ∙ own))
  of_parts (Some p) e own =
      ⊎_elim
      (λ s. let same : Txn p.0 p.1 ≡ Txn base number = same_Some (Txn p.0 p.1) (Txn base number) (sym (ap (λ b. cond b (Some (Txn p.0 p.1)) (first_of path rest)) s.1) ∙ own) in
      let found : IsTxnName (txn_text base number) (p.0, p.1) = subst (λ (t : List ℕ). IsTxnName t (p.0, p.1)) (between_is (txn_text base number) (codes ".txn") 4 refl) (txn_name_spells.found (between 16 4 path) (p.0, p.1) e) in
      subst (λ (n : ℕ). IsTxnName (txn_text base number) (base, n)) (ap number_of same) (subst (λ (b : ℕ). IsTxnName (txn_text base number) (b, p.1)) (ap base_of same) found))
      (λ o. absurd (none-some (Txn base number) (sym no_other ∙ sym (ap (λ b. cond b (Some (Txn p.0 p.1)) (first_of path rest)) o.1) ∙ own))) (text_cases (bench_folder (Txn p.0 p.1)) path)

  -- a label that is that of its folder has a name that fits
  txn_from : label_at path ≡ Some (Txn base number) → IsTxnName (txn_text base number) (base, number)
  unfolding label_at
  txn_from own = of_parts (txn_name_at (between 16 4 path)) refl own

low_base : (base number : ℕ) → IsTxnName (txn_text base number) (base, number) → base ≤ last_rev
low_base base number name = name.2.1

entry_fits : (base number : ℕ) → IsTxnName (txn_text base number) (base, number) → is_entry (entry base number) ≡ true
entry_fits base number name =
    let slashes : has_slash (entry base number) ≡ false =
    no_slash (txn_text base number) (two_lack 47 45 IsRev (IsPlain 36 170581728179578208255) refl (rev_text_lacks 47 (omega arith)) (plain_lacks 36 170581728179578208255 47 (omega arith)) (txn_text base number) (base, number) name) in
    let first : length (decimal base) ≤ 10 = length-decimal-le 10 base (omega arith) (omega (arith, low_base base number name)) (omega (arith, low_base base number name)) in
    let short : length (entry base number) ≤ 128 = omega (
      arith,
      length-append (txn_text base number) (codes ".txn"),
      length-append (decimal base) (45 ∷ base36 number),
      first,
      length-last_digits 13 number,
    ) in
    of_text (entry base number) (omega (arith, length-append (txn_text base number) (codes ".txn"))) slashes short
  where
    of_text : (t : List ℕ) → 0 < length t → has_slash t ≡ false → length t ≤ 128 → is_entry t ≡ true
    of_text [] some slashes short = absurd (omega (arith, some))
    of_text (c ∷ cs) some slashes short = and_from (not (has_slash (c ∷ cs))) (nat_le (length (c ∷ cs)) 128) (not_from_false (has_slash (c ∷ cs)) slashes) (le-leb (length (c ∷ cs)) 128 short)

-- a path of a transaction's folder is that of no pack or copy
abbrev third : List ℕ → ℕ
third text = get_or text 3 0

module _ (r : CallRecord) (found : List (List ℕ)) (list : IsListOf (names_now r).folders (codes "db/transactions") found) where
  abbrev labels : List Label
  labels = labels_now (trace_of r)

  to : (q : List ℕ) → has_path (txn_entries labels) q ≡ true → has_path (txns_among found) q ≡ true
  to q has =
      let e = entry_is labels q has in
      let own : label_at (bench_folder (Txn e.0 e.1.0)) ≡ Some (Txn e.0 e.1.0) = kept_is_own r.first r.calls (Txn e.0 e.1.0) e.1.1 in
      let folder : (names_now r).folders (bench_folder (Txn e.0 e.1.0)) ≡ true = sym (kept_by_folder (Txn e.0 e.1.0) own r.first r.calls) ∙ e.1.1 in
      ap (λ x. has_path (txns_among found) x) e.1.2 ∙ among_has found (entry e.0 e.1.0)
      ∙ and_from (has_path found (entry e.0 e.1.0)) (is_txn_entry (entry e.0 e.1.0)) (list.all (entry e.0 e.1.0) (entry_fits e.0 e.1.0 (txn_from e.0 e.1.0 own)) folder) (ap is_some own)

  from : (q : List ℕ) → has_path (txns_among found) q ≡ true → has_path (txn_entries labels) q ≡ true
  from q has =
      let parts : (has_path found q ≡ true) × (is_txn_entry q ≡ true) = and_parts (has_path found q) (is_txn_entry q) (sym (among_has found q) ∙ has) in
      by_label (label_at (codes "db/transactions/" ++ q)) refl parts.1 (list.each q parts.0).1
    where
      by_kind : (l : Label) → label_at (codes "db/transactions/" ++ q) ≡ Some l → bench_folder l ≡ codes "db/transactions/" ++ q → (names_now r).folders (codes "db/transactions/" ++ q) ≡ true → has_path (txn_entries labels) q ≡ true
      by_kind (Txn b n) e is folder =
          let own : label_at (bench_folder (Txn b n)) ≡ Some (Txn b n) = ap label_at is ∙ e in
          ap (λ x. has_path (txn_entries labels) x) (sym (append_cancel_left (codes "db/transactions/") (entry b n) q is))
          ∙ entries_have labels b n (kept_by_folder (Txn b n) own r.first r.calls ∙ ap (λ x. (names_now r).folders x) is ∙ folder)
      by_kind (Pack shard) e is folder = absurd (omega (arith, ap third is))
      by_kind HotCopy e is folder = absurd (omega (arith, ap third is))

      by_label : (o : Option Label) → label_at (codes "db/transactions/" ++ q) ≡ o → is_some (label_at (codes "db/transactions/" ++ q)) ≡ true → (names_now r).folders (codes "db/transactions/" ++ q) ≡ true → has_path (txn_entries labels) q ≡ true
      by_label None e some folder = let h : true ≡ false = sym some ∙ ap is_some e in cc
      by_label (Some l) e some folder = by_kind l e (label_is (codes "db/transactions/" ++ q) l e) folder

  pub listed : IsPermutation (txn_entries labels) (txns_among found)
  listed = permuted (txn_entries labels) (txns_among found) (entries_apart labels (kept_once r.first r.calls) (kept_is_own r.first r.calls)) (among_apart found list.once) to from

-- a name that has a transaction's text before its ending is one where it is that of the transaction
pub entry_named : (name : List ℕ) (p : ℕ × ℕ) (r : Bool) → txn_name_at (take (length name - 4) name) ≡ Some p → r ≡ same_text (txn_text p.0 p.1 ++ codes ".txn") name → r ≡ is_txn_entry name
unfolding label_at
entry_named name p r e is = is ∙ by_test (same_text (bench_folder (Txn p.0 p.1)) path) ∙ sym (ap is_some (ap (λ o. first_of path (txns_of o ++ others)) e))
  where
    path : List ℕ
    path = codes "db/transactions/" ++ name

    others : List Label
    others = packs_of (numeral_at 10 4294967295 (between 8 6 path)) ++ HotCopy ∷ []

    no_others : first_of path others ≡ None
    no_others = skip_packs path (numeral_at 10 4294967295 (between 8 6 path)) (HotCopy ∷ []) (λ shard. refl)

    by_test : (b : Bool) → b ≡ is_some (cond b (Some (Txn p.0 p.1)) (first_of path others))
    by_test true = refl
    by_test false = sym (ap is_some no_others)

pub entry_none : (name : List ℕ) → txn_name_at (take (length name - 4) name) ≡ None → false ≡ is_txn_entry name
unfolding label_at
entry_none name e = sym (ap is_some (ap (λ o. first_of path (txns_of o ++ others)) e ∙ skip_packs path (numeral_at 10 4294967295 (between 8 6 path)) (HotCopy ∷ []) (λ shard. refl)))
  where
    path : List ℕ
    path = codes "db/transactions/" ++ name

    others : List Label
    others = packs_of (numeral_at 10 4294967295 (between 8 6 path)) ++ HotCopy ∷ []

pub same_tested : (r : Bool) (a b : List ℕ) → (r ≡ true → a ≡ b) × (a ≡ b → r ≡ true) → r ≡ same_text a b
same_tested r a b tests = ⊎_elim (λ s. tests.1 s.0 ∙ sym s.1) (λ o. by_test r (λ t. o.0 (tests.0 t)) ∙ sym o.1) (text_cases a b)
  where
    by_test : (x : Bool) → (x ≡ true → ⊥) → x ≡ false
    by_test true h = absurd (h refl)
    by_test false h = refl

-- what is told of labels is listed
pub listing_told : (old : Option CallRecord) (found sorted : List (List ℕ)) → IfSome old (λ r. IsListOf (names_now r).folders (codes "db/transactions") found) → IsSorted (slice_cmp nat_cmp) sorted → IsPermutation (txns_among found) sorted
    → IfSome (told old) (λ t. IsListing (labels_now t) sorted)
listing_told None found sorted list ordered same = tt
listing_told (Some r) found sorted list ordered same = record { ordered = ordered; all = IsPermutation-trans (txn_entries (labels_now (trace_of r))) (txns_among found) sorted (listed r found list) same }

-- where nothing stands below the folder of transactions, none is listed
pub bare_list : (old : Option CallRecord) (found : List (List ℕ)) → IfSome old (λ r. IsEmptyAt (names_now r) (codes "db/transactions")) → found ≡ []
    → IfSome old (λ r. IsListOf (names_now r).folders (codes "db/transactions") found)
bare_list None found bare none = tt
bare_list (Some r) found bare none = subst (λ l. IsListOf (names_now r).folders (codes "db/transactions") l) (sym none) (record {
  each = λ name has. let h : false ≡ true = has in cc;
  all = λ name entry there. let h : true ≡ false = sym there ∙ (bare (within (codes "db/transactions") name) refl).0 in cc;
  once = refl;
})
