-- The names that a listing has are those of the labels that are kept, in the order of their bytes.
use Rattle.std.proofs.Common.{◌≡◌, ◌⊎◌, ℕ, zero, suc, ◌+◌, ◌-◌, ◌<◌, List, [], ◌∷◌, ◌++◌, length, Bool, true, false, cond, codes, inl, inr, ⊎_elim, refl, sym, ap, subst, ◌∙◌, arith}
use Rattle.std.proofs.lemmas.Bool.{cases_Bool, and_parts, false_from_ne_true}
use Rattle.std.proofs.lemmas.List.{length-append, take_at}
use Rattle.std.proofs.lemmas.List.Sorted.{ranks_by, sorted_far}
use Rattle.std.proofs.lemmas.Slice.Eq.{bytes_eq-Decides}
use Rattle.std.specs.Prelude.{◌&&◌, slice_index_or, Option, Some, None, IfSome, is_some}
use Rattle.std.specs.Fmt.{decimal}
use Rattle.std.specs.Ordering.{nat_cmp}
use Rattle.std.specs.Cmp.Lexicographic.{slice_cmp, nat_list_cmp_total}
use Rattle.std.specs.List.{flat_map, AllByRecursion}
use Rattle.std.specs.List.Sorted.{IsSorted, IsPermutation}
use Rattle.std.specs.Str.{bytes_eq}
use Rattle.fsfs_base.proofs.Unique.{numeral_decimal}
use Rattle.fsfs_base.proofs.Base36Texts.{numeral_base36}
use Rattle.fsfs_base.specs.Fields.TxnNames.{IsTxnName, txn_text, txn_name_at}
use Rattle.fsfs_base.proofs.TxnNameTexts.{txn_name_spells}
use Rattle.fsfs_disk.specs.Labels.{Label, Txn, Pack, HotCopy, txn_entries, IsListing}
use Rattle.fsfs_disk.specs.Trace.{Trace, labels_now}
use Rattle.fsfs_disk.specs.Transactions.Txns.{is_name, names_in, AreTxns}
use Rattle.fsfs_disk.specs.Transactions.Entries.{front_of, name_at}
use Rattle.fsfs_disk.proofs.TxnsParts.{parts_permuted}
use Rattle.fsfs_disk.proofs.NameOrder.{is_before, order_kept}

-- ---- an entry

front_text : (text : List ℕ) → front_of (text ++ codes ".txn") ≡ text
front_text text = take_at text (codes ".txn") (length (text ++ codes ".txn") - 4) (omega (arith, length-append text (codes ".txn")))

pub named_entry : (text : List ℕ) → name_at (text ++ codes ".txn") ≡ cond (is_name text) (text ∷ []) []
named_entry text =
    ap (λ (f : List ℕ). cond (is_name f && bytes_eq (f ++ codes ".txn") (text ++ codes ".txn")) (f ∷ []) []) (front_text text)
    ∙ ap (λ b. cond (is_name text && b) (text ∷ []) []) ((bytes_eq-Decides (text ++ codes ".txn") (text ++ codes ".txn")).1 refl)
    ∙ by_test (is_name text)
  where
    by_test : (b : Bool) → cond (b && true) (text ∷ []) [] ≡ cond b (text ∷ []) []
    by_test true = refl
    by_test false = refl

-- an entry has a name, or none
entry_cases : (e : List ℕ) → (name_at e ≡ []) ⊎ ((name : List ℕ) × (name_at e ≡ name ∷ []) × (is_name name ≡ true) × (e ≡ name ++ codes ".txn"))
entry_cases e =
    ⊎_elim
    (λ t. let both = and_parts (is_name (front_of e)) (bytes_eq (front_of e ++ codes ".txn") e) t in
    inr (front_of e, ap (λ b. cond b (front_of e ∷ []) []) t, both.0, sym ((bytes_eq-Decides (front_of e ++ codes ".txn") e).0 both.1)))
    (λ f. inl (ap (λ b. cond b (front_of e ∷ []) []) f)) (cases_Bool (is_name (front_of e) && bytes_eq (front_of e ++ codes ".txn") e))

pub entries_named : (labels : List Label) → flat_map name_at (txn_entries labels) ≡ names_in labels
entries_named [] = refl
entries_named (Txn base number ∷ labels) =
    ap (λ (l : List (List ℕ)). l ++ flat_map name_at (txn_entries labels)) (named_entry (txn_text base number))
    ∙ ap (λ (l : List (List ℕ)). cond (is_name (txn_text base number)) (txn_text base number ∷ []) [] ++ l) (entries_named labels)
entries_named (Pack shard ∷ labels) = entries_named labels
entries_named (HotCopy ∷ labels) = entries_named labels

-- ---- the order

abbrev pub NoneBefore : List ℕ → List (List ℕ) → Type 0
NoneBefore x ys = AllByRecursion (λ y. is_before y x ≡ false) ys

abbrev pub Rising : List (List ℕ) → Type 0
Rising [] = Unit {0}
Rising (x ∷ xs) = NoneBefore x xs × Rising xs

all_from : (P : List ℕ → Type 0) (xs : List (List ℕ)) → ((j : ℕ) → j < length xs → P (slice_index_or xs j [])) → AllByRecursion P xs
all_from P [] h = tt
all_from P (x ∷ xs) h = (h 0 (omega arith), all_from P xs (λ j lt. h (suc j) (omega arith)))

pub rising_from : (xs : List (List ℕ)) → IsSorted (slice_cmp nat_cmp) xs → Rising xs
rising_from [] up = tt
rising_from (x ∷ xs) up = (
  all_from (λ y. is_before y x ≡ false) xs (λ j lt. sorted_far is_before (ranks_by nat_list_cmp_total (λ k. k)) (x ∷ xs) up 0 (suc j) [] (omega arith) (omega arith)),
  rising_from xs (λ k d low high. let next : suc k + 1 ≡ suc (k + 1) = omega arith in subst (λ (n : ℕ). is_before (slice_index_or (x ∷ xs) n d) (slice_index_or xs k d) ≡ false) next (up (suc k) d (omega arith) (omega arith))),
)

first_of_all : (P : List ℕ → Type 0) (xs : List (List ℕ)) (d : List ℕ) → AllByRecursion P xs → 0 < length xs → P (slice_index_or xs 0 d)
first_of_all P [] d all lt = absurd (omega arith)
first_of_all P (x ∷ xs) d all lt = all.0

sorted_at : (xs : List (List ℕ)) → Rising xs → (k : ℕ) (d : List ℕ) → k + 1 < length xs → is_before (slice_index_or xs (k + 1) d) (slice_index_or xs k d) ≡ false
sorted_at [] rising k d lt = absurd (omega arith)
sorted_at (x ∷ xs) rising zero d lt = first_of_all (λ y. is_before y x ≡ false) xs d rising.0 (omega arith)
sorted_at (x ∷ xs) rising (suc k) d lt =
    let next : suc (k + 1) ≡ suc k + 1 = omega arith in
    subst (λ (n : ℕ). is_before (slice_index_or (x ∷ xs) n d) (slice_index_or xs k d) ≡ false) next (sorted_at xs rising.1 k d (omega arith))

-- what comes before none of the entries comes before none of their names
none_named : (e name : List ℕ) → is_name name ≡ true → e ≡ name ++ codes ".txn" → (xs : List (List ℕ)) → NoneBefore e xs → NoneBefore name (flat_map name_at xs)
none_named e name is text [] none = tt
none_named e name is text (x ∷ xs) none = by_entry (none_named e name is text xs none.1)
  where
    by_entry : NoneBefore name (flat_map name_at xs) → NoneBefore name (name_at x ++ flat_map name_at xs)
    by_entry rest =
        ⊎_elim (λ empty. subst (λ (l : List (List ℕ)). NoneBefore name (l ++ flat_map name_at xs)) (sym empty) rest)
        (λ w. subst (λ (l : List (List ℕ)). NoneBefore name (l ++ flat_map name_at xs)) (sym w.1)
        (order_kept name w.0 is w.2 (ap (λ y. is_before y (name ++ codes ".txn")) (sym w.3) ∙ ap (λ y. is_before x y) (sym text) ∙ none.0), rest)) (entry_cases x)

rising_named : (xs : List (List ℕ)) → Rising xs → Rising (flat_map name_at xs)
rising_named [] rising = tt
rising_named (x ∷ xs) rising = by_entry (rising_named xs rising.1)
  where
    by_entry : Rising (flat_map name_at xs) → Rising (name_at x ++ flat_map name_at xs)
    by_entry rest =
        ⊎_elim (λ empty. subst (λ (l : List (List ℕ)). Rising (l ++ flat_map name_at xs)) (sym empty) rest)
        (λ w. subst (λ (l : List (List ℕ)). Rising (l ++ flat_map name_at xs)) (sym w.1) (none_named x w.0 w.2 w.3 xs rising.0, rest)) (entry_cases x)

-- ---- the listing

pub listing_named : (labels : List Label) (entries names : List (List ℕ)) → IsListing labels entries → names ≡ flat_map name_at entries → AreTxns labels names
listing_named labels entries names listing is = subst (AreTxns labels) (sym is) (record {
  ordered = λ k d low high. sorted_at (flat_map name_at entries) (rising_named entries (rising_from entries listing.ordered)) k d high;
  all = subst (λ (l : List (List ℕ)). IsPermutation l (flat_map name_at entries)) (entries_named labels) (parts_permuted name_at (txn_entries labels) entries listing.all);
})

pub listing_told : (old : Option Trace) (entries lent names : List (List ℕ)) → IfSome old (λ t. IsListing (labels_now t) entries) → lent ≡ entries → names ≡ flat_map name_at lent → IfSome old (λ t. AreTxns (labels_now t) names)
listing_told None entries lent names listing same is = tt
listing_told (Some t) entries lent names listing same is = listing_named (labels_now t) entries names listing (is ∙ ap (flat_map name_at) same)

-- ---- an entry is read

name_text : (text : List ℕ) (p : ℕ × ℕ) → IsTxnName text p → text ≡ txn_text p.0 p.1
name_text text p name =
    name.4 ∙ ap (λ (a : List ℕ). a ++ 45 ∷ name.1) (numeral_decimal name.0 p.0 (omega (arith, name.2.1)) name.2.0)
    ∙ ap (λ (b : List ℕ). decimal p.0 ++ 45 ∷ b) (numeral_base36 name.1 p.1 (omega (arith, name.3.1)) name.3.0)

pub entry_read : (e : List ℕ) (p : ℕ × ℕ) → txn_name_at (front_of e) ≡ Some p → txn_text p.0 p.1 ++ codes ".txn" ≡ e → name_at e ≡ txn_text p.0 p.1 ∷ []
entry_read e p read is =
    let front : front_of e ≡ txn_text p.0 p.1 = ap front_of (sym is) ∙ front_text (txn_text p.0 p.1) in
    ap name_at (sym is) ∙ named_entry (txn_text p.0 p.1)
    ∙ ap (λ b. cond b (txn_text p.0 p.1 ∷ []) []) (ap is_name (sym front) ∙ ap is_some read)

pub entry_other : (e : List ℕ) (p : ℕ × ℕ) → txn_name_at (front_of e) ≡ Some p → (txn_text p.0 p.1 ++ codes ".txn" ≡ e → ⊥) → name_at e ≡ []
entry_other e p read other =
    let front : front_of e ≡ txn_text p.0 p.1 = name_text (front_of e) p (txn_name_spells.found (front_of e) p read) in
    let differs : bytes_eq (front_of e ++ codes ".txn") e ≡ false =
    false_from_ne_true (bytes_eq (front_of e ++ codes ".txn") e) (λ t. other (ap (λ (f : List ℕ). f ++ codes ".txn") (sym front) ∙ (bytes_eq-Decides (front_of e ++ codes ".txn") e).0 t)) in
    ap (λ b. cond (is_name (front_of e) && b) (front_of e ∷ []) []) differs ∙ by_test (is_name (front_of e))
  where
    by_test : (b : Bool) → cond (b && false) (front_of e ∷ []) [] ≡ []
    by_test true = refl
    by_test false = refl

pub entry_none : (e : List ℕ) → txn_name_at (front_of e) ≡ None → name_at e ≡ []
entry_none e read = ap (λ b. cond (b && bytes_eq (front_of e ++ codes ".txn") e) (front_of e ∷ []) []) (ap is_some read)
