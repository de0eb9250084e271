-- A map that is built of a list at once has the pairs that are put one after the other.
use Rattle.std.proofs.Common.{◌≡◌, ℕ, true, cond, ⊎_elim, List, [], ◌∷◌, ◌++◌, map, Option, Some, None, refl, sym, ap, ◌∙◌, Ordering, Less, Equal, Greater}
use Rattle.std.specs.Ordering.{eq_by_cmp, is_eq, nat_cmp, ordering_reverse, match_ordering}
use Rattle.std.specs.Cmp.{IsTotalOrder, eq_by_cmp_equiv, tied_itself}
use Rattle.std.specs.Cmp.Lexicographic.{on_texts, slice_cmp}
use Rattle.std.specs.List.{AllByRecursion}
use Rattle.std.specs.List.Sorted.{IsStrictlySortedBy}
use Rattle.std.specs.Map.{keys_of, lookup, update, update_all}
use Rattle.std.specs.BTreeMap.{BTreeMap, insert_entry, is_at, IsFromIterResult}
use Rattle.std.specs.FinMap.Entries.{by_order, put as put_entry, find, find-put}
use Rattle.std.specs.Global.{Vec}
use Rattle.std.proofs.lemmas.List.{map_push}
use Rattle.std.proofs.lemmas.Bool.{cases_Bool}
use Rattle.std.proofs.lemmas.Map.{lookup-none}
use Rattle.std.proofs.lemmas.Map.Keys.{sorted_tail, IsDistinct-from_sorted}
use Rattle.std.proofs.lemmas.Map.Entries.{lookup_head, lookup_tail, none_past_head, none_below_head}
use Rattle.std.proofs.lemmas.Map.Lookups.{map_keys, exact_bytes}
use Rattle.std.specs.Borrow.{Bor}
use Rattle.fsfs_layout.specs.Hash.Dump.{put, put_all}
use Rattle.fsfs_layout.specs.Hash.Reading.{views}
use Rattle.fsfs_layout.proofs.PutPairs.{pair_of, vec_cmp, pairs_of}

-- ---- one entry more

module _ {K X : Type 0} {R : K → K → Ordering} (o : IsTotalOrder R) (k : K) (v : X) where
  put_is : (es : List (K × X)) → put_entry R k v es ≡ insert_entry R es k v
  put_is [] = refl
  put_is (e ∷ es) =
      elim (R k e.0) as (λ r. by_order r ((k, v) ∷ e ∷ es) ((e.0, v) ∷ es) (e ∷ put_entry R k v es) ≡ match_ordering r ((k, v) ∷ e ∷ es) ((e.0, v) ∷ es) (e ∷ insert_entry R es k v)) [
        | Less ↦ refl
        | Equal ↦ refl
        | Greater ↦ ap (λ (l : List (K × X)). e ∷ l) (put_is es)
      ]

  find_is : (q : K) (es : List (K × X)) → find R q es ≡ lookup (is_at (R q)) es
  find_is q [] = refl
  find_is q (e ∷ es) = ap (cond (eq_by_cmp R q e.0) (Some e.1)) (find_is q es)

  lookup-insert : (q : K) (es : List (K × X)) → lookup (is_at (R q)) (insert_entry R es k v) ≡ cond (eq_by_cmp R k q) (Some v) (lookup (is_at (R q)) es)
  lookup-insert q es =
      ap (lookup (is_at (R q))) (sym (put_is es))
      ∙ sym (find_is q (put_entry R k v es))
      ∙ find-put R o q k v es
      ∙ (λ i. cond ((eq_by_cmp_equiv o).symm q k i) (Some v) (find_is q es i))

  all-insert : (P : K → Type 0) (es : List (K × X)) → P k → AllByRecursion P (keys_of es) → AllByRecursion P (keys_of (insert_entry R es k v))
  all-insert P [] p all = (p, tt)
  all-insert P (e ∷ es) p all =
      elim (R k e.0) as (λ r. AllByRecursion P (keys_of (match_ordering r ((k, v) ∷ e ∷ es) ((e.0, v) ∷ es) (e ∷ insert_entry R es k v)))) [
        | Less ↦ (p, all)
        | Equal ↦ all
        | Greater ↦ (all.0, all-insert P es p all.1)
      ]

  below : (x : K) (ks : List K) → R k x ≡ Less → AllByRecursion (λ y. R x y ≡ Less) ks → AllByRecursion (λ y. R k y ≡ Less) ks
  below x [] less all = tt
  below x (y ∷ ks) less all = (o.trans k x y less all.0, below x ks less all.1)

  sorted-insert : (es : List (K × X)) → IsStrictlySortedBy R (keys_of es) → IsStrictlySortedBy R (keys_of (insert_entry R es k v))
  unfolding IsStrictlySortedBy
  sorted-insert [] sorted = (tt, tt)
  sorted-insert (e ∷ es) sorted =
      elim (R k e.0) as (λ r. R k e.0 ≡ r → IsStrictlySortedBy R (keys_of (match_ordering r ((k, v) ∷ e ∷ es) ((e.0, v) ∷ es) (e ∷ insert_entry R es k v)))) [
        | Less ↦ λ is. ((is, below e.0 (keys_of es) is sorted.0), sorted)
        | Equal ↦ λ is. sorted
        | Greater ↦ λ is. (all-insert (λ y. R e.0 y ≡ Less) es (o.antisymm e.0 k ∙ ap ordering_reverse is) sorted.0, sorted-insert es sorted.1)
      ] refl

-- ---- the entries of a list, one after the other

module _ {K X : Type 0} {R : K → K → Ordering} (o : IsTotalOrder R) where
  abbrev insert_all : List (K × X) → List (K × X) → List (K × X)
  insert_all es [] = es
  insert_all es (x ∷ xs) = insert_all (insert_entry R es x.0 x.1) xs

  sorted-all : (es xs : List (K × X)) → IsStrictlySortedBy R (keys_of es) → IsStrictlySortedBy R (keys_of (insert_all es xs))
  sorted-all es [] sorted = sorted
  sorted-all es (x ∷ xs) sorted = sorted-all (insert_entry R es x.0 x.1) xs (sorted-insert o x.0 x.1 es sorted)

  lookup-all : (f : K → Option X) (es xs : List (K × X)) → ((q : K) → f q ≡ lookup (is_at (R q)) es) → (q : K) → update_all (eq_by_cmp R) f xs q ≡ lookup (is_at (R q)) (insert_all es xs)
  lookup-all f es [] same q = same q
  lookup-all f es (x ∷ xs) same q =
      lookup-all (update (eq_by_cmp R) f x.0 (Some x.1)) (insert_entry R es x.0 x.1) xs
      (λ p. ap (cond (eq_by_cmp R x.0 p) (Some x.1)) (same p) ∙ sym (lookup-insert o x.0 x.1 p es)) q

sorted-none : {K : Type 0} (R : K → K → Ordering) → IsStrictlySortedBy R []
unfolding IsStrictlySortedBy
sorted-none R = tt

-- ---- keys in order: equal look-ups give equal entries, as far as the order reads a key

some_is : {X : Type 0} (v w : X) → Some v ≡ Some w → v ≡ w
some_is v w e = cc

no_value : {X : Type 0} (v : X) → Some v ≡ None → ⊥
no_value v e = cc

module _ {K X B : Type 0} {R : K → K → Ordering} (o : IsTotalOrder R) (seen : K → B) (same : (x y : K) → R x y ≡ Equal → seen x ≡ seen y) where
  abbrev value_at : List (K × X) → K → Option X
  value_at es q = lookup (is_at (R q)) es

  at_head : (x : K × X) (xs : List (K × X)) → value_at (x ∷ xs) x.0 ≡ Some x.1
  at_head x xs = lookup_head (is_at (R x.0)) x xs (ap is_eq (tied_itself o x.0))

  past_head : (q : K) (x : K × X) (xs : List (K × X)) → IsStrictlySortedBy R (keys_of (x ∷ xs)) → eq_by_cmp R q x.0 ≡ true → value_at xs q ≡ None
  past_head q x xs sorted tied = lookup-none (is_at (R q)) xs (none_past_head (eq_by_cmp_equiv o) q x xs (IsDistinct-from_sorted R (keys_of (x ∷ xs)) sorted) tied)

  module _ (x y : K × X) (xs ys : List (K × X)) (s : IsStrictlySortedBy R (keys_of (x ∷ xs))) (t : IsStrictlySortedBy R (keys_of (y ∷ ys))) (alike : (q : K) → value_at (x ∷ xs) q ≡ value_at (y ∷ ys) q) where
    heads : R x.0 y.0 ≡ Equal
    heads =
        elim (R x.0 y.0) as (λ r. R x.0 y.0 ≡ r → R x.0 y.0 ≡ Equal) [
          | Less ↦ λ less. absurd (no_value x.1 (sym (at_head x xs) ∙ alike x.0 ∙ lookup-none (is_at (R x.0)) (y ∷ ys) (none_below_head o x.0 y ys t less)))
          | Equal ↦ λ tied. tied
          | Greater ↦ λ more. absurd (no_value y.1 (sym (at_head y ys) ∙ sym (alike y.0) ∙ lookup-none (is_at (R y.0)) (x ∷ xs) (none_below_head o y.0 x xs s (o.antisymm y.0 x.0 ∙ ap ordering_reverse more))))
        ] refl

    values : x.1 ≡ y.1
    values = some_is x.1 y.1 (sym (at_head x xs) ∙ alike x.0 ∙ lookup_head (is_at (R x.0)) y ys (ap is_eq heads))

    tails : (q : K) → value_at xs q ≡ value_at ys q
    tails q =
        let equiv = eq_by_cmp_equiv o in
        let tied : eq_by_cmp R q y.0 ≡ eq_by_cmp R q x.0 = equiv.symm q y.0 ∙ sym (equiv.congr x.0 y.0 q (ap is_eq heads)) ∙ equiv.symm x.0 q in
        ⊎_elim
        (λ b. past_head q x xs s b ∙ sym (past_head q y ys t (tied ∙ b)))
        (λ b. sym (lookup_tail (is_at (R q)) x xs b) ∙ alike q ∙ lookup_tail (is_at (R q)) y ys (tied ∙ b))
        (cases_Bool (eq_by_cmp R q x.0))

  entries_alike : (es fs : List (K × X)) → IsStrictlySortedBy R (keys_of es) → IsStrictlySortedBy R (keys_of fs) → ((q : K) → value_at es q ≡ value_at fs q) → map_keys seen es ≡ map_keys seen fs
  entries_alike [] [] s t alike = refl
  entries_alike [] (y ∷ ys) s t alike = absurd (no_value y.1 (sym (alike y.0 ∙ at_head y ys)))
  entries_alike (x ∷ xs) [] s t alike = absurd (no_value x.1 (sym (at_head x xs) ∙ alike x.0))
  entries_alike (x ∷ xs) (y ∷ ys) s t alike =
      let rest = entries_alike xs ys (sorted_tail R x.0 (keys_of xs) s) (sorted_tail R y.0 (keys_of ys) t) (tails x y xs ys s t alike) in
      λ i. (same x.0 y.0 (heads x y xs ys s t alike) i, values x y xs ys s t alike i) ∷ rest i

-- ---- keys and values that are read as bytes

module _ {K V : Type 0} (text : K → List ℕ) (value : V → List ℕ) where
  abbrev text_cmp : K → K → Ordering
  text_cmp x y = slice_cmp nat_cmp (text x) (text y)

  abbrev seen : K × V → List ℕ × List ℕ
  seen e = (text e.0, value e.1)

  text_total : IsTotalOrder text_cmp
  text_total = on_texts text

  insert_seen : (es : List (K × V)) (k : K) (v : V) → map seen (insert_entry text_cmp es k v) ≡ put (map seen es) (text k, value v)
  insert_seen [] k v = refl
  insert_seen (e ∷ es) k v =
      elim (text_cmp k e.0) as (λ r. map seen (match_ordering r ((k, v) ∷ e ∷ es) ((e.0, v) ∷ es) (e ∷ insert_entry text_cmp es k v)) ≡ match_ordering r ((text k, value v) ∷ seen e ∷ map seen es) ((text e.0, value v) ∷ map seen es) (seen e ∷ put (map seen es) (text k, value v))) [
        | Less ↦ refl
        | Equal ↦ refl
        | Greater ↦ ap (λ (l : List (List ℕ × List ℕ)). seen e ∷ l) (insert_seen es k v)
      ]

  abbrev inserted : List (K × V) → List (K × V) → List (K × V)
  inserted = insert_all text_total

  inserted_seen : (es xs : List (K × V)) → map seen (inserted es xs) ≡ put_all (map seen es) (map seen xs)
  inserted_seen es [] = refl
  inserted_seen es (x ∷ xs) = inserted_seen (insert_entry text_cmp es x.0 x.1) xs ∙ ap (λ (ps : List (List ℕ × List ℕ)). put_all ps (map seen xs)) (insert_seen es x.0 x.1)

  abbrev with_bytes : List ℕ × V → List ℕ × List ℕ
  with_bytes p = (p.0, value p.1)

  -- the bytes of the keys, and then those of the values
  by_keys : (es : List (K × V)) → map seen es ≡ map with_bytes (map_keys text es)
  by_keys [] = refl
  by_keys (e ∷ es) = ap (λ (ps : List (List ℕ × List ℕ)). seen e ∷ ps) (by_keys es)

  built_seen : (m : BTreeMap K V) (xs : List (K × V)) → IsFromIterResult text_cmp xs m → map seen m.entries ≡ put_all [] (map seen xs)
  built_seen m xs built =
      let same = entries_alike text_total text (λ x y e. exact_bytes (text x) (text y) e) m.entries (inserted [] xs) built.1 (sorted-all text_total [] xs (sorted-none text_cmp))
      (λ q. built.0 q ∙ lookup-all text_total (λ _. None) [] xs (λ _. refl) q) in
      by_keys m.entries ∙ ap (map with_bytes) same ∙ sym (by_keys (inserted [] xs)) ∙ inserted_seen [] xs

abbrev Bytes : Type 0
Bytes = Vec ℕ

pub built_pairs : (m : BTreeMap Bytes Bytes) (xs : List (Bytes × Bytes)) → IsFromIterResult vec_cmp xs m → pairs_of m ≡ put_all [] (map pair_of xs)
built_pairs = built_seen (λ (x : Bytes). x.items) (λ (x : Bytes). x.items)

pub built_views : (m : BTreeMap (Bor (List ℕ)) (Bor (List ℕ))) (xs : List (Bor (List ℕ) × Bor (List ℕ))) → IsFromIterResult (λ x y. slice_cmp nat_cmp x.now y.now) xs m → views m.entries ≡ put_all [] (views xs)
built_views = built_seen (λ (x : Bor (List ℕ)). x.now) (λ (x : Bor (List ℕ)). x.now)

-- a pair more at the end
pub pairs_more : (old new : List (Bytes × Bytes)) (before : List (List ℕ × List ℕ)) (key value : Bytes) (e : List ℕ × List ℕ) → new ≡ old ++ (key, value) ∷ [] → map pair_of old ≡ before → key.items ≡ e.0 → value.items ≡ e.1 → map pair_of new ≡ before ++ e ∷ []
pairs_more old new before key value e is so_far k v = ap (map pair_of) is ∙ map_push pair_of old (key, value) ∙ (λ i. so_far i ++ (k i, v i) ∷ [])
