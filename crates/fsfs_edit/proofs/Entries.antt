-- What a map says, entry by entry: one item for each path, and in order where the keys are.
use Rattle.std.proofs.Common.{◌≡◌, ℕ, ◌+◌, Bool, true, false, cond, List, [], ◌∷◌, ◌++◌, map, get_or, Option, Some, None, refl, sym, ap, subst, ◌∙◌, inl, inr, Global, arith}
use Rattle.std.specs.Prelude.{String}
use Rattle.std.specs.String.{string_bytes, string_eq, string_cmp, string_cmp_total}
use Rattle.std.proofs.lemmas.Bool.{cases_Bool, false_from_ne_true, true≢false}
use Rattle.std.proofs.lemmas.Slice.Eq.{bytes_eq-Decides}
use Rattle.std.proofs.lemmas.Map.Keys.{IsDistinct-head, IsDistinct-tail, sorted_head, sorted_tail, apart_from_distinct, sorted_from_all_adjacent}
use Rattle.std.specs.List.{AllByRecursion, IsDistinct}
use Rattle.std.specs.List.Sorted.{IsSorted, IsStrictlySortedBy}
use Rattle.std.specs.Map.{lookup, keys_of, values_of}
use Rattle.std.specs.Str.{bytes_eq}
use Rattle.std.specs.declared.cmp.Ordering.{Ordering}
use Rattle.std.specs.declared.cmp.Ordering.TheVariants.{Less, Equal, Greater}
use Rattle.std.specs.Ordering.{nat_cmp, is_lt, is_eq, ordering_reverse}
use Rattle.std.specs.Cmp.Lexicographic.{slice_cmp, texts_ties, nat_list_eq_equiv}
use Rattle.fsfs_base.specs.Paths.{Path, same_path, names_text}
use Rattle.fsfs_base.specs.PathTexts.{IsPath}
use Rattle.fsfs_base.proofs.PathLemmas.{same_path-is}
use Rattle.fsfs_base.proofs.PathTextLemmas.{names_whole, absolute}
use Rattle.fsfs_noderev.specs.Changes.Texts.{HavePathsOnce}
use Rattle.fsfs_noderev.specs.declared.changes.item.ChangeItem.{ChangeItem}
use Rattle.fsfs_noderev.proofs.Rising.{AreUpTo, rising_new, rising_more}
use Rattle.fsfs_edit.specs.Folds.FoldedItems.{FoldedItem, HasPath, text_of, item_in, item_at}
use Rattle.fsfs_edit.specs.Folds.Views.{told, said_value, items_of_one, items_told}
use Rattle.fsfs_edit.specs.declared.folds.said.Said.{Said}
use Rattle.fsfs_edit.proofs.KeyTexts.{IsWhole, same_key, text_less}
use Rattle.fsfs_edit.proofs.SaidLemmas.{IsKeyed}

abbrev pub Entry : Type 0
Entry = String Global × Option Said

abbrev pub is_text : List ℕ → String Global → Bool
is_text t k = bytes_eq t (string_bytes k)

abbrev text_cmp : List ℕ → List ℕ → Ordering
text_cmp = slice_cmp nat_cmp

-- ---- each entry

-- a key that no other has isn't found again
none_more : (k : List ℕ) (es : List Entry) → AllByRecursion (λ y. bytes_eq k (string_bytes y) ≡ false) (keys_of es) → lookup (is_text k) es ≡ None
none_more k [] all = refl
none_more k (e ∷ es) all = ap (λ (b : Bool). cond b (Some e.1) (lookup (is_text k) es)) all.0 ∙ none_more k es all.1

-- the same of a text that is the first key
none_behind : (e : Entry) (es : List Entry) → IsDistinct string_eq (keys_of (e ∷ es)) → (t : List ℕ) → bytes_eq t (string_bytes e.0) ≡ true → lookup (is_text t) es ≡ None
none_behind e es apart t same =
    ap (λ (k : List ℕ). lookup (is_text k) es) ((bytes_eq-Decides t (string_bytes e.0)).0 same)
    ∙ none_more (string_bytes e.0) es (IsDistinct-head string_eq e.0 (keys_of es) apart)

-- what holds at each text holds of each entry
pub each_entry : (Q : List ℕ → Option FoldedItem → Type 0) → ((t : List ℕ) → Q t None) → (es : List Entry) → IsDistinct string_eq (keys_of es) → ((t : List ℕ) → Q t (told (lookup (is_text t) es)))
    → AllByRecursion (λ e. Q (string_bytes e.0) (told (Some e.1))) es
each_entry Q none [] apart at = tt
each_entry Q none (e ∷ es) apart at = (here, each_entry Q none es (IsDistinct-tail string_eq e.0 (keys_of es) apart) behind)
  where
    own : bytes_eq (string_bytes e.0) (string_bytes e.0) ≡ true
    own = nat_list_eq_equiv.refl (string_bytes e.0)

    here : Q (string_bytes e.0) (told (Some e.1))
    here = subst (λ (b : Bool). Q (string_bytes e.0) (told (cond b (Some e.1) (lookup (is_text (string_bytes e.0)) es)))) own (at (string_bytes e.0))

    behind : (t : List ℕ) → Q t (told (lookup (is_text t) es))
    behind t = elim (cases_Bool (bytes_eq t (string_bytes e.0))) [
      | inl same ↦ subst (λ (o : Option (Option Said)). Q t (told o)) (sym (none_behind e es apart t same)) (none t)
      | inr other ↦ subst (λ (b : Bool). Q t (told (cond b (Some e.1) (lookup (is_text t) es)))) other (at t)
    ]

abbrev pub AreKeyed : List Entry → Type 0
AreKeyed = AllByRecursion (λ e. IsKeyed (string_bytes e.0) (told (Some e.1)))

-- ---- the items of the entries

item_told : (q : Path) (t : List ℕ) → names_text q ≡ t → IsWhole q → (k : List ℕ) (o : Option Said) (rest : List ChangeItem) (found : Option (Option Said)) → IsKeyed k (told (Some o))
    → item_at rest q ≡ item_in (told found) → (bytes_eq t k ≡ true → found ≡ None)
    → item_at (items_of_one o ++ rest) q ≡ item_in (told (cond (bytes_eq t k) (Some o) found))
item_told q t is w k None rest found keyed so none = so ∙ by (bytes_eq t k) refl
  where
    by : (b : Bool) → bytes_eq t k ≡ b → item_in (told found) ≡ item_in (told (cond b (Some None) found))
    by true e = ap (λ (o : Option (Option Said)). item_in (told o)) (none e)
    by false e = refl
item_told q t is w k (Some s) rest found keyed so none =
    let x = (said_value s).item in
    let same : same_path x.path q ≡ bytes_eq t k =
    sym (same_key x.path q (names_whole x.path keyed.1.names) w)
    ∙ (λ i. bytes_eq (keyed.0 i) (is i))
    ∙ nat_list_eq_equiv.symm k t in
    ap (λ (b : Bool). cond b (Some x) (item_at rest q)) same ∙ by (bytes_eq t k)
  where
    by : (b : Bool) → cond b (Some (said_value s).item) (item_at rest q) ≡ item_in (told (cond b (Some (Some s)) found))
    by true = refl
    by false = so

pub items_at : (q : Path) → IsWhole q → (es : List Entry) → IsDistinct string_eq (keys_of es) → AreKeyed es → item_at (items_told (values_of es)) q ≡ item_in (told (lookup (is_text (names_text q)) es))
items_at q w [] apart keyed = refl
items_at q w (e ∷ es) apart keyed =
    item_told q (names_text q) refl w (string_bytes e.0) e.1 (items_told (values_of es)) (lookup (is_text (names_text q)) es) keyed.0
    (items_at q w es (IsDistinct-tail string_eq e.0 (keys_of es) apart) keyed.1)
    (none_behind e es apart (names_text q))

-- what holds of each entry's item holds of the items
pub each_item : (P : ChangeItem → Type 0) (Q : List ℕ → Option FoldedItem → Type 0) → ((t : List ℕ) (f : FoldedItem) → Q t (Some f) → P f.item) → (es : List Entry)
    → AllByRecursion (λ e. Q (string_bytes e.0) (told (Some e.1))) es → AllByRecursion P (items_told (values_of es))
each_item P Q gives [] all = tt
each_item P Q gives (e ∷ es) all = by e.1 all.0 (each_item P Q gives es all.1)
  where
    by : (o : Option Said) → Q (string_bytes e.0) (told (Some o)) → AllByRecursion P (items_told (values_of es)) → AllByRecursion P (items_of_one o ++ items_told (values_of es))
    by None h rest = rest
    by (Some s) h rest = (gives (string_bytes e.0) (said_value s) h, rest)

-- no item has a path that none can have
pub none_at : (q : Path) → (IsWhole q → ⊥) → (items : List ChangeItem) → AllByRecursion HasPath items → item_at items q ≡ None
none_at q never [] all = refl
none_at q never (x ∷ xs) all =
    ap (λ (b : Bool). cond b (Some x) (item_at xs q)) (false_from_ne_true (same_path x.path q) (λ e. never (subst IsWhole (same_path-is x.path q e) (names_whole x.path all.0.names))))
    ∙ none_at q never xs all.1

-- ---- their order

less_from_not : (a b : String Global) (o : Ordering) → string_cmp a b ≡ o → is_lt (string_cmp b a) ≡ false → string_eq a b ≡ false → string_cmp a b ≡ Less
less_from_not a b Less e above apart = e
less_from_not a b Equal e above apart = absurd (true≢false (sym (texts_ties (string_bytes a) (string_bytes b) ∙ ap is_eq e) ∙ apart))
less_from_not a b Greater e above apart = absurd (true≢false (sym (ap is_lt (string_cmp_total.antisymm b a ∙ ap ordering_reverse e)) ∙ above))

-- keys in order, of which no two are one, rise
pub keys_rise : (ks : List (String Global)) → IsSorted string_cmp ks → IsDistinct string_eq ks → IsStrictlySortedBy string_cmp ks
unfolding IsStrictlySortedBy
keys_rise [] sorted apart = tt
keys_rise (x ∷ xs) sorted apart = sorted_from_all_adjacent string_cmp_total (x ∷ xs) x
    (λ k lt. less_from_not (get_or (x ∷ xs) k x) (get_or (x ∷ xs) (k + 1) x) (string_cmp (get_or (x ∷ xs) k x) (get_or (x ∷ xs) (k + 1) x)) refl
    (sorted k x (omega arith) lt) (apart_from_distinct string_eq (x ∷ xs) k (k + 1) x apart (omega arith) lt))

-- the item comes before all that stand behind greater keys
all_above : (x : ChangeItem) (k : String Global) → names_text x.path ≡ string_bytes k → IsPath x.path → (es : List Entry) → AllByRecursion (λ y. string_cmp k y ≡ Less) (keys_of es) → AreKeyed es
    → AllByRecursion (λ t. text_cmp (text_of x) t ≡ Less) (map text_of (items_told (values_of es)))
all_above x k is path [] less keyed = tt
all_above x k is path (e ∷ es) less keyed = by e.1 keyed.0 (all_above x k is path es less.1 keyed.1)
  where
    by : (o : Option Said) → IsKeyed (string_bytes e.0) (told (Some o)) → AllByRecursion (λ t. text_cmp (text_of x) t ≡ Less) (map text_of (items_told (values_of es)))
        → AllByRecursion (λ t. text_cmp (text_of x) t ≡ Less) (map text_of (items_of_one o ++ items_told (values_of es)))
    by None h rest = rest
    by (Some s) h rest = (text_less x.path (said_value s).item.path path h.1 ((λ i. text_cmp (is i) (h.0 i)) ∙ less.0), rest)

pub items_rise : (es : List Entry) → IsStrictlySortedBy string_cmp (keys_of es) → AreKeyed es → IsStrictlySortedBy text_cmp (map text_of (items_told (values_of es)))
unfolding IsStrictlySortedBy
items_rise [] rising keyed = tt
items_rise (e ∷ es) rising keyed = by e.1 keyed.0 (items_rise es rising.1 keyed.1)
  where
    by : (o : Option Said) → IsKeyed (string_bytes e.0) (told (Some o)) → IsStrictlySortedBy text_cmp (map text_of (items_told (values_of es)))
        → IsStrictlySortedBy text_cmp (map text_of (items_of_one o ++ items_told (values_of es)))
    by None h rest = rest
    by (Some s) h rest = (all_above (said_value s).item e.0 h.0 h.1 es rising.0 keyed.1, rest)

-- paths that rise come once each
once_behind : (earlier : List ChangeItem) (last : List ℕ) (items : List ChangeItem) → AreUpTo last earlier → AllByRecursion (λ t. text_cmp last t ≡ Less) (map text_of items)
    → IsStrictlySortedBy text_cmp (map text_of items) → HavePathsOnce earlier items
once_behind earlier last [] up above rising = tt
once_behind earlier last (x ∷ xs) up above rising = (
  rising_new earlier x (text_of x) last refl up above.0,
  once_behind (earlier ++ x ∷ []) (text_of x) xs (rising_more earlier x (text_of x) last refl up above.0) (sorted_head text_cmp (text_of x) (map text_of xs) rising) (sorted_tail text_cmp (text_of x) (map text_of xs) rising),
)

not_empty : (items : List ChangeItem) → AllByRecursion (λ t. text_cmp [] t ≡ Less) (map text_of items)
not_empty [] = tt
not_empty (x ∷ xs) = (ap (text_cmp []) (absolute x.path).1, not_empty xs)

pub paths_once : (items : List ChangeItem) → IsStrictlySortedBy text_cmp (map text_of items) → HavePathsOnce [] items
paths_once items rising = once_behind [] [] items tt (not_empty items) rising
