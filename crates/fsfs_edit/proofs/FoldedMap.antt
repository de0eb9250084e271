-- A map that has what the lasting items say at each key has what the items come to.
use Rattle.std.proofs.Common.{◌≡◌, ℕ, List, [], map, None, sym, ap, subst, ◌∙◌, inl, inr}
use Rattle.std.specs.Prelude.{All}
use Rattle.std.specs.String.{string_bytes, string_eq, string_cmp, string_eq_equiv}
use Rattle.std.proofs.lemmas.List.Elements.{All-from_recursion, recursion_from_All}
use Rattle.std.specs.List.{AllByRecursion, AllZip, IsDistinct}
use Rattle.std.specs.List.Sorted.{IsPermutation, IsSorted, IsStrictlySortedBy}
use Rattle.std.specs.Map.{lookup, keys_of, values_of}
use Rattle.std.specs.Ordering.{nat_cmp}
use Rattle.std.specs.Cmp.Lexicographic.{slice_cmp, nat_list_eq_equiv}
use Rattle.indexmap.proofs.MapLemmas.{lookup_permutation}
use Rattle.fsfs_base.specs.Paths.{Path, names_text}
use Rattle.fsfs_base.proofs.PathTextLemmas.{names_whole}
use Rattle.fsfs_model.specs.declared.flat.mark.Mark.{Mark}
use Rattle.fsfs_model.specs.Flat.Folding.{fold}
use Rattle.fsfs_noderev.specs.Changes.Items.{HasText}
use Rattle.fsfs_noderev.specs.Changes.Texts.{HavePathsOnce}
use Rattle.fsfs_noderev.specs.declared.changes.item.ChangeItem.{ChangeItem}
use Rattle.fsfs_edit.specs.Folds.FoldedItems.{HasPath, text_of, item_in, item_at, fold_items}
use Rattle.fsfs_edit.specs.Folds.Marks.{SaysMark, AgreesWith}
use Rattle.fsfs_edit.specs.Folds.Lasting.{lasting, say_all_by_key}
use Rattle.fsfs_edit.specs.Folds.Views.{told, items_told}
use Rattle.fsfs_edit.proofs.KeyTexts.{IsWhole, whole_or_not}
use Rattle.fsfs_edit.proofs.FoldLaw.{AreWhole, lasting_all, folded_by_key, folded_none}
use Rattle.fsfs_edit.proofs.SaidLemmas.{IsKeyed, TextFits, all_weaker, said_keyed, said_fits}
use Rattle.fsfs_edit.proofs.Entries.{Entry, is_text, AreKeyed, each_entry, each_item, items_at, none_at, keys_rise, items_rise, paths_once}
use Rattle.fsfs_edit.proofs.MarkLaw.{items_of_marks}

module _ (items : List ChangeItem) (paths : AllByRecursion HasPath items) (es : List Entry) (apart : IsDistinct string_eq (keys_of es))
    (says : (t : List ℕ) → told (lookup (is_text t) es) ≡ say_all_by_key t None (lasting items)) where
  whole : AreWhole items
  whole = all_weaker HasPath (λ m. IsWhole m.path) (λ m h. names_whole m.path h.names) items paths

  keyed : AreKeyed es
  keyed = each_entry IsKeyed (λ t. tt) es apart (λ t. subst (IsKeyed t) (sym (says t)) (said_keyed t (lasting items) (lasting_all HasPath items paths)))

  have_paths : AllByRecursion HasPath (items_told (values_of es))
  have_paths = each_item HasPath IsKeyed (λ t f k. k.1) es keyed

  each_is : (q : Path) → item_at (items_told (values_of es)) q ≡ fold_items items q
  each_is q = elim (whole_or_not q) [
    | inl w ↦ items_at q w es apart keyed ∙ ap item_in (says (names_text q) ∙ sym (folded_by_key q items w whole))
    | inr never ↦ none_at q never (items_told (values_of es)) have_paths ∙ sym (ap item_in (folded_none q items never whole))
  ]

  rising_is : IsStrictlySortedBy string_cmp (keys_of es) → IsStrictlySortedBy (slice_cmp nat_cmp) (map text_of (items_told (values_of es)))
  rising_is rising = items_rise es rising keyed

  texts_are : AllByRecursion HasText items → AllByRecursion HasText (items_told (values_of es))
  texts_are texts = each_item HasText (λ t o. TextFits o) (λ t f k. k.0) es
      (each_entry (λ t o. TextFits o) (λ t. tt) es apart (λ t. subst TextFits (sym (says t)) (said_fits t (lasting items) (lasting_all HasText items texts))))

-- the map, once it is sorted, and the items that are taken out of it
module _ (items : List ChangeItem) (paths : All HasPath items) (es fs : List Entry) (moves : IsPermutation es fs) (apart : IsDistinct string_eq (keys_of fs)) (sorted : IsSorted string_cmp (keys_of fs))
    (says : (t : List ℕ) → told (lookup (is_text t) es) ≡ say_all_by_key t None (lasting items)) (v : List ChangeItem) (is : v ≡ items_told (values_of fs)) where
  by_paths : AllByRecursion HasPath items
  by_paths = recursion_from_All HasPath items paths

  still_says : (t : List ℕ) → told (lookup (is_text t) fs) ≡ say_all_by_key t None (lasting items)
  still_says t = ap told (lookup_permutation string_eq_equiv es fs moves apart (is_text t) (λ x y. nat_list_eq_equiv.congr t (string_bytes x) (string_bytes y))) ∙ says t

  pub folded_each : (q : Path) → item_at v q ≡ fold_items items q
  folded_each q = ap (λ (xs : List ChangeItem). item_at xs q) is ∙ each_is items by_paths fs apart still_says q

  pub folded_marks : (marks : List Mark) → AllZip SaysMark items marks → (q : Path) → AgreesWith (item_at v q) (fold marks q)
  folded_marks marks h q = subst (λ o. AgreesWith o (fold marks q)) (sym (folded_each q)) (items_of_marks items marks h q)

  pub folded_rising : IsStrictlySortedBy (slice_cmp nat_cmp) (map text_of v)
  folded_rising = subst (λ (xs : List ChangeItem). IsStrictlySortedBy (slice_cmp nat_cmp) (map text_of xs)) (sym is) (rising_is items by_paths fs apart still_says (keys_rise (keys_of fs) sorted apart))

  pub folded_once : HavePathsOnce [] v
  folded_once = paths_once v folded_rising

  pub folded_text : All HasText items → All HasText v
  folded_text texts = All-from_recursion HasText v
      (subst (λ (xs : List ChangeItem). AllByRecursion HasText xs) (sym is) (texts_are items by_paths fs apart still_says (recursion_from_All HasText items texts)))
