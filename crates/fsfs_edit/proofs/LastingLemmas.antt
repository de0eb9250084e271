-- Items looked at from the last on: which of them last, and which paths were deleted behind.
use Rattle.std.proofs.Common.{◌≡◌, ◌≤◌, ◌+◌, ◌-◌, ℕ, Bool, cond, ◌&&◌, ◌||◌, List, [], ◌∷◌, ◌++◌, map, reverse, take, length, get_or, refl, sym, ap, subst, ◌∙◌, append_assoc, arith}
use Rattle.std.specs.Prelude.{All}
use Rattle.std.proofs.lemmas.List.{take_all, take_more, get_or_at, length-append}
use Rattle.std.specs.Borrow.{Bor}
use Rattle.fsfs_base.specs.Paths.{Path, names_text}
use Rattle.fsfs_noderev.specs.declared.changes.item.ChangeItem.{ChangeItem}
use Rattle.fsfs_base.proofs.PathTextLemmas.{names_whole}
use Rattle.fsfs_edit.specs.Folds.FoldedItems.{HasPath}
use Rattle.fsfs_edit.specs.Folds.Lasting.{any_above, is_deleted_at, is_deleted_above, is_deleted_after, lasting}
use Rattle.fsfs_edit.proofs.Above.{any_above_agree, deleted_above}
use Rattle.fsfs_edit.proofs.KeyTexts.{IsWhole, same_key, whole_prefix}
use Rattle.fsfs_model.specs.Flat.Folding.{deletes}

abbrev pub items_found : List (Bor ChangeItem) → List ChangeItem
items_found found = reverse (map (λ item. item.now) found)

-- those that are left stand before those that were looked at
pub record IsLasting (items left : List ChangeItem) (found : List (Bor ChangeItem)) (deleted : List ℕ → Bool) : Type 0 where
  pub behind : List ChangeItem
  pub parts : items ≡ left ++ behind
  pub lasting_is : items_found found ≡ lasting behind
  pub deleted_is : (q : Path) → IsWhole q → deleted (names_text q) ≡ is_deleted_at q behind

pub below_is : (items left : List ChangeItem) (found : List (Bor ChangeItem)) (deleted : List ℕ → Bool) (w : IsLasting items left found deleted) (p : Path) → IsWhole p
    → any_above (λ q. deleted (names_text q)) p ≡ is_deleted_above p w.behind
below_is items left found deleted w p whole =
    any_above_agree (λ q. deleted (names_text q)) (λ q. is_deleted_at q w.behind) p (λ k. w.deleted_is (take k p) (whole_prefix k p whole))
    ∙ deleted_above p w.behind

pub lasting_more : (items before left : List ChangeItem) (item : ChangeItem) (found new : List (Bor ChangeItem)) (deleted now : List ℕ → Bool) (below : Bool)
    → IsLasting items left found deleted → left ≡ before ++ item ∷ [] → IsWhole item.path → below ≡ any_above (λ q. deleted (names_text q)) item.path
    → items_found new ≡ cond below (items_found found) (item ∷ items_found found) → ((key : List ℕ) → now key ≡ is_deleted_after key item (deleted key)) → IsLasting items before new now
lasting_more items before left item found new deleted now below w split whole is kept noted = record {
  behind = item ∷ w.behind;
  parts = w.parts ∙ ap (λ (t : List ChangeItem). t ++ w.behind) split ∙ append_assoc before (item ∷ []) w.behind;
  lasting_is = kept ∙ (λ i. cond (test i) (w.lasting_is i) (item ∷ w.lasting_is i));
  deleted_is = λ q v. noted (names_text q) ∙ (λ i. (deletes item.action && same_key item.path q whole v i) || w.deleted_is q v i);
}
  where
    test : below ≡ is_deleted_above item.path w.behind
    test = is ∙ below_is items left found deleted w item.path whole

-- ---- the last of those that are left

pub last_split : (xs : List ChangeItem) (x : ChangeItem) → 1 ≤ length xs → x ≡ get_or xs (length xs - 1) x → xs ≡ take (length xs - 1) xs ++ x ∷ []
last_split xs x some is =
    sym (take_all (length xs - 1 + 1) xs (omega (arith, some)))
    ∙ take_more xs (length xs - 1) x (omega (arith, some))
    ∙ ap (λ (y : ChangeItem). take (length xs - 1) xs ++ y ∷ []) (sym is)

pub whole_item : (items before : List ChangeItem) (item : ChangeItem) (behind : List ChangeItem) → items ≡ (before ++ item ∷ []) ++ behind → All HasPath items → IsWhole item.path
whole_item items before item behind parts all =
    let split : items ≡ before ++ item ∷ behind = parts ∙ append_assoc before (item ∷ []) behind in
    let here : get_or items (length before) item ≡ item = ap (λ (t : List ChangeItem). get_or t (length before) item) split ∙ get_or_at before item behind item (length before) refl in
    let is : HasPath item = subst HasPath here (all (length before) item (omega (arith, ap length split, length-append before (item ∷ behind)))) in
    names_whole item.path is.names
