-- How many bytes the changed paths and the trailer take.
use Rattle.std.proofs.Common.{◌≡◌, ◌∙◌, ◌+◌, ◌*◌, ◌≤◌, ◌<◌, ◌^◌, ◌⊎◌, inl, inr, ℕ, suc, Bool, true, false, cond, List, [], ◌∷◌, ◌++◌, length, Option, Some, None, refl, sym, ap, subst, arith}
use Rattle.std.specs.Prelude.{◌&&◌, Contains}
use Rattle.std.proofs.lemmas.Fmt.{length-decimal-le}
use Rattle.std.proofs.lemmas.List.{length-append}
use Rattle.fsfs_base.specs.Paths.{Path, same_path, covers}
use Rattle.fsfs_base.proofs.PathLemmas.{same_path-is}
use Rattle.fsfs_base.specs.declared.kind.Kind.TheVariants.{File, Dir}
use Rattle.fsfs_base.specs.declared.action.Action.TheVariants.{Add, Delete, Replace, Modify}
use Rattle.fsfs_base.specs.Fields.RevNums.{IsRev}
use Rattle.fsfs_base.specs.Grammar.Cuts.{IsCutOf}
use Rattle.fsfs_base.specs.Grammar.Numeral.{IsNumber}
use Rattle.fsfs_base.proofs.Unique.{numeral_decimal}
use Rattle.fsfs_noderev.specs.Fields.{IsIdText, IsKindText, IsPathText}
use Rattle.fsfs_noderev.specs.declared.node_rev.CopySource.{CopySource}
use Rattle.fsfs_noderev.proofs.Lengths.{id_most, AtMost, cut_most, path_most, rev_most}
use Rattle.fsfs_noderev.specs.Changes.Words.{IsFlagText, IsActionText, IsActionAndKind}
use Rattle.fsfs_noderev.specs.Changes.Items.{IsFirstLine, IsSecondLine, IsItem}
use Rattle.fsfs_noderev.specs.Changes.Texts.{HasNewPath, Items, HavePathsOnce}
use Rattle.fsfs_noderev.specs.declared.changes.item.ChangeItem.{ChangeItem}
use Rattle.fsfs_edit.specs.Folds.FoldedItems.{FoldedItem, joined, fold_items_from, fold_items, item_in, item_at}
use Rattle.fsfs_revision.specs.Trailers.{IsTrailer}
use Rattle.fsfs_final.specs.Pieces.Endings.{IsEndPut}
use Rattle.fsfs_commit.proofs.ItemLemmas.{apart_of, contained_at}
use Rattle.fsfs_model.specs.Flat.Folding.{deletes}

-- ---- one item

flag_most : AtMost 5 IsFlagText
flag_most text true w = omega (arith, ap length w)
flag_most text false w = omega (arith, ap length w)

kind_most : AtMost 4 IsKindText
kind_most text File w = omega (arith, ap length w)
kind_most text Dir w = omega (arith, ap length w)

action_most : AtMost 7 IsActionText
action_most text Add w = omega (arith, ap length w)
action_most text Delete w = omega (arith, ap length w)
action_most text Replace w = omega (arith, ap length w)
action_most text Modify w = omega (arith, ap length w)

both_most : AtMost 12 IsActionAndKind
both_most text (action, None) w = omega (arith, action_most text action w)
both_most text (action, Some kind) w = cut_most IsActionText IsKindText 7 4 45 action_most kind_most text (action, kind) w

first_most : (text : List ℕ) (item : ChangeItem) → IsFirstLine text item → length text ≤ 4234
first_most text item w =
    let one : AtMost 4102 (IsCutOf 32 IsFlagText IsPathText) = cut_most IsFlagText IsPathText 5 4096 32 flag_most path_most in
    let two : AtMost 4108 (IsCutOf 32 IsFlagText (IsCutOf 32 IsFlagText IsPathText)) = cut_most IsFlagText (IsCutOf 32 IsFlagText IsPathText) 5 4102 32 flag_most one in
    let three : AtMost 4121 (IsCutOf 32 IsActionAndKind (IsCutOf 32 IsFlagText (IsCutOf 32 IsFlagText IsPathText))) = cut_most IsActionAndKind (IsCutOf 32 IsFlagText (IsCutOf 32 IsFlagText IsPathText)) 12 4108 32 both_most two in
    let all = cut_most IsIdText (IsCutOf 32 IsActionAndKind (IsCutOf 32 IsFlagText (IsCutOf 32 IsFlagText IsPathText))) 112 4121 32 id_most three text
    (item.id, ((item.action, item.kind), (item.text_changed, (item.props_changed, item.path)))) w in
    omega (arith, all)

second_most : (text : List ℕ) (source : Option CopySource) → IsSecondLine text source → length text ≤ 4117
second_most text None w = omega (arith, ap length w)
second_most text (Some s) w = cut_most IsRev IsPathText 20 4096 32 rev_most path_most text (s.rev, s.path) w

item_most : (text : List ℕ) (item : ChangeItem) → IsItem text item → length text ≤ 8353
item_most text item w =
    omega (arith, ap length w.parts, length-append w.first (10 ∷ (w.second ++ 10 ∷ [])), length-append w.second (10 ∷ []), first_most w.first item w.first_is, second_most w.second item.source w.second_is)

-- ---- all of them

items_most : (earlier : List ChangeItem) (text : List ℕ) (items : List ChangeItem) → Items HasNewPath earlier text items → length text ≤ 8353 * length items
items_most earlier text [] w = omega (arith, ap length w)
items_most earlier text (item ∷ items) w = omega (arith, ap length w.5, length-append w.0 w.1, item_most w.0 item w.2, items_most (earlier ++ item ∷ []) w.1 items w.4)

offset_most : (end : ℕ) (text : List ℕ) (n : ℕ) → IsNumber 10 18446744073709551615 end text n → length text ≤ 21
offset_most end text n w =
    let small : n < 2 ^ 64 = (let fits = w.fits in omega (arith, fits)) in
    omega (arith, ap length w.parts, length-append w.digits (end ∷ []), ap length (numeral_decimal w.digits n small w.numeral), length-decimal-le 20 n (omega arith) (omega (arith, small)) small)

trailer_most : (text : List ℕ) (p : ℕ × ℕ) → IsTrailer text p → length text ≤ 43
trailer_most text p w =
    let two = w.second_is in
    omega (
      arith,
      ap length w.parts,
      length-append w.first w.second,
      ap length w.first_is,
      ap length two.parts,
      length-append two.first two.second,
      offset_most 32 two.first two.between two.first_is,
      offset_most 10 two.second two.second_is.inner two.second_is.inner_is,
    )

pub end_most : (start : ℕ) (old new : List ℕ) (root : ℕ) (items : List ChangeItem) → IsEndPut start old new root items → length new ≤ length old + 8353 * length items + 43
end_most start old new root items w =
    omega (arith, ap length w.added, length-append old (w.text ++ w.line), length-append w.text w.line, items_most [] w.text items w.items_are, trailer_most w.line (root, start + length old) w.trailer_is)

-- ---- no more items than there were

abbrev In : ChangeItem → List ChangeItem → Type 0
In y [] = ⊥
In y (z ∷ zs) = (z ≡ y) ⊎ In y zs

record Without (y : ChangeItem) (ys : List ChangeItem) : Type 0 where
  rest : List ChangeItem
  count : length ys ≡ suc (length rest)
  others : (z : ChangeItem) → In z ys → (z ≡ y) ⊎ In z rest

without : (y : ChangeItem) (ys : List ChangeItem) → In y ys → Without y ys
without y [] h = absurd h
without y (x ∷ ys) (inl same) = record {
  rest = ys;
  count = refl;
  others = λ z h. elim h [
    | inl e ↦ inl (sym e ∙ same)
    | inr k ↦ inr k
  ];
}
without y (x ∷ ys) (inr h) =
    let r = without y ys h in
    record {
      rest = x ∷ r.rest;
      count = ap suc r.count;
      others = λ z k. elim k [
        | inl e ↦ inr (inl e)
        | inr m ↦ elim (r.others z m) [
          | inl same ↦ inl same
          | inr kept ↦ inr (inr kept)
        ]
      ];
    }

new_in : (earlier xs : List ChangeItem) → HavePathsOnce earlier xs → (z : ChangeItem) → In z xs → HasNewPath earlier z
new_in earlier [] once z h = absurd h
new_in earlier (x ∷ xs) once z (inl same) = subst (HasNewPath earlier) same once.0
new_in earlier (x ∷ xs) once z (inr h) = (apart_of earlier x z (new_in (earlier ++ x ∷ []) xs once.1 z h)).0

no_more : (earlier xs ys : List ChangeItem) → HavePathsOnce earlier xs → ((x : ChangeItem) → In x xs → (y : ChangeItem) × In y ys × (y.path ≡ x.path)) → length xs ≤ length ys
no_more earlier [] ys once each = omega arith
no_more earlier (x ∷ xs) ys once each =
    let w = each x (inl refl) in
    let r = without w.0 ys w.1 in
    let rest = no_more (earlier ++ x ∷ []) xs r.rest once.1 (λ z h. (let v = each z (inr h) in elim (r.others v.0 v.1) [
      | inl same ↦ absurd ((apart_of earlier x z (new_in (earlier ++ x ∷ []) xs once.1 z h)).1 (sym w.2 ∙ ap (λ (i : ChangeItem). i.path) (sym same) ∙ v.2))
      | inr kept ↦ (v.0, kept, v.2)
    ])) in
    omega (arith, rest, r.count)

-- ---- what is said of a path is of an item there

still_none : (b : Bool) → cond b None None ≡ (let o : Option FoldedItem = None in o)
still_none true = refl
still_none false = refl

said_of : (items : List ChangeItem) (p : Path) (item : ChangeItem) → fold_items_from p None items ≡ None → fold_items items p ≡ Some item → ⊥
said_of items p item none e = let clash : None ≡ Some item = sym (ap item_in none) ∙ e in cc

none_said : (items : List ChangeItem) (p : Path) → item_at items p ≡ None → fold_items_from p None items ≡ None
none_said [] p e = refl
none_said (x ∷ items) p e = by (same_path x.path p) e (λ f. none_said items p f)
  where
    by : (b : Bool) → cond b (Some x) (item_at items p) ≡ None → (item_at items p ≡ None → fold_items_from p None items ≡ None)
        → fold_items_from p (cond b (joined None x) (cond (deletes x.action && covers x.path p) None None)) items ≡ None
    by true f further = absurd (let clash : Some x ≡ None = f in cc)
    by false f further = ap (λ (o : Option FoldedItem). fold_items_from p o items) (still_none (deletes x.action && covers x.path p)) ∙ further f

in_at : (items : List ChangeItem) (p : Path) (item : ChangeItem) → item_at items p ≡ Some item → In item items × (item.path ≡ p)
in_at [] p item e = absurd (let clash : None ≡ Some item = e in cc)
in_at (x ∷ items) p item e = by (same_path x.path p) refl e (λ f. in_at items p item f)
  where
    by : (b : Bool) → same_path x.path p ≡ b → cond b (Some x) (item_at items p) ≡ Some item → (item_at items p ≡ Some item → In item items × (item.path ≡ p)) → In item (x ∷ items) × (item.path ≡ p)
    by true same f further = let is : x ≡ item = (let g = f in cc) in (inl is, subst (λ (y : ChangeItem). y.path ≡ p) is (same_path-is x.path p same))
    by false same f further = let r = further f in (inr r.0, r.1)

item_there : (items : List ChangeItem) (p : Path) (item : ChangeItem) → fold_items items p ≡ Some item → (y : ChangeItem) × In y items × (y.path ≡ p)
item_there items p item e = by (item_at items p) refl
  where
    by : (o : Option ChangeItem) → item_at items p ≡ o → (y : ChangeItem) × In y items × (y.path ≡ p)
    by None is = absurd (said_of items p item (none_said items p is) e)
    by (Some y) is = let r = in_at items p y is in (y, r.0, r.1)

contains : (x : ChangeItem) (xs : List ChangeItem) → In x xs → Contains xs x
contains x [] h = absurd h
contains x (z ∷ zs) (inl same) = (0, omega arith, same)
contains x (z ∷ zs) (inr h) = let r = contains x zs h in let lt = r.1 in (suc r.0, omega (arith, lt), r.2)

-- items that are folded, of one path each, are no more than those that they are made of
pub folded_most : (items folded : List ChangeItem) → HavePathsOnce [] folded → ((p : Path) → item_at folded p ≡ fold_items items p) → length folded ≤ length items
folded_most items folded once each = no_more [] folded items once (λ x h. item_there items x.path x (sym (each x.path) ∙ contained_at folded once x (contains x folded h)))
