-- Items one after another are read in one way at most.
use Rattle.std.proofs.Common.{◌≡◌, ℕ, ◌<◌, ◌-◌, List, [], ◌∷◌, ◌++◌, length, refl, sym, ap, subst, ◌∙◌, append_assoc, arith}
use Rattle.std.specs.Prelude.{◌≢◌}
use Rattle.std.proofs.lemmas.List.{length-append, append-nil, nil_from_length}
use Rattle.fsfs_base.specs.Grammar.Relations.{Begins}
use Rattle.fsfs_noderev.specs.Changes.Items.{IsItem}
use Rattle.fsfs_noderev.specs.Changes.Texts.{IsAny, HasNewPath, Items, HavePathsOnce, IsItemFault}
use Rattle.fsfs_noderev.specs.declared.changes.item.ChangeItem.{ChangeItem}
use Rattle.fsfs_noderev.proofs.ItemTexts.{item_one, item_filled, item_alone}

module _ (May : List ChangeItem → ChangeItem → Type 0) where
  no_item : (text more : List ℕ) (item : ChangeItem) → IsItem text item → [] ≡ text ++ more → ⊥
  no_item text more item is e = omega (arith, item_filled text item is, ap length e, length-append text more)

  pub items_one : (a : List ChangeItem) (text : List ℕ) (xs ys : List ChangeItem) → Items May a text xs → Items May a text ys → xs ≡ ys
  items_one a text [] [] v w = refl
  items_one a text [] (y ∷ ys) v w = absurd (no_item w.0 w.1 y w.2 (sym v ∙ w.5))
  items_one a text (x ∷ xs) [] v w = absurd (no_item v.0 v.1 x v.2 (sym w ∙ v.5))
  items_one a text (x ∷ xs) (y ∷ ys) v w =
      let first = item_alone v.0 x v.1 v.2 in
      let second = subst (λ (t : List ℕ). Begins IsItem t y w.1) (sym w.5 ∙ v.5) (item_alone w.0 y w.1 w.2) in
      let same = item_one (v.0 ++ v.1) x y v.1 w.1 first second in
      let moved = subst (λ (t : List ℕ). Items May (a ++ y ∷ []) t ys) (sym same.1) w.4 in
      let rest = subst (λ (z : ChangeItem). Items May (a ++ z ∷ []) v.1 ys) (sym same.0) moved in
      let tails = items_one (a ++ x ∷ []) v.1 xs ys v.4 rest in
      λ i. same.0 i ∷ tails i

  pub items_push : (a : List ChangeItem) (front text : List ℕ) (xs : List ChangeItem) (x : ChangeItem) → Items May a front xs → IsItem text x → May (a ++ xs) x → Items May a (front ++ text) (xs ++ x ∷ [])
  items_push a front text [] x v is may =
      (text, [], is, subst (λ (ys : List ChangeItem). May ys x) (append-nil a) may, refl, ap (λ (t : List ℕ). t ++ text) v ∙ sym (append-nil text))
  items_push a front text (y ∷ ys) x v is may =
      let more = subst (λ (zs : List ChangeItem). May zs x) (sym (append_assoc a (y ∷ []) ys)) may in
      (v.0, v.1 ++ text, v.2, v.3, items_push (a ++ y ∷ []) v.1 text ys x v.4 is more, ap (λ (t : List ℕ). t ++ text) v.5 ∙ append_assoc v.0 v.1 text)

  -- the items that were read, and the bytes behind them
  pub record HasItems (bytes : List ℕ) (items : List ChangeItem) (rest : List ℕ) : Type 0 where
    pub front : List ℕ
    pub before : Items May [] front items
    pub parts : bytes ≡ front ++ rest

  pub has_none : (bytes : List ℕ) → HasItems bytes [] bytes
  has_none bytes = record { front = []; before = refl; parts = refl }

  pub has_more : (bytes : List ℕ) (items : List ChangeItem) (rest : List ℕ) (item : ChangeItem) (behind : List ℕ) → HasItems bytes items rest → Begins IsItem rest item behind → May items item → HasItems bytes (items ++ item ∷ []) behind
  has_more bytes items rest item behind v w may = record {
    front = v.front ++ w.front;
    before = items_push [] v.front w.front items item v.before w.text may;
    parts = v.parts ∙ ap (λ (t : List ℕ). v.front ++ t) w.parts ∙ sym (append_assoc v.front w.front behind);
  }

  pub has_all : (bytes : List ℕ) (items : List ChangeItem) (rest : List ℕ) → HasItems bytes items rest → length rest ≡ 0 → Items May [] bytes items
  has_all bytes items rest v e =
      let none = nil_from_length rest e in
      subst (λ (t : List ℕ). Items May [] t items) (sym (v.parts ∙ ap (λ (t : List ℕ). v.front ++ t) none ∙ append-nil v.front)) v.before

  pub has_fault : (bytes : List ℕ) (items : List ChangeItem) (rest : List ℕ) (at : ℕ) → HasItems bytes items rest → 0 < length rest → ((item : ChangeItem) (behind : List ℕ) → Begins IsItem rest item behind → ¬ May items item) → at ≡ length bytes - length rest → IsItemFault May bytes at
  has_fault bytes items rest at v more refused e = record {
    earlier = items;
    front = v.front;
    rest = rest;
    before = v.before;
    more = λ none. omega (arith, more, ap length none);
    refused = refused;
    parts = v.parts;
    place = omega (arith, e, ap length v.parts, length-append v.front rest);
  }

  stuck : (a xs ys : List ChangeItem) (front rest : List ℕ) → Items May a front xs → rest ≢ [] → ((item : ChangeItem) (behind : List ℕ) → Begins IsItem rest item behind → ¬ May (a ++ xs) item) → Items May a (front ++ rest) ys → ⊥
  stuck a [] [] front rest v some refused w = some (ap (λ (t : List ℕ). t ++ rest) (sym v) ∙ w)
  stuck a [] (y ∷ ys) front rest v some refused w =
      let parts : rest ≡ w.0 ++ w.1 = ap (λ (t : List ℕ). t ++ rest) (sym v) ∙ w.5 in
      refused y w.1 (subst (λ (t : List ℕ). Begins IsItem t y w.1) (sym parts) (item_alone w.0 y w.1 w.2)) (subst (λ (zs : List ChangeItem). May zs y) (sym (append-nil a)) w.3)
  stuck a (x ∷ xs) [] front rest v some refused w = no_item v.0 (v.1 ++ rest) x v.2 (sym w ∙ ap (λ (t : List ℕ). t ++ rest) v.5 ∙ append_assoc v.0 v.1 rest)
  stuck a (x ∷ xs) (y ∷ ys) front rest v some refused w =
      let first = item_alone v.0 x (v.1 ++ rest) v.2 in
      let whole : front ++ rest ≡ v.0 ++ (v.1 ++ rest) = ap (λ (t : List ℕ). t ++ rest) v.5 ∙ append_assoc v.0 v.1 rest in
      let second = subst (λ (t : List ℕ). Begins IsItem t y w.1) (sym w.5 ∙ whole) (item_alone w.0 y w.1 w.2) in
      let same = item_one (v.0 ++ (v.1 ++ rest)) x y (v.1 ++ rest) w.1 first second in
      let moved = subst (λ (t : List ℕ). Items May (a ++ y ∷ []) t ys) (sym same.1) w.4 in
      let tail = subst (λ (z : ChangeItem). Items May (a ++ z ∷ []) (v.1 ++ rest) ys) (sym same.0) moved in
      let more = λ (item : ChangeItem) (behind : List ℕ) (b : Begins IsItem rest item behind). subst (λ (zs : List ChangeItem). ¬ May zs item) (sym (append_assoc a (x ∷ []) xs)) (refused item behind b) in
      stuck (a ++ x ∷ []) xs ys v.1 rest v.4 some more tail

  -- data with a fault are no data
  pub fault_clash : (bytes : List ℕ) (at : ℕ) (ys : List ChangeItem) → IsItemFault May bytes at → Items May [] bytes ys → ⊥
  fault_clash bytes at ys f w = stuck [] f.earlier ys f.front f.rest f.before f.more f.refused (subst (λ (t : List ℕ). Items May [] t ys) f.parts w)

-- data in which each path comes once
pub once : (a : List ChangeItem) (text : List ℕ) (xs : List ChangeItem) → Items IsAny a text xs → HavePathsOnce a xs → Items HasNewPath a text xs
once a text [] v w = v
once a text (x ∷ xs) v w = (v.0, v.1, v.2, w.0, once (a ++ x ∷ []) v.1 xs v.4 w.1, v.5)
