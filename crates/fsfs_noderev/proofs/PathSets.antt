-- A set of paths' texts tells which paths came before.
use Rattle.std.proofs.Common.{◌≡◌, ℕ, Bool, true, false, cond, ◌||◌, List, [], ◌∷◌, ◌++◌, refl, sym, ap, subst, ◌∙◌}
use Rattle.std.proofs.lemmas.Bool.{true≢false}
use Rattle.std.specs.List.{AllByRecursion, list_any}
use Rattle.std.specs.Cmp.{eq_by_cmp_equiv}
use Rattle.std.specs.Cmp.Lexicographic.{nat_list_cmp_total}
use Rattle.std.proofs.lemmas.Map.Text.{is_eq-slice_cmp}
use Rattle.std.proofs.lemmas.Slice.Eq.{bytes_eq-Decides}
use Rattle.fsfs_base.specs.Grammar.Relations.{Begins}
use Rattle.fsfs_base.specs.Paths.{path_text}
use Rattle.fsfs_base.specs.Files.{same_text}
use Rattle.fsfs_base.proofs.FileLemmas.{same_is}
use Rattle.fsfs_noderev.specs.Fields.{IsPathText}
use Rattle.fsfs_noderev.proofs.FieldTexts.{path_one}
use Rattle.fsfs_noderev.specs.Changes.Items.{IsItem}
use Rattle.fsfs_noderev.specs.Changes.Texts.{HasNewPath, Items}
use Rattle.fsfs_noderev.specs.declared.changes.item.ChangeItem.{ChangeItem}
use Rattle.fsfs_noderev.proofs.ItemTexts.{item_one, item_path}
use Rattle.fsfs_noderev.proofs.ItemLists.{HasItems}

-- an item's path has this text
abbrev pub any_has : List ℕ → List ChangeItem → Bool
any_has q items = list_any (λ e. same_text q (path_text e.path)) items

push_or : (t u rest : Bool) → (rest ≡ (cond t true u)) → (b : Bool) → (b || rest) ≡ cond t true (b || u)
push_or true u rest e true = refl
push_or true u rest e false = e
push_or false u rest e true = refl
push_or false u rest e false = e

any_push : (q : List ℕ) (xs : List ChangeItem) (x : ChangeItem) → any_has q (xs ++ x ∷ []) ≡ cond (same_text q (path_text x.path)) true (any_has q xs)
any_push q [] x = go (same_text q (path_text x.path))
  where
    go : (t : Bool) → (t || false) ≡ cond t true false
    go true = refl
    go false = refl
any_push q (y ∷ ys) x = push_or (same_text q (path_text x.path)) (any_has q ys) (any_has q (ys ++ x ∷ [])) (any_push q ys x) (same_text q (path_text y.path))

-- one text more in the set, and one item more
pub texts_more : (old new : List ℕ → Bool) (items : List ChangeItem) (item : ChangeItem) (key : List ℕ) → path_text item.path ≡ key → ((q : List ℕ) → old q ≡ any_has q items) → ((q : List ℕ) → new q ≡ cond (same_text key q) true (old q)) → (q : List ℕ) → new q ≡ any_has q (items ++ item ∷ [])
texts_more old new items item key e has more q =
    more q
    ∙ ap (λ (b : Bool). cond b true (old q)) ((eq_by_cmp_equiv nat_list_cmp_total).symm key q)
    ∙ ap (λ (b : Bool). cond (same_text q key) true b) (has q)
    ∙ ap (λ (t : List ℕ). cond (same_text q t) true (any_has q items)) (sym e)
    ∙ sym (any_push q items item)

is_same : (a b : List ℕ) → a ≡ b → same_text a b ≡ true
is_same a b e = is_eq-slice_cmp a b ∙ (bytes_eq-Decides a b).1 e

-- where no item has the text, the path is a new one
pub is_new : (items : List ChangeItem) (item : ChangeItem) (key : List ℕ) → path_text item.path ≡ key → any_has key items ≡ false → HasNewPath items item
is_new [] item key e none = tt
is_new (x ∷ xs) item key e none = go (is_new xs item key e) (same_text key (path_text x.path)) refl none
  where
    go : (any_has key xs ≡ false → HasNewPath xs item) → (t : Bool) → same_text key (path_text x.path) ≡ t → (t || any_has key xs) ≡ false → HasNewPath (x ∷ xs) item
    go more true is none = absurd (true≢false none)
    go more false is none = ((λ same. true≢false (sym (is_same key (path_text x.path) (sym e ∙ sym (ap path_text same))) ∙ is)), more none)

-- an item's path is one that has a text
abbrev pub HasPathText : ChangeItem → Type 0
HasPathText item = (text : List ℕ) × IsPathText text item.path

path_same : (a b : ChangeItem) → HasPathText a → HasPathText b → path_text a.path ≡ path_text b.path → a.path ≡ b.path
path_same a b v w e =
    let text : v.0 ≡ w.0 = sym v.1.text_is ∙ e ∙ w.1.text_is in
    path_one w.0 a.path b.path (subst (λ (t : List ℕ). IsPathText t a.path) text v.1) w.1

-- where an item has the text, its path is the same
pub is_old : (items : List ChangeItem) (item : ChangeItem) (key : List ℕ) → AllByRecursion HasPathText items → HasPathText item → path_text item.path ≡ key → any_has key items ≡ true → ¬ HasNewPath items item
is_old [] item key all one e some new = true≢false (sym some)
is_old (x ∷ xs) item key all one e some new = go (λ more. is_old xs item key all.1 one e more new.1) (same_text key (path_text x.path)) refl some
  where
    go : (any_has key xs ≡ true → ⊥) → (t : Bool) → same_text key (path_text x.path) ≡ t → (t || any_has key xs) ≡ true → ⊥
    go more true is some = new.0 (path_same x item all.0 one (sym (e ∙ same_is key (path_text x.path) is)))
    go more false is some = more some

texts_of : (May : List ChangeItem → ChangeItem → Type 0) (a : List ChangeItem) (text : List ℕ) (xs : List ChangeItem) → Items May a text xs → AllByRecursion HasPathText xs
texts_of May a text [] v = tt
texts_of May a text (x ∷ xs) v = (item_path v.0 x v.2, texts_of May (a ++ x ∷ []) v.1 xs v.4)

-- the item that the bytes begin with has the path of an earlier one
pub refused_twice : (bytes : List ℕ) (items : List ChangeItem) (rest : List ℕ) (item : ChangeItem) (after key : List ℕ) → HasItems HasNewPath bytes items rest → Begins IsItem rest item after → path_text item.path ≡ key → any_has key items ≡ true
    → (other : ChangeItem) (behind : List ℕ) → Begins IsItem rest other behind → ¬ HasNewPath items other
refused_twice bytes items rest item after key v w e some other behind u new =
    let same = item_one rest other item behind after u w in
    is_old items item key (texts_of HasNewPath [] v.front items v.before) (item_path w.front item w.text) e some (subst (λ (x : ChangeItem). HasNewPath items x) same.0 new)
