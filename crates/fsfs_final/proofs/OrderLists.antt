-- Paths with a name more, and lists of node-revisions with one more.
use Rattle.std.proofs.Common.{◌≡◌, ◌∙◌, Bool, true, false, List, [], ◌∷◌, ◌++◌, map, reverse, refl, sym, ap, subst, inl, inr, ◌⊎◌}
use Rattle.std.specs.Borrow.{Bor}
use Rattle.std.proofs.lemmas.Bool.{or_cases, or_left, or_right, false_from_ne_true, or_from, or_parts}
use Rattle.std.proofs.lemmas.List.{map-append, reverse-append}
use Rattle.std.proofs.lemmas.List.Folds.{list_any-append}
use mathlib.Core.Bool.{false≢true}
use Rattle.fsfs_base.specs.Paths.{PathName, Path, same_path}
use Rattle.fsfs_base.proofs.PathLemmas.{same_path-is, same_path-refl}
use Rattle.fsfs_draft.specs.Drafts.{Kept}
use Rattle.fsfs_draft.specs.declared.txn_noderevs.KeptNode.{KeptNode}
use Rattle.fsfs_draft.specs.Views.{kept_value}
use Rattle.fsfs_final.specs.Order.Orders.{path_of, last_first, is_in}

-- ---- tests

pub differ : (b : Bool) → b ≡ true → b ≡ false → ⊥
differ b e f = false≢true (sym f ∙ e)

-- ---- paths

pub no_push : (p : Path) (x : PathName) → [] ≡ p ++ x ∷ [] → ⊥
no_push [] x e = cc
no_push (y ∷ p) x e = cc

pub push_same : (p q : Path) (x y : PathName) → p ++ x ∷ [] ≡ q ++ y ∷ [] → (p ≡ q) × (x ≡ y)
push_same [] [] x y e = (refl, (let g = e in cc))
push_same [] (z ∷ q) x y e = let t : [] ≡ q ++ y ∷ [] = (let g = e in cc) in absurd (no_push q y t)
push_same (z ∷ p) [] x y e = let t : p ++ x ∷ [] ≡ [] = (let g = e in cc) in absurd (no_push p x (sym t))
push_same (z ∷ p) (w ∷ q) x y e =
    let t : p ++ x ∷ [] ≡ q ++ y ∷ [] = (let g = e in cc) in
    let head : z ≡ w = (let g = e in cc) in
    let rest = push_same p q x y t in ((λ i. head i ∷ rest.0 i), rest.1)

pub not_itself : (p : Path) (x : PathName) → p ≡ p ++ x ∷ [] → ⊥
not_itself [] x e = no_push [] x e
not_itself (y ∷ p) x e = let t : p ≡ p ++ x ∷ [] = (let g = e in cc) in not_itself p x t

-- ---- lists

pub in_front : (k : Kept) (ks : List Kept) (p : Path) → path_of k ≡ p → is_in (k ∷ ks) p ≡ true
in_front k ks p e = or_left (same_path (path_of k) p) (is_in ks p) (subst (λ (q : Path). same_path (path_of k) q ≡ true) e (same_path-refl (path_of k)))

pub in_later : (k : Kept) (ks : List Kept) (p : Path) → is_in ks p ≡ true → is_in (k ∷ ks) p ≡ true
in_later k ks p h = or_right (same_path (path_of k) p) (is_in ks p) h

pub in_either : (k : Kept) (ks : List Kept) (p : Path) → is_in (k ∷ ks) p ≡ true → (path_of k ≡ p) ⊎ (is_in ks p ≡ true)
in_either k ks p h = elim (or_cases (same_path (path_of k) p) (is_in ks p) h) [
  | inl w ↦ inl (same_path-is (path_of k) p w)
  | inr w ↦ inr w
]

pub in_none : (k : Kept) (ks : List Kept) (p : Path) → is_in (k ∷ ks) p ≡ false → (path_of k ≡ p → ⊥) × (is_in ks p ≡ false)
in_none k ks p h = ((λ e. differ (is_in (k ∷ ks) p) (in_front k ks p e) h), (or_parts (same_path (path_of k) p) (is_in ks p) h).1)

pub out_of : (k : Kept) (ks : List Kept) (p : Path) → (path_of k ≡ p → ⊥) → is_in ks p ≡ false → is_in (k ∷ ks) p ≡ false
out_of k ks p other h = or_from (same_path (path_of k) p) (is_in ks p) (false_from_ne_true (same_path (path_of k) p) (λ e. other (same_path-is (path_of k) p e))) h

pub in_left : (ks more : List Kept) (p : Path) → is_in ks p ≡ true → is_in (ks ++ more) p ≡ true
in_left ks more p h = list_any-append (λ (k : Kept). same_path (path_of k) p) ks more ∙ or_left (is_in ks p) (is_in more p) h

pub in_right : (ks more : List Kept) (p : Path) → is_in more p ≡ true → is_in (ks ++ more) p ≡ true
in_right ks more p h = list_any-append (λ (k : Kept). same_path (path_of k) p) ks more ∙ or_right (is_in ks p) (is_in more p) h

pub in_neither : (ks more : List Kept) (p : Path) → is_in ks p ≡ false → is_in more p ≡ false → is_in (ks ++ more) p ≡ false
in_neither ks more p h g = list_any-append (λ (k : Kept). same_path (path_of k) p) ks more ∙ or_from (is_in ks p) (is_in more p) h g

-- one more at the end of a list is its last
pub last_pushed : (ks : List (Bor KeptNode)) (k : Bor KeptNode) → last_first (ks ++ k ∷ []) ≡ kept_value k.now ∷ last_first ks
last_pushed ks k = ap reverse (map-append (λ (x : Bor KeptNode). kept_value x.now) ks (k ∷ [])) ∙ reverse-append (map (λ (x : Bor KeptNode). kept_value x.now) ks) (kept_value k.now ∷ [])
