-- What each edit does to the paths of a tree.
use Rattle.std.proofs.Common.{◌≡◌, ℕ, suc, ◌-◌, true, false, cond, not, ◌&&◌, List, [], ◌∷◌, refl, sym, ◌∙◌, ap, subst, inl, inr, Option, Some, None, length, take, ◌++◌, ◌≤◌, arith}
use Rattle.std.specs.Prelude.{is_some}
use mathlib.Core.Bool.{false≢true}
use Rattle.std.proofs.lemmas.Bool.{leb-true, and_from, cases_Bool, false_from_ne_true, and_parts, both_ways, not-true}
use Rattle.std.proofs.lemmas.List.{append-nil}
use Rattle.fsfs_model.specs.declared.flat.mark.What.TheVariants.{Make, Gone}
use Rattle.fsfs_model.specs.declared.flat.edit.Edit.{Edit}
use Rattle.fsfs_model.specs.declared.flat.edit.Edit.TheVariants.{MakeDir, MakeFile, Delete, Copy, PutText, SetProp}
use Rattle.fsfs_base.specs.declared.kind.Kind.TheVariants.{File, Dir}
use Rattle.fsfs_base.specs.Paths.{Path, covers, is_above, same_path, same_name}
use Rattle.fsfs_tree.specs.Nodes.{Node, TreeFunction, empty_node}
use Rattle.fsfs_model.specs.Flat.Edits.{without, with_node, with_copy, copied_node, with_text, with_prop, bytes_of, rest_after, can_make, parent, is_dir_node, is_file_node, accepts, applied, mark_of}
use Rattle.fsfs_base.proofs.PathLemmas.{covers-refl, covers-trans, covers-antisym, covers-either, same_name-is, same_name-refl, same_path-is, same_path-refl}
use Rattle.fsfs_model.proofs.Bases.{IsClosed, ChangesPaths}

module _ (t : TreeFunction) (p : Path) where
  pub left : (q : Path) → covers p q ≡ false → is_some (without t p q) ≡ is_some (t q)
  left q out = ap (λ b. is_some (cond b None (t q))) out

  pub away : (q : Path) → covers p q ≡ true → is_some (without t p q) ≡ false
  away q below = ap (λ b. is_some (cond b None (t q))) below

  pub deleted : is_some (t p) ≡ true → ChangesPaths Gone p t (without t p)
  deleted h = (h, away, left)

  pub deleted_closed : IsClosed t → IsClosed (without t p)
  deleted_closed c q x k h = elim (cases_Bool (covers p q)) [
    | inl w ↦ absurd (both_ways _ (away x (covers-trans p q x w k)) h)
    | inr out ↦ left q out ∙ c q x k (elim (cases_Bool (covers p x)) [ inl w ↦ absurd (both_ways _ (away x w) h) | inr w ↦ sym (left x w) ∙ h ])
  ]

-- what is above a path is at or above its parent
pub in_parent : (q p : Path) → covers q p ≡ true → covers p q ≡ false → covers q (parent p) ≡ true
in_parent [] p c n = refl
in_parent (x ∷ q) [] c n = absurd (false≢true c)
in_parent (x ∷ []) (y ∷ []) c n = absurd (both_ways (same_name y x && true) n (and_from (same_name y x) true (turned x y (and_parts (same_name x y) true c).0) refl))
  where
    turned : (x y : List ℕ) → same_name x y ≡ true → same_name y x ≡ true
    turned x y h = subst (λ v. same_name v x ≡ true) (same_name-is x y h) (same_name-refl x)
in_parent (x ∷ w ∷ q) (y ∷ []) c n = absurd (false≢true (and_parts (same_name x y) false c).1)
in_parent (x ∷ q) (y ∷ z ∷ p) c n =
    let e : suc (suc (length p)) - 1 ≡ suc (suc (length p) - 1) = omega arith in
    let same : same_name x y ≡ true = (and_parts _ _ c).0 in
    let back : same_name y x ≡ true = subst (λ v. same_name v x ≡ true) (same_name-is x y same) (same_name-refl x) in
    let rest : covers q (parent (z ∷ p)) ≡ true = in_parent q (z ∷ p) (and_parts _ _ c).1 (false_from_ne_true _ (λ h. both_ways (same_name y x && covers (z ∷ p) q) n (and_from _ _ back h))) in
    subst (λ k. covers (x ∷ q) (take k (y ∷ z ∷ p)) ≡ true) (sym e) (and_from _ _ same rest)

pub dir_there : (o : Option Node) → is_dir_node o ≡ true → is_some o ≡ true
dir_there None h = h
dir_there (Some n) h = refl

module _ (t : TreeFunction) (p : Path) (c : IsClosed t) (can : can_make t p ≡ true) where
  pub free : is_some (t p) ≡ false
  free = not-true _ (and_parts _ _ (and_parts _ _ can).0).1

  pub above : (q : Path) → is_above q p ≡ true → is_some (t q) ≡ true
  above q h = c q (parent p) (in_parent q p (and_parts _ _ h).0 (not-true _ (and_parts _ _ h).1)) (dir_there (t (parent p)) (and_parts _ _ can).1)

module _ (t : TreeFunction) (p : Path) (o : Option Node) where
  elsewhere : (q : Path) → same_path q p ≡ false → is_some (with_node t p o q) ≡ is_some (t q)
  elsewhere q h = ap (λ b. is_some (cond b o (t q))) h

  apart : (q : Path) → covers p q ≡ false → same_path q p ≡ false
  apart q h = false_from_ne_true _ (λ k. both_ways _ h (subst (λ v. covers p v ≡ true) (sym (same_path-is q p k)) (covers-refl p)))

  there : is_some (with_node t p o p) ≡ is_some o
  there = ap (λ b. is_some (cond b o (t p))) (same_path-refl p)

  -- a node that is changed in its place
  pub in_place : is_some o ≡ is_some (t p) → (q : Path) → is_some (with_node t p o q) ≡ is_some (t q)
  in_place same q = elim (cases_Bool (same_path q p)) [
    | inl w ↦ ap (λ v. is_some (with_node t p o v)) (same_path-is q p w) ∙ there ∙ same ∙ ap (λ v. is_some (t v)) (sym (same_path-is q p w))
    | inr w ↦ elsewhere q w
  ]

  placed_closed : is_some o ≡ is_some (t p) → IsClosed t → IsClosed (with_node t p o)
  placed_closed same c q x k h = in_place same q ∙ c q x k (sym (in_place same x) ∙ h)

module _ (t : TreeFunction) (p : Path) (n : Node) (c : IsClosed t) (can : can_make t p ≡ true) where
  pub made : ChangesPaths (Make None) p t (with_node t p (Some n))
  made = (free t p c can, there t p (Some n), above t p c can, λ q h. elsewhere t p (Some n) q (apart t p (Some n) q h))

  pub made_closed : IsClosed (with_node t p (Some n))
  made_closed q x k h = elim (cases_Bool (same_path q p)) [
    | inl same ↦ ap (λ b. is_some (cond b (Some n) (t q))) same
    | inr other ↦ elsewhere t p (Some n) q other ∙ (elim (cases_Bool (same_path x p)) [
      | inl new ↦ above t p c can q (subst (λ v. is_above q v ≡ true) (same_path-is x p new) (and_from _ _ k (elim (cases_Bool (covers x q)) as (λ _. not (covers x q) ≡ true) [
        | inl back ↦ absurd (both_ways _ other (subst (λ v. same_path v p ≡ true) (sym (covers-antisym q x k back)) new))
        | inr out ↦ ap not out
      ])))
      | inr old ↦ c q x k (sym (elsewhere t p (Some n) x old) ∙ h)
    ])
  ]

pub covers_rest : (to q x : Path) → covers to q ≡ true → covers q x ≡ true → covers (rest_after to q) (rest_after to x) ≡ true
covers_rest [] q x h k = k
covers_rest (w ∷ to) [] x h k = absurd (false≢true h)
covers_rest (w ∷ to) (y ∷ q) [] h k = absurd (false≢true k)
covers_rest (w ∷ to) (y ∷ q) (z ∷ x) h k = covers_rest to q x (and_parts _ _ h).1 (and_parts _ _ k).1

pub covers_front : (f a b : Path) → covers a b ≡ true → covers (f ++ a) (f ++ b) ≡ true
covers_front [] a b h = h
covers_front (x ∷ f) a b h = and_from _ _ (same_name-refl x) (covers_front f a b h)

pub nothing_after : (p : Path) → rest_after p p ≡ []
nothing_after [] = refl
nothing_after (x ∷ p) = nothing_after p

pub copied_some : (r : ℕ) (f : Path) (o : Option Node) → is_some (copied_node r f o) ≡ is_some o
copied_some r f None = refl
copied_some r f (Some n) = refl

module _ (t : TreeFunction) (r : ℕ) (of : TreeFunction) (from to : Path) (c : IsClosed t) (co : IsClosed of) (can : can_make t to ≡ true) (there_is : is_some (of from) ≡ true) where
  abbrev pub copy : TreeFunction
  copy = with_copy t r of from to

  below : (q : Path) → covers to q ≡ true → is_some (copy q) ≡ is_some (of (from ++ rest_after to q))
  below q h = ap (λ b. is_some (cond b (copied_node r (from ++ rest_after to q) (of (from ++ rest_after to q))) (t q))) h ∙ copied_some r _ (of (from ++ rest_after to q))

  outside : (q : Path) → covers to q ≡ false → is_some (copy q) ≡ is_some (t q)
  outside q h = ap (λ b. is_some (cond b (copied_node r (from ++ rest_after to q) (of (from ++ rest_after to q))) (t q))) h

  pub copied : ChangesPaths (Make None) to t copy
  copied = (
    free t to c can,
    below to (covers-refl to) ∙ ap (λ v. is_some (of (from ++ v))) (nothing_after to) ∙ ap (λ v. is_some (of v)) (append-nil from) ∙ there_is,
    above t to c can,
    outside,
  )

  pub copied_closed : IsClosed copy
  copied_closed q x k h = elim (cases_Bool (covers to x)) [
    | inr out ↦ outside q (false_from_ne_true _ (λ w. both_ways _ out (covers-trans to q x w k))) ∙ c q x k (sym (outside x out) ∙ h)
    | inl w ↦ elim (cases_Bool (covers to q)) [
      | inl v ↦ below q v ∙ co (from ++ rest_after to q) (from ++ rest_after to x) (covers_front from _ _ (covers_rest to q x v k)) (sym (below x w) ∙ h)
      | inr v ↦ outside q v ∙ above t to c can q (and_from _ _ (under q x k w v) (ap not v))
    ]
  ]
    where
      under : (q x : Path) → covers q x ≡ true → covers to x ≡ true → covers to q ≡ false → covers q to ≡ true
      under q x k w v = elim (covers-either q to x k w) [ inl y ↦ y | inr y ↦ absurd (both_ways _ v y) ]

pub with_text_some : (text : List ℕ) (o : Option Node) → is_some (with_text text o) ≡ is_some o
with_text_some text None = refl
with_text_some text (Some n) = refl

pub with_prop_some : (name : List ℕ) (value : Option (List ℕ)) (o : Option Node) → is_some (with_prop name value o) ≡ is_some o
with_prop_some name value None = refl
with_prop_some name value (Some n) = refl

pub file_there : (o : Option Node) → is_file_node o ≡ true → is_some o ≡ true
file_there None h = h
file_there (Some n) h = refl

-- an accepted edit changes the paths as its mark says, and leaves what is above each path there
pub edit_changes : (edit : Edit) (tree : ℕ → TreeFunction) (last : ℕ) (t : TreeFunction) → IsClosed t → ((r : ℕ) → r ≤ last → IsClosed (tree r)) → accepts edit tree last t ≡ true
    → ChangesPaths (mark_of edit tree t).what (mark_of edit tree t).path t (applied edit tree t) × IsClosed (applied edit tree t)
edit_changes (MakeDir path) tree last t c co h = (made t path (empty_node Dir) c h, made_closed t path (empty_node Dir) c h)
edit_changes (MakeFile path) tree last t c co h = (made t path (empty_node File) c h, made_closed t path (empty_node File) c h)
edit_changes (Delete path) tree last t c co h = (deleted t path (and_parts _ _ h).1, deleted_closed t path c)
edit_changes (Copy rev from to) tree last t c co h =
    let older = co rev (leb-true rev last (and_parts _ _ (and_parts _ _ h).0).1) in
    let can = (and_parts _ _ (and_parts _ _ h).0).0 in
    (copied t rev (tree rev) from to c older can (and_parts _ _ h).1, copied_closed t rev (tree rev) from to c older can (and_parts _ _ h).1)
edit_changes (PutText path text) tree last t c co h =
    let same = with_text_some text.items (t path) in
    ((file_there (t path) h, in_place t path (with_text text.items (t path)) same), placed_closed t path (with_text text.items (t path)) same c)
edit_changes (SetProp path name value) tree last t c co h =
    let same = with_prop_some name (bytes_of value) (t path) in
    ((h, in_place t path (with_prop name (bytes_of value) (t path)) same), placed_closed t path (with_prop name (bytes_of value) (t path)) same c)
