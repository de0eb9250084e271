-- What stands above a path is a directory, and edits leave it so.
use Rattle.std.proofs.Common.{◌≡◌, ℕ, ◌≤◌, true, false, cond, not, ◌++◌, List, [], ◌∷◌, refl, sym, ◌∙◌, ap, subst, inl, inr, Option, Some, None}
use Rattle.std.specs.Prelude.{is_some}
use Rattle.std.proofs.lemmas.Bool.{leb-true, and_from, cases_Bool, false_from_ne_true, and_parts, both_ways, not-true}
use mathlib.Core.Bool.{false≢true}
use Rattle.fsfs_model.specs.declared.flat.edit.Edit.{Edit}
use Rattle.fsfs_model.specs.declared.flat.edit.Edit.TheVariants.{MakeDir, MakeFile, Delete, Copy, PutText, SetProp}
use Rattle.fsfs_base.specs.declared.kind.Kind.{Kind}
use Rattle.fsfs_base.specs.declared.kind.Kind.TheVariants.{File, Dir}
use Rattle.fsfs_base.specs.Paths.{Path, covers, is_above, is_root, same_path, same_name}
use Rattle.fsfs_tree.specs.Nodes.{Node, TreeFunction, empty_node}
use Rattle.fsfs_model.specs.Flat.Edits.{is_dir, is_dir_node, without, with_node, with_copy, copied_node, with_text, with_prop, bytes_of, rest_after, can_make, parent, accepts, applied}
use Rattle.fsfs_tree.specs.Trees.{IsTree}
use Rattle.fsfs_base.proofs.PathLemmas.{covers-refl, covers-trans, covers-antisym, covers-either, same_name-is, same_name-refl, same_path-is}
use Rattle.fsfs_model.proofs.Bases.{IsClosed}
use Rattle.fsfs_model.proofs.Applied.{in_parent, above, left, away, covers_rest, covers_front, copied_some, with_text_some, with_prop_some, dir_there}

pub record HasDirs (t : TreeFunction) : Type 0 where
  pub root : is_dir_node (t []) ≡ true
  pub above : (q p : Path) → is_above q p ≡ true → is_some (t p) ≡ true → is_dir_node (t q) ≡ true

pub dir_kind : (k : Kind) → is_dir k ≡ true → k ≡ Dir
dir_kind Dir h = refl
dir_kind File h = absurd (false≢true h)

dir_node : (o : Option Node) → is_dir_node o ≡ true → (n : Node) × (o ≡ Some n) × (n.kind ≡ Dir)
dir_node None h = absurd (false≢true h)
dir_node (Some n) h = (n, refl, dir_kind n.kind h)

pub dirs_from : (t : TreeFunction) → IsTree t → HasDirs t
dirs_from t is = record {
  root = let n = is.root in ap is_dir_node n.1 ∙ ap is_dir n.2;
  above = λ q p ab h. let n = is.above q p ab h in ap is_dir_node n.1 ∙ ap is_dir n.2;
}

pub tree_from : (t : TreeFunction) → HasDirs t → IsTree t
tree_from t has = record {
  root = dir_node (t []) has.root;
  above = λ q p ab h. dir_node (t q) (has.above q p ab h);
}

-- a tree with directories above each path is closed
pub closed_from : (t : TreeFunction) → HasDirs t → IsClosed t
closed_from t has q p c h = elim (cases_Bool (covers p q)) [
  | inl back ↦ subst (λ v. is_some (t v) ≡ true) (sym (covers-antisym q p c back)) h
  | inr apart ↦ dir_there (t q) (has.above q p (and_from _ _ c (ap not apart)) h)
]

at_root : (t : TreeFunction) (p : Path) (o : Option Node) → is_root p ≡ false → is_dir_node (with_node t p o []) ≡ is_dir_node (t [])
at_root t [] o h = absurd (false≢true (sym h))
at_root t (y ∷ p) o h = refl

module _ (t : TreeFunction) (p : Path) (has : HasDirs t) (can : can_make t p ≡ true) where
  not_root : is_root p ≡ false
  not_root = not-true _ (and_parts _ _ (and_parts _ _ can).0).0

  -- what is above the new path is a directory
  pub new_above : (q : Path) → is_above q p ≡ true → is_dir_node (t q) ≡ true
  new_above q ab =
      let up : covers q (parent p) ≡ true = in_parent q p (and_parts _ _ ab).0 (not-true _ (and_parts _ _ ab).1) in
      let dir : is_dir_node (t (parent p)) ≡ true = (and_parts _ _ can).1 in
      elim (cases_Bool (covers (parent p) q)) [
        | inl back ↦ subst (λ v. is_dir_node (t v) ≡ true) (sym (covers-antisym q (parent p) up back)) dir
        | inr apart ↦ has.above q (parent p) (and_from _ _ up (ap not apart)) (dir_there _ dir)
      ]

  other : (n : Option Node) (q : Path) → same_path q p ≡ false → is_dir_node (with_node t p n q) ≡ is_dir_node (t q)
  other n q h = ap (λ b. is_dir_node (cond b n (t q))) h

  pub made_dirs : (n : Option Node) → HasDirs (with_node t p n)
  made_dirs n = record {
    root = at_root t p n not_root ∙ has.root;
    above = λ q x ab h. elim (cases_Bool (same_path x p)) [
      | inl here ↦
          let e : x ≡ p = same_path-is x p here in
          let up : is_above q p ≡ true = subst (λ v. is_above q v ≡ true) e ab in
          other n q (false_from_ne_true _ (λ k. both_ways _ (not-true _ (and_parts _ _ up).1) (subst (λ v. covers p v ≡ true) (sym (same_path-is q p k)) (covers-refl p)))) ∙ new_above q up
      | inr there ↦
          let in_t : is_some (t x) ≡ true = sym (ap (λ b. is_some (cond b n (t x))) there) ∙ h in
          elim (cases_Bool (same_path q p)) [
            | inl k ↦ absurd (both_ways _ (not-true _ (and_parts _ _ (and_parts _ _ can).0).1) (closed_from t has p x (subst (λ v. covers v x ≡ true) (same_path-is q p k) (and_parts _ _ ab).0) in_t))
            | inr k ↦ other n q k ∙ has.above q x ab in_t
          ]
    ];
  }

pub deleted_dirs : (t : TreeFunction) (p : Path) → HasDirs t → is_root p ≡ false → HasDirs (without t p)
deleted_dirs t [] has n = absurd (false≢true (sym n))
deleted_dirs t (y ∷ p) has n = record {
  root = has.root;
  above = λ q x ab h. elim (cases_Bool (covers (y ∷ p) x)) [
    | inl w ↦ absurd (both_ways _ (away t (y ∷ p) x w) h)
    | inr out ↦
        ap (λ b. is_dir_node (cond b None (t q))) (false_from_ne_true _ (λ w. both_ways _ out (covers-trans (y ∷ p) q x w (and_parts _ _ ab).0)))
        ∙ has.above q x ab (sym (left t (y ∷ p) x out) ∙ h)
  ];
}

copied_dir : (r : ℕ) (f : Path) (o : Option Node) → is_dir_node (copied_node r f o) ≡ is_dir_node o
copied_dir r f None = refl
copied_dir r f (Some n) = refl

covers_back : (f a b : Path) → covers (f ++ a) (f ++ b) ≡ true → covers a b ≡ true
covers_back [] a b h = h
covers_back (x ∷ f) a b h = covers_back f a b (and_parts _ _ h).1

covers_joined : (to q x : Path) → covers to q ≡ true → covers to x ≡ true → covers (rest_after to q) (rest_after to x) ≡ true → covers q x ≡ true
covers_joined [] q x h k r = r
covers_joined (w ∷ to) [] x h k r = absurd (false≢true h)
covers_joined (w ∷ to) (y ∷ q) [] h k r = absurd (false≢true k)
covers_joined (w ∷ to) (y ∷ q) (z ∷ x) h k r =
    let wy : w ≡ y = same_name-is w y (and_parts _ _ h).0 in
    let wz : w ≡ z = same_name-is w z (and_parts _ _ k).0 in
    and_from _ _ (subst (λ v. same_name y v ≡ true) (sym wy ∙ wz) (same_name-refl y)) (covers_joined to q x (and_parts _ _ h).1 (and_parts _ _ k).1 r)

module _ (t : TreeFunction) (r : ℕ) (of : TreeFunction) (from to : Path) (has : HasDirs t) (dirs : HasDirs of) (can : can_make t to ≡ true) where
  under : (q : Path) → covers to q ≡ true → is_dir_node (with_copy t r of from to q) ≡ is_dir_node (of (from ++ rest_after to q))
  under q h = ap (λ b. is_dir_node (cond b (copied_node r (from ++ rest_after to q) (of (from ++ rest_after to q))) (t q))) h ∙ copied_dir r _ (of (from ++ rest_after to q))

  there : (q : Path) → covers to q ≡ true → is_some (with_copy t r of from to q) ≡ is_some (of (from ++ rest_after to q))
  there q h = ap (λ b. is_some (cond b (copied_node r (from ++ rest_after to q) (of (from ++ rest_after to q))) (t q))) h ∙ copied_some r _ (of (from ++ rest_after to q))

  beside : (q : Path) → covers to q ≡ false → is_dir_node (with_copy t r of from to q) ≡ is_dir_node (t q)
  beside q h = ap (λ b. is_dir_node (cond b (copied_node r (from ++ rest_after to q) (of (from ++ rest_after to q))) (t q))) h

  outside : (q : Path) → covers to q ≡ false → is_some (with_copy t r of from to q) ≡ is_some (t q)
  outside q h = ap (λ b. is_some (cond b (copied_node r (from ++ rest_after to q) (of (from ++ rest_after to q))) (t q))) h

  pub copied_dirs : HasDirs (with_copy t r of from to)
  copied_dirs = record {
    root = beside [] (top to (not-true _ (and_parts _ _ (and_parts _ _ can).0).0)) ∙ has.root;
    above = λ q x ab h. elim (cases_Bool (covers to x)) [
      | inr out ↦ beside q (false_from_ne_true _ (λ w. both_ways _ out (covers-trans to q x w (and_parts _ _ ab).0))) ∙ has.above q x ab (sym (outside x out) ∙ h)
      | inl w ↦ elim (cases_Bool (covers to q)) [
        | inl v ↦ under q v ∙ dirs.above (from ++ rest_after to q) (from ++ rest_after to x) (and_from _ _
            (covers_front from _ _ (covers_rest to q x v (and_parts _ _ ab).0))
            (ap not (false_from_ne_true _ (λ k. both_ways _ (not-true _ (and_parts _ _ ab).1) (covers_joined to x q w v (covers_back from _ _ k))))))
            (sym (there x w) ∙ h)
        | inr v ↦ beside q v ∙ new_above t to has can q (and_from _ _ (up q x (and_parts _ _ ab).0 w v) (ap not v))
      ]
    ];
  }
    where
      top : (p : Path) → is_root p ≡ false → covers p [] ≡ false
      top [] h = absurd (false≢true (sym h))
      top (y ∷ p) h = refl

      up : (q x : Path) → covers q x ≡ true → covers to x ≡ true → covers to q ≡ false → covers q to ≡ true
      up q x k w v = elim (covers-either q to x k w) [ inl y ↦ y | inr y ↦ absurd (both_ways _ v y) ]

-- a node that is changed in its place
pub placed_dirs : (t : TreeFunction) (p : Path) (o : Option Node) → is_dir_node o ≡ is_dir_node (t p) → is_some o ≡ is_some (t p) → HasDirs t → HasDirs (with_node t p o)
placed_dirs t p o d s has = record {
  root = dir [] ∙ has.root;
  above = λ q x ab h. dir q ∙ has.above q x ab (sym (some x) ∙ h);
}
  where
    dir : (q : Path) → is_dir_node (with_node t p o q) ≡ is_dir_node (t q)
    dir q = elim (cases_Bool (same_path q p)) [
      | inl w ↦ ap (λ b. is_dir_node (cond b o (t q))) w ∙ d ∙ ap (λ v. is_dir_node (t v)) (sym (same_path-is q p w))
      | inr w ↦ ap (λ b. is_dir_node (cond b o (t q))) w
    ]

    some : (q : Path) → is_some (with_node t p o q) ≡ is_some (t q)
    some q = elim (cases_Bool (same_path q p)) [
      | inl w ↦ ap (λ b. is_some (cond b o (t q))) w ∙ s ∙ ap (λ v. is_some (t v)) (sym (same_path-is q p w))
      | inr w ↦ ap (λ b. is_some (cond b o (t q))) w
    ]

text_dir : (text : List ℕ) (o : Option Node) → is_dir_node (with_text text o) ≡ is_dir_node o
text_dir text None = refl
text_dir text (Some n) = refl

prop_dir : (name : List ℕ) (value : Option (List ℕ)) (o : Option Node) → is_dir_node (with_prop name value o) ≡ is_dir_node o
prop_dir name value None = refl
prop_dir name value (Some n) = refl

pub edit_dirs : (edit : Edit) (tree : ℕ → TreeFunction) (last : ℕ) (t : TreeFunction) → HasDirs t → ((r : ℕ) → r ≤ last → HasDirs (tree r)) → accepts edit tree last t ≡ true → HasDirs (applied edit tree t)
edit_dirs (MakeDir path) tree last t has dirs h = made_dirs t path has h (Some (empty_node Dir))
edit_dirs (MakeFile path) tree last t has dirs h = made_dirs t path has h (Some (empty_node File))
edit_dirs (Delete path) tree last t has dirs h = deleted_dirs t path has (not-true _ (and_parts _ _ h).0)
edit_dirs (Copy rev from to) tree last t has dirs h = copied_dirs t rev (tree rev) from to has (dirs rev (leb-true rev last (and_parts _ _ (and_parts _ _ h).0).1)) (and_parts _ _ (and_parts _ _ h).0).0
edit_dirs (PutText path text) tree last t has dirs h = placed_dirs t path (with_text text.items (t path)) (text_dir text.items (t path)) (with_text_some text.items (t path)) has
edit_dirs (SetProp path name value) tree last t has dirs h = placed_dirs t path (with_prop name (bytes_of value) (t path)) (prop_dir name (bytes_of value) (t path)) (with_prop_some name (bytes_of value) (t path)) has
