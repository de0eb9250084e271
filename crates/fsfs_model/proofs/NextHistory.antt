-- The revision that a committed transaction adds follows those before it.
use Rattle.std.proofs.Common.{◌≡◌, ℕ, zero, suc, ◌+◌, ◌-◌, ◌<◌, ◌≤◌, true, false, cond, List, [], ◌∷◌, ◌++◌, refl, sym, ◌∙◌, ap, subst, inl, inr, Option, Some, None, arith}
use Rattle.std.proofs.lemmas.Option.{same_Some, none-some}
use Rattle.std.specs.Prelude.{is_some}
use mathlib.Core.Bool.{false≢true}
use Rattle.std.proofs.lemmas.Bool.{leb-true, cases_Bool, false_from_ne_true, and_parts, both_ways, not-true}
use Rattle.fsfs_model.specs.declared.flat.mark.Mark.{Mark}
use Rattle.fsfs_model.specs.declared.flat.edit.Edit.{Edit}
use Rattle.fsfs_model.specs.declared.flat.edit.Edit.TheVariants.{MakeDir, MakeFile, Delete, Copy, PutText, SetProp}
use Rattle.fsfs_model.specs.declared.flat.mark.What.TheVariants.{Gone, Text, Prop}
use Rattle.fsfs_base.specs.declared.kind.Kind.{Kind}
use Rattle.fsfs_base.specs.declared.kind.Kind.TheVariants.{File, Dir}
use Rattle.fsfs_base.specs.Paths.{Path, covers, is_above, is_root, same_path}
use Rattle.fsfs_tree.specs.Nodes.{Node, TreeFunction, empty_node, Bytes}
use Rattle.fsfs_model.specs.Flat.Marks.{effects}
use Rattle.fsfs_model.specs.Flat.Edits.{accepts, applied, mark_of, with_node, copied_node, with_text, with_prop, bytes_of, rest_after, is_dir_node, changed_props}
use Rattle.fsfs_model.specs.Flat.Landing.{land, NoClash}
use Rattle.fsfs_tree.specs.Histories.{IsRevision, AreRevisions}
use Rattle.fsfs_tree.specs.Trees.{IsOrdered}
use Rattle.fsfs_model.specs.Flat.Transactions.{IsTransaction, Begun, Edited, Landed}
use Rattle.fsfs_base.proofs.PathLemmas.{covers-refl, same_path-is, same_path-refl}
use Rattle.fsfs_model.proofs.Bases.{IsClosed, DescribesBase}
use Rattle.fsfs_model.proofs.Applied.{away, free, edit_changes}
use Rattle.fsfs_model.proofs.MergeWalk.{Premises}
use Rattle.fsfs_model.proofs.TwoMergesLaw.{IsSound, sound, premises, ordered, rooted}
use Rattle.fsfs_model.proofs.Directories.{HasDirs, dirs_from, tree_from, closed_from, edit_dirs}
use Rattle.fsfs_model.proofs.Contents.{KeepsContent, IsKept, kept_all, put_content, taken_content, changed_content, gone_back}
use Rattle.fsfs_model.proofs.Origins.{Origin, Head, Changed, Own, origin}
use Rattle.fsfs_model.proofs.LandedContents.{landed_content, landed_dirs, changed_node, there}
use Rattle.fsfs_model.proofs.ShapeAt.{Shape, Fresh, From, pick, shape, since_touched, held}
use Rattle.fsfs_model.proofs.Next.{next_ordered, next_at_most, next_since, next_taken, next_below_since, next_below_added}

-- each source of a node is of a revision up to last, and stands there
abbrev pub SourcesStand : (ℕ → TreeFunction) → ℕ → TreeFunction → Type 0
SourcesStand tree last t = (p : Path) (x : Node) (from : ℕ) (f : Path) → t p ≡ Some x → x.source ≡ Some (from, f) → (from ≤ last) × (is_some (tree from f) ≡ true)

first_node : (tree : ℕ → TreeFunction) (last : ℕ) → AreRevisions tree last → (p : Path) (x : Node) → tree 0 p ≡ Some x → x ≡ empty_node Dir
first_node tree last is [] x e = same_Some x (empty_node Dir) (sym e ∙ is.first)
first_node tree last is (y ∷ p) x e = absurd (none-some x (sym (is.alone y p) ∙ e))

first_dirs : (tree : ℕ → TreeFunction) (last : ℕ) → AreRevisions tree last → HasDirs (tree 0)
first_dirs tree last is = record { root = top; above = up }
  where
    top : is_dir_node (tree 0 []) ≡ true
    top = ap is_dir_node is.first

    up : (q p : Path) → is_above q p ≡ true → is_some (tree 0 p) ≡ true → is_dir_node (tree 0 q) ≡ true
    up [] p ab h = top
    up (x ∷ q) [] ab h = absurd (false≢true ab)
    up (x ∷ q) (y ∷ p) ab h = absurd (both_ways _ (ap is_some (is.alone y p)) h)

dirs : (tree : ℕ → TreeFunction) (last r : ℕ) → AreRevisions tree last → r ≤ last → HasDirs (tree r)
dirs tree last zero is le = first_dirs tree last is
dirs tree last (suc r) is le = dirs_from (tree (suc r)) (is.next r (omega arith)).is_tree

-- a source is of a revision before the one in which the node was added
pub source_before : (tree : ℕ → TreeFunction) (last r : ℕ) → AreRevisions tree last → r ≤ last → (p : Path) (x : Node) (from : ℕ) (f : Path) → tree r p ≡ Some x → x.source ≡ Some (from, f)
    → (from < x.added) × (is_some (tree from f) ≡ true)
source_before tree last zero is le p x from f e h = absurd (none-some (from, f) (sym (ap (λ v. v.source) (first_node tree last is p x e)) ∙ h))
source_before tree last (suc r) is le p x from f e h = (is.next r (omega arith)).source p f x from e h

pub at_most : (tree : ℕ → TreeFunction) (last r : ℕ) → AreRevisions tree last → r ≤ last → (p : Path) (x : Node) → tree r p ≡ Some x → x.last_changed ≤ r
at_most tree last zero is le p x e = let k = ap (λ v. v.last_changed) (first_node tree last is p x e) in omega (arith, k)
at_most tree last (suc r) is le p x e = (is.next r (omega arith)).at_most p x e

below : (tree : ℕ → TreeFunction) (last r : ℕ) → AreRevisions tree last → r ≤ last → (q x : Path) (m n : Node) → is_above q x ≡ true → tree r q ≡ Some m → tree r x ≡ Some n → (m.added ≤ n.added) × (n.last_changed ≤ m.last_changed)
below tree last zero is le q x m n ab e f =
    let one = first_node tree last is q m e in
    let two = first_node tree last is x n f in
    let b1 = ap (λ v. v.added) one in let b2 = ap (λ v. v.added) two in
    let c1 = ap (λ v. v.last_changed) one in let c2 = ap (λ v. v.last_changed) two in
    (omega (arith, b1, b2), omega (arith, c1, c2))
below tree last (suc r) is le q x m n ab e f = (is.next r (omega arith)).below q x m n ab e f

sources : (tree : ℕ → TreeFunction) (last r : ℕ) → AreRevisions tree last → r ≤ last → SourcesStand tree last (tree r)
sources tree last r is le p x from f e h =
    let b = source_before tree last r is le p x from f e h in
    let m = at_most tree last r is le p x e in
    let o = ordered tree last r is le p x e in
    (omega (arith, b.0, m, o.added, o.props_changed), b.1)

-- ---- edits

out_node : (t : TreeFunction) (p : Path) (o : Option Node) (q : Path) → covers p q ≡ false → with_node t p o q ≡ t q
out_node t p o q h = ap (λ b. cond b o (t q)) (false_from_ne_true _ (λ k. both_ways _ h (subst (λ v. covers p v ≡ true) (sym (same_path-is q p k)) (covers-refl p))))

beside : (t : TreeFunction) (p : Path) (o : Option Node) (q : Path) → same_path q p ≡ false → with_node t p o q ≡ t q
beside t p o q h = ap (λ b. cond b o (t q)) h

at_path : (t : TreeFunction) (p : Path) (o : Option Node) → with_node t p o p ≡ o
at_path t p o = ap (λ b. cond b o (t p)) (same_path-refl p)

module _ (tree : ℕ → TreeFunction) (last : ℕ) (base t : TreeFunction) (marks : List Mark) (cb : IsClosed base) (ct : IsClosed t) (is : DescribesBase base t marks) (keeps : KeepsContent base t marks) (co : (r : ℕ) → r ≤ last → IsClosed (tree r)) where
  edit_content : (edit : Edit) → accepts edit tree last t ≡ true → KeepsContent base (applied edit tree t) (marks ++ mark_of edit tree t ∷ [])
  edit_content (MakeDir path) h = put_content base t (applied (MakeDir path) tree t) marks (mark_of (MakeDir path) tree t) cb ct is keeps refl (free t path ct h) (out_node t path (Some (empty_node Dir)))
  edit_content (MakeFile path) h = put_content base t (applied (MakeFile path) tree t) marks (mark_of (MakeFile path) tree t) cb ct is keeps refl (free t path ct h) (out_node t path (Some (empty_node File)))
  edit_content (Delete path) h = taken_content base t (applied (Delete path) tree t) marks (mark_of (Delete path) tree t) cb ct is keeps refl (away t path) (λ q out. ap (λ b. cond b None (t q)) out)
  edit_content (Copy rev from to) h = put_content base t (applied (Copy rev from to) tree t) marks (mark_of (Copy rev from to) tree t) cb ct is keeps refl (free t to ct (and_parts _ _ (and_parts _ _ h).0).0)
      (λ q out. ap (λ b. cond b (copied_node rev (from ++ rest_after to q) (tree rev (from ++ rest_after to q))) (t q)) out)
  edit_content (PutText path text) h = changed_content base t (applied (PutText path text) tree t) marks (mark_of (PutText path text) tree t) cb ct is keeps (inl refl) (λ e. h) (beside t path (with_text text.items (t path)))
      (λ x e. (record x { text = Bytes text.items }, at_path t path (with_text text.items (t path)) ∙ ap (with_text text.items) e, refl, refl, inr refl))
      (edit_changes (PutText path text) tree last t ct co h).0.1
  edit_content (SetProp path name value) h = changed_content base t (applied (SetProp path name value) tree t) marks (mark_of (SetProp path name value) tree t) cb ct is keeps (inr refl) (λ e. absurd (prop_text e)) (beside t path (with_prop name (bytes_of value) (t path)))
      (λ x e. (record x { properties = changed_props name (bytes_of value) x.properties }, at_path t path (with_prop name (bytes_of value) (t path)) ∙ ap (with_prop name (bytes_of value)) e, refl, refl, inl refl))
      (edit_changes (SetProp path name value) tree last t ct co h).0.1
    where
      prop_text : Prop ≡ Text → ⊥
      prop_text e = cc

module _ (tree : ℕ → TreeFunction) (last : ℕ) (t : TreeFunction) (known : SourcesStand tree last t) where
  placed_sources : (p : Path) (o : Option Node) → ((x : Node) (from : ℕ) (f : Path) → o ≡ Some x → x.source ≡ Some (from, f) → (from ≤ last) × (is_some (tree from f) ≡ true)) → SourcesStand tree last (with_node t p o)
  placed_sources p o new q x from f e h = elim (cases_Bool (same_path q p)) [
    | inl here ↦ new x from f (sym (ap (λ b. cond b o (t q)) here) ∙ e) h
    | inr other ↦ known q x from f (sym (ap (λ b. cond b o (t q)) other) ∙ e) h
  ]

  no_source : (k : Kind) (x : Node) (from : ℕ) (f : Path) → Some (empty_node k) ≡ Some x → x.source ≡ Some (from, f) → (from ≤ last) × (is_some (tree from f) ≡ true)
  no_source k x from f e h = absurd (none-some (from, f) (ap (λ v. v.source) (same_Some (empty_node k) x e) ∙ h))

  changed_source : (o u : Option Node) → ((n : Node) → o ≡ Some n → (y : Node) × (u ≡ Some y) × (y.source ≡ n.source)) → (o ≡ None → u ≡ None) → (x : Node) → u ≡ Some x → (n : Node) × (o ≡ Some n) × (x.source ≡ n.source)
  changed_source None u some none x e = absurd (none-some x (sym (none refl) ∙ e))
  changed_source (Some n) u some none x e = let y = some n refl in (n, refl, ap (λ v. v.source) (same_Some x y.0 (sym e ∙ y.1)) ∙ y.2)

  edit_sources : (edit : Edit) → accepts edit tree last t ≡ true → SourcesStand tree last (applied edit tree t)
  edit_sources (MakeDir path) h = placed_sources path (Some (empty_node Dir)) (no_source Dir)
  edit_sources (MakeFile path) h = placed_sources path (Some (empty_node File)) (no_source File)
  edit_sources (Delete path) h = λ q x from f e k. elim (cases_Bool (covers path q)) [
    | inl w ↦ absurd (both_ways _ (away t path q w) (ap is_some e))
    | inr w ↦ known q x from f (sym (ap (λ b. cond b None (t q)) w) ∙ e) k
  ]
  edit_sources (Copy rev from to) h = λ q x r f e k. elim (cases_Bool (covers to q)) [
    | inr w ↦ known q x r f (sym (ap (λ b. cond b (copied_node rev (from ++ rest_after to q) (tree rev (from ++ rest_after to q))) (t q)) w) ∙ e) k
    | inl w ↦ copied q x r f (tree rev (from ++ rest_after to q)) refl (sym (ap (λ b. cond b (copied_node rev (from ++ rest_after to q) (tree rev (from ++ rest_after to q))) (t q)) w) ∙ e) k
  ]
    where
      copied : (q : Path) (x : Node) (r : ℕ) (f : Path) (o : Option Node) → tree rev (from ++ rest_after to q) ≡ o → copied_node rev (from ++ rest_after to q) o ≡ Some x → x.source ≡ Some (r, f) → (r ≤ last) × (is_some (tree r f) ≡ true)
      copied q x r f None at e k = absurd (none-some _ e)
      copied q x r f (Some n) at e k =
          let same : (rev, from ++ rest_after to q) ≡ (r, f) = some_pair _ _ (ap (λ v. v.source) (same_Some _ x e) ∙ k) in
          (subst (λ v. v.0 ≤ last) same (leb-true rev last (and_parts _ _ (and_parts _ _ h).0).1), subst (λ v. is_some (tree v.0 v.1) ≡ true) same (ap is_some at))
        where
          some_pair : (x y : ℕ × Path) → Some x ≡ Some y → x ≡ y
          some_pair x y e = cc
  edit_sources (PutText path text) h = placed_sources path (with_text text.items (t path)) (λ x from f e k.
      let n = changed_source (t path) (with_text text.items (t path)) (λ n e. (record n { text = Bytes text.items }, ap (with_text text.items) e, refl)) (ap (with_text text.items)) x e in
      known path n.0 from f n.1 (sym n.2 ∙ k))
  edit_sources (SetProp path name value) h = placed_sources path (with_prop name (bytes_of value) (t path)) (λ x from f e k.
      let n = changed_source (t path) (with_prop name (bytes_of value) (t path)) (λ n e. (record n { properties = changed_props name (bytes_of value) n.properties }, ap (with_prop name (bytes_of value)) e, refl)) (ap (with_prop name (bytes_of value))) x e in
      known path n.0 from f n.1 (sym n.2 ∙ k))

module _ (base t u : TreeFunction) (marks : List Mark) (m : Mark) (cb : IsClosed base) (ct : IsClosed t) (is : DescribesBase base t marks) (keeps : KeepsContent base t marks) where
  root_stays : (m.what ≡ Gone → is_root m.path ≡ false) → (effects marks []).deleted ≡ false → (effects (marks ++ m ∷ []) []).deleted ≡ false
  root_stays not_root old = false_from_ne_true _ (λ k. both_ways _ old (gone_back base t u marks m cb ct is keeps [] (λ e c. by m.path (not_root e) c) k))
    where
      by : (p : Path) → is_root p ≡ false → covers p [] ≡ true → ⊥
      by [] n c = false≢true (sym n)
      by (x ∷ p) n c = false≢true c

gone_only : (edit : Edit) (tree : ℕ → TreeFunction) (last : ℕ) (t : TreeFunction) → accepts edit tree last t ≡ true → (mark_of edit tree t).what ≡ Gone → is_root (mark_of edit tree t).path ≡ false
gone_only (MakeDir path) tree last t h e = cc
gone_only (MakeFile path) tree last t h e = cc
gone_only (Delete path) tree last t h e = not-true _ (and_parts _ _ h).0
gone_only (Copy rev from to) tree last t h e = cc
gone_only (PutText path text) tree last t h e = cc
gone_only (SetProp path name value) tree last t h e = cc

-- ---- landings

pub landed_sources : (tree : ℕ → TreeFunction) (last : ℕ) (a s t : TreeFunction) (marks : List Mark) (n : ℕ) → SourcesStand tree last s → SourcesStand tree last t → SourcesStand tree last (land a s t marks n)
landed_sources tree last a s t marks n head own p y from f e h = by (origin n (effects marks p) (a p) (s p) (t p) y e)
  where
    by : Origin n (effects marks p) (a p) (s p) (t p) y → (from ≤ last) × (is_some (tree from f) ≡ true)
    by (Head x g alt k) = head p x from f g (sym k.source ∙ h)
    by (Changed x g in_a del re k) = own p x from f g (sym k.source ∙ h)
    by (Own x g alt b r c k) = own p x from f g (sym k.source ∙ h)

-- what holds of each transaction besides
pub record IsWhole (tree : ℕ → TreeFunction) (last b : ℕ) (t : TreeFunction) (marks : List Mark) : Type 0 where
  pub sound : IsSound tree last b t marks
  pub dirs : HasDirs t
  pub keeps : KeepsContent (tree b) t marks
  pub sources : SourcesStand tree last t
  pub root : (effects marks []).deleted ≡ false

closed : (tree : ℕ → TreeFunction) (last r : ℕ) → AreRevisions tree last → r ≤ last → IsClosed (tree r)
closed tree last r is le = closed_from (tree r) (dirs tree last r is le)

pub whole : (tree : ℕ → TreeFunction) (last b : ℕ) (t : TreeFunction) (marks : List Mark) → AreRevisions tree last → IsTransaction tree last b t marks → IsWhole tree last b t marks
whole tree last _ _ _ is (Begun b le) = record { sound = sound tree last b (tree b) [] is (Begun b le); dirs = dirs tree last b is le; keeps = kept_all (tree b); sources = sources tree last b is le; root = refl }
whole tree last _ _ _ is (Edited b t before edit was h) =
    let w = whole tree last b t before is was in
    record {
      sound = sound tree last b _ _ is (Edited b t before edit was h);
      dirs = edit_dirs edit tree last t w.dirs (λ r le. dirs tree last r is le) h;
      keeps = edit_content tree last (tree b) t before (closed tree last b is w.sound.known) w.sound.closed w.sound.own w.keeps (λ r le. closed tree last r is le) edit h;
      sources = edit_sources tree last t w.sources edit h;
      root = root_stays (tree b) t (applied edit tree t) before (mark_of edit tree t) (closed tree last b is w.sound.known) w.sound.closed w.sound.own w.keeps (gone_only edit tree last t h) w.root;
    }
whole tree last _ _ _ is (Landed b h n t marks was le ge clear) =
    let w = whole tree last b t marks is was in
    let pre = premises tree last b h t marks is w.sound le ge clear in
    record {
      sound = sound tree last h _ _ is (Landed b h n t marks was le ge clear);
      dirs = landed_dirs b (tree b) (tree h) t marks pre w.keeps n (dirs tree last h is ge) w.dirs;
      keeps = landed_content b (tree b) (tree h) t marks pre w.keeps n;
      sources = landed_sources tree last (tree b) (tree h) t marks n (sources tree last h is ge) w.sources;
      root = w.root;
    }

-- ---- the next revision

module _ (tree : ℕ → TreeFunction) (last b : ℕ) (t : TreeFunction) (marks : List Mark) (is : AreRevisions tree last) (was : IsTransaction tree last b t marks) (le : b ≤ last) (clear : NoClash b (tree b) (tree last) t marks) where
  w : IsWhole tree last b t marks
  w = whole tree last b t marks is was

  pre : Premises b (tree b) (tree last) t marks
  pre = premises tree last b last t marks is w.sound le (omega arith) clear

  abbrev pub new : TreeFunction
  new = land (tree b) (tree last) t marks (suc last)

  most : (p : Path) (v : Node) → tree last p ≡ Some v → v.last_changed ≤ last
  most = at_most tree last last is (omega arith)

  falls : (q x : Path) (m n : Node) → is_above q x ≡ true → tree last q ≡ Some m → tree last x ≡ Some n → (m.added ≤ n.added) × (n.last_changed ≤ m.last_changed)
  falls = below tree last last is (omega arith)

  form : (p : Path) (y : Node) → new p ≡ Some y → Shape (suc last) (effects marks p) (tree last p) y
  form p y e = shape (suc last) (effects marks p) (tree b p) (tree last p) (t p) y e

  numbers_in_order : (p : Path) (y : Node) → new p ≡ Some y → IsOrdered y
  numbers_in_order p y e = next_ordered last b (tree b) (tree last) t marks pre most falls p y e

  -- properties that were not set are the head's
  same_props : (p : Path) (v y : Node) → tree last p ≡ Some v → new p ≡ Some y → y.props_changed < suc last → ((effects marks p).props_changed ≡ false) × (v.props_changed ≡ y.props_changed)
  same_props p v y f e lt = by (form p y e)
    where
      by : Shape (suc last) (effects marks p) (tree last p) y → ((effects marks p).props_changed ≡ false) × (v.props_changed ≡ y.props_changed)
      by (Fresh x r z) = absurd (omega arith)
      by (From u g x r z) = elim (pick (effects marks p).props_changed (suc last) u.props_changed) [
        | inl k ↦ absurd (let y = k.1 in omega (arith, r, y, lt))
        | inr k ↦ (k.0, ap (λ n. n.props_changed) (same_Some v u (sym f ∙ g)) ∙ sym (r ∙ k.1))
      ]

  -- a node that was not added is the head's but for what was changed of it
  kept_node : (p : Path) (y : Node) → new p ≡ Some y → y.added < suc last → (v : Node) × (tree last p ≡ Some v) × IsKept (effects marks p) v y
  kept_node p y e lt = by (origin (suc last) (effects marks p) (tree b p) (tree last p) (t p) y e)
    where
      by : Origin (suc last) (effects marks p) (tree b p) (tree last p) (t p) y → (v : Node) × (tree last p ≡ Some v) × IsKept (effects marks p) v y
      by (Head x f alt k) = (x, f, record { kind = k.kind; source = k.source; properties = λ h. k.properties })
      by (Changed x f in_a del re k) =
          let c = changed_node b (tree b) (tree last) t marks pre w.keeps p x f in_a del re in
          (c.0, c.1, record { kind = k.kind ∙ c.2.kind; source = k.source ∙ c.2.source; properties = λ h. k.properties ∙ c.2.properties h })
      by (Own x f alt n r c k) = absurd (omega arith)

  next_added : (p : Path) (y : Node) → new p ≡ Some y → y.added < suc last → (v : Node) × (tree last p ≡ Some v) × (v.kind ≡ y.kind) × (v.added ≡ y.added) × (v.source ≡ y.source)
  next_added p y e lt = let k = kept_node p y e lt in (k.0, k.1, sym k.2.kind, by k.0 k.1 (form p y e), sym k.2.source)
    where
      by : (v : Node) → tree last p ≡ Some v → Shape (suc last) (effects marks p) (tree last p) y → v.added ≡ y.added
      by v f (Fresh x r z) = absurd (omega arith)
      by v f (From u g x r z) = ap (λ n. n.added) (same_Some v u (sym f ∙ g)) ∙ sym x

  next_props : (p : Path) (y : Node) → new p ≡ Some y → y.props_changed < suc last → (v : Node) × (tree last p ≡ Some v) × (v.properties ≡ y.properties) × (v.props_changed ≡ y.props_changed)
  next_props p y e lt =
      let o = numbers_in_order p y e in
      let k = kept_node p y e (omega (arith, o.added, lt)) in
      let n = same_props p k.0 y k.1 e lt in
      (k.0, k.1, sym (k.2.properties n.0), n.1)

  next_source : (p f : Path) (y : Node) (from : ℕ) → new p ≡ Some y → y.source ≡ Some (from, f) → (from < y.added) × (is_some (tree from f) ≡ true)
  next_source p f y from e h = by (origin (suc last) (effects marks p) (tree b p) (tree last p) (t p) y e)
    where
      of_head : (v : Node) → tree last p ≡ Some v → v.source ≡ Some (from, f) → (from < y.added) × (is_some (tree from f) ≡ true)
      of_head v g k =
          let s = source_before tree last last is (omega arith) p v from f g k in
          let o = ordered tree last last is (omega arith) p v g in
          let m = most p v g in
          (numbers v g s.0 o.added o.props_changed m (form p y e), s.1)
        where
          numbers : (v : Node) → tree last p ≡ Some v → from < v.added → v.added ≤ v.props_changed → v.props_changed ≤ v.last_changed → v.last_changed ≤ last → Shape (suc last) (effects marks p) (tree last p) y → from < y.added
          numbers v g lt o1 o2 m (Fresh x r z) = omega arith
          numbers v g lt o1 o2 m (From u k x r z) = let same = ap (λ n. n.added) (same_Some v u (sym g ∙ k)) in omega (arith, same, x, lt)

      by : Origin (suc last) (effects marks p) (tree b p) (tree last p) (t p) y → (from < y.added) × (is_some (tree from f) ≡ true)
      by (Head x g alt k) = of_head x g (sym k.source ∙ h)
      by (Changed x g in_a del re k) = let c = changed_node b (tree b) (tree last) t marks pre w.keeps p x g in_a del re in of_head c.0 c.1 (sym (k.source ∙ c.2.source) ∙ h)
      by (Own x g alt n r c k) = let s = w.sources p x from f g (sym k.source ∙ h) in (let le = s.0 in omega (arith, n, le), s.1)

  next_root : (y : Node) → new [] ≡ Some y → (y.added ≡ 0) × (y.last_changed ≡ suc last)
  next_root y e =
      let v = there (tree last []) (rooted tree last last is (omega arith)) in
      let k = held (suc last) (effects marks []) (tree b []) (tree last []) (t []) v.0 y v.1 e w.root (inl pre.rooted) in
      (k.0 ∙ root_added tree last last is (omega arith) v.0 v.1, since_touched (suc last) (effects marks []) (tree last []) y refl (form [] y e))
    where
      root_added : (tree : ℕ → TreeFunction) (last r : ℕ) → AreRevisions tree last → r ≤ last → (v : Node) → tree r [] ≡ Some v → v.added ≡ 0
      root_added tree last zero is le v e = ap (λ n. n.added) (first_node tree last is [] v e)
      root_added tree last (suc r) is le v e = ((is.next r (omega arith)).root v e).0

  -- what a commit adds is the next revision
  pub next_revision : IsRevision (suc last) tree (tree last) new
  next_revision = record {
    is_tree = tree_from new (landed_dirs b (tree b) (tree last) t marks pre w.keeps (suc last) (dirs tree last last is (omega arith)) w.dirs);
    root = next_root;
    ordered = numbers_in_order;
    at_most = next_at_most last b (tree b) (tree last) t marks pre most falls;
    below = λ q x m n ab e f. (next_below_added last b (tree b) (tree last) t marks pre most falls q x m n ab e f, next_below_since last b (tree b) (tree last) t marks pre most falls q x m n ab e f);
    last_changed = next_since last b (tree b) (tree last) t marks pre most falls;
    added = next_added;
    props_changed = next_props;
    taken = next_taken last b (tree b) (tree last) t marks pre most falls;
    source = next_source;
  }
