-- A text that no outer mark rewrites is the base's.
use Rattle.std.proofs.Common.{◌≡◌, ◌⊎◌, ℕ, cond, Bool, true, false, List, [], ◌∷◌, ◌++◌, refl, sym, ap, subst, ◌∙◌, inl, inr, Option, Some, None}
use Rattle.std.specs.Prelude.{is_some}
use mathlib.Core.Bool.{false≢true}
use Rattle.fsfs_model.specs.declared.flat.edit.Edit.{Edit}
use Rattle.fsfs_model.specs.declared.flat.edit.Edit.TheVariants.{MakeDir, MakeFile, Delete, Copy, PutText, SetProp}
use Rattle.fsfs_base.specs.declared.kind.Kind.TheVariants.{File, Dir}
use Rattle.fsfs_model.specs.declared.flat.mark.What.{What}
use Rattle.fsfs_model.specs.declared.flat.mark.What.TheVariants.{Make, Gone, Text, Prop}
use Rattle.fsfs_model.specs.declared.flat.mark.Mark.{Mark}
use Rattle.fsfs_base.specs.Paths.{Path, covers, same_path}
use Rattle.fsfs_tree.specs.Nodes.{Node, TreeFunction, empty_node}
use Rattle.fsfs_model.specs.Flat.Marks.{outer, made, effects, any_covers, is_rewritten}
use Rattle.fsfs_model.specs.Flat.Edits.{accepts, applied, mark_of, can_make, with_text, with_prop, bytes_of, copied_node, rest_after}
use Rattle.fsfs_tree.specs.Histories.{AreRevisions}
use Rattle.fsfs_model.specs.Flat.Transactions.{IsTransaction, Begun, Edited, Landed}
use Rattle.fsfs_model.proofs.Bases.{IsClosed, DescribesBase}
use Rattle.fsfs_model.proofs.Tests.{found, found_in}
use Rattle.fsfs_base.proofs.PathLemmas.{covers-refl, same_path-is}
use Rattle.fsfs_model.proofs.MergeWalk.{gone_down, region}
use Rattle.fsfs_model.proofs.Owns.{in_outer, new_outer, gone_stays}
use Rattle.fsfs_model.proofs.LandedAt.{lacks}
use Rattle.fsfs_model.proofs.Origins.{Origin, Head, Changed, Own, origin}
use Rattle.fsfs_model.proofs.Contents.{KeepsContent}
use Rattle.fsfs_model.proofs.TwoMergesLaw.{premises}
use Rattle.fsfs_model.proofs.NextHistory.{whole}
use Rattle.fsfs_merge.specs.Laws.{KeepsTexts}
use Rattle.std.proofs.lemmas.Bool.{and_from, and_parts, both_ways, cases_Bool, false_from_ne_true, not-true}
use Rattle.fsfs_draft.proofs.HangLaw.{some_same}

rewrites : (k : What) (p : Path) → (k ≡ Text) ⊎ (k ≡ Prop) → is_rewritten k p p ≡ true
rewrites Text p w = and_from _ _ (covers-refl p) (covers-refl p)
rewrites Prop p w = and_from _ _ (covers-refl p) (covers-refl p)
rewrites (Make src) p (inl e) = absurd cc
rewrites (Make src) p (inr e) = absurd cc
rewrites Gone p (inl e) = absurd cc
rewrites Gone p (inr e) = absurd cc

module _ (base t u : TreeFunction) (marks : List Mark) (m : Mark) (cb : IsClosed base) (ct : IsClosed t) (is : DescribesBase base t marks) (keeps : KeepsContent base t marks) (texts : KeepsTexts base t marks) where
  abbrev after : List Mark
  after = marks ++ m ∷ []

  deleted_was : (p : Path) → (effects after p).deleted ≡ false → (effects marks p).deleted ≡ false
  deleted_was p h = false_from_ne_true _ (λ k. both_ways _ h (gone_stays base t u marks m cb ct is p k))

  rewritten_was : (p : Path) → (effects after p).rewritten ≡ false → (effects marks p).rewritten ≡ false
  rewritten_was p h = false_from_ne_true _ (λ k.
      let f = found (λ x. is_rewritten x.what x.path p) (outer marks) k in
      both_ways _ h (found_in (λ x. is_rewritten x.what x.path p) (outer after) f.0 (in_outer base t u marks m cb ct is f.0 f.1) f.2))

  not_made : (p : Path) (n : Node) → base p ≡ Some n → (effects marks p).deleted ≡ false → any_covers (made marks) p ≡ false
  not_made p n e del = false_from_ne_true _ (λ h. let f = found (λ v. covers v p) (made marks) h in elim (is.new f.0 f.1) [
    | inl none ↦ both_ways _ none (cb f.0 p f.2 (ap is_some e))
    | inr g ↦ both_ways _ del (gone_down marks f.0 p f.2 g)
  ])

  -- what the edit left as it was
  as_was : (p : Path) (x y : Node) → base p ≡ Some x → u p ≡ Some y → (effects after p).deleted ≡ false → (effects after p).rewritten ≡ false → u p ≡ t p → y.text ≡ x.text
  as_was p x y e f del re same = texts p x y e (sym same ∙ f) (deleted_was p del) (rewritten_was p re)

  -- what it put or took away is not the base's
  pub outside : ((p : Path) → covers m.path p ≡ false → u p ≡ t p) → ((p : Path) → covers m.path p ≡ true → is_some (u p) ≡ true → is_some (t p) ≡ false) → KeepsTexts base u after
  outside out new p x y e f del re = elim (cases_Bool (covers m.path p)) [
    | inr beside ↦ as_was p x y e f del re (out p beside)
    | inl below ↦ (let k = keeps.same p x e (deleted_was p del) in absurd (both_ways _ (new p below (ap is_some f)) (ap is_some k.1)))
  ]

  pub written : (m.what ≡ Text) ⊎ (m.what ≡ Prop) → ((p : Path) → same_path p m.path ≡ false → u p ≡ t p) → KeepsTexts base u after
  written what out p x y e f del re = elim (cases_Bool (same_path p m.path)) [
    | inr other ↦ as_was p x y e f del re (out p other)
    | inl here ↦
        let same = same_path-is p m.path here in
        let outermost : any_covers (made marks) m.path ≡ false = subst (λ (v : Path). any_covers (made marks) v ≡ false) same (not_made p x e (deleted_was p del)) in
        let sets : is_rewritten m.what m.path p ≡ true = subst (λ (v : Path). is_rewritten m.what m.path v ≡ true) (sym same) (rewrites m.what m.path what) in
        absurd (both_ways _ re (found_in (λ v. is_rewritten v.what v.path p) (outer after) m (new_outer base t u marks m cb ct is outermost) sets))
  ]

-- nothing stands where something can be made, nor below
free : (t : TreeFunction) (path : Path) → IsClosed t → can_make t path ≡ true → (p : Path) → covers path p ≡ true → is_some (t p) ≡ false
free t path c h p k = false_from_ne_true _ (λ s. both_ways _ (not-true _ ((and_parts _ _ ((and_parts _ _ h).0)).1)) (c path p k s))

same_out : (p path : Path) → covers path p ≡ false → same_path p path ≡ false
same_out p path h = false_from_ne_true _ (λ k. both_ways _ h (subst (λ (v : Path). covers path v ≡ true) (sym (same_path-is p path k)) (covers-refl path)))

module _ (tree : ℕ → TreeFunction) (last : ℕ) (base t : TreeFunction) (marks : List Mark) (cb : IsClosed base) (ct : IsClosed t) (is : DescribesBase base t marks) (keeps : KeepsContent base t marks) (texts : KeepsTexts base t marks) where
  edited : (edit : Edit) → accepts edit tree last t ≡ true → KeepsTexts base (applied edit tree t) (marks ++ mark_of edit tree t ∷ [])
  edited (MakeDir path) h = outside base t (applied (MakeDir path) tree t) marks (mark_of (MakeDir path) tree t) cb ct is keeps texts
      (λ p out. ap (λ (b : Bool). cond b (Some (empty_node Dir)) (t p)) (same_out p path out)) (λ p k s. free t path ct h p k)
  edited (MakeFile path) h = outside base t (applied (MakeFile path) tree t) marks (mark_of (MakeFile path) tree t) cb ct is keeps texts
      (λ p out. ap (λ (b : Bool). cond b (Some (empty_node File)) (t p)) (same_out p path out)) (λ p k s. free t path ct h p k)
  edited (Delete path) h = outside base t (applied (Delete path) tree t) marks (mark_of (Delete path) tree t) cb ct is keeps texts
      (λ p out. ap (λ (b : Bool). cond b None (t p)) out) (λ p k s. absurd (false≢true (sym (ap (λ (b : Bool). is_some (cond b None (t p))) k) ∙ s)))
  edited (Copy rev from to) h = outside base t (applied (Copy rev from to) tree t) marks (mark_of (Copy rev from to) tree t) cb ct is keeps texts
      (λ p out. ap (λ (b : Bool). cond b (copied_node rev (from ++ rest_after to p) (tree rev (from ++ rest_after to p))) (t p)) out) (λ p k s. free t to ct ((and_parts _ _ ((and_parts _ _ h).0)).0) p k)
  edited (PutText path text) h = written base t (applied (PutText path text) tree t) marks (mark_of (PutText path text) tree t) cb ct is keeps texts (inl refl)
      (λ p out. ap (λ (b : Bool). cond b (with_text text.items (t path)) (t p)) out)
  edited (SetProp path name value) h = written base t (applied (SetProp path name value) tree t) marks (mark_of (SetProp path name value) tree t) cb ct is keeps texts (inr refl)
      (λ p out. ap (λ (b : Bool). cond b (with_prop name (bytes_of value) (t path)) (t p)) out)

pub keeps_texts : (tree : ℕ → TreeFunction) (last b : ℕ) (t : TreeFunction) (marks : List Mark) → AreRevisions tree last → IsTransaction tree last b t marks → KeepsTexts (tree b) t marks
keeps_texts tree last _ _ _ is (Begun b le) = λ p m n e f del re. ap (λ (x : Node). x.text) (some_same (tree b p) n m f e)
keeps_texts tree last _ _ _ is (Edited b t before edit was h) =
    let w = whole tree last b t before is was in
    let base = whole tree last b (tree b) [] is (Begun b w.sound.known) in
    edited tree last (tree b) t before base.sound.closed w.sound.closed w.sound.own w.keeps (keeps_texts tree last b t before is was) edit h
keeps_texts tree last _ _ _ is (Landed b h n t marks was le ge clear) =
    let w = whole tree last b t marks is was in
    let pre = premises tree last b h t marks is w.sound le ge clear in
    λ p m y e f del re. by p m y e del re (region b (tree b) (tree h) t marks pre p) (origin n (effects marks p) (tree b p) (tree h p) (t p) y f)
  where
    by : (p : Path) (m y : Node) → tree h p ≡ Some m → (effects marks p).deleted ≡ false → (effects marks p).rewritten ≡ false → Rattle.fsfs_model.proofs.TwiceAt.Region (effects marks p) (tree b p) (tree h p) (t p) → Origin n (effects marks p) (tree b p) (tree h p) (t p) y → y.text ≡ m.text
    by p m y e del re at (Head x f alt k) = k.text ∙ ap (λ (z : Node). z.text) (some_same (tree h p) x m f e)
    by p m y e del re at (Changed x f a g r k) = absurd (both_ways _ re r)
    by p m y e del re at (Own x f (inr g) p1 p2 p3 k) = absurd (both_ways _ del g)
    by p m y e del re at (Own x f (inl none) p1 p2 p3 k) = absurd (elim (lacks (effects marks p) (tree b p) (tree h p) (t p) at none (ap is_some f)) [
      | inl gone ↦ both_ways _ gone (ap is_some e)
      | inr g ↦ both_ways _ del g
    ])
