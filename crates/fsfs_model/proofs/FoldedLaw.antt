-- A folded change that is no delete stands in the tree, with its kind.
use Rattle.std.proofs.Common.{◌≡◌, ◌∙◌, ℕ, sym, ap, refl, subst, Some, None, Option, List, [], ◌∷◌, ◌++◌, Bool, true, false, ◌&&◌, cond, not, inl, inr, ◌⊎◌}
use Rattle.std.specs.Prelude.{is_some, nat_le, ◌≢◌}
use Rattle.std.proofs.lemmas.List.{append-nil}
use borrow.Author.Tests.{ltb-false}
use mathlib.Core.Bool.{false≢true}
use Rattle.fsfs_model.specs.declared.flat.edit.Edit.{Edit}
use Rattle.fsfs_model.specs.declared.flat.edit.Edit.TheVariants.{MakeDir, MakeFile, Delete as Remove, Copy, PutText, SetProp}
use Rattle.fsfs_base.specs.declared.kind.Kind.{Kind}
use Rattle.fsfs_base.specs.declared.kind.Kind.TheVariants.{File, Dir}
use Rattle.fsfs_model.specs.declared.flat.mark.Mark.{Mark}
use Rattle.fsfs_model.specs.declared.flat.mark.What.TheVariants.{Make, Gone, Text, Prop}
use Rattle.fsfs_tree.specs.declared.change_map.Change.{Change}
use Rattle.fsfs_model.specs.declared.flat.folded.Folded.{Folded}
use Rattle.fsfs_base.specs.declared.action.Action.{Action}
use Rattle.fsfs_base.specs.declared.action.Action.TheVariants.{Add, Delete, Replace, Modify}
use Rattle.fsfs_base.specs.Paths.{Path, covers, is_above, same_path}
use Rattle.fsfs_tree.specs.Nodes.{Node, TreeFunction, Bytes, empty_node}
use Rattle.fsfs_model.specs.Flat.Marks.{made, effects}
use Rattle.fsfs_model.specs.Flat.Edits.{can_make, changed_props, accepts, applied, mark_of, with_text, with_prop, bytes_of, copied_node, rest_after, kind_of_node}
use Rattle.fsfs_model.specs.Flat.Landing.{land, reached, goes_on, clashes_at, touched_by_head, held_by_head}
use Rattle.fsfs_model.specs.Flat.Folding.{fold_mark, joined, begun, flagged, after_add, after_delete, after_modify, change_in, deletes}
use Rattle.fsfs_tree.specs.Histories.{AreRevisions}
use Rattle.fsfs_model.specs.Flat.Transactions.{IsTransaction, Begun, Edited, Landed}
use Rattle.fsfs_model.specs.Laws.{In}
use Rattle.fsfs_model.proofs.Applied.{nothing_after, file_there}
use Rattle.fsfs_base.proofs.PathLemmas.{covers-refl, covers-antisym, same_path-is, same_path-refl}
use Rattle.fsfs_base.proofs.ResultLemmas.{none_of}
use Rattle.fsfs_model.proofs.MergeWalk.{Premises, region, go, reached_or, quiet_side, touched_up, gone_down}
use Rattle.fsfs_model.proofs.Tests.{other_false}
use Rattle.fsfs_model.proofs.Origins.{Origin, Head, Changed, Own, origin}
use Rattle.fsfs_model.proofs.LandedAt.{in_head, comes, all_three}
use Rattle.fsfs_model.proofs.LandedContents.{there}
use Rattle.fsfs_model.proofs.Contents.{KeepsContent}
use Rattle.fsfs_model.proofs.Joined.{says, adds, fold_push, fold_here, fold_beside, fold_other, fold_below, adds_makes}
use Rattle.fsfs_model.proofs.Folds.{said_of, FoldTells}
use Rattle.fsfs_model.proofs.FoldingLaw.{fold_tells}
use Rattle.fsfs_model.proofs.TwoMergesLaw.{premises}
use Rattle.fsfs_model.proofs.NextHistory.{whole}
use Rattle.fsfs_model.specs.FoldedFit.{FoldsFit}
use Rattle.std.proofs.lemmas.Bool.{and_from, and_parts, both_ways, cases_Bool, false_from_ne_true, not-true, leb-true}
use Rattle.std.proofs.lemmas.Option.{same_Some}

-- what stands there has the kind of what is said
abbrev Stood : Option Node → Folded → Type 0
Stood o f = (n : Node) × (o ≡ Some n) × (n.kind ≡ f.change.kind)

abbrev Stands : TreeFunction → List Mark → Type 0
Stands t marks = (p : Path) (f : Folded) → said_of marks p ≡ Some f → deletes f.change.action ≡ false → Stood (t p) f

none_is : {A : Type 0} (f : Folded) → None ≡ Some f → A
none_is f e = absurd (false≢true (ap is_some e))

abbrev kind_in : Option Folded → Kind
kind_in None = Dir
kind_in (Some f) = f.change.kind

kind_is : (x f : Folded) → Some x ≡ Some f → f.change.kind ≡ x.change.kind
kind_is x f e = sym (ap kind_in e)

-- ---- one more mark at the path

make_kind : (o : Option Folded) (k : Kind) (src : Option (ℕ × Path)) (f : Folded) → joined o k (Make src) ≡ Some f → f.change.kind ≡ k
make_kind None k src f e = kind_is (begun k (Make src)) f e
make_kind (Some g) k src f e = by g.change.action e
  where
    by : (a : Action) → Some (after_add a k src g.was) ≡ Some f → f.change.kind ≡ k
    by Add e = kind_is (after_add Add k src g.was) f e
    by Replace e = kind_is (after_add Replace k src g.was) f e
    by Delete e = kind_is (after_add Delete k src g.was) f e
    by Modify e = kind_is (after_add Modify k src g.was) f e

gone_deletes : (o : Option Folded) (k : Kind) (f : Folded) → joined o k Gone ≡ Some f → deletes f.change.action ≡ true
gone_deletes None k f e = sym (ap (says deletes) e)
gone_deletes (Some g) k f e = by g.change.action e
  where
    by : (a : Action) → after_delete a k g.was ≡ Some f → deletes f.change.action ≡ true
    by Add e = none_is f e
    by Replace e = sym (ap (says deletes) e)
    by Delete e = sym (ap (says deletes) e)
    by Modify e = sym (ap (says deletes) e)

text_kind : (o : Option Folded) (k : Kind) (f : Folded) → joined o k Text ≡ Some f → ((g : Folded) → o ≡ Some g → deletes g.change.action ≡ false → g.change.kind ≡ k) → f.change.kind ≡ k
text_kind None k f e was = kind_is (begun k Text) f e
text_kind (Some g) k f e was = by g.change.action e (was g refl)
  where
    by : (a : Action) → Some (after_modify a k Text g) ≡ Some f → (deletes a ≡ false → g.change.kind ≡ k) → f.change.kind ≡ k
    by Add e w = kind_is (flagged Text g) f e ∙ w refl
    by Replace e w = kind_is (flagged Text g) f e ∙ w refl
    by Modify e w = kind_is (flagged Text g) f e ∙ w refl
    by Delete e w = kind_is (begun k Text) f e

prop_kind : (o : Option Folded) (k : Kind) (f : Folded) → joined o k Prop ≡ Some f → ((g : Folded) → o ≡ Some g → deletes g.change.action ≡ false → g.change.kind ≡ k) → f.change.kind ≡ k
prop_kind None k f e was = kind_is (begun k Prop) f e
prop_kind (Some g) k f e was = by g.change.action e (was g refl)
  where
    by : (a : Action) → Some (after_modify a k Prop g) ≡ Some f → (deletes a ≡ false → g.change.kind ≡ k) → f.change.kind ≡ k
    by Add e w = kind_is (flagged Prop g) f e ∙ w refl
    by Replace e w = kind_is (flagged Prop g) f e ∙ w refl
    by Modify e w = kind_is (flagged Prop g) f e ∙ w refl
    by Delete e w = kind_is (begun k Prop) f e

-- ---- one more edit

module _ (t u : TreeFunction) (marks : List Mark) (m : Mark) (was : Stands t marks) where
  at : (p : Path) → said_of (marks ++ m ∷ []) p ≡ fold_mark p (said_of marks p) m
  at p = fold_push p None marks m

  -- the edit puts something at the path, and leaves all others, or nothing is said of them
  pub put : (m.what ≡ Gone → ⊥) → ((f : Folded) → joined (said_of marks m.path) m.kind m.what ≡ Some f → Stood (u m.path) f)
      → ((q : Path) → same_path m.path q ≡ false → (u q ≡ t q) ⊎ (said_of marks q ≡ None)) → Stands u (marks ++ m ∷ [])
  put no_gone here other p f e d = elim (cases_Bool (same_path m.path p)) [
    | inl w ↦
        let same = same_path-is m.path p w in
        subst (λ v. Stood (u v) f) same (here f (sym (fold_here (said_of marks m.path) m) ∙ sym (at m.path) ∙ ap (said_of (marks ++ m ∷ [])) same ∙ e))
    | inr w ↦
        let old : said_of marks p ≡ Some f = sym (fold_other p (said_of marks p) m w no_gone) ∙ sym (at p) ∙ e in
        elim (other p w) [
          | inl same ↦ subst (λ o. Stood o f) (sym same) (was p f old d)
          | inr none ↦ none_is f (sym none ∙ old)
        ]
  ]

  pub taken : m.what ≡ Gone → ((q : Path) → covers m.path q ≡ false → u q ≡ t q) → Stands u (marks ++ m ∷ [])
  taken gone out p f e d = elim (cases_Bool (same_path m.path p)) [
    | inl w ↦
        let same = same_path-is m.path p w in
        let now : joined (said_of marks m.path) m.kind m.what ≡ Some f = sym (fold_here (said_of marks m.path) m) ∙ sym (at m.path) ∙ ap (said_of (marks ++ m ∷ [])) same ∙ e in
        absurd (both_ways _ d (gone_deletes (said_of marks m.path) m.kind f (sym (ap (joined (said_of marks m.path) m.kind) gone) ∙ now)))
    | inr w ↦ elim (cases_Bool (covers m.path p)) [
      | inl below ↦ none_is f (sym (fold_below p (said_of marks p) m w below gone) ∙ sym (at p) ∙ e)
      | inr beside ↦ subst (λ o. Stood o f) (sym (out p beside)) (was p f (sym (fold_beside p (said_of marks p) m w beside) ∙ sym (at p) ∙ e) d)
    ]
  ]

same_flip : (p q : Path) → same_path p q ≡ false → same_path q p ≡ false
same_flip p q h = false_from_ne_true _ (λ k. both_ways _ h (subst (λ (v : Path). same_path v q ≡ true) (same_path-is q p k) (same_path-refl q)))

-- what is strictly below
below_is : (p q : Path) → same_path p q ≡ false → covers p q ≡ true → is_above p q ≡ true
below_is p q h c = and_from _ _ c (ap not (false_from_ne_true _ (λ k. both_ways _ h (subst (λ (v : Path). same_path p v ≡ true) (covers-antisym p q c k) (same_path-refl p)))))

free_at : (t : TreeFunction) (to : Path) (b c : Bool) → (can_make t to && b && c) ≡ true → is_some (t to) ≡ false
free_at t to b c h = not-true _ ((and_parts _ _ ((and_parts _ _ ((and_parts _ _ ((and_parts _ _ h).0)).0)).0)).1)

module _ (tree : ℕ → TreeFunction) (last : ℕ) (t : TreeFunction) (marks : List Mark) (was : Stands t marks) (tell : FoldTells t marks) where
  -- what was said of a path has the kind of what stands there
  said_kind : (p : Path) (g : Folded) → said_of marks p ≡ Some g → deletes g.change.action ≡ false → g.change.kind ≡ kind_of_node (t p)
  said_kind p g e d = let w = was p g e d in sym w.2 ∙ sym (ap kind_of_node w.1)

  made_here : (path : Path) (k : Kind) (f : Folded) → joined (said_of marks path) k (Make None) ≡ Some f → Stood (cond (same_path path path) (Some (empty_node k)) (t path)) f
  made_here path k f e = (empty_node k, ap (λ (b : Bool). cond b (Some (empty_node k)) (t path)) (same_path-refl path), sym (make_kind (said_of marks path) k None f e))

  copied_here : (rev : ℕ) (from : Path) (o : Option Node) (f : Folded) → is_some o ≡ true → f.change.kind ≡ kind_of_node o → Stood (copied_node rev from o) f
  copied_here rev from None f h e = absurd (false≢true h)
  copied_here rev from (Some n) f h e = (record n { source = Some (rev, from) }, refl, sym e)

  edited : (edit : Edit) → accepts edit tree last t ≡ true → Stands (applied edit tree t) (marks ++ mark_of edit tree t ∷ [])
  edited (MakeDir path) h = put t (applied (MakeDir path) tree t) marks (mark_of (MakeDir path) tree t) was (λ e. cc) (made_here path Dir)
      (λ q w. inl (ap (λ (b : Bool). cond b (Some (empty_node Dir)) (t q)) (same_flip path q w)))
  edited (MakeFile path) h = put t (applied (MakeFile path) tree t) marks (mark_of (MakeFile path) tree t) was (λ e. cc) (made_here path File)
      (λ q w. inl (ap (λ (b : Bool). cond b (Some (empty_node File)) (t q)) (same_flip path q w)))
  edited (Remove path) h = taken t (applied (Remove path) tree t) marks (mark_of (Remove path) tree t) was refl (λ q out. ap (λ (b : Bool). cond b None (t q)) out)
  edited (Copy rev from to) h = put t (applied (Copy rev from to) tree t) marks (mark_of (Copy rev from to) tree t) was (λ e. cc) here other
    where
      none : is_some (t to) ≡ false
      none = free_at t to (nat_le rev last) (is_some (tree rev from)) h

      source : Path → Option Node
      source q = copied_node rev (from ++ rest_after to q) (tree rev (from ++ rest_after to q))

      place : from ++ rest_after to to ≡ from
      place = ap (λ v. from ++ v) (nothing_after to) ∙ append-nil from

      at_to : applied (Copy rev from to) tree t to ≡ copied_node rev from (tree rev from)
      at_to = ap (λ (b : Bool). cond b (copied_node rev (from ++ rest_after to to) (tree rev (from ++ rest_after to to))) (t to)) (covers-refl to) ∙ ap (λ v. copied_node rev v (tree rev v)) place

      here : (f : Folded) → joined (said_of marks to) (kind_of_node (tree rev from)) (Make (Some (rev, from))) ≡ Some f → Stood (applied (Copy rev from to) tree t to) f
      here f e = subst (λ o. Stood o f) (sym at_to) (copied_here rev from (tree rev from) f ((and_parts (can_make t to && nat_le rev last) (is_some (tree rev from)) h).1) (make_kind (said_of marks to) (kind_of_node (tree rev from)) (Some (rev, from)) f e))

      other : (q : Path) → same_path to q ≡ false → (applied (Copy rev from to) tree t q ≡ t q) ⊎ (said_of marks q ≡ None)
      other q w = elim (cases_Bool (covers to q)) [
        | inr out ↦ inl (ap (λ (b : Bool). cond b (copied_node rev (from ++ rest_after to q) (tree rev (from ++ rest_after to q))) (t q)) out)
        | inl below ↦ inr (tell.silent to q none (below_is to q w below))
      ]
  edited (PutText path text) h = put t (applied (PutText path text) tree t) marks (mark_of (PutText path text) tree t) was (λ e. cc) here
      (λ q w. inl (ap (λ (b : Bool). cond b (with_text text.items (t path)) (t q)) (same_flip path q w)))
    where
      here : (f : Folded) → joined (said_of marks path) (kind_of_node (t path)) Text ≡ Some f → Stood (applied (PutText path text) tree t path) f
      here f e = let n = there (t path) (file_there (t path) h) in (
        record n.0 { text = Bytes text.items },
        ap (λ (b : Bool). cond b (with_text text.items (t path)) (t path)) (same_path-refl path) ∙ ap (with_text text.items) n.1,
        sym (ap kind_of_node n.1) ∙ sym (text_kind (said_of marks path) (kind_of_node (t path)) f e (said_kind path)),
      )
  edited (SetProp path name value) h = put t (applied (SetProp path name value) tree t) marks (mark_of (SetProp path name value) tree t) was (λ e. cc) here
      (λ q w. inl (ap (λ (b : Bool). cond b (with_prop name (bytes_of value) (t path)) (t q)) (same_flip path q w)))
    where
      here : (f : Folded) → joined (said_of marks path) (kind_of_node (t path)) Prop ≡ Some f → Stood (applied (SetProp path name value) tree t path) f
      here f e = let n = there (t path) h in (
        record n.0 { properties = changed_props name (bytes_of value) n.0.properties },
        ap (λ (b : Bool). cond b (with_prop name (bytes_of value) (t path)) (t path)) (same_path-refl path) ∙ ap (with_prop name (bytes_of value)) n.1,
        sym (ap kind_of_node n.1) ∙ sym (prop_kind (said_of marks path) (kind_of_node (t path)) f e (said_kind path)),
      )

-- ---- a landing

module _ (base : ℕ) (a s t : TreeFunction) (marks : List Mark) (is : Premises base a s t marks) (keeps : KeepsContent a t marks) (tell : FoldTells t marks) (was : Stands t marks) (n : ℕ) where
  -- what something is said of, and the transaction held, it touched
  touched_said : (p : Path) → is_some (said_of marks p) ≡ true → is_some (a p) ≡ true → (effects marks p).deleted ≡ false → (effects marks p).touched ≡ true
  touched_said p h in_a kept = elim (cases_Bool (says adds (said_of marks p))) [
    | inl w ↦ absurd (made_up p (tell.said_made p (adds_makes _ w)) (covers-refl p))
    | inr w ↦ elim (tell.known p h w) [
      | inr u ↦ u
      | inl x ↦ absurd (made_up x.0 x.1 ((and_parts _ _ x.2).0))
    ]
  ]
    where
      made_up : (x : Path) → In (made marks) x → covers x p ≡ true → ⊥
      made_up x i c = elim (is.own.new x i) [
        | inl none ↦ both_ways _ none (is.closed_base x p c in_a)
        | inr g ↦ both_ways _ kept (gone_down marks x p c g)
      ]

  stays : (p : Path) → is_some (said_of marks p) ≡ true → is_some (t p) ≡ true → is_some (land a s t marks n p) ≡ true
  stays p h own = elim (cases_Bool (is_some (a p))) [
    | inr none ↦ comes n (effects marks p) (a p) (s p) (t p) own (inl none)
    | inl some ↦ elim (cases_Bool (effects marks p).deleted) [
      | inl g ↦ comes n (effects marks p) (a p) (s p) (t p) own (inr g)
      | inr kept ↦ all_three n (effects marks p) (a p) (s p) (t p) some (in_head (effects marks p) (a p) (s p) (t p) (region base a s t marks is p) (touched_said p h some kept) some) own
    ]
  ]

  -- the head has what the transaction held and touched, of the base's kind: it left it alone, or holds it
  same_kind : (p : Path) (m z : Node) → a p ≡ Some m → s p ≡ Some z → (effects marks p).touched ≡ true → z.kind ≡ m.kind
  same_kind p m z e f u = elim (reached_or (go base a s marks) p) [
    | inl r ↦ elim (cases_Bool (goes_on base (effects marks p) (a p) (s p))) [
      | inl g ↦
          let held : held_by_head base (s p) ≡ true = (and_parts _ _ g).1 in
          let o = is.later.older p z f (leb-true z.added base (subst (λ o. held_by_head base o ≡ true) f held)) in
          sym (o.2.kind) ∙ ap (λ v. v.kind) (same_Some o.0 m (sym o.1 ∙ e))
      | inr stops ↦ left p (covers-refl p) r stops
    ]
    | inr early ↦ left early.place early.covered early.comes early.stops
  ]
    where
      alone : (q : Path) → covers q p ≡ true → touched_by_head base (s q) ≡ false → z.kind ≡ m.kind
      alone q c un = by (s q) refl un
        where
          by : (o : Option Node) → s q ≡ o → touched_by_head base o ≡ false → z.kind ≡ m.kind
          by None e2 h = absurd (false≢true (sym h))
          by (Some n) e2 h = ap (λ v. v.kind) (same_Some z m (sym f ∙ is.later.kept q p n e2 (ltb-false base n.last_changed h) c ∙ e))

      left : (q : Path) → covers q p ≡ true → reached (go base a s marks) q ≡ true → go base a s marks q ≡ false → z.kind ≡ m.kind
      left q c r stops =
          let some = there (a q) (is.closed_base q p c (ap is_some e)) in
          elim (quiet_side base (effects marks q) some.0 (s q) (t q)
          (subst (λ o. clashes_at base (effects marks q) o (s q) (t q) ≡ false) some.1 (other_false _ _ (is.clear q) r))
          (subst (λ o. goes_on base (effects marks q) o (s q) ≡ false) some.1 stops)) [
            | inl un ↦ absurd (both_ways _ un (touched_up marks q p c u))
            | inr un ↦ alone q c un
          ]

  -- what stands there is of the kind that the transaction had
  kind_stays : (p : Path) (x y : Node) → is_some (said_of marks p) ≡ true → t p ≡ Some x → land a s t marks n p ≡ Some y → y.kind ≡ x.kind
  kind_stays p x y h e f = by (origin n (effects marks p) (a p) (s p) (t p) y f)
    where
      by : Origin n (effects marks p) (a p) (s p) (t p) y → y.kind ≡ x.kind
      by (Changed z g in_a del re k) = k.kind ∙ ap (λ v. v.kind) (same_Some z x (sym g ∙ e))
      by (Own z g alt c1 c2 c3 k) = k.kind ∙ ap (λ v. v.kind) (same_Some z x (sym g ∙ e))
      by (Head z g (inr lack) k) = absurd (both_ways _ lack.1 (ap is_some e))
      by (Head z g (inl w) k) =
          let m = there (a p) w.0 in
          let left = keeps.same p m.0 m.1 w.1 in
          let own : x.kind ≡ m.0.kind = ap (λ v. v.kind) (same_Some x left.0 (sym e ∙ left.1)) ∙ left.2.kind in
          k.kind ∙ same_kind p m.0 z m.1 g (touched_said p h w.0 w.1) ∙ sym own

  pub landed : Stands (land a s t marks n) marks
  landed p f e d =
      let w = was p f e d in
      let h : is_some (said_of marks p) ≡ true = ap is_some e in
      let y = there (land a s t marks n p) (stays p h (ap is_some w.1)) in
      (y.0, y.1, kind_stays p w.0 y.0 h w.1 y.1 ∙ w.2)

-- ---- each transaction

all_stand : (tree : ℕ → TreeFunction) (last b : ℕ) (t : TreeFunction) (marks : List Mark) → AreRevisions tree last → IsTransaction tree last b t marks → Stands t marks
all_stand tree last _ _ _ is (Begun b le) = λ p f e d. none_is f e
all_stand tree last _ _ _ is (Edited b t before edit was h) = edited tree last t before (all_stand tree last b t before is was) (fold_tells tree last b t before is was) edit h
all_stand tree last _ _ _ is (Landed b h n t marks was le ge clear) =
    let w = whole tree last b t marks is was in
    landed b (tree b) (tree h) t marks (premises tree last b h t marks is w.sound le ge clear) w.keeps (fold_tells tree last b t marks is was) (all_stand tree last b t marks is was) n

said_change : (o : Option Folded) (c : Change) → change_in o ≡ Some c → (f : Folded) × (o ≡ Some f) × (f.change ≡ c)
said_change None c e = absurd (false≢true (ap is_some e))
said_change (Some f) c e = (f, refl, cc)

deletes_is : (a : Action) → a ≢ Delete → deletes a ≡ false
deletes_is Delete n = absurd (n refl)
deletes_is Add n = refl
deletes_is Replace n = refl
deletes_is Modify n = refl

pub folds_fit : FoldsFit
folds_fit tree last b t marks is was = record {
  gone = λ p c e d. let f = said_change (said_of marks p) c e in
      none_of (t p) ((fold_tells tree last b t marks is was).absent p (ap (says deletes) f.1 ∙ ap (λ (v : Change). deletes v.action) f.2 ∙ ap deletes d));
  there = λ p c e d. let f = said_change (said_of marks p) c e in
      let n = all_stand tree last b t marks is was p f.0 f.1 (ap (λ (v : Change). deletes v.action) f.2 ∙ deletes_is c.action d) in
      (n.0, n.1, n.2 ∙ ap (λ (v : Change). v.kind) f.2);
}
