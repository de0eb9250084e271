-- What the folded changes of a committed transaction tell of the new revision.
use Rattle.std.proofs.Common.{◌≡◌, ◌∙◌, ℕ, ◌-◌, sym, ap, refl, subst, Some, None, Option, List, [], ◌∷◌, ◌++◌, length, true, false, inl, inr, ◌⊎◌, arith}
use Rattle.std.proofs.lemmas.Bool.{cases_Bool, false_from_ne_true, and_parts, both_ways, not-true}
use Rattle.std.specs.Prelude.{is_some}
use Rattle.std.specs.FinMap.{get}
use mathlib.Core.Bool.{false≢true}
use Rattle.fsfs_model.specs.declared.flat.mark.Mark.{Mark}
use Rattle.fsfs_model.specs.declared.flat.mark.What.{What}
use Rattle.fsfs_model.specs.declared.flat.mark.What.TheVariants.{Make, Gone, Text, Prop}
use Rattle.fsfs_tree.specs.declared.change_map.Change.{Change}
use Rattle.fsfs_model.specs.declared.flat.folded.Folded.{Folded}
use Rattle.fsfs_base.specs.declared.action.Action.{Action}
use Rattle.fsfs_base.specs.declared.action.Action.TheVariants.{Add, Delete, Replace, Modify}
use Rattle.fsfs_base.specs.Paths.{Path, covers, is_above, same_path}
use Rattle.fsfs_tree.specs.Nodes.{Node, TreeFunction}
use Rattle.fsfs_model.specs.Flat.Marks.{made, effects, is_make}
use Rattle.fsfs_model.specs.Flat.Edits.{applied, mark_of}
use Rattle.fsfs_model.specs.Flat.Landing.{land}
use Rattle.fsfs_model.specs.Flat.Folding.{fold, fold_from, fold_mark, joined, change_in, deletes}
use Rattle.fsfs_tree.specs.Histories.{AreRevisions, IsHistory}
use Rattle.fsfs_tree.specs.Revisions.{Revision, tree_of}
use Rattle.fsfs_model.specs.Flat.Transactions.{IsTransaction, Begun, Edited, Landed, Entry, IsEntry, IsNext}
use Rattle.fsfs_tree.specs.Dated.{last_of}
use Rattle.fsfs_base.proofs.ResultLemmas.{none_of}
use Rattle.fsfs_base.proofs.PathLemmas.{covers-refl, covers-trans, covers-either, same_path-is}
use Rattle.fsfs_model.specs.Laws.{In, AreSameNodes, leaves, FoldingTells}
use Rattle.fsfs_model.proofs.Bases.{IsClosed, DescribesBase, ChangesPaths}
use Rattle.fsfs_model.proofs.Applied.{edit_changes}
use Rattle.fsfs_model.proofs.MergeWalk.{Premises, region, touched_in_base, touched_made, touched_up, gone_down}
use Rattle.fsfs_model.proofs.LandedAt.{lacks, in_head, missing, comes, all_three, own_has, head_only, not_gone_new}
use Rattle.fsfs_model.proofs.TwoMergesLaw.{sound, premises, closed}
use Rattle.fsfs_model.proofs.Origins.{Origin, Head, Changed, Own, origin}
use Rattle.fsfs_model.proofs.Folds.{said_of, FoldTells, tells_nothing, put_tells, taken_tells, changed_tells}
use Rattle.fsfs_model.proofs.Joined.{says, adds, modifies, says_some, adds_makes, tells_not_adds, deletes_tells, delete_undoes, modify_keeps, fold_here, fold_beside, fold_other}

-- ---- landings

module _ (base : ℕ) (a s t : TreeFunction) (marks : List Mark) (is : Premises base a s t marks) (tell : FoldTells t marks) (n : ℕ) where
  new : TreeFunction
  new = land a s t marks n

  not_there : (p : Path) → says deletes (said_of marks p) ≡ true → is_some (land a s t marks n p) ≡ true → ⊥
  not_there p h some = elim (cases_Bool (is_some (a p))) [
    | inl in_a ↦ both_ways _ none (own_has n (effects marks p) (a p) (s p) (t p) in_a (is.own.lost p in_a none) some)
    | inr not_a ↦ (let s_p = head_only n (effects marks p) (a p) (s p) (t p) not_a none some in
        elim (tell.known p (says_some deletes _ h) (tells_not_adds _ (deletes_tells _ h))) [
          | inr u ↦ both_ways _ not_a (touched_in_base base a s t marks is p u)
          | inl x ↦ made_above x.0 x.1 (and_parts _ _ x.2).0 not_a s_p
        ])
  ]
    where
      none : is_some (t p) ≡ false
      none = tell.absent p h

      gone : (x : Path) → covers x p ≡ true → is_some (a p) ≡ false → is_some (s p) ≡ true → (effects marks x).deleted ≡ true → ⊥
      gone x c not_a s_p g = not_gone_new (effects marks p) (a p) (s p) (t p) (region base a s t marks is p) not_a s_p (gone_down marks x p c g)

      made_above : (x : Path) → In (made marks) x → covers x p ≡ true → is_some (a p) ≡ false → is_some (s p) ≡ true → ⊥
      made_above x i c not_a s_p = elim (is.own.new x i) [
        | inr g ↦ gone x c not_a s_p g
        | inl not_x ↦ elim (lacks (effects marks x) (a x) (s x) (t x) (region base a s t marks is x) not_x (is.own.kept x i)) [
          | inr g ↦ gone x c not_a s_p g
          | inl no_x ↦ both_ways _ no_x (is.closed_head x p c s_p)
        ]
      ]

  -- what the landing lacks, nothing is said below
  quiet_below : (y p : Path) → is_some (land a s t marks n y) ≡ false → is_above y p ≡ true → is_some (said_of marks p) ≡ true → ⊥
  quiet_below y p lacking ab h = elim (cases_Bool (is_some (t y))) [
    | inr none ↦ both_ways _ (ap is_some (tell.silent y p none ab)) h
    | inl t_y ↦ elim (cases_Bool (is_some (a y))) [
      | inr not_a ↦ both_ways _ lacking (comes n (effects marks y) (a y) (s y) (t y) t_y (inl not_a))
      | inl a_y ↦ elim (cases_Bool (effects marks y).deleted) [
        | inl g ↦ both_ways _ lacking (comes n (effects marks y) (a y) (s y) (t y) t_y (inr g))
        | inr kept ↦ elim (cases_Bool (is_some (s y))) [
          | inl s_y ↦ both_ways _ lacking (all_three n (effects marks y) (a y) (s y) (t y) a_y s_y t_y)
          | inr not_s ↦ said a_y kept (false_from_ne_true _ (λ u. both_ways _ not_s (in_head (effects marks y) (a y) (s y) (t y) (region base a s t marks is y) u a_y)))
        ]
      ]
    ]
  ]
    where
      above : covers y p ≡ true
      above = (and_parts _ _ ab).0

      made_at : (x : Path) → In (made marks) x → covers x p ≡ true → is_some (a y) ≡ true → (effects marks y).deleted ≡ false → (effects marks y).touched ≡ false → ⊥
      made_at x i c a_y kept un =
          let m = is.own.top x i in
          let up : covers m.0.path y ≡ true → ⊥ = λ w. elim m.4 [
            | inl none ↦ both_ways _ none (is.closed_base m.0.path y w a_y)
            | inr g ↦ both_ways _ kept (gone_down marks m.0.path y w g)
          ] in
          elim (covers-either y m.0.path p above (covers-trans m.0.path x p m.3 c)) [
            | inr w ↦ up w
            | inl w ↦ both_ways _ un (touched_made marks m.0 y m.1 m.2 w (false_from_ne_true _ up))
          ]

      said : is_some (a y) ≡ true → (effects marks y).deleted ≡ false → (effects marks y).touched ≡ false → ⊥
      said a_y kept un = elim (cases_Bool (says adds (said_of marks p))) [
        | inl added ↦ made_at p (tell.said_made p (adds_makes _ added)) (covers-refl p) a_y kept un
        | inr other ↦ elim (tell.known p h other) [
          | inr u ↦ both_ways _ un (touched_up marks y p above u)
          | inl x ↦ made_at x.0 x.1 (and_parts _ _ x.2).0 a_y kept un
        ]
      ]

  pub landed_tells : FoldTells (land a s t marks n) marks
  landed_tells = record {
    made_said = tell.made_said;
    said_made = tell.said_made;
    absent = λ p h. false_from_ne_true _ (not_there p h);
    silent = λ q p lacking ab. none_of _ (false_from_ne_true _ (quiet_below q p lacking ab));
    known = tell.known;
    gone_told = tell.gone_told;
    rewritten_told = tell.rewritten_told;
  }

-- ---- each transaction

tells_edit : (base t u : TreeFunction) (marks : List Mark) (m : Mark) (k : What) → m.what ≡ k → IsClosed base → IsClosed t → DescribesBase base t marks → FoldTells t marks → ChangesPaths k m.path t u → FoldTells u (marks ++ m ∷ [])
tells_edit base t u marks m (Make src) e cb ct is tell d = put_tells base t u marks m cb ct is tell (ap is_make e) d.0 d.1 d.2 d.3
tells_edit base t u marks m Gone e cb ct is tell d = taken_tells base t u marks m cb ct is tell e d.0 d.1 d.2
tells_edit base t u marks m Text e cb ct is tell d = changed_tells base t u marks m cb ct is tell (ap modifies e) d.0 d.1
tells_edit base t u marks m Prop e cb ct is tell d = changed_tells base t u marks m cb ct is tell (ap modifies e) d.0 d.1

pub fold_tells : (tree : ℕ → TreeFunction) (last b : ℕ) (t : TreeFunction) (marks : List Mark) → AreRevisions tree last → IsTransaction tree last b t marks → FoldTells t marks
fold_tells tree last _ _ _ is (Begun b le) = tells_nothing (tree b)
fold_tells tree last _ _ _ is (Edited b t before edit was h) =
    let so = sound tree last b t before is was in
    let did = edit_changes edit tree last t so.closed (λ r le. closed tree last r is le) h in
    let m = mark_of edit tree t in
    tells_edit (tree b) t (applied edit tree t) before m m.what refl (closed tree last b is so.known) so.closed so.own (fold_tells tree last b t before is was) did.0
fold_tells tree last _ _ _ is (Landed b h n t marks was le ge clear) =
    landed_tells b (tree b) (tree h) t marks (premises tree last b h t marks is (sound tree last b t marks is was) le ge clear) (fold_tells tree last b t marks is was) n

-- ---- where a landing differs from its head

some_change : (o : Option Folded) → is_some o ≡ true → is_some (change_in o) ≡ true
some_change None h = h
some_change (Some f) h = refl

module _ (base : ℕ) (a s t : TreeFunction) (marks : List Mark) (is : Premises base a s t marks) (tell : FoldTells t marks) (n : ℕ) where
  abbrev pub Told : Path → Type 0
  Told p = (q : Path) × (covers q p ≡ true) × (is_some (fold marks q) ≡ true)

  gone_told : (p : Path) → (effects marks p).deleted ≡ true → Told p
  gone_told p g = let q = tell.gone_told p g in (q.0, q.1, some_change _ (says_some _ _ q.2))

  own_told : (p : Path) → is_some (t p) ≡ true → ((is_some (a p) ≡ false) ⊎ ((effects marks p).deleted ≡ true)) → Told p
  own_told p in_t (inr g) = gone_told p g
  own_told p in_t (inl none) = let q = is.own.own p none in_t in (q.0, q.2, some_change _ (says_some _ _ (tell.made_said q.0 q.1)))

  by_origin : (p : Path) (y : Node) (o : Option Node) → s p ≡ o → Origin n (effects marks p) (a p) (s p) (t p) y → AreSameNodes (Some y) o ⊎ Told p
  by_origin p y o e (Changed x f in_a del re k) = let q = tell.rewritten_told p re in inr (q.0, q.1, some_change _ q.2)
  by_origin p y o e (Own x f alt b r c k) = inr (own_told p (ap is_some f) alt)
  by_origin p y None e (Head x f alt k) = absurd (false≢true (sym (ap is_some e) ∙ ap is_some f))
  by_origin p y (Some v) e (Head x f alt k) = let same : x ≡ v = some_is x v (sym f ∙ e) in inl (k.kind ∙ ap (λ z. z.kind) same, k.text ∙ ap (λ z. z.text) same, k.properties ∙ ap (λ z. z.properties) same, k.source ∙ ap (λ z. z.source) same)
    where
      some_is : (x v : Node) → Some x ≡ Some v → x ≡ v
      some_is x v e = cc

  by_both : (p : Path) (o u : Option Node) → land a s t marks n p ≡ o → s p ≡ u → AreSameNodes o u ⊎ Told p
  by_both p (Some y) u e f = by_origin p y u f (origin n (effects marks p) (a p) (s p) (t p) y e)
  by_both p None None e f = inl tt
  by_both p None (Some v) e f = inr (elim (missing n (effects marks p) (a p) (s p) (t p) (ap is_some f) (ap is_some e)) [
    | inl g ↦ gone_told p g
    | inr b ↦ gone_told p (is.own.lost p b.0 b.1)
  ])

  pub differs_told : (p : Path) → AreSameNodes (land a s t marks n p) (s p) ⊎ Told p
  differs_told p = by_both p (land a s t marks n p) (s p) refl refl

-- ---- no item below a delete

deleting : (o : Option Folded) (c : Change) → change_in o ≡ Some c → c.action ≡ Delete → says deletes o ≡ true
deleting None c e d = absurd (none_some c e)
  where
    none_some : (x : Change) → None ≡ Some x → ⊥
    none_some x e = cc
deleting (Some f) c e d = ap deletes (ap (λ z. z.action) (some_is f.change c e) ∙ d)
  where
    some_is : (x v : Change) → Some x ≡ Some v → x ≡ v
    some_is x v e = cc

below_a_delete : (t : TreeFunction) (marks : List Mark) → FoldTells t marks → (q p : Path) (c : Change) → is_above q p ≡ true → fold marks q ≡ Some c → c.action ≡ Delete → fold marks p ≡ None
below_a_delete t marks tell q p c ab e d = ap change_in (tell.silent q p (tell.absent q (deleting (said_of marks q) c e d)) ab)

-- ---- made and deleted again

nothing_said : (o : Option Folded) → change_in o ≡ None → o ≡ None
nothing_said None e = refl
nothing_said (Some f) e = absurd (some_none f.change e)
  where
    some_none : (x : Change) → Some x ≡ None → ⊥
    some_none x e = cc

added_only : (o : Option Folded) (m : Mark) → o ≡ None → is_make m.what ≡ true → says adds (joined o m.kind m.what) ≡ true
added_only o m e mk = ap (λ v. says adds (joined v m.kind m.what)) e ∙ by m.what mk
  where
    by : (k : What) → is_make k ≡ true → says adds (joined None m.kind k) ≡ true
    by (Make src) h = refl
    by Gone h = absurd (false≢true h)
    by Text h = absurd (false≢true h)
    by Prop h = absurd (false≢true h)

adds_not_deletes : (o : Option Folded) → says adds o ≡ true → says deletes o ≡ false
adds_not_deletes None h = refl
adds_not_deletes (Some f) h = by f.change.action h
  where
    by : (a : Action) → adds a ≡ true → deletes a ≡ false
    by Add h = refl
    by Replace h = refl
    by Delete h = absurd (false≢true h)
    by Modify h = refl

still_added : (o : Option Folded) (m : Mark) (p : Path) → leaves m.what m.path p ≡ true → says adds o ≡ true → says adds (fold_mark p o m) ≡ true
still_added o m p l h = by m.what refl l
  where
    at : (k : What) → m.what ≡ k → modifies k ≡ true → says adds (fold_mark p o m) ≡ true
    at k e md = elim (cases_Bool (same_path m.path p)) [
      | inr w ↦ ap (says adds) (fold_other p o m w (λ g. false≢true (sym (ap modifies (sym e ∙ g)) ∙ md))) ∙ h
      | inl w ↦ subst (λ v. says adds (fold_mark v o m) ≡ true) (same_path-is m.path p w)
          (ap (says adds) (fold_here o m) ∙ ap (λ v. says adds (joined o m.kind v)) e ∙ modify_keeps adds o m.kind k md refl (adds_not_deletes o h) ∙ h)
    ]

    by : (k : What) → m.what ≡ k → leaves k m.path p ≡ true → says adds (fold_mark p o m) ≡ true
    by Text e l = at Text e refl
    by Prop e l = at Prop e refl
    by (Make src) e l = ap (says adds) (fold_other p o m (not-true _ l) (λ g. false≢true (sym (ap is_make (sym e ∙ g)) ∙ refl))) ∙ h
    by Gone e l = ap (says adds) (fold_beside p o m (false_from_ne_true _ (λ k. both_ways _ (not-true _ l) (subst (λ v. covers m.path v ≡ true) (same_path-is m.path p k) (covers-refl m.path)))) (not-true _ l)) ∙ h

added_on : (o : Option Folded) (ms : List Mark) (p : Path) → ((m : Mark) → In ms m → leaves m.what m.path p ≡ true) → says adds o ≡ true → says adds (fold_from p o ms) ≡ true
added_on o [] p l h = h
added_on o (m ∷ ms) p l h = added_on (fold_mark p o m) ms p (λ x i. l x (inr i)) (still_added o m p (l m (inl refl)) h)

from_after : (p : Path) (o : Option Folded) (xs ys : List Mark) → fold_from p o (xs ++ ys) ≡ fold_from p (fold_from p o xs) ys
from_after p o [] ys = refl
from_after p o (x ∷ xs) ys = from_after p (fold_mark p o x) xs ys

undone : (before between : List Mark) (mk gone : Mark) (p : Path) → fold before p ≡ None → mk.path ≡ p → is_make mk.what ≡ true → ((m : Mark) → In between m → leaves m.what m.path p ≡ true)
    → gone.path ≡ p → gone.what ≡ Gone → fold (before ++ (mk ∷ (between ++ (gone ∷ [])))) p ≡ None
undone before between mk gone p none at makes_it left at_gone takes =
    let first : fold_from p None before ≡ None = nothing_said _ none in
    let one : says adds (fold_mark p (fold_from p None before) mk) ≡ true =
    subst (λ v. says adds (fold_mark v (fold_from p None before) mk) ≡ true) at (ap (says adds) (fold_here (fold_from p None before) mk) ∙ added_only (fold_from p None before) mk first makes_it) in
    let two = added_on (fold_mark p (fold_from p None before) mk) between p left one in
    let whole : fold_from p None (before ++ (mk ∷ (between ++ (gone ∷ [])))) ≡ fold_mark p (fold_from p (fold_mark p (fold_from p None before) mk) between) gone =
    from_after p None before (mk ∷ (between ++ (gone ∷ []))) ∙ from_after p (fold_mark p (fold_from p None before) mk) between (gone ∷ []) in
    let last : fold_mark p (fold_from p (fold_mark p (fold_from p None before) mk) between) gone ≡ None =
    subst (λ v. fold_mark v (fold_from p (fold_mark p (fold_from p None before) mk) between) gone ≡ None) at_gone
    (fold_here (fold_from p (fold_mark p (fold_from p None before) mk) between) gone ∙ ap (joined (fold_from p (fold_mark p (fold_from p None before) mk) between) gone.kind) takes ∙ delete_undoes _ gone.kind two) in
    ap change_in (whole ∙ last)

-- ---- commits

module _ (h : List Revision) (e : Entry) (next : Revision) (is : IsHistory h) (was : IsEntry h e) (adds_it : IsNext h e next) where
  last_is : last_of h ≡ is.last
  last_is = ap (λ k. k - 1) is.counted ∙ omega arith

  revisions : AreRevisions (tree_of h) (last_of h)
  revisions = subst (λ k. AreRevisions (tree_of h) k) (sym last_is) is.revisions

  tell : FoldTells (get e.tree) e.marks
  tell = fold_tells (tree_of h) (last_of h) e.base (get e.tree) e.marks revisions was.transaction

  pre : Premises e.base (tree_of h e.base) (tree_of h (last_of h)) (get e.tree) e.marks
  pre = premises (tree_of h) (last_of h) e.base (last_of h) (get e.tree) e.marks revisions (sound (tree_of h) (last_of h) e.base (get e.tree) e.marks revisions was.transaction) (let b = adds_it.based in let c = is.counted in omega (arith, b, c, last_is)) (omega arith) adds_it.clear

  pub next_told : (p : Path) → AreSameNodes (get next.tree p) (tree_of h (last_of h) p) ⊎ ((q : Path) × (covers q p ≡ true) × (is_some (get next.changes q) ≡ true))
  next_told p = elim (differs_told e.base (tree_of h e.base) (tree_of h (last_of h)) (get e.tree) e.marks pre tell (length h) p) [
    | inl same ↦ inl (subst (λ o. AreSameNodes o (tree_of h (last_of h) p)) (sym (adds_it.tree p)) same)
    | inr q ↦ inr (q.0, q.1, ap is_some (adds_it.changes q.0) ∙ q.2)
  ]

  pub next_below : (q p : Path) (c : Change) → is_above q p ≡ true → get next.changes q ≡ Some c → c.action ≡ Delete → get next.changes p ≡ None
  next_below q p c ab f d = adds_it.changes p ∙ below_a_delete (get e.tree) e.marks tell q p c ab (sym (adds_it.changes q) ∙ f) d

pub folding_tells : FoldingTells
folding_tells = record {
  changed = next_told;
  below_a_delete = next_below;
  undone = undone;
}
