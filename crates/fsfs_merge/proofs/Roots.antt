-- Both sides of a merge find one copy root: that of a directory that both sides changed is the same in the head and in the draft.
use Rattle.fsfs_revision.proofs.Revisions.{shown_revisions}
use Rattle.std.proofs.Common.{◌≡◌, ◌≤◌, ◌<◌, ◌⊎◌, ◌+◌, ℕ, zero, suc, Bool, true, false, List, [], ◌∷◌, ◌++◌, refl, sym, ap, subst, ◌∙◌, arith, inl, inr}
use Rattle.std.specs.Prelude.{Ok, Option, Some, nat_lt, if◌then◌else◌}
use Rattle.std.proofs.lemmas.Bool.Decides.{nat_tests}
use Rattle.fsfs_base.specs.Paths.{PathName, Path, covers}
use Rattle.fsfs_tree.specs.Nodes.{Node, TreeFunction}
use Rattle.fsfs_model.specs.declared.flat.mark.Mark.{Mark}
use Rattle.fsfs_model.specs.Flat.Marks.{effects}
use Rattle.fsfs_model.specs.Flat.Landing.{held_by_head}
use Rattle.fsfs_revision.specs.Told.{RevisionBytes}
use Rattle.fsfs_noderev.specs.declared.node_rev.NodeRev.{NodeRev}
use Rattle.fsfs_revision.specs.Shows.Reading.{Met, Stands, Lacking, Blocked, MetAt, StandsAt}
use Rattle.fsfs_revision.specs.Shows.Chains.{own_rev, copy_root_of}
use Rattle.fsfs_revision.specs.Shows.Shown.{IsShownAs}
use Rattle.fsfs_revision.specs.Shows.IdRules.{IsBehind}
use Rattle.fsfs_revision.specs.Shows.IdRules as rules
use Rattle.fsfs_revision.proofs.OneWalk.{stands_same}
use Rattle.fsfs_revision.proofs.TreeLaw.{stands_home, child_home, root_le}
use Rattle.fsfs_base.proofs.PathLemmas.{covers-longer}
use Rattle.fsfs_model.proofs.Later.{later}
use Rattle.fsfs_revision.specs.Ancestry.Trees.{ShowTrees}
use Rattle.fsfs_revision.proofs.Standing.{for_each}
use Rattle.fsfs_revision.proofs.Earlier.{stands_of_id, pred_same}
use Rattle.fsfs_draft.proofs.Coming.{IsFresh, Comes, Same, Next, Fresh, comes}
use Rattle.fsfs_draft.proofs.HeadLaw.{node_at, not_fresh, held_le}
use Rattle.fsfs_draft.specs.OwnSides.{NodesAt, in_txn, IsSuccessor, IsOwnSide, AreNodesOf}
use Rattle.fsfs_draft.proofs.Lasting.{lasting}
use Rattle.fsfs_draft.proofs.HangLaw.{some_same}
use Rattle.fsfs_draft.specs.NodeDrafts.{draft_root, IsOwn, IsDraft}
use Rattle.std.proofs.lemmas.Bool.{both_ways, cases_Bool}
use Rattle.fsfs_draft.proofs.Parents.{parent}

-- ---- the directory above

stands_in : (look : RevisionBytes) (r : ℕ) (p : Path) (o : Option Node) (n : Node) → o ≡ Some n → (m : Met) → MetAt look r p (Ok m) → IsShownAs look r p m o → (x : NodeRev) × StandsAt look r p x
stands_in look r p o n e (Stands v) at s = (v, at)
stands_in look r p o n e (Lacking k) at s = absurd (let f = sym e ∙ s in cc)
stands_in look r p o n e (Blocked k) at s = absurd (let f = sym e ∙ s in cc)

module _ (look : RevisionBytes) (top : ℕ) (tree : ℕ → TreeFunction) (b h : ℕ) (marks : List Mark) (base own : NodesAt)
    (shows : ShowTrees look top tree) (le : b ≤ h) (ge : h ≤ top) (are : AreNodesOf look b base) (side : IsOwnSide base marks own) (draft : IsDraft look top b own) where
  -- both sides hold the path
  pub record BothHold (p : Path) : Type 0 where
    pub head : held_by_head b (tree h p) ≡ true
    pub kept : (effects marks p).deleted ≡ false

  -- what the head held stood at each revision between, added no later than the base
  held_between : (p : Path) → held_by_head b (tree h p) ≡ true → (y : NodeRev) → StandsAt look h p y → (r : ℕ) → b ≤ r → r ≤ h → (m : Node) × (tree r p ≡ Some m) × (m.added ≤ b)
  held_between p hold y at r low high =
      let n = node_at look top tree shows h p y ge at in
      let added = held_le b (tree h p) n.0 n.1 hold in
      let o = (later tree top r h (shown_revisions look top tree shows) high ge).older p n.0 n.1 (omega arith) in
      (o.0, o.1, omega (arith, o.2.added))

  module _ (p : Path) (hold : held_by_head b (tree h p) ≡ true) (y : NodeRev) (at : StandsAt look h p y) where
    not_new : (r : ℕ) (v : NodeRev) → b ≤ r → suc r ≤ h → (q : Path) (w : NodeRev) → covers q p ≡ true → StandsAt look (suc r) q w → own_rev w ≡ suc r → IsFresh w → ⊥
    not_new r v low high q w c s own fresh =
        let m = held_between p hold y at (suc r) (omega arith) high in
        not_fresh look top tree shows b p r v m.0 (omega arith) low m.1 m.2 q w c s own fresh

    -- what is of the base's time stood in the base
    pub back_low : (d r : ℕ) (v : NodeRev) → r ≡ d + b → r ≤ h → StandsAt look r p v → own_rev v ≤ b → StandsAt look b p v
    back_low zero r v e up s low = subst (λ (x : ℕ). StandsAt look x p v) (let f : r ≡ b = omega arith in f) s
    back_low (suc d) zero v e up s low = absurd (omega arith)
    back_low (suc d) (suc r) v e up s low = elim (comes look top tree shows r (omega arith) p v s) [
      | Same there ↦ back_low d r v (omega arith) (omega arith) there low
      | Next u own copy pred there ↦ absurd (omega arith)
      | Fresh q w c s2 own fresh ↦ absurd (not_new r v (omega arith) up q w c s2 own fresh)
    ]

    -- what stands there is what stood in the base, or goes on from it
    pub chain_back : (x : NodeRev) → StandsAt look b p x → (d r : ℕ) (v : NodeRev) → r ≡ d + b → r ≤ h → StandsAt look r p v → (v ≡ x) ⊎ IsBehind look v x
    chain_back x atx zero r v e up s = inl (stands_same look b p v x (subst (λ (z : ℕ). StandsAt look z p v) (let f : r ≡ b = omega arith in f) s) atx)
    chain_back x atx (suc d) zero v e up s = absurd (omega arith)
    chain_back x atx (suc d) (suc r) v e up s = elim (comes look top tree shows r (omega arith) p v s) [
      | Same there ↦ chain_back x atx d r v (omega arith) (omega arith) there
      | Next u own copy pred there ↦ inr (elim (chain_back x atx d r u (omega arith) (omega arith) there) [
        | inl same ↦ subst (λ (z : NodeRev). IsBehind look v z) same (rules.Next v u pred)
        | inr more ↦ rules.Further v u x pred more
      ])
      | Fresh q w c s2 own fresh ↦ absurd (not_new r v (omega arith) up q w c s2 own fresh)
    ]

  -- the copy root that whoever changes the path since gives to what stands there
  pub record OneRoot (p : Path) : Type 0 where
    pub root : ℕ × Path
    pub low : root.0 ≤ b
    pub by_head : (r : ℕ) (y : NodeRev) → b < r → r ≤ h → StandsAt look r p y → b < own_rev y → copy_root_of y ≡ root
    pub by_draft : (u : NodeRev) → own p ≡ Some u → IsOwn u → (n : ℕ) → top < n → draft_root n u ≡ root

  root_low : (r : ℕ) (p : Path) (v : NodeRev) → StandsAt look r p v → (copy_root_of v).0 ≤ own_rev v
  root_low r p v at = root_le v v.copy_root (stands_home look r p v at).0.root

  base_root : OneRoot []
  base_root = record { root = copy_root_of draft.root.1; low = low; by_head = roots; by_draft = by_draft }
    where
      low : (copy_root_of draft.root.1).0 ≤ b
      low = let k = root_low b [] draft.root.1 draft.root.3 in let i = shows.ids.root_id b draft.root.1 (omega arith) draft.root.3 in omega (arith, k, i.1)

      down_to : (d r : ℕ) (y : NodeRev) → r ≡ d + b → r ≤ h → StandsAt look r [] y → copy_root_of y ≡ copy_root_of draft.root.1
      down_to zero r y e up s = ap copy_root_of (stands_same look b [] y draft.root.1 (subst (λ (x : ℕ). StandsAt look x [] y) (let f : r ≡ b = omega arith in f) s) draft.root.3)
      down_to (suc d) zero y e up s = absurd (omega arith)
      down_to (suc d) (suc r) y e up s =
          let before = (shows.each r (omega arith)).each [] in
          let u : StandsAt look r [] before.1.0 = (before.1.0, before.1.1, refl) in
          shows.ids.root_root r y before.1.0 (omega arith) s u ∙ down_to d r before.1.0 (omega arith) (omega arith) u

      roots : (r : ℕ) (y : NodeRev) → b < r → r ≤ h → StandsAt look r [] y → b < own_rev y → copy_root_of y ≡ copy_root_of draft.root.1
      roots r y less up s own = down_to (Rattle.std.specs.Prelude.◌-◌ r b) r y (omega arith) up s

      by_draft : (u : NodeRev) → own [] ≡ Some u → IsOwn u → (n : ℕ) → top < n → draft_root n u ≡ copy_root_of draft.root.1
      by_draft u e mine n lt = subst (λ (x : NodeRev). draft_root n x ≡ copy_root_of draft.root.1) (some_same (own []) draft.root.0 u draft.root.2 e) (draft.root.9 n lt)

  -- the choice between the directory's root and one's own
  abbrev pick : ℕ → ℕ × Path → ℕ × Path → ℕ × Path
  pick own_rev dir mine = if nat_lt own_rev dir.0 then dir else mine

  pick_own : (o : ℕ) (d m : ℕ × Path) → d.0 ≤ o → pick o d m ≡ m
  pick_own o d m low = by (nat_lt o d.0) refl
    where
      by : (t : Bool) → nat_lt o d.0 ≡ t → (if t then d else m) ≡ m
      by true e = absurd (let f : o < d.0 = grind (arith, nat_tests) in omega arith)
      by false e = refl

  pick_low : (o k : ℕ) (d m : ℕ × Path) → d.0 ≤ k → m.0 ≤ k → (pick o d m).0 ≤ k
  pick_low o k d m dl ml = by (nat_lt o d.0)
    where
      by : (t : Bool) → (if t then d else m).0 ≤ k
      by true = dl
      by false = ml

  one_root_below : (p : Path) (name : PathName) → OneRoot p → BothHold (p ++ name ∷ []) → (y : NodeRev) → StandsAt look h (p ++ name ∷ []) y → (x : NodeRev) → StandsAt look b (p ++ name ∷ []) x → OneRoot (p ++ name ∷ [])
  one_root_below p name above both y at x atx = record {
    root = pick (own_rev x) above.root (copy_root_of x);
    low = pick_low (own_rev x) b above.root (copy_root_of x) above.low (let k = root_low b (p ++ name ∷ []) x atx in omega (arith, k, x_low));
    by_head = λ r v less up s own. by_head (Rattle.std.specs.Prelude.◌-◌ r b) r v (omega arith) up s own;
    by_draft = by_draft;
  }
    where
      x_low : own_rev x ≤ b
      x_low = (stands_home look b (p ++ name ∷ []) x atx).1

      by_head : (d r : ℕ) (v : NodeRev) → r ≡ d + b → r ≤ h → StandsAt look r (p ++ name ∷ []) v → b < own_rev v → copy_root_of v ≡ pick (own_rev x) above.root (copy_root_of x)
      by_head zero r v e up s own = absurd (let k = (stands_home look r (p ++ name ∷ []) v s).1 in omega arith)
      by_head (suc d) zero v e up s own = absurd (omega arith)
      by_head (suc d) (suc r) v e up s own = step (comes look top tree shows r (omega arith) (p ++ name ∷ []) v s) (λ u there own. by_head d r u (omega arith) (omega arith) there own)
        where
          step : Comes look r (p ++ name ∷ []) v → ((u : NodeRev) → StandsAt look r (p ++ name ∷ []) u → b < own_rev u → copy_root_of u ≡ pick (own_rev x) above.root (copy_root_of x)) → copy_root_of v ≡ pick (own_rev x) above.root (copy_root_of x)
          step (Same there) on = on v there own
          step (Fresh q w c s2 own2 fresh) on = absurd (not_new (p ++ name ∷ []) both.head y at r v (omega arith) up q w c s2 own2 fresh)
          step (Next u own2 copy pred there) on =
              let dir = parent look (suc r) p name v s in
              let home = child_home look dir.0 v name dir.2.1 in
              let up_home = (stands_home look (suc r) p dir.0 dir.1).1 in
              let dir_root = above.by_head (suc r) dir.0 (omega arith) up dir.1 (omega (arith, home.1, own2)) in
              let next = shows.ids.root_of_next (suc r) p name dir.0 v u (record { up_to = omega arith; above = dir.1; there = s }) own2 copy pred in
              let rule : copy_root_of v ≡ pick (own_rev u) above.root (copy_root_of u) = next ∙ (λ i. pick (own_rev u) (dir_root i) (copy_root_of u)) in
              elim (low_or b (own_rev u)) [
                | inl low ↦ (let was = back_low (p ++ name ∷ []) both.head y at d r u (omega arith) (omega arith) there low in
                    let same = stands_same look b (p ++ name ∷ []) u x was atx in
                    rule ∙ ap (λ (z : NodeRev). pick (own_rev z) above.root (copy_root_of z)) same)
                | inr high ↦ rule ∙ pick_own (own_rev u) above.root (copy_root_of u) (let k = above.low in omega arith) ∙ on u there high
              ]
            where
              low_or : (k m : ℕ) → (m ≤ k) ⊎ (k < m)
              low_or k m = grind arith

      by_draft : (u : NodeRev) → own (p ++ name ∷ []) ≡ Some u → IsOwn u → (n : ℕ) → top < n → draft_root n u ≡ pick (own_rev x) above.root (copy_root_of x)
      by_draft u e mine n lt =
          let bx = (are.each (p ++ name ∷ []) x).1 atx in
          elim (cases_Bool (effects marks (p ++ name ∷ [])).touched) [
            | inr un ↦ (let f = side.untouched (p ++ name ∷ []) x bx both.kept un in
                absurd (both_ways _ (lasting look b (p ++ name ∷ []) x atx).place (subst IsOwn (some_same (own (p ++ name ∷ [])) u x e f) mine)))
            | inl w ↦ (let s = side.touched (p ++ name ∷ []) x bx both.kept w in
                let same = some_same (own (p ++ name ∷ [])) s.0 u s.1 e in
                let next : IsSuccessor x u (effects marks (p ++ name ∷ [])).props_changed = subst (λ (z : NodeRev). IsSuccessor x z (effects marks (p ++ name ∷ [])).props_changed) same s.2 in
                let a = draft.above p name u e in
                let mine_dir = own_above a.0 a.1 in
                let g = draft.goes_on p name a.0 u a.1 e mine next.no_copy (λ none. (let q = sym next.predecessor ∙ none in cc)) in
                let one = pred_same look u g.1 x g.4 (x.id, next.predecessor, stands_of_id look b (p ++ name ∷ []) x atx) in
                g.5 n lt ∙ (λ i. pick (own_rev (one i)) (above.by_draft a.0 a.1 mine_dir n lt i) (copy_root_of (one i))))
          ]
        where
          own_above : (d : NodeRev) → own p ≡ Some d → IsOwn d
          own_above d f = elim (cases_Bool (in_txn d.id.place)) [
            | inl w ↦ w
            | inr plain ↦ absurd (both_ways _ (draft.below_lasting p name d u f plain e).1 mine)
          ]

  -- ---- all the way down

  abbrev pub AllHold : Path → Type 0
  AllHold p = (q : Path) → covers q p ≡ true → BothHold q

  base_there : (p : Path) (y : NodeRev) → StandsAt look h p y → held_by_head b (tree h p) ≡ true → (x : NodeRev) × StandsAt look b p x
  base_there p y at hold =
      let m = held_between p hold y at b (omega arith) le in
      let w = (shows.each b (omega arith)).each p in
      stands_in look b p (tree b p) m.0 m.1 w.0 w.1 w.2

  pub one_root : (p : Path) (y : NodeRev) → StandsAt look h p y → AllHold p → OneRoot p
  one_root = for_each look h (λ p y. AllHold p → OneRoot p)
      (λ p name dir v at kind child there above all.
      let x = base_there (p ++ name ∷ []) v there (all (p ++ name ∷ []) (Rattle.fsfs_base.proofs.PathLemmas.covers-refl (p ++ name ∷ []))).head in
      one_root_below p name (above (λ q c. all q (Rattle.fsfs_base.proofs.PathLemmas.covers-trans q p (p ++ name ∷ []) c (covers-longer p (name ∷ [])))))
      (all (p ++ name ∷ []) (Rattle.fsfs_base.proofs.PathLemmas.covers-refl (p ++ name ∷ []))) v there x.0 x.1)
      (λ v at all. base_root)
