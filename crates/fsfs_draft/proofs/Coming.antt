-- Where what stands in a tree comes from: step by step, it stood there in the revision before, or it goes on from what stood there,
-- or something at or above it was made or copied in that revision.
use Rattle.std.proofs.Common.{◌≡◌, ◌≤◌, ◌<◌, ◌⊎◌, ℕ, zero, suc, max, true, [], ◌∷◌, ◌++◌, length, take, refl, sym, ap, subst, ◌∙◌, arith, inl, inr}
use Rattle.std.specs.Prelude.{Result, Ok, Option, Some, None}
use Rattle.fsfs_base.specs.Paths.{PathName, Path, covers}
use Rattle.fsfs_tree.specs.Nodes.{Node, TreeFunction}
use Rattle.fsfs_base.specs.declared.kind.Kind.{Kind}
use Rattle.fsfs_base.specs.declared.kind.Kind.TheVariants.{File, Dir}
use Rattle.fsfs_base.proofs.PathLemmas.{covers-refl, covers-trans, covers-longer}
use Rattle.fsfs_revision.specs.Told.{RevisionBytes}
use Rattle.fsfs_noderev.specs.declared.node_id.NodeId.{NodeId}
use Rattle.fsfs_noderev.specs.declared.node_rev.CopySource.{CopySource}
use Rattle.fsfs_noderev.specs.declared.node_rev.NodeRev.{NodeRev}
use Rattle.fsfs_revision.specs.declared.wrong.Wrong.{Wrong}
use Rattle.fsfs_revision.specs.Shows.Reading.{offset_of, OfId, ChildOf, Stands, MetAt, StandsAt}
use Rattle.fsfs_revision.specs.Shows.Chains.{own_rev, IsPred, Chain, First, Breaks, Goes}
use Rattle.fsfs_revision.specs.Shows.Shown.{IsShown, Shows}
use Rattle.fsfs_revision.specs.Shows.IdRules.{IdRule, IsOf, IsChild}
use Rattle.fsfs_revision.proofs.OneWalk.{stands_same}
use Rattle.fsfs_revision.proofs.Walks.{child_stands}
use Rattle.fsfs_revision.proofs.TreeLaw.{stands_home, child_home}
use Rattle.fsfs_revision.specs.Ancestry.Trees.{ShowTrees}
use Rattle.fsfs_revision.proofs.Standing.{for_each}
use Rattle.fsfs_revision.proofs.Earlier.{stands_of_id, named_same, pred_same, no_pred}
use Rattle.fsfs_revision.proofs.Sources.{Before, Nothing, One, before}
use Rattle.fsfs_revision.proofs.Behind.{shown_there}

-- made, or copied
abbrev pub IsFresh : NodeRev → Type 0
IsFresh v = (v.predecessor ≡ None) ⊎ ((from : CopySource) × (v.copy_from ≡ Some from))

-- what stands at p in the revision after r
pub data Comes (look : RevisionBytes) (r : ℕ) (p : Path) (v : NodeRev) : Type 0 where
  Same : StandsAt look r p v → Comes look r p v
  Next : (u : NodeRev) → own_rev v ≡ suc r → v.copy_from ≡ None → IsPred look v u → StandsAt look r p u → Comes look r p v
  Fresh : (q : Path) (w : NodeRev) → covers q p ≡ true → StandsAt look (suc r) q w → own_rev w ≡ suc r → IsFresh w → Comes look r p v

-- what stands in revision r stood somewhere before, or goes on from what did, or was made there
pub data Was (look : RevisionBytes) (r : ℕ) (v : NodeRev) : Type 0 where
  Earlier : (s : ℕ) (q : Path) → s < r → StandsAt look s q v → Was look r v
  Over : (u : NodeRev) (s : ℕ) (q : Path) → s < r → own_rev v ≡ r → IsPred look v u → StandsAt look s q u → Was look r v
  New : own_rev v ≡ r → v.predecessor ≡ None → Was look r v

pub copy_or : (o : Option CopySource) → (o ≡ None) ⊎ ((from : CopySource) × (o ≡ Some from))
copy_or None = inl refl
copy_or (Some from) = inr (from, refl)

pub below_or_at : (a b : ℕ) → a ≤ b → (a < b) ⊎ (a ≡ b)
below_or_at a b h = grind arith

module _ (look : RevisionBytes) (top : ℕ) (tree : ℕ → TreeFunction) (shows : ShowTrees look top tree) where
  pub behind_at : (r : ℕ) (p : Path) (v : NodeRev) → r ≤ top → StandsAt look r p v → Before look v
  behind_at r p v le at = before look top tree shows r p v le at

  -- the predecessor of a root
  root_before : (r : ℕ) (v : NodeRev) → suc r ≤ top → StandsAt look (suc r) [] v → (u : NodeRev) × IsPred look v u × StandsAt look r [] u
  root_before r v le at =
      let before = (shows.each r (omega arith)).each [] in
      by before.0 before.1
    where
      by : (met : _) → MetAt look r [] (Ok met) → (u : NodeRev) × IsPred look v u × StandsAt look r [] u
      by met w =
          let here : StandsAt look r [] w.0 = (w.0, w.1, refl) in
          (w.0, (w.0.id, shows.ids.root_next r v w.0 le at here, stands_of_id look r [] w.0 here), here)

  source_before : (r : ℕ) (p : Path) (v : NodeRev) (from : CopySource) → r ≤ top → StandsAt look r p v → v.copy_from ≡ Some from → (u : NodeRev) × IsPred look v u × StandsAt look from.rev from.path u × (from.rev < own_rev v)
  source_before r p v from le at is =
      let s = shows.ids.copy_source v from (r, p, le, at) is in
      (s.1, (s.1.id, s.3, stands_of_id look from.rev from.path s.1 s.2), s.2, s.0)

  module _ (r : ℕ) (le : suc r ≤ top) where
    child_comes : (p : Path) (name : PathName) (dir v : NodeRev) → StandsAt look (suc r) p dir → dir.kind ≡ Dir → ChildOf look dir name (Ok (Some v)) → StandsAt look (suc r) (p ++ name ∷ []) v → Comes look r p dir → Comes look r (p ++ name ∷ []) v
    child_comes p name dir v at is child there (Same before) = Same (child_stands look r dir v p name before is child)
    child_comes p name dir v at is child there (Fresh q w c s own fresh) = Fresh q w (covers-trans q p (p ++ name ∷ []) c (covers-longer p (name ∷ []))) s own fresh
    child_comes p name dir v at is child there (Next u own no_copy pred before) =
        let kind : u.kind ≡ Dir = sym (shows.ids.kind dir u (suc r, p, le, at) pred) ∙ is in
        let home = child_home look dir v name child in
        let place : IsChild look top (suc r) p name dir v = record { up_to = le; above = at; there = there } in
        elim (below_or_at (own_rev v) (suc r) (subst (λ (n : ℕ). own_rev v ≤ n) own home.1)) [
          | inl less ↦ (let o = shows.ids.older (suc r) p name dir v place (subst (λ (n : ℕ). own_rev v < n) (sym own) less) in
              let same = pred_same look dir o.0 u o.1 pred in
              Same (child_stands look r u v p name before kind (subst (λ (x : NodeRev). ChildOf look x name (Ok (Some v))) same o.2)))
          | inr here ↦ elim (copy_or v.copy_from) [
            | inr from ↦ Fresh (p ++ name ∷ []) v (covers-refl (p ++ name ∷ [])) there here (inr from)
            | inl none ↦ elim (behind_at (suc r) (p ++ name ∷ []) v le there) [
              | Nothing lacks ↦ Fresh (p ++ name ∷ []) v (covers-refl (p ++ name ∷ [])) there here (inl lacks)
              | One w back ↦ (let g = shows.ids.goes_on (suc r) p name dir v w place (here ∙ sym own) none back in
                  let same = pred_same look dir g.0 u g.1 pred in
                  Next w here none back (child_stands look r u w p name before kind (subst (λ (x : NodeRev). ChildOf look x name (Ok (Some w))) same g.2)))
            ]
          ]
        ]

    pub comes : (p : Path) (v : NodeRev) → StandsAt look (suc r) p v → Comes look r p v
    comes = for_each look (suc r) (Comes look r) child_comes
        (λ v at. let b = root_before r v le at in Next b.0 (shows.ids.root_id (suc r) v le at).2 (shows.ids.root_copy (suc r) v le at) b.1 b.2)

  module _ (r : ℕ) (le : r ≤ top) where
    copied_was : (p : Path) (v : NodeRev) (from : CopySource) → StandsAt look r p v → own_rev v ≡ r → v.copy_from ≡ Some from → Was look r v
    copied_was p v from at own is = let s = source_before r p v from le at is in Over s.0 from.rev from.path (subst (λ (n : ℕ). from.rev < n) own s.3) own s.1 s.2

    child_was : (p : Path) (name : PathName) (dir v : NodeRev) → StandsAt look r p dir → dir.kind ≡ Dir → ChildOf look dir name (Ok (Some v)) → StandsAt look r (p ++ name ∷ []) v → Was look r dir → Was look r v
    child_was p name dir v at is child there (Earlier s q less before) = Earlier s (q ++ name ∷ []) less (child_stands look s dir v q name before is child)
    child_was p name dir v at is child there (Over u s q less own pred before) =
        let kind : u.kind ≡ Dir = sym (shows.ids.kind dir u (r, p, le, at) pred) ∙ is in
        let home = child_home look dir v name child in
        let place : IsChild look top r p name dir v = record { up_to = le; above = at; there = there } in
        elim (below_or_at (own_rev v) r (subst (λ (n : ℕ). own_rev v ≤ n) own home.1)) [
          | inl lower ↦ (let o = shows.ids.older r p name dir v place (subst (λ (n : ℕ). own_rev v < n) (sym own) lower) in
              let same = pred_same look dir o.0 u o.1 pred in
              Earlier s (q ++ name ∷ []) less (child_stands look s u v q name before kind (subst (λ (x : NodeRev). ChildOf look x name (Ok (Some v))) same o.2)))
          | inr here ↦ elim (copy_or v.copy_from) [
            | inr from ↦ copied_was (p ++ name ∷ []) v from.0 there here from.1
            | inl none ↦ elim (behind_at r (p ++ name ∷ []) v le there) [
              | Nothing lacks ↦ New here lacks
              | One w back ↦ (let g = shows.ids.goes_on r p name dir v w place (here ∙ sym own) none back in
                  let same = pred_same look dir g.0 u g.1 pred in
                  Over w s (q ++ name ∷ []) less here back (child_stands look s u w q name before kind (subst (λ (x : NodeRev). ChildOf look x name (Ok (Some w))) same g.2)))
            ]
          ]
        ]
    child_was p name dir v at is child there (New own lacks) =
        let home = child_home look dir v name child in
        let place : IsChild look top r p name dir v = record { up_to = le; above = at; there = there } in
        elim (below_or_at (own_rev v) r (subst (λ (n : ℕ). own_rev v ≤ n) own home.1)) [
          | inl lower ↦ (let o = shows.ids.older r p name dir v place (subst (λ (n : ℕ). own_rev v < n) (sym own) lower) in absurd (no_pred look dir o.0 o.1 lacks))
          | inr here ↦ elim (copy_or v.copy_from) [
            | inr from ↦ copied_was (p ++ name ∷ []) v from.0 there here from.1
            | inl none ↦ elim (behind_at r (p ++ name ∷ []) v le there) [
              | Nothing none ↦ New here none
              | One w back ↦ (let g = shows.ids.goes_on r p name dir v w place (here ∙ sym own) none back in absurd (no_pred look dir g.0 g.1 lacks))
            ]
          ]
        ]

    root_was : (v : NodeRev) → StandsAt look r [] v → Was look r v
    root_was v at = by r refl
      where
        by : (k : ℕ) → r ≡ k → Was look r v
        by zero e =
            let first = shows.ids.first v (subst (λ (n : ℕ). StandsAt look n [] v) e at) in
            New (shows.ids.root_id r v le at).2 first.0
        by (suc k) e =
            let b = root_before k v (subst (λ (n : ℕ). n ≤ top) e le) (subst (λ (n : ℕ). StandsAt look n [] v) e at) in
            Over b.0 k [] (omega arith) (shows.ids.root_id r v le at).2 b.1 b.2

    pub was : (p : Path) (v : NodeRev) → StandsAt look r p v → Was look r v
    was = for_each look r (λ p v. Was look r v) child_was root_was

  -- the predecessor of what stands in a tree stands in an earlier one
  pred_below : (k : ℕ) (r : ℕ) (p : Path) (v u : NodeRev) → r < k → r ≤ top → StandsAt look r p v → IsPred look v u → IsOf look top u
  pred_below zero r p v u less le at pred = absurd (omega arith)
  pred_below (suc k) r p v u less le at pred = by (was r le p v at) (λ s q lower low before. pred_below k s q v u lower low before pred)
    where
      by : Was look r v → ((s : ℕ) (q : Path) → s < k → s ≤ top → StandsAt look s q v → IsOf look top u) → IsOf look top u
      by (Earlier s q lower before) on = on s q (omega arith) (omega arith) before
      by (Over w s q lower own back before) on =
          let le : s ≤ top = omega arith in
          (s, q, le, subst (λ (x : NodeRev). StandsAt look s q x) (pred_same look v w u back pred) before)
      by (New own lacks) on = absurd (no_pred look v u pred lacks)

  pub pred_stands : (v u : NodeRev) → IsOf look top v → IsPred look v u → IsOf look top u
  pred_stands v u of pred = pred_below (suc of.0) of.0 of.1 v u (omega arith) of.2 of.3 pred

  -- the end of a chain is a node-revision of a tree, of the same node
  pub chain_end : (v : NodeRev) (end : Result ℕ Wrong) (first : ℕ) → Chain look v end → end ≡ Ok first → IsOf look top v → (e : NodeRev) × IsOf look top e × (e.predecessor ≡ None) × (own_rev e ≡ first) × (e.id.node ≡ v.id.node)
  chain_end _ _ first (First v none) is of = let own : own_rev v ≡ first = (let f = is in cc) in (v, of, none, own, refl)
  chain_end _ _ first (Breaks v id w e o) is of = absurd cc
  chain_end _ _ first (Goes v u id end e o c) is of =
      let pred : IsPred look v u = (id, e, o) in
      let rest = chain_end u end first c is (pred_stands v u of pred) in
      (rest.0, rest.1, rest.2, rest.3, rest.4 ∙ sym (shows.ids.node v u of pred))

  -- what is of one node has one beginning
  pub same_first : (v w : NodeRev) (a b : ℕ) → Chain look v (Ok a) → Chain look w (Ok b) → IsOf look top v → IsOf look top w → v.id.node ≡ w.id.node → a ≡ b
  same_first v w a b c d of other e =
      let x = chain_end v (Ok a) a c refl of in
      let y = chain_end w (Ok b) b d refl other in
      let one : x.0.id ≡ y.0.id = shows.ids.begins_once x.0 y.0 x.1 y.1 x.2 y.2 (x.4 ∙ e ∙ sym y.4) in
      sym x.3 ∙ own_same x.0 y.0 one ∙ y.3
    where
      own_same : (x y : NodeRev) → x.id ≡ y.id → own_rev x ≡ own_rev y
      own_same x y e = λ i. (offset_of (e i).place).rev
