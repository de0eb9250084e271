-- What stands at a path one revision back, where nothing was copied to the path since.
use Rattle.std.proofs.Common.{◌≡◌, ◌≤◌, ◌<◌, ◌-◌, ℕ, zero, suc, Bool, true, false, nat_lt, [], ◌∷◌, ◌++◌, refl, sym, ap, subst, ◌∙◌, append_assoc, append-nil, arith}
use Rattle.std.specs.Prelude.{Result, Ok, Option, Some, None, IsSomeAnd, if◌then◌else◌}
use Rattle.fsfs_base.specs.Paths.{PathName, Path}
use Rattle.fsfs_tree.specs.Nodes.{Node, TreeFunction}
use Rattle.fsfs_base.specs.declared.kind.Kind.TheVariants.{Dir}
use Rattle.fsfs_revision.specs.Told.{RevisionBytes}
use Rattle.fsfs_noderev.specs.declared.node_id.NodeId.{NodeId}
use Rattle.fsfs_noderev.specs.declared.node_rev.CopySource.{CopySource}
use Rattle.fsfs_noderev.specs.declared.node_rev.NodeRev.{NodeRev}
use Rattle.fsfs_revision.specs.declared.wrong.Wrong.{Wrong}
use Rattle.fsfs_revision.specs.Shows.Reading.{ChildOf, StandsAt, Met, Stands}
use Rattle.fsfs_revision.specs.Shows.Chains.{own_rev, IsPred, Chain, First, Breaks, Goes, copy_root_of}
use Rattle.fsfs_revision.specs.Shows.IdRules.{IsChild, root_after}
use Rattle.fsfs_revision.specs.Shows.Shown.{IsShown, IsShownAs, Shows}
use Rattle.fsfs_revision.proofs.OneWalk.{met_same}
use Rattle.fsfs_revision.proofs.TreeLaw.{child_home, stands_home, root_le}
use Rattle.fsfs_revision.proofs.Walks.{child_stands}
use Rattle.fsfs_revision.proofs.OneTree.{some_or_none}
use Rattle.fsfs_revision.specs.Ancestry.CopyRoots.{later_root, IsRootedFrom, IsRootedAt}
use Rattle.fsfs_revision.specs.Ancestry.Trees.{ShowTrees}
use Rattle.fsfs_revision.proofs.Roots.{is_less, is_not_less, rooted_stands, rooted_child, rooted_up, IsCounted, self_counted, later_counted, later_of_counted, later_of_older, later_up_here}
use Rattle.fsfs_revision.proofs.Earlier.{root_of_id, pred_same, no_pred, root_there, is_child, pred_dir}

-- ---- the chain of predecessors is whole where a tree is shown

pub chain_pred : (look : RevisionBytes) (v : NodeRev) (end : Result ℕ Wrong) (first : ℕ) (id : NodeId) → Chain look v end → end ≡ Ok first → v.predecessor ≡ Some id → (u : NodeRev) × IsPred look v u × Chain look u (Ok first)
chain_pred look _ _ first id (First v none) is some = some_or_none id v.predecessor some none
chain_pred look _ _ first id (Breaks v other w e o) is some = absurd cc
chain_pred look _ _ first id (Goes v u other end e o c) is some = (u, (other, e, o), subst (λ (r : Result ℕ Wrong). Chain look u r) is c)

shown_of : (look : RevisionBytes) (r : ℕ) (p : Path) (v : NodeRev) (o : Option Node) → IsSomeAnd o (IsShown look r p v) → (n : Node) × (o ≡ Some n) × IsShown look r p v n
shown_of look r p v None h = absurd h
shown_of look r p v (Some n) h = (n, refl, h)

pub shown_there : (look : RevisionBytes) (r : ℕ) (tree : TreeFunction) → Shows look r tree → (p : Path) (v : NodeRev) → StandsAt look r p v → (n : Node) × (tree p ≡ Some n) × IsShown look r p v n
shown_there look r tree shows p v at =
    let w = shows.each p in
    shown_of look r p v (tree p) (subst (λ (m : Met). IsShownAs look r p m (tree p)) (met_same look r p w.0 (Stands v) w.1 at) w.2)

pub has_pred : (look : RevisionBytes) (r : ℕ) (tree : TreeFunction) → Shows look r tree → (p : Path) (v : NodeRev) (id : NodeId) → StandsAt look r p v → v.predecessor ≡ Some id → (u : NodeRev) × IsPred look v u
has_pred look r tree shows p v id at is =
    let n = shown_there look r tree shows p v at in
    let s = n.2 in
    let c = chain_pred look v (Ok s.first) s.first id s.chain refl is in
    (c.0, c.1)

-- ---- what was there

-- v of revision s + 1 stood there, with the same latest copy root; or it is new; or its predecessor stood there
pub data IsBehind (look : RevisionBytes) (s : ℕ) (p : Path) (root : ℕ × Path) (v : NodeRev) : Type 0 where
  Same : own_rev v ≤ s → IsRootedAt look s p v root → IsBehind look s p root v
  Fresh : own_rev v ≡ suc s → v.predecessor ≡ None → IsBehind look s p root v
  Moved : (u : NodeRev) → own_rev v ≡ suc s → IsPred look v u → IsRootedAt look s p u root → IsBehind look s p root v

-- a changed node has the latest copy root that its predecessor had
root_by : (dir w : NodeRev) (root : ℕ × Path) → IsCounted (copy_root_of dir) root → (copy_root_of w).0 ≤ own_rev w → (b : Bool) → nat_lt (own_rev w) (copy_root_of dir).0 ≡ b
    → later_root root (copy_root_of w) ≡ later_root root (if b then copy_root_of dir else copy_root_of w)
root_by dir w root counted le false e = refl
root_by dir w root counted le true e =
    let less = is_less (own_rev w) (copy_root_of dir).0 e in
    let most = counted.most in
    later_of_older root (copy_root_of w) (omega (arith, less, most, le)) ∙ sym (later_of_counted root (copy_root_of dir) counted)

module _ (look : RevisionBytes) (top : ℕ) (tree : ℕ → TreeFunction) (trees : ShowTrees look top tree) (s : ℕ) (le : suc s ≤ top) where
  behind_root : (v : NodeRev) → StandsAt look (suc s) [] v → IsBehind look s [] (copy_root_of v) v
  behind_root v at =
      let a = root_there look top tree trees s (omega (arith, le)) in
      let there : StandsAt look s [] a.0 = (a.0, a.1, refl) in
      let root = trees.ids.root_root s v a.0 le at there in
      Moved a.0 (trees.ids.root_id (suc s) v le at).2 (a.0.id, trees.ids.root_next s v a.0 le at there, root_of_id look s a.0 a.1) (a.0, a.1, (refl, root))

  module _ (p : Path) (name : PathName) (a v : NodeRev) (root : ℕ × Path) (at : StandsAt look (suc s) p a) (dir : a.kind ≡ Dir) (child : ChildOf look a name (Ok (Some v))) (counted : IsCounted (copy_root_of a) root)
      (low : (later_root root (copy_root_of v)).0 ≤ s) where
    mine : IsChild look top (suc s) p name a v
    mine = is_child look top tree trees (suc s) le p name a v at dir child

    there : StandsAt look (suc s) (p ++ name ∷ []) v
    there = child_stands look (suc s) a v p name at dir child

    under : own_rev v ≤ own_rev a
    under = (child_home look a v name child).1

    -- nothing was copied here in revision s + 1
    no_copy : own_rev v ≡ suc s → (o : Option CopySource) → v.copy_from ≡ o → v.copy_from ≡ None
    no_copy own None is = is
    no_copy own (Some from) is =
        let e = trees.ids.copy_root v from (suc s, p ++ name ∷ [], le, there) is in
        let f : (copy_root_of v).0 ≡ own_rev v = ap (λ (x : ℕ × Path). x.0) e in
        let up = later_up_here root (copy_root_of v) in
        absurd (omega (arith, f, up, low, own))

    abbrev Behind : Type 0
    Behind = IsBehind look s (p ++ name ∷ []) (later_root root (copy_root_of v)) v

    -- in a directory that was there
    in_same : own_rev a ≤ s → IsRootedAt look s p a root → Behind
    in_same own rooted = Same (omega (arith, own, under)) (rooted_child look s p a v root name rooted dir child)

    -- in a new directory all is new
    in_fresh : own_rev a ≡ suc s → a.predecessor ≡ None → (b : Bool) → nat_lt (own_rev v) (own_rev a) ≡ b → Behind
    in_fresh own none true e =
        let g = trees.ids.older (suc s) p name a v mine (is_less (own_rev v) (own_rev a) e) in
        no_pred look a g.0 g.1 none
    in_fresh own none false e =
        let over = is_not_less (own_rev v) (own_rev a) e in
        let same : own_rev v ≡ own_rev a = omega (arith, under, over) in
        let now : own_rev v ≡ suc s = same ∙ own in
        Fresh now (by now same v.predecessor refl)
      where
        by : own_rev v ≡ suc s → own_rev v ≡ own_rev a → (o : Option NodeId) → v.predecessor ≡ o → v.predecessor ≡ None
        by now same None is = is
        by now same (Some id) is =
            let w = has_pred look (suc s) (tree (suc s)) (trees.each (suc s) le) (p ++ name ∷ []) v id there is in
            let g = trees.ids.goes_on (suc s) p name a v w.0 mine same (no_copy now v.copy_from refl) w.1 in
            no_pred look a g.0 g.1 none

    -- in a directory that was changed
    in_moved : (u : NodeRev) → own_rev a ≡ suc s → IsPred look a u → IsRootedAt look s p u root → (b : Bool) → nat_lt (own_rev v) (own_rev a) ≡ b → Behind
    in_moved u own pred rooted true e =
        let less = is_less (own_rev v) (own_rev a) e in
        let g = trees.ids.older (suc s) p name a v mine less in
        let same : g.0 ≡ u = pred_same look a g.0 u g.1 pred in
        let here : ChildOf look u name (Ok (Some v)) = subst (λ (x : NodeRev). ChildOf look x name (Ok (Some v))) same g.2 in
        Same (omega (arith, own, less)) (rooted_child look s p u v root name rooted (pred_dir look top tree trees (suc s) le p name a v at dir child u pred) here)
    in_moved u own pred rooted false e = by v.predecessor refl
      where
        over : own_rev a ≤ own_rev v
        over = is_not_less (own_rev v) (own_rev a) e

        same : own_rev v ≡ own_rev a
        same = omega (arith, under, over)

        now : own_rev v ≡ suc s
        now = same ∙ own

        on : (w : NodeRev) → IsPred look v w → Behind
        on w going =
            let g = trees.ids.goes_on (suc s) p name a v w mine same (no_copy now v.copy_from refl) going in
            let one : g.0 ≡ u = pred_same look a g.0 u g.1 pred in
            let here : ChildOf look u name (Ok (Some w)) = subst (λ (x : NodeRev). ChildOf look x name (Ok (Some w))) one g.2 in
            let behind = rooted_child look s p u w root name rooted (pred_dir look top tree trees (suc s) le p name a v at dir child u pred) here in
            let home = (stands_home look s (p ++ name ∷ []) w (rooted_stands look s (p ++ name ∷ []) w (later_root root (copy_root_of w)) behind)).0 in
            let next : copy_root_of v ≡ root_after a w = trees.ids.root_of_next (suc s) p name a v w mine now (no_copy now v.copy_from refl) going in
            let kept : later_root root (copy_root_of w) ≡ later_root root (copy_root_of v) =
            root_by a w root counted (root_le w w.copy_root home.root) (nat_lt (own_rev w) (copy_root_of a).0) refl ∙ ap (λ (x : ℕ × Path). later_root root x) (sym next) in
            Moved w now going (subst (λ (x : ℕ × Path). IsRootedAt look s (p ++ name ∷ []) w x) kept behind)

        by : (o : Option NodeId) → v.predecessor ≡ o → Behind
        by None is = Fresh now is
        by (Some id) is = let w = has_pred look (suc s) (tree (suc s)) (trees.each (suc s) le) (p ++ name ∷ []) v id there is in on w.0 w.1

    behind_child : IsBehind look s p root a → Behind
    behind_child (Same own rooted) = in_same own rooted
    behind_child (Fresh own none) = in_fresh own none (nat_lt (own_rev v) (own_rev a)) refl
    behind_child (Moved u own pred rooted) = in_moved u own pred rooted (nat_lt (own_rev v) (own_rev a)) refl

  behind_from : (front rest : Path) (a v : NodeRev) (root last : ℕ × Path) → StandsAt look (suc s) front a → IsCounted (copy_root_of a) root → IsBehind look s front root a
      → IsRootedFrom look a root rest v last → last.0 ≤ s → IsBehind look s (front ++ rest) last v
  behind_from front [] a v root last at counted behind g low =
      subst (λ (p : Path). IsBehind look s p last v) (sym (append-nil front))
      (subst (λ (x : NodeRev). IsBehind look s front last x) (sym g.0) (subst (λ (x : ℕ × Path). IsBehind look s front x a) (sym g.1) behind))
  behind_from front (name ∷ names) a v root last at counted behind g low =
      let up = rooted_up look g.1 (later_root root (copy_root_of g.1)) names v last g.3 in
      subst (λ (p : Path). IsBehind look s p last v) (append_assoc front (name ∷ []) names)
      (behind_from (front ++ name ∷ []) names g.1 v (later_root root (copy_root_of g.1)) last (child_stands look (suc s) a g.1 front name at g.0 g.2) (later_counted root (copy_root_of g.1))
      (behind_child front name a g.1 root at g.0 g.2 counted (omega (arith, up, low)) behind) g.3 low)

  pub behind_at : (p : Path) (v : NodeRev) (last : ℕ × Path) → IsRootedAt look (suc s) p v last → last.0 ≤ s → IsBehind look s p last v
  behind_at p v last g low =
      let at : StandsAt look (suc s) [] g.0 = (g.0, g.1, refl) in
      behind_from [] p g.0 v (copy_root_of g.0) last at (self_counted (copy_root_of g.0)) (behind_root g.0 at) g.2 low

module _ (look : RevisionBytes) (top : ℕ) (tree : ℕ → TreeFunction) (trees : ShowTrees look top tree) where
  -- the predecessor stood at the path right before the revision of its successor, with the same latest copy root
  pub before_it : (r : ℕ) (p : Path) (v u : NodeRev) (last : ℕ × Path) → r ≤ top → IsRootedAt look r p v last → last.0 < own_rev v → IsPred look v u → IsRootedAt look (own_rev v - 1) p u last
  before_it zero p v u last le g less pred =
      let home = (stands_home look zero p v (rooted_stands look zero p v last g)).1 in
      absurd (omega (arith, home, less))
  before_it (suc s) p v u last le g less pred = by (behind_at look top tree trees s le p v last g (omega (arith, home, less))) (λ rooted. before_it s p v u last (omega (arith, le)) rooted less pred)
    where
      home : own_rev v ≤ suc s
      home = (stands_home look (suc s) p v (rooted_stands look (suc s) p v last g)).1

      by : IsBehind look s p last v → (IsRootedAt look s p v last → IsRootedAt look (own_rev v - 1) p u last) → IsRootedAt look (own_rev v - 1) p u last
      by (Same own rooted) down = down rooted
      by (Fresh own none) down = no_pred look v u pred none
      by (Moved w own other rooted) down =
          let same : w ≡ u = pred_same look v w u other pred in
          let here : s ≡ own_rev v - 1 = omega (arith, own) in
          subst (λ (n : ℕ). IsRootedAt look n p u last) here (subst (λ (x : NodeRev). IsRootedAt look s p x last) same rooted)
