-- Predecessors are of earlier revisions, and stand in earlier trees.
use Rattle.std.proofs.Common.{◌≡◌, ◌≤◌, ◌<◌, ℕ, zero, suc, Bool, true, false, nat_lt, [], ◌∷◌, ◌++◌, refl, sym, subst, ◌∙◌, arith}
use Rattle.std.proofs.lemmas.Bool.{and_parts}
use Rattle.std.specs.Prelude.{Ok, Option, Some, None}
use Rattle.fsfs_base.specs.Paths.{PathName, Path}
use Rattle.fsfs_tree.specs.Nodes.{TreeFunction}
use Rattle.fsfs_base.specs.declared.kind.Kind.TheVariants.{Dir}
use Rattle.fsfs_revision.specs.Told.{RevisionBytes}
use Rattle.fsfs_noderev.specs.declared.node_id.NodeId.{NodeId}
use Rattle.fsfs_noderev.specs.declared.node_rev.CopySource.{CopySource}
use Rattle.fsfs_noderev.specs.declared.node_rev.NodeRev.{NodeRev}
use Rattle.fsfs_revision.specs.Damage.Damages.{place_of}
use Rattle.fsfs_revision.specs.Nodes.{is_own_place, is_directory}
use Rattle.fsfs_revision.specs.declared.damage.RevOffset.{RevOffset}
use Rattle.fsfs_revision.specs.Shows.Reading.{offset_of, NodeAt, RootOf, OfId, DirEntry, OfNamed, named, ChildOf, StandsAt}
use Rattle.fsfs_revision.specs.Shows.Chains.{own_rev, IsPred, copy_root_of}
use Rattle.fsfs_revision.specs.Shows.IdRules.{IsChild}
use Rattle.fsfs_revision.proofs.OneAnswer.{ok_same}
use Rattle.fsfs_revision.proofs.OneWalk.{of_id_one}
use Rattle.fsfs_revision.proofs.TreeLaw.{own_place, child_home, stands_home}
use Rattle.fsfs_revision.proofs.Walks.{child_stands}
use Rattle.fsfs_revision.specs.Ancestry.CopyRoots.{later_root, IsRootedFrom}
use Rattle.fsfs_revision.specs.Ancestry.Trees.{ShowTrees, PredecessorsAreEarlier}
use Rattle.fsfs_revision.proofs.Roots.{is_less, is_not_less, stands_rooted}

-- ---- what stands somewhere is had by its id

module _ (look : RevisionBytes) where
  node_of_id : (at : RevOffset) (v : NodeRev) → NodeAt look at (Ok v) → offset_of v.id.place ≡ at → OfId look v.id (Ok v)
  node_of_id at v node here = (v, subst (λ (x : RevOffset). NodeAt look x (Ok v)) (sym here) node, (refl, refl))

  pub root_of_id : (r : ℕ) (v : NodeRev) → RootOf look r (Ok v) → OfId look v.id (Ok v)
  root_of_id r v w =
      let at = place_of r w.2.0.root in
      let n = w.2.2.0 in
      let both = and_parts (is_own_place at n.id.place) (is_directory n.kind) w.2.2.2.1 in
      subst (λ (x : NodeRev). OfId look x.id (Ok x)) (sym w.2.2.2.0) (node_of_id at n (w.0, w.1, w.2.2.1) (own_place at n.id.place both.0))

  named_of_id : (u : NodeRev) (o : Option DirEntry) → OfNamed look o (Ok (Some u)) → OfId look u.id (Ok u)
  named_of_id u None of = absurd cc
  named_of_id u (Some e) of =
      let x : NodeRev = of.0 in
      let read : OfId look e.id (Ok x) = of.1 in
      let same : u ≡ x = of.2.0 in
      let id_is : x.id ≡ e.id = (λ i. (read.2.0 i).id) ∙ read.2.1 in
      let mine : OfId look x.id (Ok x) = subst (λ (i : NodeId). OfId look i (Ok x)) (sym id_is) read in
      subst (λ (y : NodeRev). OfId look y.id (Ok y)) (sym same) mine

  pub child_of_id : (a u : NodeRev) (name : PathName) → ChildOf look a name (Ok (Some u)) → OfId look u.id (Ok u)
  child_of_id a u name w = named_of_id u (named name w.0) w.2

  walk_of_id : (a v : NodeRev) (root last : ℕ × Path) (p : Path) → OfId look a.id (Ok a) → IsRootedFrom look a root p v last → OfId look v.id (Ok v)
  walk_of_id a v root last [] of g = subst (λ (x : NodeRev). OfId look x.id (Ok x)) (sym g.0) of
  walk_of_id a v root last (name ∷ names) of g = walk_of_id g.1 v (later_root root (copy_root_of g.1)) last names (child_of_id a g.1 name g.2) g.3

  pub stands_of_id : (r : ℕ) (p : Path) (v : NodeRev) → StandsAt look r p v → OfId look v.id (Ok v)
  stands_of_id r p v at =
      let g = stands_rooted look r p v at in
      walk_of_id g.1.0 v (copy_root_of g.1.0) g.0 p (root_of_id r g.1.0 g.1.1) g.1.2

  -- two node-revisions of one id are one
  pub named_same : (u v : NodeRev) → OfId look u.id (Ok u) → OfId look v.id (Ok v) → u.id ≡ v.id → u ≡ v
  named_same u v a b e = ok_same u v (of_id_one look v.id (Ok u) (Ok v) (subst (λ (i : NodeId). OfId look i (Ok u)) e a) b)

  -- the predecessor is what stands somewhere by its id
  pub pred_is : (v u w : NodeRev) → IsPred look v u → v.predecessor ≡ Some w.id → OfId look w.id (Ok w) → u ≡ w
  pred_is v u w p is of =
      let same : p.0 ≡ w.id = (let e = sym p.1 ∙ is in cc) in
      ok_same u w (of_id_one look w.id (Ok u) (Ok w) (subst (λ (i : NodeId). OfId look i (Ok u)) same p.2) of)

  pub pred_same : (v u w : NodeRev) → IsPred look v u → IsPred look v w → u ≡ w
  pred_same v u w p q =
      let same : p.0 ≡ q.0 = (let e = sym p.1 ∙ q.1 in cc) in
      ok_same u w (of_id_one look q.0 (Ok u) (Ok w) (subst (λ (i : NodeId). OfId look i (Ok u)) same p.2) q.2)

pub no_pred : {A : Type 0} (look : RevisionBytes) (v u : NodeRev) → IsPred look v u → v.predecessor ≡ None → A
no_pred look v u p none = let e = sym p.1 ∙ none in absurd cc

-- ---- predecessors are earlier

-- u is of an earlier revision than v, and stands in a tree before r
pub record IsEarlier (look : RevisionBytes) (r : ℕ) (v u : NodeRev) : Type 0 where
  pub own : own_rev u < own_rev v
  pub rev : ℕ
  pub path : Path
  pub before : rev < r
  pub stands : StandsAt look rev path u

abbrev pub AreEarlier : RevisionBytes → ℕ → NodeRev → Type 0
AreEarlier look r v = (u : NodeRev) → IsPred look v u → IsEarlier look r v u

module _ (look : RevisionBytes) (top : ℕ) (tree : ℕ → TreeFunction) (trees : ShowTrees look top tree) where
  pub root_there : (s : ℕ) → s ≤ top → (a : NodeRev) × RootOf look s (Ok a)
  root_there s le = let w = (trees.each s le).each [] in (w.1.0, w.1.1)

  root_earlier : (r : ℕ) (v : NodeRev) → r ≤ top → StandsAt look r [] v → AreEarlier look r v
  root_earlier zero v le at = λ u p. no_pred look v u p (trees.ids.first v at).0
  root_earlier (suc s) v le at = λ u p.
      let a = root_there s (omega (arith, le)) in
      let there : StandsAt look s [] a.0 = (a.0, a.1, refl) in
      let same : u ≡ a.0 = pred_is look v u a.0 p (trees.ids.root_next s v a.0 le at there) (root_of_id look s a.0 a.1) in
      let own = (stands_home look s [] a.0 there).1 in
      let mine : own_rev v ≡ suc s = (trees.ids.root_id (suc s) v le at).2 in
      record { own = subst (λ (x : NodeRev). own_rev x < own_rev v) (sym same) (omega (arith, own, mine)); rev = s; path = []; before = omega arith; stands = subst (λ (x : NodeRev). StandsAt look s [] x) (sym same) there }

  -- of a copy: its source
  pub copy_earlier : (r : ℕ) (p : Path) (v : NodeRev) (from : CopySource) → r ≤ top → StandsAt look r p v → v.copy_from ≡ Some from → AreEarlier look r v
  copy_earlier r p v from le at is = λ u pred.
      let s = trees.ids.copy_source v from (r, p, le, at) is in
      let w : NodeRev = s.1 in
      let same : u ≡ w = pred_is look v u w pred s.3 (stands_of_id look from.rev from.path w s.2) in
      let own = (stands_home look from.rev from.path w s.2).1 in
      let mine = (stands_home look r p v at).1 in
      record {
        own = subst (λ (x : NodeRev). own_rev x < own_rev v) (sym same) (omega (arith, own, s.0));
        rev = from.rev;
        path = from.path;
        before = omega (arith, mine, s.0);
        stands = subst (λ (x : NodeRev). StandsAt look from.rev from.path x) (sym same) s.2;
      }

  module _ (r : ℕ) (le : r ≤ top) (p : Path) (name : PathName) (a v : NodeRev) (at : StandsAt look r p a) (dir : a.kind ≡ Dir) (child : ChildOf look a name (Ok (Some v))) where
    pub is_child : IsChild look top r p name a v
    is_child = record { up_to = le; above = at; there = child_stands look r a v p name at dir child }

    pub pred_dir : (u : NodeRev) → IsPred look a u → u.kind ≡ Dir
    pred_dir u pred = sym (trees.ids.kind a u (r, p, le, at) pred) ∙ dir

    -- a child of the revision of its directory, that is no copy
    same_earlier : AreEarlier look r a → own_rev v ≡ own_rev a → v.copy_from ≡ None → AreEarlier look r v
    same_earlier above own no_copy = λ w pred.
        let g = trees.ids.goes_on r p name a v w is_child own no_copy pred in
        let e = above g.0 g.1 in
        let under = (child_home look g.0 w name g.2).1 in
        let lower = e.own in
        record {
          own = omega (arith, under, lower, own);
          rev = e.rev;
          path = e.path ++ name ∷ [];
          before = e.before;
          stands = child_stands look e.rev g.0 w e.path name e.stands (pred_dir g.0 g.1) g.2;
        }

    -- a child that is older than its directory stood in the directory's predecessor
    older_earlier : AreEarlier look r a → own_rev v < own_rev a → ((s : ℕ) (q : Path) → s < r → StandsAt look s q v → AreEarlier look s v) → AreEarlier look r v
    older_earlier above own before = λ w pred.
        let g = trees.ids.older r p name a v is_child own in
        let e = above g.0 g.1 in
        let there = child_stands look e.rev g.0 v e.path name e.stands (pred_dir g.0 g.1) g.2 in
        let f = before e.rev (e.path ++ name ∷ []) e.before there w pred in
        record { own = f.own; rev = f.rev; path = f.path; before = (let x = f.before in let y = e.before in omega (arith, x, y)); stands = f.stands }

    by_copy : (o : Option CopySource) → v.copy_from ≡ o → AreEarlier look r a → own_rev v ≡ own_rev a → AreEarlier look r v
    by_copy None is above own = same_earlier above own is
    by_copy (Some from) is above own = copy_earlier r (p ++ name ∷ []) v from le (child_stands look r a v p name at dir child) is

    by_age : (b : Bool) → nat_lt (own_rev v) (own_rev a) ≡ b → AreEarlier look r a → ((s : ℕ) (q : Path) → s < r → StandsAt look s q v → AreEarlier look s v) → AreEarlier look r v
    by_age true e above before = older_earlier above (is_less (own_rev v) (own_rev a) e) before
    by_age false e above before =
        let under = (child_home look a v name child).1 in
        let over = is_not_less (own_rev v) (own_rev a) e in
        by_copy v.copy_from refl above (omega (arith, under, over))

  earlier_from : (r : ℕ) → r ≤ top → ((s : ℕ) (q : Path) (v : NodeRev) → s < r → StandsAt look s q v → AreEarlier look s v)
      → (front rest : Path) (a v : NodeRev) (root last : ℕ × Path) → StandsAt look r front a → AreEarlier look r a → IsRootedFrom look a root rest v last → AreEarlier look r v
  earlier_from r le before front [] a v root last at above g = subst (λ (x : NodeRev). AreEarlier look r x) (sym g.0) above
  earlier_from r le before front (name ∷ names) a v root last at above g =
      earlier_from r le before (front ++ name ∷ []) names g.1 v (later_root root (copy_root_of g.1)) last (child_stands look r a g.1 front name at g.0 g.2)
      (by_age r le front name a g.1 at g.0 g.2 (nat_lt (own_rev g.1) (own_rev a)) refl above (λ s q less there. before s q g.1 less there)) g.3

  earlier_below : (n r : ℕ) (p : Path) (v : NodeRev) → r < n → r ≤ top → StandsAt look r p v → AreEarlier look r v
  earlier_below zero r p v less le at = absurd (omega (arith, less))
  earlier_below (suc n) r p v less le at =
      let g = stands_rooted look r p v at in
      let root : StandsAt look r [] g.1.0 = (g.1.0, g.1.1, refl) in
      earlier_from r le (λ s q w before there. earlier_below n s q w (omega (arith, before, less)) (omega (arith, before, le)) there)
      [] p g.1.0 v (copy_root_of g.1.0) g.0 root (root_earlier r g.1.0 le root) g.1.2

  pub earlier : (r : ℕ) (p : Path) (v : NodeRev) → r ≤ top → StandsAt look r p v → AreEarlier look r v
  earlier r p v le at = earlier_below (suc r) r p v (omega arith) le at

pub predecessors_earlier : PredecessorsAreEarlier
predecessors_earlier look top tree trees r p v u le at pred = (earlier look top tree trees r p v le at u pred).own
