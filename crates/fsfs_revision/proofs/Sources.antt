-- Where a node-revision names a copy root, a copy stood there; and what that copy copied to a path stood below the copy's source.
use Rattle.std.proofs.Common.{◌≡◌, ◌≤◌, ◌<◌, ℕ, zero, suc, Bool, true, false, nat_lt, [], ◌∷◌, ◌++◌, refl, sym, ap, subst, ◌∙◌, append-nil, append_assoc, arith}
use Rattle.std.specs.Prelude.{Ok, Option, Some, None, if◌then◌else◌}
use Rattle.fsfs_base.specs.Paths.{PathName, Path}
use Rattle.fsfs_tree.specs.Nodes.{TreeFunction}
use Rattle.fsfs_base.specs.declared.kind.Kind.TheVariants.{Dir}
use Rattle.fsfs_revision.specs.Told.{RevisionBytes}
use Rattle.fsfs_noderev.specs.declared.node_id.NodeId.{NodeId}
use Rattle.fsfs_noderev.specs.declared.node_rev.CopySource.{CopySource}
use Rattle.fsfs_noderev.specs.declared.node_rev.NodeRev.{NodeRev}
use Rattle.fsfs_revision.specs.Shows.Reading.{ChildOf, StandsAt}
use Rattle.fsfs_revision.specs.Shows.Chains.{own_rev, IsPred, copy_root_of}
use Rattle.fsfs_revision.specs.Shows.IdRules.{IsOf, IsChild, root_after}
use Rattle.fsfs_revision.proofs.TreeLaw.{child_home, stands_home, root_le}
use Rattle.fsfs_revision.proofs.Walks.{child_stands}
use Rattle.fsfs_revision.specs.Ancestry.CopyRoots.{later_root, IsRootedAt}
use Rattle.fsfs_revision.specs.Ancestry.Trees.{ShowTrees}
use Rattle.fsfs_revision.proofs.Roots.{is_less, is_not_less, rooted_child, later_by, IsCounted, self_counted, later_counted}
use Rattle.fsfs_revision.proofs.Standing.{for_each}
use Rattle.fsfs_revision.proofs.Earlier.{pred_same, no_pred, root_there, root_of_id, is_child, pred_dir, stands_of_id, earlier}
use Rattle.fsfs_revision.proofs.Behind.{has_pred}

-- ---- by predecessor

-- new, or with a predecessor
pub data Before (look : RevisionBytes) (v : NodeRev) : Type 0 where
  Nothing : v.predecessor ≡ None → Before look v
  One : (u : NodeRev) → IsPred look v u → Before look v

-- a copy, or none
pub data Copied (v : NodeRev) : Type 0 where
  Not : v.copy_from ≡ None → Copied v
  From : (from : CopySource) → v.copy_from ≡ Some from → Copied v

pub copied : (v : NodeRev) → Copied v
copied v = by v.copy_from refl
  where
    by : (o : Option CopySource) → v.copy_from ≡ o → Copied v
    by None is = Not is
    by (Some from) is = From from is

-- the copy root of what goes on from u in a directory
root_by : (P : ℕ × Path → Type 0) (dir u : NodeRev) → (own_rev u < (copy_root_of dir).0 → P (copy_root_of dir)) → ((copy_root_of dir).0 ≤ own_rev u → P (copy_root_of u)) → P (root_after dir u)
root_by P dir u f g = by (nat_lt (own_rev u) (copy_root_of dir).0) refl
  where
    by : (b : Bool) → nat_lt (own_rev u) (copy_root_of dir).0 ≡ b → P (if b then copy_root_of dir else copy_root_of u)
    by true e = f (is_less (own_rev u) (copy_root_of dir).0 e)
    by false e = g (is_not_less (own_rev u) (copy_root_of dir).0 e)

-- of the revision, or of an earlier one
pub by_age : {C : Type 0} (a b : ℕ) → a ≤ b → (a < b → C) → (a ≡ b → C) → C
by_age {C} a b le f g = by (nat_lt a b) refl
  where
    by : (t : Bool) → nat_lt a b ≡ t → C
    by true e = f (is_less a b e)
    by false e = let over = is_not_less a b e in g (omega (arith, over, le))

-- ---- a copy stood at each copy root

-- it is that of the first root, or of a copy
pub data IsCopyRoot (look : RevisionBytes) (root : ℕ × Path) : Type 0 where
  OfFirst : root.0 ≡ 0 → IsCopyRoot look root
  OfCopy : (copy : NodeRev) (from : CopySource) → StandsAt look root.0 root.1 copy → own_rev copy ≡ root.0 → copy.copy_from ≡ Some from → IsCopyRoot look root

-- what stands in a tree is of its revision, or stood in an earlier tree
data Since (look : RevisionBytes) (r : ℕ) (v : NodeRev) : Type 0 where
  Now : own_rev v ≡ r → Since look r v
  Earlier : (s : ℕ) (q : Path) → s < r → StandsAt look s q v → Since look r v

module _ (look : RevisionBytes) (top : ℕ) (tree : ℕ → TreeFunction) (trees : ShowTrees look top tree) where
  pub before : (r : ℕ) (p : Path) (v : NodeRev) → r ≤ top → StandsAt look r p v → Before look v
  before r p v le at = by v.predecessor refl
    where
      by : (o : Option NodeId) → v.predecessor ≡ o → Before look v
      by None is = Nothing is
      by (Some id) is = let w = has_pred look r (tree r) (trees.each r le) p v id at is in One w.0 w.1

  -- the root before a root
  pub root_before : (s : ℕ) (v : NodeRev) → suc s ≤ top → StandsAt look (suc s) [] v → (u : NodeRev) × StandsAt look s [] u × IsPred look v u × (copy_root_of v ≡ copy_root_of u)
  root_before s v le at =
      let a = root_there look top tree trees s (omega (arith, le)) in
      let there : StandsAt look s [] a.0 = (a.0, a.1, refl) in
      (a.0, there, (a.0.id, trees.ids.root_next s v a.0 le at there, root_of_id look s a.0 a.1), trees.ids.root_root s v a.0 le at there)

  -- all roots have the copy root of the first
  pub root_zero : (r : ℕ) (v : NodeRev) → r ≤ top → StandsAt look r [] v → (copy_root_of v).0 ≡ 0
  root_zero zero v le at = (trees.ids.first v at).2
  root_zero (suc s) v le at = let b = root_before s v le at in ap (λ (x : ℕ × Path). x.0) b.3 ∙ root_zero s b.0 (omega (arith, le)) b.1

  module _ (r : ℕ) (le : r ≤ top) (on : (s : ℕ) (q : Path) (v : NodeRev) → s < r → StandsAt look s q v → IsCopyRoot look (copy_root_of v)) where
    abbrev Q : Path → NodeRev → Type 0
    Q p v = IsCopyRoot look (copy_root_of v) × Since look r v

    module _ (p : Path) (name : PathName) (dir v : NodeRev) (at : StandsAt look r p dir) (is : dir.kind ≡ Dir) (child : ChildOf look dir name (Ok (Some v))) (there : StandsAt look r (p ++ name ∷ []) v) where
      mine : IsChild look top r p name dir v
      mine = is_child look top tree trees r le p name dir v at is child

      stood : (s : ℕ) (q : Path) → s < r → StandsAt look s q v → Q (p ++ name ∷ []) v
      stood s q less before = (on s q v less before, Earlier s q less before)

      older : own_rev v < own_rev dir → Q (p ++ name ∷ []) v
      older less =
          let g = trees.ids.older r p name dir v mine less in
          let e = earlier look top tree trees r p dir le at g.0 g.1 in
          stood e.rev (e.path ++ name ∷ []) e.before (child_stands look e.rev g.0 v e.path name e.stands (pred_dir look top tree trees r le p name dir v at is child g.0 g.1) g.2)

      next : own_rev v ≡ r → v.copy_from ≡ None → IsCopyRoot look (copy_root_of dir) → Before look v → IsCopyRoot look (copy_root_of v)
      next own none root (Nothing lacks) = subst (λ (x : ℕ × Path). IsCopyRoot look x) (sym (trees.ids.root_of_new r p name dir v mine own none lacks)) root
      next own none root (One u pred) =
          let e = earlier look top tree trees r (p ++ name ∷ []) v le there u pred in
          subst (λ (x : ℕ × Path). IsCopyRoot look x) (sym (trees.ids.root_of_next r p name dir v u mine own none pred))
          (root_by (λ (x : ℕ × Path). IsCopyRoot look x) dir u (λ less. root) (λ more. on e.rev e.path u e.before e.stands))

      now : own_rev v ≡ r → IsCopyRoot look (copy_root_of dir) → Copied v → IsCopyRoot look (copy_root_of v)
      now own root (Not none) = next own none root (before r (p ++ name ∷ []) v le there)
      now own root (From from is_copy) =
          let of : IsOf look top v = (r, p ++ name ∷ [], le, there) in
          let root_is = trees.ids.copy_root v from of is_copy in
          OfCopy v from (subst (λ (x : ℕ × Path). StandsAt look x.0 x.1 v) (sym root_is) (trees.ids.copy_there v from of is_copy)) (ap (λ (x : ℕ × Path). x.0) (sym root_is)) is_copy

      same : own_rev v ≡ own_rev dir → IsCopyRoot look (copy_root_of dir) → Since look r dir → Q (p ++ name ∷ []) v
      same own root (Now of) = (now (own ∙ of) root (copied v), Now (own ∙ of))
      same own root (Earlier s q less before) = stood s (q ++ name ∷ []) less (child_stands look s dir v q name before is child)

      root_down : Q p dir → Q (p ++ name ∷ []) v
      root_down q = by_age (own_rev v) (own_rev dir) (child_home look dir v name child).1 older (λ own. same own q.0 q.1)

    roots_at : (p : Path) (v : NodeRev) → StandsAt look r p v → Q p v
    roots_at = for_each look r Q (λ p name dir v at is child there q. root_down p name dir v at is child there q)
        (λ v at. (OfFirst (root_zero r v le at), Now (trees.ids.root_id r v le at).2))

  copy_roots_below : (n r : ℕ) (p : Path) (v : NodeRev) → r < n → r ≤ top → StandsAt look r p v → IsCopyRoot look (copy_root_of v)
  copy_roots_below zero r p v less le at = absurd (omega (arith, less))
  copy_roots_below (suc n) r p v less le at = (roots_at r le (λ s q w before there. copy_roots_below n s q w (omega (arith, before, less)) (omega (arith, before, le)) there) p v at).0

  pub copy_roots : (r : ℕ) (p : Path) (v : NodeRev) → r ≤ top → StandsAt look r p v → IsCopyRoot look (copy_root_of v)
  copy_roots r p v le at = copy_roots_below (suc r) r p v (omega arith) le at

-- ---- what a copy copied stood below its source

-- x stood where the copy at the root has what came to the path p
pub record IsAtSource (look : RevisionBytes) (c : ℕ) (p root : Path) (x : NodeRev) : Type 0 where
  pub copy : NodeRev
  pub from : CopySource
  pub there : StandsAt look c root copy
  pub is_copy : copy.copy_from ≡ Some from
  pub earlier : from.rev < c
  pub rest : Path
  pub parts : p ≡ root ++ rest
  pub stands : StandsAt look from.rev (from.path ++ rest) x

source_below : (look : RevisionBytes) (c : ℕ) (p root : Path) (x y : NodeRev) (name : PathName) → IsAtSource look c p root x → x.kind ≡ Dir → ChildOf look x name (Ok (Some y)) → IsAtSource look c (p ++ name ∷ []) root y
source_below look c p root x y name s dir child = record {
  copy = s.copy;
  from = s.from;
  there = s.there;
  is_copy = s.is_copy;
  earlier = s.earlier;
  rest = s.rest ++ name ∷ [];
  parts = ap (λ (q : Path). q ++ name ∷ []) s.parts ∙ append_assoc root s.rest (name ∷ []);
  stands = subst (λ (q : Path). StandsAt look s.from.rev q y) (append_assoc s.from.path s.rest (name ∷ [])) (child_stands look s.from.rev x y (s.from.path ++ s.rest) name s.stands dir child);
}

-- what stands in revision c at a path whose latest copy is of c: it was made there, or goes on from what stood at the source, or stood
-- there itself
pub data Origin (look : RevisionBytes) (c : ℕ) (p : Path) (v : NodeRev) (last : ℕ × Path) : Type 0 where
  New : own_rev v ≡ c → v.predecessor ≡ None → copy_root_of v ≡ last → Origin look c p v last
  Next : (u : NodeRev) → own_rev v ≡ c → copy_root_of v ≡ last → IsPred look v u → IsAtSource look c p last.1 u → Origin look c p v last
  Older : own_rev v < c → IsAtSource look c p last.1 v → Origin look c p v last

pub record Origins (look : RevisionBytes) (c : ℕ) (p : Path) (v : NodeRev) : Type 0 where
  pub last : ℕ × Path
  pub rooted : IsRootedAt look c p v last
  pub most : last.0 ≤ c
  pub counted : IsCounted (copy_root_of v) last
  pub origin : last.0 ≡ c → Origin look c p v last

module _ (look : RevisionBytes) (top : ℕ) (tree : ℕ → TreeFunction) (trees : ShowTrees look top tree) (c : ℕ) (le : c ≤ top) where
  module _ (p : Path) (name : PathName) (dir v : NodeRev) (at : StandsAt look c p dir) (is : dir.kind ≡ Dir) (child : ChildOf look dir name (Ok (Some v))) (there : StandsAt look c (p ++ name ∷ []) v) (o : Origins look c p dir) where
    placed : IsChild look top c p name dir v
    placed = is_child look top tree trees c le p name dir v at is child

    abbrev To : ℕ × Path → Type 0
    To last = last.0 ≡ c → Origin look c (p ++ name ∷ []) v last

    under : own_rev v ≤ own_rev dir
    under = (child_home look dir v name child).1

    dir_most : own_rev dir ≤ c
    dir_most = (stands_home look c p dir at).1

    root_most : (copy_root_of v).0 ≤ own_rev v
    root_most = root_le v v.copy_root (stands_home look c (p ++ name ∷ []) v there).0.root

    kind_before : (u : NodeRev) → IsPred look dir u → u.kind ≡ Dir
    kind_before u pred = pred_dir look top tree trees c le p name dir v at is child u pred

    -- older than the copy: it stood_there at the source
    stood_there : own_rev v < c → o.last.0 ≡ c → Origin look c p dir o.last → Origin look c (p ++ name ∷ []) v o.last
    stood_there less e (New own lacks root) = let g = trees.ids.older c p name dir v placed (omega (arith, less, own)) in no_pred look dir g.0 g.1 lacks
    stood_there less e (Next u own root pred source) =
        let g = trees.ids.older c p name dir v placed (omega (arith, less, own)) in
        let one : ChildOf look u name (Ok (Some v)) = subst (λ (x : NodeRev). ChildOf look x name (Ok (Some v))) (pred_same look dir g.0 u g.1 pred) g.2 in
        Older less (source_below look c p o.last.1 u v name source (kind_before u pred) one)
    stood_there less e (Older low source) = Older less (source_below look c p o.last.1 dir v name source is child)

    -- what goes on is of an earlier revision
    pred_low : (u : NodeRev) → IsPred look v u → own_rev u < own_rev v
    pred_low u pred = (earlier look top tree trees c (p ++ name ∷ []) v le there u pred).own

    pred_root : (u : NodeRev) → IsPred look v u → (copy_root_of u).0 ≤ own_rev u
    pred_root u pred = let e = earlier look top tree trees c (p ++ name ∷ []) v le there u pred in root_le u u.copy_root (stands_home look e.rev e.path u e.stands).0.root

    -- its copy root is the directory's, where that is of c or it is new
    next_root : own_rev v ≡ c → v.copy_from ≡ None → (u : NodeRev) → IsPred look v u → ((copy_root_of dir).0 ≡ c → copy_root_of v ≡ copy_root_of dir) × ((copy_root_of v).0 ≡ c → copy_root_of v ≡ copy_root_of dir)
    next_root own none u pred =
        let next = trees.ids.root_of_next c p name dir v u placed own none pred in
        let low = pred_low u pred in
        let root = pred_root u pred in (
          λ e. next ∙ root_by (λ (x : ℕ × Path). x ≡ copy_root_of dir) dir u (λ less. refl) (λ more. absurd (omega (arith, more, e, low, own))),
          λ e. next ∙ root_by (λ (x : ℕ × Path). x.0 ≡ c → x ≡ copy_root_of dir) dir u (λ less f. refl) (λ more f. absurd (omega (arith, f, root, low, own))) (ap (λ (x : ℕ × Path). x.0) (sym next) ∙ e),
        )

    -- one of revision c whose directory's latest copy is of c, has that copy root too
    not_lower : (copy_root_of v).0 < c → own_rev v ≡ c → (copy_root_of dir).0 ≡ c → Copied v → Before look v → ⊥
    not_lower less own e (From from is_copy) b =
        let root = ap (λ (x : ℕ × Path). x.0) (trees.ids.copy_root v from (c, p ++ name ∷ [], le, there) is_copy) in
        omega (arith, less, own, root)
    not_lower less own e (Not none) (Nothing lacks) = let root = ap (λ (x : ℕ × Path). x.0) (trees.ids.root_of_new c p name dir v placed own none lacks) in omega (arith, less, root, e)
    not_lower less own e (Not none) (One u pred) = let root = ap (λ (x : ℕ × Path). x.0) ((next_root own none u pred).0 e) in omega (arith, less, root, e)

    own_dir : own_rev v ≡ c → own_rev dir ≡ c
    own_dir own = omega (arith, own, under, dir_most)

    root_of_dir : own_rev v ≡ c → o.last.0 ≡ c → Origin look c p dir o.last → (copy_root_of dir).0 ≡ c
    root_of_dir own e (New of lacks root) = ap (λ (x : ℕ × Path). x.0) root ∙ e
    root_of_dir own e (Next u of root pred source) = ap (λ (x : ℕ × Path). x.0) root ∙ e
    root_of_dir own e (Older low source) = absurd (omega (arith, low, own_dir own))

    above : (copy_root_of v).0 < o.last.0 → To o.last
    above less = λ e. by_age (own_rev v) c (omega (arith, under, dir_most)) (λ low. stood_there low e (o.origin e))
        (λ own. absurd (not_lower (omega (arith, less, e)) own (root_of_dir own e (o.origin e)) (copied v) (before look top tree trees c (p ++ name ∷ []) v le there)))

    -- the latest is its own
    copy_here : own_rev v ≡ c → (from : CopySource) → v.copy_from ≡ Some from → Origin look c (p ++ name ∷ []) v (copy_root_of v)
    copy_here own from is_copy =
        let of : IsOf look top v = (c, p ++ name ∷ [], le, there) in
        let root = trees.ids.copy_root v from of is_copy in
        let path : p ++ name ∷ [] ≡ (copy_root_of v).1 = trees.ids.copy_once v from (p ++ name ∷ []) of is_copy (subst (λ (n : ℕ). StandsAt look n (p ++ name ∷ []) v) (sym own) there) ∙ ap (λ (x : ℕ × Path). x.1) (sym root) in
        let source = trees.ids.copy_source v from of is_copy in
        let u : NodeRev = source.1 in
        let pred : IsPred look v u = (u.id, source.3, stands_of_id look from.rev from.path u source.2) in
        Next u own refl pred
        (record {
          copy = v;
          from = from;
          there = subst (λ (q : Path). StandsAt look c q v) path there;
          is_copy = is_copy;
          earlier = (let low = source.0 in omega (arith, low, own));
          rest = [];
          parts = path ∙ sym (append-nil (copy_root_of v).1);
          stands = subst (λ (q : Path). StandsAt look from.rev q u) (sym (append-nil from.path)) source.2;
        })

    goes_on : own_rev v ≡ c → v.copy_from ≡ None → (u : NodeRev) → IsPred look v u → copy_root_of v ≡ o.last → Origin look c p dir o.last → Origin look c (p ++ name ∷ []) v (copy_root_of v)
    goes_on own none u pred root (New of lacks root_is) = let g = trees.ids.goes_on c p name dir v u placed (own ∙ sym of) none pred in no_pred look dir g.0 g.1 lacks
    goes_on own none u pred root (Older low source) = absurd (omega (arith, low, own_dir own))
    goes_on own none u pred root (Next w of root_is back source) =
        let g = trees.ids.goes_on c p name dir v u placed (own ∙ sym of) none pred in
        let one : ChildOf look w name (Ok (Some u)) = subst (λ (x : NodeRev). ChildOf look x name (Ok (Some u))) (pred_same look dir g.0 w g.1 back) g.2 in
        Next u own refl pred (subst (λ (x : ℕ × Path). IsAtSource look c (p ++ name ∷ []) x.1 u) (sym root) (source_below look c p o.last.1 w u name source (kind_before w back) one))

    from_here : own_rev v ≡ c → (copy_root_of v).0 ≡ c → Copied v → Before look v → Origin look c (p ++ name ∷ []) v (copy_root_of v)
    from_here own e (From from is_copy) b = copy_here own from is_copy
    from_here own e (Not none) (Nothing lacks) = New own lacks refl
    from_here own e (Not none) (One u pred) =
        let root = (next_root own none u pred).1 e in
        let up : (copy_root_of dir).0 ≡ c = ap (λ (x : ℕ × Path). x.0) (sym root) ∙ e in
        let most = o.most in
        let counted = o.counted.most in
        let same : (copy_root_of dir).0 ≡ o.last.0 = omega (arith, up, most, counted) in
        goes_on own none u pred (root ∙ o.counted.same same) (o.origin (sym same ∙ up))

    at_here : o.last.0 ≤ (copy_root_of v).0 → To (copy_root_of v)
    at_here more = λ e. from_here (omega (arith, e, root_most, under, dir_most)) e (copied v) (before look top tree trees c (p ++ name ∷ []) v le there)

    origin_down : Origins look c (p ++ name ∷ []) v
    origin_down = record {
      last = later_root o.last (copy_root_of v);
      rooted = rooted_child look c p dir v o.last name o.rooted is child;
      most = later_by (λ (x : ℕ × Path). x.0 ≤ c) o.last (copy_root_of v) (λ less. o.most) (λ more. omega (arith, root_most, under, dir_most));
      counted = later_counted o.last (copy_root_of v);
      origin = later_by To o.last (copy_root_of v) above at_here;
    }

  root_origin : (v : NodeRev) → StandsAt look c [] v → Origins look c [] v
  root_origin v at = record {
    last = copy_root_of v;
    rooted = (at.0, at.1, (sym same, ap copy_root_of (sym same)));
    most = omega (arith, zero_root);
    counted = self_counted (copy_root_of v);
    origin = λ e. New (trees.ids.root_id c v le at).2 (trees.ids.first v (subst (λ (n : ℕ). StandsAt look n [] v) (sym e ∙ zero_root) at)).0 refl;
  }
    where
      same : at.0 ≡ v
      same = (let e = at.2 in cc)

      zero_root : (copy_root_of v).0 ≡ 0
      zero_root = root_zero look top tree trees c v le at

  pub origins : (p : Path) (v : NodeRev) → StandsAt look c p v → Origins look c p v
  origins = for_each look c (Origins look c) (λ p name dir v at is child there o. origin_down p name dir v at is child there o) root_origin
