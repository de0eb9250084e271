-- Where each revision keeps the rules by itself, the node-revisions of all trees keep the rules of ids.
use Rattle.std.proofs.Common.{◌≡◌, ◌≤◌, ◌<◌, ◌++◌, ℕ, suc, Bool, true, false, nat_lt, List, [], ◌∷◌, refl, sym, ap, subst, ◌∙◌, arith}
use Rattle.std.specs.Prelude.{Ok, Option, Some, None}
use Rattle.fsfs_base.specs.Paths.{PathName, Path}
use Rattle.fsfs_base.specs.declared.kind.Kind.TheVariants.{Dir}
use Rattle.fsfs_noderev.specs.declared.node_rev.CopySource.{CopySource}
use Rattle.fsfs_noderev.specs.declared.node_rev.NodeRev.{NodeRev}
use Rattle.fsfs_revision.specs.Told.{RevisionBytes}
use Rattle.fsfs_revision.specs.Shows.Reading.{DirEntry, OfEntry, ChildOf, RootOf, named, OfNamed, StandsAt}
use Rattle.fsfs_revision.specs.Shows.Chains.{own_rev, IsPred, copy_root_of}
use Rattle.fsfs_revision.specs.Shows.IdRules.{IsOf, IsChild, IsBehind, CopyPartFrom, root_after, IdRule}
use Rattle.fsfs_revision.specs.Shows.IdRules as rule
use Rattle.fsfs_revision.proofs.Earlier.{pred_same, no_pred}
use Rattle.fsfs_revision.proofs.OneAnswer.{ok_same}
use Rattle.fsfs_revision.proofs.OneEntry.{entries_one}
use Rattle.fsfs_revision.proofs.OneNode.{root_of_one}
use Rattle.fsfs_revision.proofs.OneWalk.{stands_same}
use Rattle.fsfs_revision.proofs.Roots.{is_less, is_not_less, rooted_stands, rooted_split, stands_rooted}
use Rattle.fsfs_revision.proofs.TreeLaw.{child_home, root_home, stands_home}
use Rattle.fsfs_sound.specs.Written.{IsWritten, IsNewChild, Precedes, GoesOnFrom}
use Rattle.fsfs_sound.specs.Rules.{IsSoundNode, IsSoundEntry, IsSoundRoot, FitsDirectory, PartFrom, Directory, Before, Drawn}
use Rattle.fsfs_sound.specs.Revisions.{IsSoundTree}
use Rattle.fsfs_sound.proofs.Standing.{child_entry, of_entry_one, of_entry_rev, origin, entry_child, of_entry_as, was_named_child}

-- the root, and what stands at the path of no names
pub root_at : (look : RevisionBytes) (r : ℕ) (v : NodeRev) → StandsAt look r [] v → RootOf look r (Ok v)
root_at look r v at =
    let same : v ≡ at.0 = (let e = at.2 in cc) in
    subst (λ (x : NodeRev). RootOf look r (Ok x)) (sym same) at.1

-- what stands below a directory is its child
pub below_it : (look : RevisionBytes) (r : ℕ) (p : Path) (name : PathName) (dir v : NodeRev) → StandsAt look r p dir → StandsAt look r (p ++ name ∷ []) v → (dir.kind ≡ Dir) × ChildOf look dir name (Ok (Some v))
below_it look r p name dir v above there =
    let g = stands_rooted look r (p ++ name ∷ []) v there in
    let a : NodeRev = g.1.0 in
    let two = rooted_split look a (copy_root_of a) p (name ∷ []) v g.0 g.1.2 in
    let m : NodeRev = two.0 in
    let here = rooted_stands look r p m two.1 (a, g.1.1, two.2) in
    let same : m ≡ dir = stands_same look r p m dir here above in
    let step = two.3 in
    let child : ChildOf look m name (Ok (Some v)) = subst (λ (x : NodeRev). ChildOf look m name (Ok (Some x))) (sym step.3.0) step.2 in
    (subst (λ (x : NodeRev). x.kind ≡ Dir) same step.0, subst (λ (x : NodeRev). ChildOf look x name (Ok (Some v))) same child)

module _ (look : RevisionBytes) (top : ℕ) (trees : (r : ℕ) → r ≤ top → IsSoundTree look r) where
  -- a node-revision of one of the trees, in the tree of its own revision
  pub record Wrote (v : NodeRev) : Type 0 where
    pub up_to : own_rev v ≤ top
    pub path : Path
    pub stands : StandsAt look (own_rev v) path v
    pub sound : IsSoundNode look (own_rev v) path v

  pub wrote : (v : NodeRev) → IsOf look top v → Wrote v
  wrote v of =
      let o = origin look top trees of.0 of.2 of.1 v of.3 in
      let home = (stands_home look of.0 of.1 v of.3).1 in
      let le = of.2 in
      let up : own_rev v ≤ top = omega (arith, home, le) in
      record { up_to = up; path = o.0; stands = o.1; sound = (trees (own_rev v) up).nodes o.0 v (record { stands = o.1; own = refl }) }

  sound_at : (v : NodeRev) → IsOf look top v → (p : Path) → StandsAt look (own_rev v) p v → IsSoundNode look (own_rev v) p v
  sound_at v of p at = (trees (own_rev v) (wrote v of).up_to).nodes p v (record { stands = at; own = refl })

  written : (r : ℕ) (v : NodeRev) → IsOf look top v → own_rev v ≤ r → IsWritten look r v
  written r v of le = let w = wrote v of in record { rev = own_rev v; path = w.path; up_to = le; new = record { stands = w.stands; own = refl } }

  written_of : (r : ℕ) → r ≤ top → (v : NodeRev) → IsWritten look r v → IsOf look top v
  written_of r le v w = let up = w.up_to in let at = w.new in (w.rev, w.path, omega (arith, up, le), at.stands)

  pub goes_on : (v u : NodeRev) → IsOf look top v → IsPred look v u → GoesOnFrom v u
  goes_on v u of pred = let x = (wrote v of).sound.pred in by x.0 x.1
    where
      by : (o : Option NodeRev) → Precedes look v o → GoesOnFrom v u
      by None none = no_pred look v u pred none
      by (Some w) is = subst (λ (x : NodeRev). GoesOnFrom v x) (pred_same look v w u is.0 pred) is.1

  -- ---- the root

  pub root_rule : (r : ℕ) (v : NodeRev) → r ≤ top → StandsAt look r [] v → IsSoundRoot look r v
  root_rule r v le at =
      let x = (trees r le).root in
      subst (λ (w : NodeRev). IsSoundRoot look r w) (ok_same x.0 v (root_of_one look r (Ok x.0) (Ok v) x.1 (root_at look r v at))) x.2

  follows : (r : ℕ) (v u : NodeRev) → suc r ≤ top → StandsAt look (suc r) [] v → StandsAt look r [] u → (v.predecessor ≡ Some u.id) × (copy_root_of v ≡ copy_root_of u)
  follows r v u le at last =
      let x = (root_rule (suc r) v le at).follows in
      let same : x.0 ≡ u = ok_same x.0 u (root_of_one look r (Ok x.0) (Ok u) x.1 (root_at look r u last)) in
      (x.2.pred ∙ ap (λ (w : NodeRev). Some w.id) same, x.2.root ∙ ap copy_root_of same)

  alone : (name : PathName) (p : Path) (v : NodeRev) → StandsAt look 0 (name ∷ p) v → ⊥
  alone name p v at =
      let g = stands_rooted look 0 (name ∷ p) v at in
      let a : NodeRev = g.1.0 in
      let first = (root_rule 0 a (omega arith) (a, g.1.1, refl)).follows in
      let child = g.1.2.2 in
      let same = ok_same child.0 [] (entries_one look a (Ok child.0) (Ok []) child.1 first.empty) in
      let none : OfNamed look (named name []) (Ok (Some g.1.2.1)) = subst (λ (es : List DirEntry). OfNamed look (named name es) (Ok (Some g.1.2.1))) same child.2 in
      cc

  -- ---- what is once

  -- two that are the same in some way, by which of them was written first
  module _ (v u : NodeRev) (of : IsOf look top v) (other : IsOf look top u) where
    begins_once : v.predecessor ≡ None → u.predecessor ≡ None → v.id.node ≡ u.id.node → v.id ≡ u.id
    begins_once none nil same = by (nat_lt (own_rev v) (own_rev u)) refl
      where
        by : (b : Bool) → nat_lt (own_rev v) (own_rev u) ≡ b → v.id ≡ u.id
        by true e = let less = is_less (own_rev v) (own_rev u) e in sym (((wrote u other).sound.begins nil).once v (written (own_rev u) v of (omega (arith, less))) none (sym same))
        by false e = ((wrote v of).sound.begins none).once u (written (own_rev v) u other (is_not_less (own_rev v) (own_rev u) e)) nil same

    copy_own : (from out : CopySource) → v.copy_from ≡ Some from → u.copy_from ≡ Some out → v.id.copy ≡ u.id.copy → v.id ≡ u.id
    copy_own from out is was same = by (nat_lt (own_rev v) (own_rev u)) refl
      where
        by : (b : Bool) → nat_lt (own_rev v) (own_rev u) ≡ b → v.id ≡ u.id
        by true e = let less = is_less (own_rev v) (own_rev u) e in sym (((wrote u other).sound.copy out was).own v from (written (own_rev u) v of (omega (arith, less))) is (sym same))
        by false e = ((wrote v of).sound.copy from is).own u out (written (own_rev v) u other (is_not_less (own_rev v) (own_rev u) e)) was same

  -- ---- against the directory

  module _ (r : ℕ) (p : Path) (name : PathName) (dir v : NodeRev) (c : IsChild look top r p name dir v) where
    child : (dir.kind ≡ Dir) × ChildOf look dir name (Ok (Some v))
    child = below_it look r p name dir v c.above c.there

    dir_of : IsOf look top dir
    dir_of = (r, p, c.up_to, c.above)

    child_of : IsOf look top v
    child_of = (r, p ++ name ∷ [], c.up_to, c.there)

    under : own_rev v ≤ own_rev dir
    under = (child_home look dir v name child.1).1

    -- the entry that names it, in the revision that wrote the directory
    entry : (entry : DirEntry) × IsSoundEntry look (own_rev dir) dir name entry × OfEntry look entry (Ok v)
    entry =
        let e = child_entry look dir v name child.1 in
        let has = (wrote dir dir_of).sound.entries child.0 in
        let same = ok_same e.1.0 has.0 (entries_one look dir (Ok e.1.0) (Ok has.0) e.1.1 has.1) in
        (e.0, has.2 name e.0 (sym (λ i. named name (same i)) ∙ e.1.2), e.2)

    -- what is as new as its directory fits it
    fits : own_rev v ≡ own_rev dir → v.copy_from ≡ None → FitsDirectory look dir name v
    fits own no_copy =
        let rev = of_entry_rev look entry.0 v entry.2 in
        let n = entry.1.newer (sym rev ∙ own) in
        let same : n.0 ≡ v = of_entry_one look entry.0 entry.0 n.0 v refl n.1 entry.2 in
        subst (λ (x : NodeRev). FitsDirectory look dir name x) same (n.2 (ap (λ (x : NodeRev). x.copy_from) same ∙ no_copy))

    -- and was named by a predecessor of it, where it goes on or is older
    older : own_rev v < own_rev dir → (u : NodeRev) × IsPred look dir u × ChildOf look u name (Ok (Some v))
    older less =
        let rev = of_entry_rev look entry.0 v entry.2 in
        let b = entry.1.older (omega (arith, rev, less)) in
        let was = b.1 in
        (was.0, was.1, entry_child look was.0 v name b.0 was.2 (of_entry_as look entry.0 b.0 v (sym b.2) (sym b.3) entry.2))

    next : (w : NodeRev) → own_rev v ≡ own_rev dir → v.copy_from ≡ None → IsPred look v w → (u : NodeRev) × IsPred look dir u × ChildOf look u name (Ok (Some w))
    next w own no_copy pred =
        let g = (fits own no_copy).goes_on pred.0 pred.1 in
        let was = g.1 in
        (was.0, was.1, was_named_child look top trees (own_rev dir) (wrote dir dir_of).up_to (wrote dir dir_of).path name dir was.0 g.0 w pred.0 (wrote dir dir_of).stands refl child.0 was.1 was.2 g.2 pred.2)

    -- a directory of a tree that names what the tree's revision wrote is of that revision
    same_rev : own_rev v ≡ r → own_rev v ≡ own_rev dir
    same_rev own = let most = (stands_home look r p dir c.above).1 in omega (arith, own, under, most)

    part : own_rev v ≡ r → v.copy_from ≡ None → CopyPartFrom look top dir v
    part own no_copy =
        let mine = same_rev own in
        let new : IsNewChild look r p name dir v = record { above = record { stands = c.above; own = sym mine ∙ own }; there = record { stands = c.there; own = own } } in
        by ((trees top (omega arith)).parts r p name dir v c.up_to new no_copy)
      where
        by : PartFrom look top dir v → CopyPartFrom look top dir v
        by (Directory e) = rule.Directory e
        by (Before u b e) = rule.Before u b e
        by (Drawn d) = rule.Drawn (record { not_first = d.not_first; suffix = d.suffix; no_copy = λ u from of is. d.no_copy u from (written top u of (wrote u of).up_to) is })

  pub ids : IdRule look top
  ids = record {
    node = λ v u of pred. (goes_on v u of pred).node;
    kind = λ v u of pred. (goes_on v u of pred).kind;
    count = λ v u of pred. (goes_on v u of pred).count;
    root_id = λ r v le at. (let x = root_rule r v le at in (x.node, x.copy, (root_home look r v (root_at look r v at)).1));
    root_copy = λ r v le at. (root_rule r v le at).no_copy;
    root_next = λ r v u le at last. (follows r v u le at last).0;
    root_root = λ r v u le at last. (follows r v u le at last).1;
    first = λ v at. (let x = (root_rule 0 v (omega arith) at).follows in (x.pred, x.props, x.copied));
    alone = alone;
    begins_once = λ v u of other none nil same. begins_once v u of other none nil same;
    begins_in = λ v of none. ((wrote v of).sound.begins none).suffix;
    copy_there = λ v from of is. (let w = wrote v of in subst (λ (p : Path). StandsAt look (own_rev v) p v) (w.sound.copy from is).there w.stands);
    copy_once = λ v from p of is at. ((sound_at v of p at).copy from is).there;
    copy_root = λ v from of is. ((wrote v of).sound.copy from is).root;
    copy_part = λ v from of is. (let x = (wrote v of).sound.copy from is in (x.not_first, x.suffix));
    copy_own = λ v u from out of other is was same. copy_own v u of other from out is was same;
    copy_source = λ v from of is. (let x = (wrote v of).sound.copy from is in (x.earlier, x.source.0, x.source.1, x.source.2));
    root_of_new = λ r p name dir v c own no_copy none. (fits r p name dir v c (same_rev r p name dir v c own) no_copy).root.new none;
    root_of_next = λ r p name dir v u c own no_copy pred. (fits r p name dir v c (same_rev r p name dir v c own) no_copy).root.next u pred;
    copy_part_of = λ r p name dir v c own no_copy. part r p name dir v c own no_copy;
    older = λ r p name dir v c less. older r p name dir v c less;
    goes_on = λ r p name dir v w c own no_copy pred. next r p name dir v c w own no_copy pred;
    props = λ v u of pred older. (wrote v of).sound.props.kept u pred older;
  }
