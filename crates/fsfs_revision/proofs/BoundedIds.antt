-- The rules of ids of the revisions up to one depend on the bytes of no later one.
use Rattle.std.proofs.Common.{◌≡◌, ◌≤◌, ◌<◌, ◌⊎◌, ℕ, suc, true, [], ◌∷◌, ◌++◌, refl, sym, ap, subst, ◌∙◌, arith, inl, inr}
use Rattle.std.specs.Prelude.{Result, Ok, Option, Some, None}
use Rattle.fsfs_base.specs.Paths.{PathName, Path}
use Rattle.fsfs_revision.specs.Told.{RevisionBytes}
use Rattle.fsfs_noderev.specs.declared.node_id.NodeId.{NodeId}
use Rattle.fsfs_noderev.specs.declared.node_id.Part.{Part}
use Rattle.fsfs_noderev.specs.declared.node_rev.NodeRev.{NodeRev}
use Rattle.fsfs_revision.specs.Nodes.{pred_before}
use Rattle.fsfs_revision.specs.Shows.Reading.{offset_of, ChildOf, StandsAt}
use Rattle.fsfs_revision.specs.Shows.Chains.{own_rev, IsPred}
use Rattle.fsfs_revision.specs.Shows.IdRules.{IdRule, IsOf, IsChild, IsBehind, Next, Further, IsDrawn, CopyPartFrom, Directory, Before, Drawn}
use Rattle.fsfs_revision.proofs.TreeLaw.{IsHome, before_le, of_id_home, stands_home}
use Rattle.fsfs_revision.specs.Ancestry.Bounded.{AreSameUpTo}
use Rattle.fsfs_revision.proofs.Bounded.{back_same, stands_same_bytes, of_id_same, child_same}

-- a node-revision of a tree, or one before it
pub record InTime (top : ℕ) (v : NodeRev) : Type 0 where
  pub home : IsHome v
  pub low : own_rev v ≤ top

module _ (top : ℕ) (look other : RevisionBytes) (same : AreSameUpTo top look other) where
  pub in_time : (v : NodeRev) → IsOf look top v → InTime top v
  in_time v of = let h = stands_home look of.0 of.1 v of.3 in record { home = h.0; low = (let x = of.2 in omega (arith, h.1)) }

  pred_rev : (v : NodeRev) → InTime top v → (id : NodeId) → v.predecessor ≡ Some id → (offset_of id.place).rev ≤ top
  pred_rev v t id e = let b = before_le (offset_of v.id.place) id.place (subst (λ (x : Option NodeId). pred_before (offset_of v.id.place) x ≡ true) e t.home.pred) in (let l = t.low in omega (arith, b))

  pred_to : (v u : NodeRev) → InTime top v → IsPred look v u → IsPred other v u
  pred_to v u t p = (p.0, p.1, of_id_same top look other same p.0 (pred_rev v t p.0 p.1) (Ok u) p.2)

  pred_time : (v u : NodeRev) → InTime top v → IsPred look v u → InTime top u
  pred_time v u t p = let h = of_id_home look p.0 u p.2 in let r = pred_rev v t p.0 p.1 in record { home = h.0; low = (let x = h.1 in omega arith) }

  pub behind_to : (v u : NodeRev) → InTime top v → IsBehind look v u → IsBehind other v u
  behind_to _ _ t (Next v u p) = Next v u (pred_to v u t p)
  behind_to _ _ t (Further v u w p more) = Further v u w (pred_to v u t p) (behind_to u w (pred_time v u t p) more)

  pub stands_to : (r : ℕ) → r ≤ top → (p : Path) (v : NodeRev) → StandsAt look r p v → StandsAt other r p v
  stands_to r le p v at = stands_same_bytes top look other same r le p v at

  of_to : (v : NodeRev) → IsOf look top v → IsOf other top v
  of_to v of = (of.0, of.1, of.2, stands_to of.0 of.2 of.1 v of.3)

module _ (top : ℕ) (look other : RevisionBytes) (same : AreSameUpTo top look other) (ids : IdRule look top) where
  back : AreSameUpTo top other look
  back = back_same top look other same

  of_back : (v : NodeRev) → IsOf other top v → IsOf look top v
  of_back = of_to top other look back

  time : (v : NodeRev) → IsOf other top v → InTime top v
  time = in_time top other look back

  pred_back : (v u : NodeRev) → IsOf other top v → IsPred other v u → IsPred look v u
  pred_back v u of p = pred_to top other look back v u (time v of) p

  at_back : (r : ℕ) → r ≤ top → (p : Path) (v : NodeRev) → StandsAt other r p v → StandsAt look r p v
  at_back = stands_to top other look back

  child_back : (r : ℕ) (p : Path) (name : PathName) (dir v : NodeRev) → IsChild other top r p name dir v → IsChild look top r p name dir v
  child_back r p name dir v c = record { up_to = c.up_to; above = at_back r c.up_to p dir c.above; there = at_back r c.up_to (p ++ name ∷ []) v c.there }

  -- the entry of a predecessor
  entry_to : (r : ℕ) (p : Path) (name : PathName) (dir v : NodeRev) → IsChild other top r p name dir v → (w : NodeRev) → (u : NodeRev) × IsPred look dir u × ChildOf look u name (Ok (Some w)) → (u : NodeRev) × IsPred other dir u × ChildOf other u name (Ok (Some w))
  entry_to r p name dir v c w e =
      let t = time dir (r, p, c.up_to, c.above) in
      let u = pred_time top look other same dir e.0 t e.1 in
      (e.0, pred_to top look other same dir e.0 t e.1, child_same top look other same e.0 name u.home u.low (Ok (Some w)) e.2)

  low_at : (v : NodeRev) → IsOf other top v → own_rev v ≤ top
  low_at v of = (time v of).low

  drawn_to : (rev : ℕ) (part : Part) → IsDrawn look top rev part → IsDrawn other top rev part
  drawn_to rev part d = record { not_first = d.not_first; suffix = d.suffix; no_copy = λ u from of e. d.no_copy u from (of_back u of) e }

  part_to : (dir v : NodeRev) → InTime top v → CopyPartFrom look top dir v → CopyPartFrom other top dir v
  part_to dir v t (Directory e) = Directory e
  part_to dir v t (Before u b e) = Before u (behind_to top look other same v u t b) e
  part_to dir v t (Drawn d) = Drawn (drawn_to (own_rev v) v.id.copy d)

  pub ids_same : IdRule other top
  ids_same = record {
    node = λ v u of p. ids.node v u (of_back v of) (pred_back v u of p);
    kind = λ v u of p. ids.kind v u (of_back v of) (pred_back v u of p);
    count = λ v u of p. ids.count v u (of_back v of) (pred_back v u of p);
    root_id = λ r v le at. ids.root_id r v le (at_back r le [] v at);
    root_copy = λ r v le at. ids.root_copy r v le (at_back r le [] v at);
    root_next = λ r v u le at before. ids.root_next r v u le (at_back (suc r) le [] v at) (at_back r (omega arith) [] u before);
    root_root = λ r v u le at before. ids.root_root r v u le (at_back (suc r) le [] v at) (at_back r (omega arith) [] u before);
    first = λ v at. ids.first v (at_back 0 (omega arith) [] v at);
    alone = λ name p v at. ids.alone name p v (at_back 0 (omega arith) (name ∷ p) v at);
    begins_once = λ v u a b e f g. ids.begins_once v u (of_back v a) (of_back u b) e f g;
    begins_in = λ v of e. ids.begins_in v (of_back v of) e;
    copy_there = λ v from of e. stands_to top look other same (own_rev v) (low_at v of) v.created_path v (ids.copy_there v from (of_back v of) e);
    copy_once = λ v from p of e at. ids.copy_once v from p (of_back v of) e (at_back (own_rev v) (low_at v of) p v at);
    copy_root = λ v from of e. ids.copy_root v from (of_back v of) e;
    copy_part = λ v from of e. ids.copy_part v from (of_back v of) e;
    copy_own = λ v u from other_from a b e f g. ids.copy_own v u from other_from (of_back v a) (of_back u b) e f g;
    copy_source = λ v from of e. let s = ids.copy_source v from (of_back v of) e in let l = low_at v of in (s.0, s.1, stands_to top look other same from.rev (let k = s.0 in omega arith) from.path s.1 s.2, s.3);
    root_of_new = λ r p name dir v c e f g. ids.root_of_new r p name dir v (child_back r p name dir v c) e f g;
    root_of_next = λ r p name dir v u c e f g. ids.root_of_next r p name dir v u (child_back r p name dir v c) e f (pred_back v u (r, p ++ name ∷ [], c.up_to, c.there) g);
    copy_part_of = λ r p name dir v c e f. part_to dir v (time v (r, p ++ name ∷ [], c.up_to, c.there)) (ids.copy_part_of r p name dir v (child_back r p name dir v c) e f);
    older = λ r p name dir v c e. entry_to r p name dir v c v (ids.older r p name dir v (child_back r p name dir v c) e);
    goes_on = λ r p name dir v w c e f g. entry_to r p name dir v c w (ids.goes_on r p name dir v w (child_back r p name dir v c) e f (pred_back v w (r, p ++ name ∷ [], c.up_to, c.there) g));
    props = λ v u of p e. ids.props v u (of_back v of) (pred_back v u of p) e;
  }
