-- What stands at each path of the revisions, where their bytes show trees.
use Rattle.std.proofs.Common.{◌≡◌, ◌≤◌, ℕ, Bool, true, false, Option, Some, None, Ok, refl, ap, subst}
use Rattle.std.specs.Prelude.{◌↔◌, nat_le}
use Rattle.std.proofs.lemmas.Bool.{leb-true, le-leb, both_ways}
use Rattle.std.proofs.lemmas.Option.{same_Some}
use Rattle.fsfs_base.specs.Paths.{Path}
use Rattle.fsfs_tree.specs.Nodes.{TreeFunction}
use Rattle.fsfs_revision.specs.Told.{RevisionBytes}
use Rattle.fsfs_noderev.specs.declared.node_rev.NodeRev.{NodeRev}
use Rattle.fsfs_revision.specs.Shows.Reading.{Met, Stands, Lacking, Blocked, MetAt, StandsAt}
use Rattle.fsfs_revision.proofs.OneWalk.{met_same}
use Rattle.fsfs_draft.specs.Drafts.{ShowTrees}
use Rattle.fsfs_draft.specs.OwnSides.{NodesAt}
use Rattle.fsfs_draft.specs.Met.{AreNodes}

abbrev node_met : Met → Option NodeRev
node_met (Stands v) = Some v
node_met (Lacking depth) = None
node_met (Blocked depth) = None

module _ (look : RevisionBytes) (top : ℕ) (trees : ℕ → TreeFunction) (shown : ShowTrees look top trees) where
  abbrev nodes_in : (r : ℕ) (b : Bool) → nat_le r top ≡ b → NodesAt
  nodes_in r true e p = node_met ((shown r (leb-true r top e)).each p).0
  nodes_in r false e p = None

  abbrev pub nodes_of : ℕ → NodesAt
  nodes_of r = nodes_in r (nat_le r top) refl

  from_met : (r : ℕ) (p : Path) (v : NodeRev) (m : Met) → MetAt look r p (Ok m) → node_met m ≡ Some v → StandsAt look r p v
  from_met r p v (Stands w) at h = subst (λ (x : NodeRev). StandsAt look r p x) (same_Some w v h) at
  from_met r p v (Lacking depth) at h = absurd (let g : None ≡ Some v = h in cc)
  from_met r p v (Blocked depth) at h = absurd (let g : None ≡ Some v = h in cc)

  each_in : (r : ℕ) (b : Bool) (e : nat_le r top ≡ b) → r ≤ top → (p : Path) (v : NodeRev) → nodes_in r b e p ≡ Some v ↔ StandsAt look r p v
  each_in r false e le p v = absurd (both_ways _ e (le-leb r top le))
  each_in r true e le p v =
      let m = (shown r (leb-true r top e)).each p in
      (λ h. from_met r p v m.0 m.1 h, λ at. ap node_met (met_same look r p m.0 (Stands v) m.1 at))

  pub are_nodes : AreNodes look top nodes_of
  are_nodes r le = record { each = λ p v. each_in r (nat_le r top) refl le p v }
