-- What stands in a revision has none of the forms of a transaction.
use Rattle.std.proofs.Common.{◌≡◌, ℕ, not, Bool, true, false, ◌&&◌, refl, sym, ap, subst, ◌∙◌, Option, Some, None}
use Rattle.std.specs.Prelude.{Ok, is_some, if◌then◌else◌}
use Rattle.std.proofs.lemmas.Bool.{and_parts}
use mathlib.Core.Bool.{false≢true}
use Rattle.fsfs_base.specs.Paths.{Path}
use Rattle.fsfs_revision.specs.Told.{RevisionBytes}
use Rattle.fsfs_noderev.specs.declared.node_id.Place.{Place}
use Rattle.fsfs_noderev.specs.declared.node_id.Place.TheVariants as places
use Rattle.fsfs_noderev.specs.declared.node_id.NodeId.{NodeId}
use Rattle.fsfs_noderev.specs.declared.rep.Contents.{Contents}
use Rattle.fsfs_noderev.specs.declared.rep.Contents.TheVariants as contents
use Rattle.fsfs_noderev.specs.declared.node_rev.CopyRoot.{CopyRoot}
use Rattle.fsfs_noderev.specs.declared.node_rev.NodeRev.{NodeRev}
use Rattle.fsfs_revision.specs.Nodes.{is_lasting_part, is_revision_place, is_revision_id, has_revision_pred, has_revision_rep, has_revision_root, is_some_rev, is_of_revision}
use Rattle.fsfs_revision.specs.Shows.Reading.{OfId, StandsAt}
use Rattle.fsfs_revision.proofs.Earlier.{stands_of_id}
use Rattle.fsfs_draft.specs.OwnSides.{in_txn, has_own_root, is_own_copy}

pub record IsLasting (x : NodeRev) : Type 0 where
  pub place : in_txn x.id.place ≡ false
  pub part : is_lasting_part x.id.node ≡ true
  pub props : x.props ≡ Some contents.Own → ⊥
  pub root : is_own_copy x ≡ false

place_of_rev : (p : Place) → is_revision_place p ≡ true → in_txn p ≡ false
place_of_rev (places.At rev offset) e = refl
place_of_rev (places.In txn) e = absurd (false≢true e)

rep_of_rev : (o : Option Contents) → has_revision_rep o ≡ true → o ≡ Some contents.Own → ⊥
rep_of_rev o h e = false≢true (sym (ap has_revision_rep e) ∙ h)

root_of_rev : (mine : Bool) (o : Option CopyRoot) → mine ≡ false → has_revision_root o ≡ true → has_own_root mine o ≡ false
root_of_rev mine None e h = e
root_of_rev mine (Some root) e h = by root.rev h
  where
    by : (o : Option ℕ) → is_some_rev o ≡ true → (if is_some o then false else true) ≡ false
    by None h = absurd (false≢true h)
    by (Some r) h = refl

of_revision : (v : NodeRev) → is_of_revision v ≡ true → IsLasting v
of_revision v h =
    let a = and_parts (is_revision_id v.id && has_revision_pred v.predecessor && has_revision_rep v.text && has_revision_rep v.props && has_revision_root v.copy_root) (not v.is_fresh_txn_root) h in
    let b = and_parts (is_revision_id v.id && has_revision_pred v.predecessor && has_revision_rep v.text && has_revision_rep v.props) (has_revision_root v.copy_root) a.0 in
    let c = and_parts (is_revision_id v.id && has_revision_pred v.predecessor && has_revision_rep v.text) (has_revision_rep v.props) b.0 in
    let d = and_parts (is_revision_id v.id && has_revision_pred v.predecessor) (has_revision_rep v.text) c.0 in
    let e = and_parts (is_revision_id v.id) (has_revision_pred v.predecessor) d.0 in
    let f = and_parts (is_lasting_part v.id.node && is_lasting_part v.id.copy) (is_revision_place v.id.place) e.0 in
    record { place = place_of_rev v.id.place f.1; part = (and_parts (is_lasting_part v.id.node) (is_lasting_part v.id.copy) f.0).0; props = rep_of_rev v.props c.1; root = root_of_rev (in_txn v.id.place) v.copy_root (place_of_rev v.id.place f.1) b.1 }

pub lasting_id : (look : RevisionBytes) (id : NodeId) (v : NodeRev) → OfId look id (Ok v) → IsLasting v
lasting_id look id v w =
    let same : v ≡ w.0 = w.2.0 in
    subst IsLasting (sym same) (of_revision w.0 w.1.2.0.1)

pub lasting : (look : RevisionBytes) (r : ℕ) (p : Path) (v : NodeRev) → StandsAt look r p v → IsLasting v
lasting look r p v at = lasting_id look v.id v (stands_of_id look r p v at)
