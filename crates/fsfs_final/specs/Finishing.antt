-- A draft's node-revision with final ids and representations, as the writer makes it.
use Rattle.std.specs.Prelude.{◌≡◌, ◌≢◌, ℕ, suc, true, false, Option, Some, None, unwrap_or}
use Rattle.fsfs_base.specs.Paths.{Path}
use Rattle.fsfs_revision.specs.Told.{RevisionBytes}
use Rattle.fsfs_noderev.specs.declared.node_id.Place.TheVariants as places
use Rattle.fsfs_noderev.specs.declared.rep.Contents.{Contents}
use Rattle.fsfs_noderev.specs.declared.rep.Contents.TheVariants as contents
use Rattle.fsfs_noderev.specs.declared.node_rev.CopyRoot.{CopyRoot}
use Rattle.fsfs_noderev.specs.declared.node_rev.NodeRev.{NodeRev}
use Rattle.fsfs_revision.specs.Nodes.{has_revision_rep, is_of_revision, rep_before, is_ordered}
use Rattle.fsfs_revision.specs.Damage.Damages.{place_of}
use Rattle.fsfs_revision.specs.Shows.Chains.{contents_rev}
use Rattle.fsfs_draft.specs.OwnSides.{NodesAt}
use Rattle.fsfs_draft.specs.NodeDrafts.{IsOwn, IsDraft}
use Rattle.fsfs_final.specs.Final.{final_part, IsFinal}

abbrev pub final_root : ℕ → Option CopyRoot → Option CopyRoot
final_root n None = None
final_root n (Some root) = Some (record root { rev = Some (unwrap_or root.rev n) })

abbrev pub finish : ℕ → ℕ → Option Contents → Option Contents → NodeRev → NodeRev
finish n o text props u = record u {
  id = record u.id { node = final_part n u.id.node; copy = final_part n u.id.copy; place = places.At n o };
  text = text;
  props = props;
  copy_root = final_root n u.copy_root;
  is_fresh_txn_root = false;
}

-- properties of its own stand in revision n; else they are what they were
pub record FinishesProps (n : ℕ) (u : NodeRev) (props : Option Contents) : Type 0 where
  pub own : u.props ≡ Some contents.Own → (props ≢ None) × (contents_rev props ≡ n)
  pub other : (u.props ≢ Some contents.Own) → props ≡ u.props

abbrev pub FinishingIsFinal : Type 0
FinishingIsFinal = (look : RevisionBytes) (top o : ℕ) (own : NodesAt) (p : Path) (u : NodeRev) (text props : Option Contents) → IsDraft look top top own → own p ≡ Some u → IsOwn u
    → has_revision_rep text ≡ true → has_revision_rep props ≡ true → rep_before (place_of (suc top) o) text ≡ true → rep_before (place_of (suc top) o) props ≡ true → FinishesProps (suc top) u props
    → IsFinal (suc top) u (finish (suc top) o text props u) × (is_of_revision (finish (suc top) o text props u) ≡ true) × (is_ordered (place_of (suc top) o) (finish (suc top) o text props u) ≡ true)
