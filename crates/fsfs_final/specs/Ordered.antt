-- A finished node-revision of a draft names only what stands before it.
use Rattle.std.specs.Prelude.{◌≡◌, ℕ, suc, true, Some}
use Rattle.fsfs_base.specs.Paths.{Path}
use Rattle.fsfs_revision.specs.Told.{RevisionBytes}
use Rattle.fsfs_noderev.specs.declared.node_rev.NodeRev.{NodeRev}
use Rattle.fsfs_revision.specs.Nodes.{has_revision_root, rep_before, is_ordered}
use Rattle.fsfs_revision.specs.Damage.Damages.{place_of}
use Rattle.fsfs_draft.specs.OwnSides.{NodesAt}
use Rattle.fsfs_draft.specs.NodeDrafts.{IsOwn, IsDraft}
use Rattle.fsfs_final.specs.Final.{IsFinal}

-- of its representations the writer knows; of its predecessor, source and copy root the draft tells
abbrev pub FinalsAreInOrder : Type 0
FinalsAreInOrder = (look : RevisionBytes) (top o : ℕ) (own : NodesAt) (p : Path) (u v : NodeRev) → IsDraft look top top own → own p ≡ Some u → IsOwn u → IsFinal (suc top) u v
    → has_revision_root v.copy_root ≡ true → rep_before (place_of (suc top) o) v.text ≡ true → rep_before (place_of (suc top) o) v.props ≡ true → is_ordered (place_of (suc top) o) v ≡ true
