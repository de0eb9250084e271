-- Node-revisions as they stand in a revision: without the forms of a transaction, and naming only what stands before them.
use Rattle.std.specs.Prelude.{◌≡◌, ℕ, Bool, true, false, not, ◌&&◌, ◌||◌, ◌==◌, nat_lt, nat_le, List, take, Option, Some, None}
use Rattle.fsfs_base.specs.declared.kind.Kind.{Kind}
use Rattle.fsfs_base.specs.declared.kind.Kind.TheVariants.{File, Dir}
use Rattle.fsfs_noderev.specs.NodeRevs.{IsRead}
use Rattle.fsfs_noderev.specs.declared.node_id.Part.{Part}
use Rattle.fsfs_noderev.specs.declared.node_id.Part.TheVariants.{New, Old, Made}
use Rattle.fsfs_noderev.specs.declared.node_id.Place.{Place}
use Rattle.fsfs_noderev.specs.declared.node_id.Place.TheVariants.{At, In}
use Rattle.fsfs_noderev.specs.declared.node_id.NodeId.{NodeId}
use Rattle.fsfs_noderev.specs.declared.rep.Contents.{Contents}
use Rattle.fsfs_noderev.specs.declared.rep.Contents.TheVariants as contents
use Rattle.fsfs_noderev.specs.declared.node_rev.CopySource.{CopySource}
use Rattle.fsfs_noderev.specs.declared.node_rev.CopyRoot.{CopyRoot}
use Rattle.fsfs_noderev.specs.declared.node_rev.NodeRev.{NodeRev}
use Rattle.fsfs_revision.specs.declared.damage.RevOffset.{RevOffset}

-- ---- without the forms of a transaction

-- not `_<number>`, which is of a transaction
abbrev pub is_lasting_part : Part → Bool
is_lasting_part (New n) = false
is_lasting_part (Old n) = true
is_lasting_part (Made n rev) = true

abbrev pub is_revision_place : Place → Bool
is_revision_place (At rev offset) = true
is_revision_place (In txn) = false

abbrev pub is_revision_id : NodeId → Bool
is_revision_id id = is_lasting_part id.node && is_lasting_part id.copy && is_revision_place id.place

abbrev pub is_some_rev : Option ℕ → Bool
is_some_rev None = false
is_some_rev (Some rev) = true

abbrev pub has_revision_pred : Option NodeId → Bool
has_revision_pred None = true
has_revision_pred (Some id) = is_revision_id id

-- not `-1`, which says that the value stands in a transaction's own file
abbrev pub has_revision_rep : Option Contents → Bool
has_revision_rep None = true
has_revision_rep (Some contents.Own) = false
has_revision_rep (Some (contents.At rep)) = is_some_rev rep.rev

abbrev pub has_revision_root : Option CopyRoot → Bool
has_revision_root None = true
has_revision_root (Some root) = is_some_rev root.rev

abbrev pub is_of_revision : NodeRev → Bool
is_of_revision v = is_revision_id v.id && has_revision_pred v.predecessor && has_revision_rep v.text && has_revision_rep v.props
    && has_revision_root v.copy_root && not v.is_fresh_txn_root

-- ---- naming only what stands before

-- by the revision, then by the offset
abbrev pub is_before : ℕ → ℕ → RevOffset → Bool
is_before rev offset at = nat_lt rev at.rev || (rev == at.rev && nat_lt offset at.offset)

abbrev pub place_before : RevOffset → Place → Bool
place_before at (At rev offset) = is_before rev offset at
place_before at (In txn) = false

abbrev pub pred_before : RevOffset → Option NodeId → Bool
pred_before at None = true
pred_before at (Some id) = place_before at id.place

abbrev pub rep_place_before : RevOffset → Option ℕ → ℕ → Bool
rep_place_before at None offset = false
rep_place_before at (Some rev) offset = is_before rev offset at

abbrev pub rep_before : RevOffset → Option Contents → Bool
rep_before at None = true
rep_before at (Some contents.Own) = false
rep_before at (Some (contents.At rep)) = rep_place_before at rep.rev rep.offset

-- a source is of an earlier revision
abbrev pub source_before : RevOffset → Option CopySource → Bool
source_before at None = true
source_before at (Some source) = nat_lt source.rev at.rev

abbrev pub rev_not_after : RevOffset → Option ℕ → Bool
rev_not_after at None = false
rev_not_after at (Some rev) = nat_le rev at.rev

-- a copy root is of no later revision
abbrev pub root_not_after : RevOffset → Option CopyRoot → Bool
root_not_after at None = true
root_not_after at (Some root) = rev_not_after at root.rev

-- what the node-revision at this place names stands before it
abbrev pub is_ordered : RevOffset → NodeRev → Bool
is_ordered at v = pred_before at v.predecessor && rep_before at v.text && rep_before at v.props && source_before at v.copy_from && root_not_after at v.copy_root

-- ---- what the bytes from a place on hold

-- they begin with this node-revision, in a form that a revision may have
abbrev pub Holds : List ℕ → NodeRev → Type 0
Holds bytes v = IsRead (take 65536 bytes) v × (is_of_revision v ≡ true)

-- and it may stand at this place
abbrev pub IsNodeAt : RevOffset → List ℕ → NodeRev → Type 0
IsNodeAt at bytes v = Holds bytes v × (is_ordered at v ≡ true)

-- ---- the root

-- its id has the place at which it stands
abbrev pub is_own_place : RevOffset → Place → Bool
is_own_place at (At rev offset) = (rev == at.rev) && (offset == at.offset)
is_own_place at (In txn) = false

abbrev pub is_directory : Kind → Bool
is_directory File = false
is_directory Dir = true

abbrev pub is_root : RevOffset → NodeRev → Bool
is_root at v = is_own_place at v.id.place && is_directory v.kind
