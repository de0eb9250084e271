-- One step of the way down a path on which each directory becomes the transaction's own.
use Rattle.std.specs.Prelude.{◌≡◌, ◌==◌, ◌+◌, ◌-◌, ◌^◌, ◌++◌, min, Bool, false, ◌&&◌, List, [], ◌∷◌, Option, Some, None, Ok, if◌then◌else◌}
use Rattle.fsfs_base.specs.Paths.{PathName}
use Rattle.fsfs_base.specs.declared.fields.txn_name.TxnName.{TxnName}
use Rattle.fsfs_revision.specs.Told.{RevisionBytes}
use Rattle.fsfs_noderev.specs.Ids.{PartValue, New, Old, Made, part_value}
use Rattle.fsfs_noderev.specs.declared.node_id.Place.TheVariants as places
use Rattle.fsfs_noderev.specs.declared.node_id.NodeId.{NodeId}
use Rattle.fsfs_noderev.specs.declared.node_rev.NodeRev.{NodeRev}
use Rattle.fsfs_revision.specs.Shows.Reading.{DirEntry, EntriesOf, OfId}
use Rattle.fsfs_draft.specs.Rules.{draft_root, root_after}
use Rattle.fsfs_draft.specs.Drafts.{Kept}

-- ---- files by node part and copy part

abbrev pub same_value : PartValue → PartValue → Bool
same_value (New m) (New n) = m == n
same_value (Old m) (Old n) = m == n
same_value (Made m r) (Made n s) = (m == n) && (r == s)
same_value (New m) (Old n) = false
same_value (New m) (Made n s) = false
same_value (Old m) (New n) = false
same_value (Old m) (Made n s) = false
same_value (Made m r) (New n) = false
same_value (Made m r) (Old n) = false

-- two ids with the same node part and copy part: of the files of one node-revision
abbrev pub same_key : NodeId → NodeId → Bool
same_key id other = same_value (part_value id.node) (part_value other.node) && same_value (part_value id.copy) (part_value other.copy)

abbrev pub Files : Type 0
Files = PartValue → PartValue → Option Kept

abbrev pub with_kept : NodeId → Kept → Files → Files
with_kept id k files node copy = if same_value (part_value id.node) node && same_value (part_value id.copy) copy then Some k else files node copy

abbrev pub kept_at : Files → NodeId → Option Kept
kept_at files id = files (part_value id.node) (part_value id.copy)

-- ---- the entries of an own directory

-- of its `children` file, of what it goes on from, or none
pub data EntriesHere (look : RevisionBytes) (k : Kept) (entries : List DirEntry) : Type 0 where
  Listed : k.entries ≡ Some entries → EntriesHere look k entries
  Read : (id : NodeId) (u : NodeRev) → k.entries ≡ None → k.node.predecessor ≡ Some id → OfId look id (Ok u) → EntriesOf look u (Ok entries) → EntriesHere look k entries
  Empty : k.entries ≡ None → k.node.predecessor ≡ None → entries ≡ [] → EntriesHere look k entries

-- ---- the new node-revision

-- it goes on from u, in the directory, with this copy part
pub record IsSuccessor (txn : TxnName) (dir u w : NodeRev) (name : PathName) : Type 0 where
  pub node : w.id.node ≡ u.id.node
  pub place : w.id.place ≡ places.In txn
  pub kind : w.kind ≡ u.kind
  pub predecessor : w.predecessor ≡ Some u.id
  pub count : w.count ≡ min (u.count + 1) (2 ^ 64 - 1)
  pub text : w.text ≡ u.text
  pub props : w.props ≡ u.props
  pub path : w.created_path ≡ dir.created_path ++ name ∷ []
  pub no_copy : w.copy_from ≡ None
  pub root : draft_root w ≡ root_after (draft_root dir) u
