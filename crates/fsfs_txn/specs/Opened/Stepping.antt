-- A step of the walk on which all is read that is wanted later.
use Rattle.std.specs.Prelude.{◌≡◌, ◌≤◌, ℕ, true, false, List, Option, Some, None, IfSome, Result, Ok, Err, OnOk, option_map}
use Rattle.fsfs_base.specs.Paths.{PathName, Path}
use Rattle.fsfs_base.specs.declared.kind.Kind.TheVariants.{Dir}
use Rattle.fsfs_tree.specs.Nodes.{TreeFunction}
use Rattle.fsfs_revision.specs.Told.{RevisionBytes}
use Rattle.fsfs_noderev.specs.declared.node_id.NodeId.{NodeId}
use Rattle.fsfs_revision.specs.Nodes.{is_revision_id}
use Rattle.fsfs_revision.specs.Shows.Reading.{DirEntry, named, offset_of}
use Rattle.fsfs_noderev.specs.declared.node_rev.NodeRev.{NodeRev}
use Rattle.fsfs_draft.specs.Own.{OwnNode, Own}
use Rattle.fsfs_draft.specs.Drafts.{Kept}
use Rattle.fsfs_draft.specs.Steps.{Files, kept_at}
use Rattle.fsfs_draft.specs.Entries.{IsWithin}
use Rattle.fsfs_draft.specs.Walks.{IsLastingAt}
use Rattle.fsfs_draft.specs.declared.error.EditError.{EditError}
use Rattle.fsfs_draft.specs.Errors.{IsWant}
use Rattle.fsfs_txn.specs.declared.opened.known.Known.{Known}
use Rattle.fsfs_txn.specs.Opened.Knowing.{IsWhole}
use Rattle.fsfs_txn.specs.Opened.Leading.{IsAmong, IsSourceKnown, HasEntries, LeadsDown}

-- the node-revision of the id stands at the path
pub data IsIdAt (look : RevisionBytes) (trees : ℕ → TreeFunction) (base : ℕ) (own : Own) (path : Path) (id : NodeId) : Type 0 where
  OwnAt : (v : OwnNode) → own path ≡ Some v → v.node.id ≡ id → IsIdAt look trees base own path id
  LastingAt : (u : NodeRev) → IsLastingAt look trees base own path u → u.id ≡ id → IsIdAt look trees base own path id

-- the entries of the directory are known, and it is of a revision that is told, or what it goes on from is
pub data IsDirKnown (top : ℕ) (files : Files) (known : List Known) (id : NodeId) : Type 0 where
  OwnDir : (k : Kept) → is_revision_id id ≡ false → kept_at files id ≡ Some k → k.node.kind ≡ Dir → IsWithin top k.node.predecessor → (k.entries ≡ None → IsSourceKnown known k.node.predecessor) → IsDirKnown top files known id
  LastingDir : is_revision_id id ≡ true → (offset_of id.place).rev ≤ top → IsAmong id known → IsDirKnown top files known id

-- the id behind a name of the directory
pub record IsNext (look : RevisionBytes) (files : Files) (known : List Known) (dir : NodeId) (name : PathName) (next : Option NodeId) : Type 0 where
  pub entries : List DirEntry
  pub has : HasEntries look files known dir entries
  pub is : next ≡ option_map (λ (e : DirEntry). e.id) (named name entries)

-- what is known of something is still known; and it is known, where it is told and nothing of it is wrong
abbrev pub StillKnown : {T : Type 0} → List Known → List Known → Result T EditError → Type 0
StillKnown before after result = (id : NodeId) → IsAmong id before → OnOk result (IsAmong id after)

abbrev pub BecomesKnown : {T : Type 0} → RevisionBytes → ℕ → Option NodeId → List Known → Result T EditError → Type 0
BecomesKnown look top source after result = IfSome source (λ id. (offset_of id.place).rev ≤ top → IsWhole look id → OnOk result (IsAmong id after))

-- memory ran out, or the rest of the names lead down from what was answered
abbrev pub LeadsOn : RevisionBytes → Files → List Known → Path → Result NodeId EditError → Type 0
LeadsOn look files known rest (Ok id) = LeadsDown look files known rest id
LeadsOn look files known rest (Err e) = IsWant e ⊥

-- whatever led somewhere leads there still
abbrev pub LeadsAsBefore : {T : Type 0} → RevisionBytes → Files → Files → Result T EditError → Type 0
LeadsAsBefore look before after result = (known : List Known) (path : Path) (id : NodeId) → LeadsDown look before known path id → OnOk result (LeadsDown look after known path id)
