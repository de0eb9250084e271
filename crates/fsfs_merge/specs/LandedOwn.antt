-- What a merge leaves of a draft, as own node-revisions at their paths: a draft over the head.
use Rattle.std.specs.Prelude.{◌≡◌, ◌<◌, ◌+◌, ◌-◌, ◌^◌, ◌++◌, ℕ, min, Bool, true, false, List, [], ◌∷◌, Option, Some, None, if◌then◌else◌}
use Rattle.fsfs_base.specs.Paths.{PathName, Path}
use Rattle.fsfs_tree.specs.Nodes.{TreeFunction}
use Rattle.fsfs_model.specs.declared.flat.mark.Mark.{Mark}
use Rattle.fsfs_model.specs.Flat.Landing.{NoClash}
use Rattle.fsfs_base.specs.declared.fields.txn_name.TxnName.{TxnName}
use Rattle.fsfs_revision.specs.Told.{RevisionBytes}
use Rattle.fsfs_noderev.specs.Ids.{PartValue, part_value}
use Rattle.fsfs_noderev.specs.declared.rep.Contents.TheVariants as contents
use Rattle.fsfs_noderev.specs.declared.node_rev.NodeRev.{NodeRev}
use Rattle.fsfs_revision.specs.Shows.Reading.{DirEntry, named}
use Rattle.fsfs_draft.specs.Own.{OwnNode, Own}
use Rattle.fsfs_draft.specs.Drafts.{Kept, Folder, kept_of, IsBelow, IsDraft}
use Rattle.fsfs_draft.specs.OwnSides.{NodesAt}
use Rattle.fsfs_draft.specs.Met.{draft_nodes, AreNodes}
use Rattle.fsfs_draft.specs.Sides.{OwnFiles, DrawnOnce, AreMarksOf}
use Rattle.fsfs_draft.specs.Tied.{IsListed}
use Rattle.fsfs_merge.specs.declared.sight.Sight.{Sight}
use Rattle.fsfs_merge.specs.Walks.{is_own}
use Rattle.fsfs_merge.specs.MergeLaws.{IsMerge, is_merged, landed_nodes}

-- a merged directory goes on from the head's, with the entries that the merge wrote
abbrev pub relinked_own : Bool → Option NodeRev → List DirEntry → Option OwnNode → Option OwnNode
relinked_own false y entries v = v
relinked_own true y entries None = None
relinked_own true None entries (Some v) = Some v
relinked_own true (Some y) entries (Some v) =
    Some (record v { node = record v.node { predecessor = Some y.id; count = min (y.count + 1) (2 ^ 64 - 1); text = Some contents.Own; is_fresh_txn_root = false }; entries = Some entries })

-- what stays the transaction's; `lists` are the entries of the merged directories
abbrev pub landed_own : (Path → Sight) → NodesAt → (Path → List DirEntry) → Own → Own
landed_own see head lists own p = if is_own see p then relinked_own (is_merged see p) (head p) (lists p) (own p) else None

-- a merged directory's list has what is there after the merge
abbrev pub AreLists : (Path → Sight) → NodesAt → NodesAt → (Path → List DirEntry) → Type 0
AreLists see head met lists = (p : Path) (name : PathName) → is_merged see p ≡ true → IsListed (named name (lists p)) (landed_nodes see head met (p ++ name ∷ []))

-- the folder after it has the own node-revisions as they are then; what it drew and the texts are as before
pub record IsLandedFolder (f after : Folder) (own : Own) : Type 0 where
  pub kept : (p : Path) (v : OwnNode) → own p ≡ Some v → after.nodes (part_value v.node.id.node) (part_value v.node.id.copy) ≡ Some (kept_of v)
  pub drawn : (node copy : PartValue) (k : Kept) → after.nodes node copy ≡ Some k → IsBelow after.next_node node × IsBelow after.next_copy copy
  pub proto : after.proto ≡ f.proto

pub record LandedIsADraft : Type 0 where
  pub draft : (look : RevisionBytes) (top : ℕ) (tree : ℕ → TreeFunction) (b h : ℕ) (t : TreeFunction) (marks : List Mark) (nodes : ℕ → NodesAt) (see : Path → Sight) (txn : TxnName) (f after : Folder) (own : Own) (lists : Path → List DirEntry)
      → AreNodes look top nodes → IsMerge look top tree b h t marks (nodes b) (nodes h) (draft_nodes nodes own (nodes b)) see → b < h → NoClash b (tree b) (tree h) t marks
      → IsDraft look top b txn f own → OwnFiles own → DrawnOnce own → AreMarksOf (tree b) marks own
      → AreLists see (nodes h) (draft_nodes nodes own (nodes b)) lists → IsLandedFolder f after (landed_own see (nodes h) lists own)
      → IsDraft look top h txn after (landed_own see (nodes h) lists own)
  pub files : (look : RevisionBytes) (top : ℕ) (tree : ℕ → TreeFunction) (b h : ℕ) (t : TreeFunction) (marks : List Mark) (nodes : ℕ → NodesAt) (see : Path → Sight) (txn : TxnName) (f : Folder) (own : Own) (lists : Path → List DirEntry)
      → AreNodes look top nodes → IsMerge look top tree b h t marks (nodes b) (nodes h) (draft_nodes nodes own (nodes b)) see → NoClash b (tree b) (tree h) t marks
      → IsDraft look top b txn f own → OwnFiles own → DrawnOnce own → OwnFiles (landed_own see (nodes h) lists own) × DrawnOnce (landed_own see (nodes h) lists own)
  -- what is met in it is what the merge leaves, and the marks say of the head what they said of the base
  pub met : (look : RevisionBytes) (top : ℕ) (tree : ℕ → TreeFunction) (b h : ℕ) (t : TreeFunction) (marks : List Mark) (nodes : ℕ → NodesAt) (see : Path → Sight) (txn : TxnName) (f after : Folder) (own : Own) (lists : Path → List DirEntry)
      → AreNodes look top nodes → IsMerge look top tree b h t marks (nodes b) (nodes h) (draft_nodes nodes own (nodes b)) see → b < h → NoClash b (tree b) (tree h) t marks
      → IsDraft look top b txn f own → OwnFiles own → DrawnOnce own → AreMarksOf (tree b) marks own
      → AreLists see (nodes h) (draft_nodes nodes own (nodes b)) lists → IsLandedFolder f after (landed_own see (nodes h) lists own)
      → (p : Path) → draft_nodes nodes (landed_own see (nodes h) lists own) (nodes h) p ≡ landed_nodes see (nodes h) (draft_nodes nodes own (nodes b)) p
  pub marks : (look : RevisionBytes) (top : ℕ) (tree : ℕ → TreeFunction) (b h : ℕ) (t : TreeFunction) (marks : List Mark) (nodes : ℕ → NodesAt) (see : Path → Sight) (txn : TxnName) (f after : Folder) (own : Own) (lists : Path → List DirEntry)
      → AreNodes look top nodes → IsMerge look top tree b h t marks (nodes b) (nodes h) (draft_nodes nodes own (nodes b)) see → b < h → NoClash b (tree b) (tree h) t marks
      → IsDraft look top b txn f own → OwnFiles own → DrawnOnce own → AreMarksOf (tree b) marks own
      → AreLists see (nodes h) (draft_nodes nodes own (nodes b)) lists → IsLandedFolder f after (landed_own see (nodes h) lists own)
      → AreMarksOf (tree h) marks (landed_own see (nodes h) lists own)
