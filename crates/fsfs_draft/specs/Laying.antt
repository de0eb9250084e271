-- One step of an edit: something is laid behind one name of an own directory, or taken away there.
--
-- What is laid is new, a copy, or what stood there, gone on from. The directory's entries stand in a `children` file of its own from
-- then on.
use Rattle.std.specs.Prelude.{◌≡◌, ◌≤◌, ◌++◌, ℕ, true, false, List, [], ◌∷◌, Option, Some, None}
use Rattle.fsfs_base.specs.Paths.{PathName, Path, same_name, covers}
use Rattle.fsfs_base.specs.declared.kind.Kind.TheVariants.{Dir}
use Rattle.fsfs_tree.specs.Nodes.{Node, TreeFunction}
use Rattle.fsfs_model.specs.Flat.Edits.{with_node, with_copy, without, copied_node}
use Rattle.fsfs_base.specs.declared.fields.txn_name.TxnName.{TxnName}
use Rattle.fsfs_revision.specs.Told.{RevisionBytes}
use Rattle.fsfs_noderev.specs.Ids.{PartValue}
use Rattle.fsfs_noderev.specs.declared.node_id.Place.TheVariants as places
use Rattle.fsfs_noderev.specs.declared.node_id.NodeId.{NodeId}
use Rattle.fsfs_noderev.specs.declared.node_rev.CopySource.{CopySource}
use Rattle.fsfs_noderev.specs.declared.node_rev.NodeRev.{NodeRev}
use Rattle.fsfs_revision.specs.Shows.Reading.{DirEntry, named, StandsAt}
use Rattle.fsfs_draft.specs.Own.{OwnNode, Own, draft_tree, shared_under, shared_at, graft, under, alone, nothing, with_child, opened}
use Rattle.fsfs_draft.specs.Rules.{ComesBy, head_at, IsEntryOf, above_of, stands_under, stands_at}
use Rattle.fsfs_draft.specs.Drafts.{Kept, Folder, kept_of, HasContent, IsBelow, IsDraft, ShowTrees}
use Rattle.fsfs_draft.specs.Sides.{HasFiles, OwnFiles, DrawnOnce, source_here, OwnSources}
use Rattle.fsfs_draft.specs.Steps.{same_key, kept_at, EntriesHere}

-- one own node-revision, or none
abbrev pub laid_own : Option OwnNode → Own
laid_own None = nothing
laid_own (Some v) = alone v

-- the directory d at p with these entries, and what is laid behind the name
abbrev pub laid_in : Path → OwnNode → PathName → List DirEntry → Option OwnNode → Own → Own
laid_in p d x new laid own = graft p (with_child (opened d new) x (laid_own laid) (under p own)) own

-- which node-revisions of revisions stand below an own directory, where nothing of the transaction's stands
abbrev pub stands_in : RevisionBytes → ℕ → Own → Path → OwnNode → Path → NodeRev → Type 0
stands_in look base own p d q u = stands_under look (Some d) (λ r v. stands_at look p own (StandsAt look base) r v) q u

-- an own directory at a path, and the entries that are read in it
pub record IsDirectory (look : RevisionBytes) (own : Own) (p : Path) (d : OwnNode) (entries : List DirEntry) : Type 0 where
  pub here : own p ≡ Some d
  pub kind : d.node.kind ≡ Dir
  pub listed : EntriesHere look (kept_of d) entries

-- what is laid behind the name is the transaction's own, in its folder
pub record IsLaid (look : RevisionBytes) (top : ℕ) (txn : TxnName) (Stands : Path → NodeRev → Type 0) (d : OwnNode) (x : PathName) (after : Folder) (v : OwnNode) : Type 0 where
  pub comes : ComesBy look top (λ r u. Stands (x ∷ r) u) (above_of d.node) v
  pub no_entries : v.entries ≡ None
  pub path : v.node.created_path ≡ d.node.created_path ++ x ∷ []
  pub place : v.node.id.place ≡ places.In txn
  pub content : HasContent look after.proto v
  pub kept : kept_at after.nodes v.node.id ≡ Some (kept_of v)

-- the folder, and the folder after the step
pub record IsLaying (look : RevisionBytes) (top base : ℕ) (txn : TxnName) (f : Folder) (own : Own) (p : Path) (d : OwnNode) (x : PathName) (entries new : List DirEntry) (laid : Option OwnNode) (after : Folder) : Type 0 where
  -- the other entries stay, and the one of the name is that of what is laid
  pub others : (y : PathName) → same_name x y ≡ false → named y new ≡ named y entries
  pub entry : IsEntryOf (λ u. stands_in look base own p d (x ∷ []) u) (named x new) (head_at laid)
  pub each : (v : OwnNode) → laid ≡ Some v → IsLaid look top txn (stands_in look base own p d) d x after v
  -- the directory's files are changed, and no other node-revision's
  pub directory : kept_at after.nodes d.node.id ≡ Some (kept_of (opened d new))
  pub stay : (id : NodeId) (k : Kept) → kept_at f.nodes id ≡ Some k → (same_key d.node.id id ≡ true → ⊥) → kept_at after.nodes id ≡ Some k
  pub drawn : (node copy : PartValue) (k : Kept) → after.nodes node copy ≡ Some k → IsBelow after.next_node node × IsBelow after.next_copy copy
  pub contents : (v : OwnNode) → HasContent look f.proto v → HasContent look after.proto v

-- what the step draws is no other's
pub record IsDrawnFor (own : Own) (d v : OwnNode) : Type 0 where
  pub made : v.node.predecessor ≡ None → (q : Path) (w : OwnNode) → own q ≡ Some w → w.node.id.node ≡ v.node.id.node → ⊥
  pub copied : (from : CopySource) → v.node.copy_from ≡ Some from → (q : Path) (w : OwnNode) → own q ≡ Some w → w.node.id.copy ≡ v.node.id.copy → ⊥
  pub other : v.node.copy_from ≡ None → (q : Path) (c : OwnNode) (from : CopySource) → own q ≡ Some c → c.node.copy_from ≡ Some from → c.node.id.copy ≡ v.node.id.copy → v.node.id.copy ≡ d.node.id.copy

-- a step, with all that it is taken on
pub record Step (look : RevisionBytes) (trees : ℕ → TreeFunction) (top base : ℕ) (txn : TxnName) : Type 0 where
  pub before : Folder
  pub own : Own
  pub path : Path
  pub directory : OwnNode
  pub name : PathName
  pub entries : List DirEntry
  pub new : List DirEntry
  pub laid : Option OwnNode
  pub after : Folder
  pub shown : ShowTrees look top trees
  pub within : base ≤ top
  pub draft : IsDraft look top base txn before own
  pub is_directory : IsDirectory look own path directory entries
  pub laying : IsLaying look top base txn before own path directory name entries new laid after

-- where it is taken
abbrev pub place_in : {look : RevisionBytes} {trees : ℕ → TreeFunction} {top base : ℕ} {txn : TxnName} → Step look trees top base txn → Path
place_in s = s.path ++ s.name ∷ []

abbrev pub own_after : {look : RevisionBytes} {trees : ℕ → TreeFunction} {top base : ℕ} {txn : TxnName} → Step look trees top base txn → Own
own_after s = laid_in s.path s.directory s.name s.new s.laid s.own

abbrev pub tree_before : {look : RevisionBytes} {trees : ℕ → TreeFunction} {top base : ℕ} {txn : TxnName} → Step look trees top base txn → TreeFunction
tree_before {trees} {base} s = draft_tree trees s.own (trees base)

abbrev pub tree_after : {look : RevisionBytes} {trees : ℕ → TreeFunction} {top base : ℕ} {txn : TxnName} → Step look trees top base txn → TreeFunction
tree_after {trees} {base} s = draft_tree trees (own_after s) (trees base)

-- what is shared where something is laid
abbrev pub shared_in : {look : RevisionBytes} {trees : ℕ → TreeFunction} {top base : ℕ} {txn : TxnName} → Step look trees top base txn → Option Node
shared_in {trees} {base} s = shared_under trees (Some s.directory) (shared_at trees s.path s.own (trees base)) (s.name ∷ [])

-- ---- the laws

pub record StepsAreEdits : Type 0 where
  -- the step leaves a draft
  pub draft : (look : RevisionBytes) (trees : ℕ → TreeFunction) (top base : ℕ) (txn : TxnName) (s : Step look trees top base txn) → IsDraft look top base txn s.after (own_after s)
  -- no path but those at and below the name is changed
  pub others : (look : RevisionBytes) (trees : ℕ → TreeFunction) (top base : ℕ) (txn : TxnName) (s : Step look trees top base txn) (q : Path) → covers (place_in s) q ≡ false → tree_after s q ≡ tree_before s q
  -- a new node, where the directory had nothing of the name
  pub made : (look : RevisionBytes) (trees : ℕ → TreeFunction) (top base : ℕ) (txn : TxnName) (s : Step look trees top base txn) (v : OwnNode) → s.laid ≡ Some v
      → v.node.copy_from ≡ None → v.node.predecessor ≡ None → named s.name s.entries ≡ None → (q : Path) → tree_after s q ≡ with_node (tree_before s) (place_in s) (Some v.shown) q
  -- a copy, shown as its source is
  pub copied : (look : RevisionBytes) (trees : ℕ → TreeFunction) (top base : ℕ) (txn : TxnName) (s : Step look trees top base txn) (v : OwnNode) (from : CopySource) → s.laid ≡ Some v
      → v.node.copy_from ≡ Some from → Some v.shown ≡ copied_node from.rev from.path (trees from.rev from.path) → (q : Path) → tree_after s q ≡ with_copy (tree_before s) from.rev (trees from.rev) from.path (place_in s) q
  -- something taken away: the directory has no entry of the name any more
  pub gone : (look : RevisionBytes) (trees : ℕ → TreeFunction) (top base : ℕ) (txn : TxnName) (s : Step look trees top base txn) → s.laid ≡ None → named s.name s.new ≡ None
      → (q : Path) → tree_after s q ≡ without (tree_before s) (place_in s) q
  -- what stood there, gone on from and shown as it was: the tree stays
  pub changed : (look : RevisionBytes) (trees : ℕ → TreeFunction) (top base : ℕ) (txn : TxnName) (s : Step look trees top base txn) (v : OwnNode) (id : NodeId) → s.laid ≡ Some v
      → v.node.copy_from ≡ None → v.node.predecessor ≡ Some id → s.own (place_in s) ≡ None → tree_before s (place_in s) ≡ Some v.shown → (q : Path) → tree_after s q ≡ tree_before s q

-- and what the transaction keeps beside it is kept
pub record StepsKeepSides : Type 0 where
  pub files : (look : RevisionBytes) (trees : ℕ → TreeFunction) (top base : ℕ) (txn : TxnName) (s : Step look trees top base txn) → OwnFiles s.own → ((v : OwnNode) → s.laid ≡ Some v → HasFiles v) → OwnFiles (own_after s)
  pub once : (look : RevisionBytes) (trees : ℕ → TreeFunction) (top base : ℕ) (txn : TxnName) (s : Step look trees top base txn) → DrawnOnce s.own → ((v : OwnNode) → s.laid ≡ Some v → IsDrawnFor s.own s.directory v) → DrawnOnce (own_after s)
  pub sources : (look : RevisionBytes) (trees : ℕ → TreeFunction) (top base : ℕ) (txn : TxnName) (s : Step look trees top base txn) → OwnSources trees (trees base) s.own
      → ((v : OwnNode) → s.laid ≡ Some v → v.shown.source ≡ source_here v.node.copy_from v.node.predecessor (shared_in s)) → OwnSources trees (trees base) (own_after s)
