-- A text or properties put at an own node-revision.
use Rattle.std.specs.Prelude.{◌≡◌, ◌≤◌, ℕ, true, List, Option, Some, None}
use Rattle.fsfs_base.specs.Paths.{Path}
use Rattle.fsfs_base.specs.declared.kind.Kind.TheVariants.{Dir}
use Rattle.fsfs_tree.specs.Nodes.{Bytes, TreeFunction}
use Rattle.fsfs_model.specs.Flat.Edits as edits
use Rattle.fsfs_base.specs.declared.fields.txn_name.TxnName.{TxnName}
use Rattle.fsfs_revision.specs.Told.{RevisionBytes}
use Rattle.fsfs_noderev.specs.Ids.{PartValue}
use Rattle.fsfs_noderev.specs.declared.node_id.NodeId.{NodeId}
use Rattle.fsfs_draft.specs.Own.{OwnNode, Own, draft_tree, graft, under, with_node}
use Rattle.fsfs_draft.specs.Rules.{draft_root}
use Rattle.fsfs_draft.specs.Drafts.{Kept, Folder, kept_of, HasContent, IsBelow, IsDraft, ShowTrees}
use Rattle.fsfs_draft.specs.Sides.{HasFiles, OwnFiles, DrawnOnce, OwnSources}
use Rattle.fsfs_draft.specs.Steps.{same_key, kept_at}

-- the own node-revision v with another text, if it is a file, or with properties of its own
pub record IsSet (v w : OwnNode) : Type 0 where
  pub id : w.node.id ≡ v.node.id
  pub kind : w.node.kind ≡ v.node.kind
  pub predecessor : w.node.predecessor ≡ v.node.predecessor
  pub count : w.node.count ≡ v.node.count
  pub copy_from : w.node.copy_from ≡ v.node.copy_from
  pub path : w.node.created_path ≡ v.node.created_path
  pub root : draft_root w.node ≡ draft_root v.node
  pub entries : w.entries ≡ v.entries
  pub text : w.node.kind ≡ Dir → w.node.text ≡ v.node.text
  pub props : w.props ≡ None → (v.props ≡ None) × (w.node.props ≡ v.node.props)

-- its files are changed, and no other node-revision's
pub record IsSetting (look : RevisionBytes) (f : Folder) (v w : OwnNode) (after : Folder) : Type 0 where
  pub content : HasContent look after.proto w
  pub kept : kept_at after.nodes w.node.id ≡ Some (kept_of w)
  pub stay : (id : NodeId) (k : Kept) → kept_at f.nodes id ≡ Some k → (same_key v.node.id id ≡ true → ⊥) → kept_at after.nodes id ≡ Some k
  pub drawn : (node copy : PartValue) (k : Kept) → after.nodes node copy ≡ Some k → IsBelow after.next_node node × IsBelow after.next_copy copy
  pub contents : (a : OwnNode) → HasContent look f.proto a → HasContent look after.proto a

-- with another own node-revision at the path
abbrev pub set_in : Path → OwnNode → Own → Own
set_in p w own = graft p (with_node w (under p own)) own

-- a change of one own node-revision, with all that it is made on
pub record Setting (look : RevisionBytes) (trees : ℕ → TreeFunction) (top base : ℕ) (txn : TxnName) : Type 0 where
  pub before : Folder
  pub own : Own
  pub path : Path
  pub was : OwnNode
  pub is : OwnNode
  pub after : Folder
  pub shown : ShowTrees look top trees
  pub within : base ≤ top
  pub draft : IsDraft look top base txn before own
  pub here : own path ≡ Some was
  pub set : IsSet was is
  pub setting : IsSetting look before was is after

abbrev pub own_set : {look : RevisionBytes} {trees : ℕ → TreeFunction} {top base : ℕ} {txn : TxnName} → Setting look trees top base txn → Own
own_set s = set_in s.path s.is s.own

abbrev pub tree_was : {look : RevisionBytes} {trees : ℕ → TreeFunction} {top base : ℕ} {txn : TxnName} → Setting look trees top base txn → TreeFunction
tree_was {trees} {base} s = draft_tree trees s.own (trees base)

abbrev pub tree_is : {look : RevisionBytes} {trees : ℕ → TreeFunction} {top base : ℕ} {txn : TxnName} → Setting look trees top base txn → TreeFunction
tree_is {trees} {base} s = draft_tree trees (own_set s) (trees base)

-- ---- the laws

pub record SettingsAreEdits : Type 0 where
  -- the change leaves a draft
  pub draft : (look : RevisionBytes) (trees : ℕ → TreeFunction) (top base : ℕ) (txn : TxnName) (s : Setting look trees top base txn) → IsDraft look top base txn s.after (own_set s)
  -- at the path stands what the node-revision is shown as, and all else is as before
  pub tree : (look : RevisionBytes) (trees : ℕ → TreeFunction) (top base : ℕ) (txn : TxnName) (s : Setting look trees top base txn) (q : Path) → tree_is s q ≡ edits.with_node (tree_was s) s.path (Some s.is.shown) q
  -- a text put there
  pub text : (look : RevisionBytes) (trees : ℕ → TreeFunction) (top base : ℕ) (txn : TxnName) (s : Setting look trees top base txn) (bytes : List ℕ) → s.is.shown ≡ record s.was.shown { text = Bytes bytes }
      → (q : Path) → tree_is s q ≡ edits.with_node (tree_was s) s.path (edits.with_text bytes (tree_was s s.path)) q
  -- a property set or removed there
  pub prop : (look : RevisionBytes) (trees : ℕ → TreeFunction) (top base : ℕ) (txn : TxnName) (s : Setting look trees top base txn) (name : List ℕ) (value : Option (List ℕ)) → s.is.shown ≡ record s.was.shown { properties = edits.changed_props name value s.was.shown.properties }
      → (q : Path) → tree_is s q ≡ edits.with_node (tree_was s) s.path (edits.with_prop name value (tree_was s s.path)) q
  -- what the transaction keeps beside it is kept
  pub files : (look : RevisionBytes) (trees : ℕ → TreeFunction) (top base : ℕ) (txn : TxnName) (s : Setting look trees top base txn) → OwnFiles s.own → HasFiles s.is → OwnFiles (own_set s)
  pub once : (look : RevisionBytes) (trees : ℕ → TreeFunction) (top base : ℕ) (txn : TxnName) (s : Setting look trees top base txn) → DrawnOnce s.own → DrawnOnce (own_set s)
  pub sources : (look : RevisionBytes) (trees : ℕ → TreeFunction) (top base : ℕ) (txn : TxnName) (s : Setting look trees top base txn) → OwnSources trees (trees base) s.own → s.is.shown.source ≡ s.was.shown.source
      → OwnSources trees (trees base) (own_set s)
