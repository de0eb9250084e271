-- What the files of a transaction show: a tree, over the trees of the revisions, and the edits that led to it.
use Rattle.std.specs.Prelude.{◌≡◌, ◌≤◌, ◌<◌, ℕ, List, [], ◌∷◌, Option, Some, None, Ok}
use Rattle.fsfs_base.specs.Paths.{Path}
use Rattle.fsfs_tree.specs.Nodes.{Node, TreeFunction, Content, Bytes}
use Rattle.fsfs_base.specs.declared.kind.Kind.{Kind}
use Rattle.fsfs_base.specs.declared.kind.Kind.TheVariants.{File, Dir}
use Rattle.fsfs_model.specs.declared.flat.mark.Mark.{Mark}
use Rattle.fsfs_model.specs.declared.flat.mark.What.{What}
use Rattle.fsfs_model.specs.declared.flat.mark.What.TheVariants as whats
use Rattle.fsfs_model.specs.Flat.Folding.{change_of}
use Rattle.fsfs_base.specs.declared.action.Action.{Action}
use Rattle.fsfs_base.specs.declared.action.Action.TheVariants as actions
use Rattle.fsfs_base.specs.declared.fields.txn_name.TxnName.{TxnName}
use Rattle.fsfs_revision.specs.Told.{RevisionBytes}
use Rattle.fsfs_noderev.specs.Ids.{PartValue, New, Old, Made, part_value}
use Rattle.fsfs_noderev.specs.declared.node_id.Place.TheVariants as places
use Rattle.fsfs_noderev.specs.declared.rep.Rep.{Rep}
use Rattle.fsfs_noderev.specs.declared.rep.Contents.{Contents}
use Rattle.fsfs_noderev.specs.declared.rep.Contents.TheVariants as contents
use Rattle.fsfs_noderev.specs.declared.node_rev.CopySource.{CopySource}
use Rattle.fsfs_noderev.specs.declared.node_rev.NodeRev.{NodeRev}
use Rattle.fsfs_noderev.specs.declared.changes.item.ChangeItem.{ChangeItem}
use Rattle.fsfs_revision.specs.Rep.Frames.{RepIn}
use Rattle.fsfs_revision.specs.Shows.Reading.{DirEntry, PropsOf, StandsAt}
use Rattle.fsfs_revision.specs.Shows.Shown.{IsTextOf, Shows}
use Rattle.fsfs_draft.specs.Own.{OwnNode, Own, draft_tree}
use Rattle.fsfs_draft.specs.Rules.{at_top, Rules}

-- ---- what the files hold

-- the files of one node-revision
pub record Kept : Type 0 where
  pub node : NodeRev
  pub entries : Option (List DirEntry)
  pub props : Option (List (List ℕ × List ℕ))

abbrev pub kept_of : OwnNode → Kept
kept_of v = record { node = v.node; entries = v.entries; props = v.props }

-- a transaction's folder and its prototype file; the files of node-revisions by the node part and the copy part
pub record Folder : Type 0 where
  pub nodes : PartValue → PartValue → Option Kept
  pub next_node : ℕ
  pub next_copy : ℕ
  pub items : List ChangeItem
  pub proto : List ℕ

-- ---- texts and properties

-- a text that stands in a revision, or none
abbrev pub IsLasting : Option Contents → Type 0
IsLasting None = Unit {0}
IsLasting (Some contents.Own) = ⊥
IsLasting (Some (contents.At rep)) = (rev : ℕ) × (rep.rev ≡ Some rev)

pub data IsFileText (look : RevisionBytes) (proto : List ℕ) (v : NodeRev) (text : Content) : Type 0 where
  Lasting : IsLasting v.text → IsTextOf look File v text → IsFileText look proto v text
  Put : (rep : Rep) (bytes : List ℕ) → v.text ≡ Some (contents.At rep) → rep.rev ≡ None → RepIn rep proto (Ok bytes) → text ≡ Bytes bytes → IsFileText look proto v text

abbrev pub IsDraftText : RevisionBytes → List ℕ → Kind → OwnNode → Content → Type 0
IsDraftText look proto File v text = (v.entries ≡ None) × IsFileText look proto v.node text
IsDraftText look proto Dir v text = text ≡ Bytes []

-- its own list, or its predecessor's
abbrev pub AreDraftProps : RevisionBytes → NodeRev → Option (List (List ℕ × List ℕ)) → List (List ℕ × List ℕ) → Type 0
AreDraftProps look v None properties = PropsOf look v (Ok properties)
AreDraftProps look v (Some own) properties = properties ≡ own

pub record HasContent (look : RevisionBytes) (proto : List ℕ) (v : OwnNode) : Type 0 where
  pub kind : v.shown.kind ≡ v.node.kind
  pub text : IsDraftText look proto v.node.kind v v.shown.text
  pub properties : AreDraftProps look v.node v.props v.shown.properties

-- ---- the draft

-- a drawn part has a number below this one
abbrev pub IsBelow : ℕ → PartValue → Type 0
IsBelow next (New n) = n < next
IsBelow next (Old n) = Unit {0}
IsBelow next (Made n rev) = Unit {0}

-- the folder holds these own node-revisions, on the revision `base`, beside the revisions up to `top`
pub record IsDraft (look : RevisionBytes) (top base : ℕ) (txn : TxnName) (f : Folder) (own : Own) : Type 0 where
  pub root : OwnNode
  pub root_is : own [] ≡ Some root
  pub root_id : (part_value root.node.id.node ≡ Old 0) × (part_value root.node.id.copy ≡ Old 0) × (root.node.copy_from ≡ None)
  -- each stands where it was made, and nowhere else
  pub paths : (p : Path) (v : OwnNode) → own p ≡ Some v → v.node.created_path ≡ p
  pub places : (p : Path) (v : OwnNode) → own p ≡ Some v → v.node.id.place ≡ places.In txn
  pub kept : (p : Path) (v : OwnNode) → own p ≡ Some v → f.nodes (part_value v.node.id.node) (part_value v.node.id.copy) ≡ Some (kept_of v)
  -- what is drawn next is of no node-revision in the folder
  pub drawn : (node copy : PartValue) (k : Kept) → f.nodes node copy ≡ Some k → IsBelow f.next_node node × IsBelow f.next_copy copy
  pub rules : Rules look top own at_top (StandsAt look base)
  pub contents : (p : Path) (v : OwnNode) → own p ≡ Some v → HasContent look f.proto v

-- ---- the marks

abbrev pub action_of : What → Action
action_of (whats.Make source) = actions.Add
action_of whats.Gone = actions.Delete
action_of whats.Text = actions.Modify
action_of whats.Prop = actions.Modify

abbrev pub source_of : What → Option (ℕ × Path)
source_of (whats.Make source) = source
source_of whats.Gone = None
source_of whats.Text = None
source_of whats.Prop = None

abbrev pub pair_of : Option CopySource → Option (ℕ × Path)
pair_of None = None
pair_of (Some from) = Some (from.rev, from.path)

-- an item of the `changes` file says what the mark says
pub record IsItemOf (item : ChangeItem) (m : Mark) : Type 0 where
  pub path : item.path ≡ m.path
  pub kind : item.kind ≡ Some m.kind
  pub action : item.action ≡ action_of m.what
  pub text : item.text_changed ≡ (change_of m.kind m.what).text_changed
  pub props : item.props_changed ≡ (change_of m.kind m.what).props_changed
  pub source : pair_of item.source ≡ source_of m.what

abbrev pub AreItemsOf : List ChangeItem → List Mark → Type 0
AreItemsOf [] [] = Unit {0}
AreItemsOf [] (m ∷ ms) = ⊥
AreItemsOf (item ∷ items) [] = ⊥
AreItemsOf (item ∷ items) (m ∷ ms) = IsItemOf item m × AreItemsOf items ms

-- ---- what it stands for

-- a node without its three numbers, which mean nothing in a transaction
abbrev pub bare : Option Node → Option Node
bare None = None
bare (Some n) = Some (record n { added = 0; props_changed = 0; last_changed = 0 })

-- the folder shows this tree and these marks, over the trees of the revisions
pub record ShowsDraft (look : RevisionBytes) (trees : ℕ → TreeFunction) (top base : ℕ) (txn : TxnName) (f : Folder) (tree : TreeFunction) (marks : List Mark) : Type 0 where
  pub own : Own
  pub is_draft : IsDraft look top base txn f own
  pub each : (p : Path) → bare (tree p) ≡ bare (draft_tree trees own (trees base) p)
  pub items : AreItemsOf f.items marks

-- the bytes of the revisions up to `top` show these trees
abbrev pub ShowTrees : RevisionBytes → ℕ → (ℕ → TreeFunction) → Type 0
ShowTrees look top trees = (r : ℕ) → r ≤ top → Shows look r (trees r)
