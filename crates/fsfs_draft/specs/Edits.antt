-- A whole edit of a draft: the directories down to a path are opened one after another, and then comes one step more, or a text or
-- properties are set. What is left is a draft again, with the flat edit's tree and one mark more.
use Rattle.std.specs.Prelude.{◌≡◌, ◌++◌, ℕ, true, List, [], ◌∷◌, Option, Some, None, is_some}
use Rattle.fsfs_base.specs.Paths.{PathName, Path}
use Rattle.fsfs_tree.specs.Nodes.{Bytes, TreeFunction}
use Rattle.fsfs_model.specs.Flat.Edits.{with_node, with_copy, without, with_text, with_prop, copied_node, changed_props}
use Rattle.fsfs_model.specs.declared.flat.mark.Mark.{Mark}
use Rattle.fsfs_model.specs.declared.flat.mark.What.TheVariants as whats
use Rattle.fsfs_base.specs.declared.fields.txn_name.TxnName.{TxnName}
use Rattle.fsfs_revision.specs.Told.{RevisionBytes}
use Rattle.fsfs_noderev.specs.declared.node_id.NodeId.{NodeId}
use Rattle.fsfs_noderev.specs.declared.node_rev.CopySource.{CopySource}
use Rattle.fsfs_noderev.specs.declared.changes.item.ChangeItem.{ChangeItem}
use Rattle.fsfs_revision.specs.Shows.Reading.{named}
use Rattle.fsfs_draft.specs.Own.{OwnNode, Own, draft_tree}
use Rattle.fsfs_draft.specs.Drafts.{Folder, IsDraft, IsItemOf, AreItemsOf, bare}
use Rattle.fsfs_draft.specs.Sides.{HasFiles, OwnFiles, DrawnOnce, AreMarksOf, OwnSources}
use Rattle.fsfs_draft.specs.Whole.{IsDraftOf}
use Rattle.fsfs_draft.specs.Laying.{IsDrawnFor, Step, place_in, own_after, tree_before}
use Rattle.fsfs_draft.specs.Setting.{Setting}
use Rattle.fsfs_draft.specs.Moving.{IsOpened}
use Rattle.fsfs_draft.specs.Outer.{AreMade}

-- the folder holds a draft of the tree, in which what stands at and above the path is the transaction's own; `own` is what it had before
pub record IsOpenedTo (look : RevisionBytes) (trees : ℕ → TreeFunction) (top base : ℕ) (txn : TxnName) (marks : List Mark) (tree : TreeFunction) (own : Own) (path : Path) (f : Folder) (now : Own) : Type 0 where
  pub draft : IsDraft look top base txn f now
  pub each : (q : Path) → bare (tree q) ≡ bare (draft_tree trees now (trees base) q)
  pub items : AreItemsOf f.items marks
  pub files : OwnFiles now
  pub once : DrawnOnce now
  pub sources : OwnSources trees (trees base) now
  pub made : AreMade marks now
  pub opened : IsOpened (trees base) path own now

-- what an edit begins on: what the transaction had, and its marks
pub record IsEdited (look : RevisionBytes) (trees : ℕ → TreeFunction) (top base : ℕ) (txn : TxnName) (marks : List Mark) (own : Own) : Type 0 where
  pub folder : Folder
  pub draft : IsDraft look top base txn folder own
  pub made : AreMade marks own
  pub says : AreMarksOf (trees base) marks own

-- what stood behind the name is gone on from, and shown as it was
pub record IsOpening {look : RevisionBytes} {trees : ℕ → TreeFunction} {top base : ℕ} {txn : TxnName} (s : Step look trees top base txn) (v : OwnNode) (id : NodeId) : Type 0 where
  pub laid : s.laid ≡ Some v
  pub no_copy : v.node.copy_from ≡ None
  pub goes_on : v.node.predecessor ≡ Some id
  pub no_props : v.props ≡ None
  pub free : s.own (place_in s) ≡ None
  pub was : tree_before s (place_in s) ≡ Some v.shown
  pub files : HasFiles v
  pub drawn : IsDrawnFor s.own s.directory v
  pub items : s.after.items ≡ s.before.items

-- an item more, that says what the mark says
pub record IsMarked (before after : Folder) (m : Mark) : Type 0 where
  pub item : ChangeItem
  pub says : IsItemOf item m
  pub items : after.items ≡ before.items ++ item ∷ []

pub record IsMake {look : RevisionBytes} {trees : ℕ → TreeFunction} {top base : ℕ} {txn : TxnName} (s : Step look trees top base txn) (v : OwnNode) (m : Mark) : Type 0 where
  pub laid : s.laid ≡ Some v
  pub no_copy : v.node.copy_from ≡ None
  pub no_predecessor : v.node.predecessor ≡ None
  pub no_source : v.shown.source ≡ None
  pub lacks : named s.name s.entries ≡ None
  pub files : HasFiles v
  pub drawn : IsDrawnFor s.own s.directory v
  pub path : m.path ≡ place_in s
  pub what : m.what ≡ whats.Make None
  pub marked : IsMarked s.before s.after m

pub record IsCopy {look : RevisionBytes} {trees : ℕ → TreeFunction} {top base : ℕ} {txn : TxnName} (s : Step look trees top base txn) (v : OwnNode) (from : CopySource) (m : Mark) : Type 0 where
  pub laid : s.laid ≡ Some v
  pub copy : v.node.copy_from ≡ Some from
  pub shown : Some v.shown ≡ copied_node from.rev from.path (trees from.rev from.path)
  pub lacks : named s.name s.entries ≡ None
  pub files : HasFiles v
  pub drawn : IsDrawnFor s.own s.directory v
  pub path : m.path ≡ place_in s
  pub what : m.what ≡ whats.Make (Some (from.rev, from.path))
  pub marked : IsMarked s.before s.after m

pub record IsDelete {look : RevisionBytes} {trees : ℕ → TreeFunction} {top base : ℕ} {txn : TxnName} (s : Step look trees top base txn) (m : Mark) : Type 0 where
  pub laid : s.laid ≡ None
  pub lacks : named s.name s.new ≡ None
  pub path : m.path ≡ place_in s
  pub what : m.what ≡ whats.Gone
  pub marked : IsMarked s.before s.after m

pub record IsText {look : RevisionBytes} {trees : ℕ → TreeFunction} {top base : ℕ} {txn : TxnName} (s : Setting look trees top base txn) (bytes : List ℕ) (m : Mark) : Type 0 where
  pub shown : s.is.shown ≡ record s.was.shown { text = Bytes bytes }
  pub same_props : s.is.props ≡ s.was.props
  pub files : HasFiles s.is
  pub path : m.path ≡ s.path
  pub what : m.what ≡ whats.Text
  pub marked : IsMarked s.before s.after m

pub record IsProp {look : RevisionBytes} {trees : ℕ → TreeFunction} {top base : ℕ} {txn : TxnName} (s : Setting look trees top base txn) (name : List ℕ) (value : Option (List ℕ)) (m : Mark) : Type 0 where
  pub shown : s.is.shown ≡ record s.was.shown { properties = changed_props name value s.was.shown.properties }
  pub own_props : is_some s.is.props ≡ true
  pub files : HasFiles s.is
  pub path : m.path ≡ s.path
  pub what : m.what ≡ whats.Prop
  pub marked : IsMarked s.before s.after m

-- a draft, with the paths that it made
abbrev pub IsDraftAfter : RevisionBytes → (ℕ → TreeFunction) → ℕ → ℕ → TxnName → Folder → TreeFunction → List Mark → Type 0
IsDraftAfter look trees top base txn f tree marks = (d : IsDraftOf look trees top base txn f tree marks) × AreMade marks d.shows.own

pub record EditsKeepDrafts : Type 0 where
  pub begins : (look : RevisionBytes) (trees : ℕ → TreeFunction) (top base : ℕ) (txn : TxnName) (f : Folder) (tree : TreeFunction) (marks : List Mark) (d : IsDraftOf look trees top base txn f tree marks) → AreMade marks d.shows.own
      → IsOpenedTo look trees top base txn marks tree d.shows.own [] f d.shows.own
  -- what is the transaction's own already
  pub has : (look : RevisionBytes) (trees : ℕ → TreeFunction) (top base : ℕ) (txn : TxnName) (f : Folder) (tree : TreeFunction) (marks : List Mark) (own now : Own) (p : Path) (x : PathName) (v : OwnNode) → IsOpenedTo look trees top base txn marks tree own p f now
      → now (p ++ x ∷ []) ≡ Some v → IsOpenedTo look trees top base txn marks tree own (p ++ x ∷ []) f now
  -- a directory more
  pub opens : (look : RevisionBytes) (trees : ℕ → TreeFunction) (top base : ℕ) (txn : TxnName) (s : Step look trees top base txn) (tree : TreeFunction) (marks : List Mark) (own : Own) (v : OwnNode) (id : NodeId)
      → IsOpenedTo look trees top base txn marks tree own s.path s.before s.own → IsOpening s v id → IsOpenedTo look trees top base txn marks tree own (place_in s) s.after (own_after s)
  pub make : (look : RevisionBytes) (trees : ℕ → TreeFunction) (top base : ℕ) (txn : TxnName) (s : Step look trees top base txn) (tree : TreeFunction) (marks : List Mark) (own : Own) (v : OwnNode) (m : Mark) → IsEdited look trees top base txn marks own
      → IsOpenedTo look trees top base txn marks tree own s.path s.before s.own → IsMake s v m → IsDraftAfter look trees top base txn s.after (with_node tree (place_in s) (Some v.shown)) (marks ++ m ∷ [])
  pub copy : (look : RevisionBytes) (trees : ℕ → TreeFunction) (top base : ℕ) (txn : TxnName) (s : Step look trees top base txn) (tree : TreeFunction) (marks : List Mark) (own : Own) (v : OwnNode) (from : CopySource) (m : Mark) → IsEdited look trees top base txn marks own
      → IsOpenedTo look trees top base txn marks tree own s.path s.before s.own → IsCopy s v from m → IsDraftAfter look trees top base txn s.after (with_copy tree from.rev (trees from.rev) from.path (place_in s)) (marks ++ m ∷ [])
  pub delete : (look : RevisionBytes) (trees : ℕ → TreeFunction) (top base : ℕ) (txn : TxnName) (s : Step look trees top base txn) (tree : TreeFunction) (marks : List Mark) (own : Own) (m : Mark) → IsEdited look trees top base txn marks own
      → IsOpenedTo look trees top base txn marks tree own s.path s.before s.own → IsDelete s m → IsDraftAfter look trees top base txn s.after (without tree (place_in s)) (marks ++ m ∷ [])
  pub text : (look : RevisionBytes) (trees : ℕ → TreeFunction) (top base : ℕ) (txn : TxnName) (s : Setting look trees top base txn) (tree : TreeFunction) (marks : List Mark) (own : Own) (bytes : List ℕ) (m : Mark) → IsEdited look trees top base txn marks own
      → IsOpenedTo look trees top base txn marks tree own s.path s.before s.own → IsText s bytes m → IsDraftAfter look trees top base txn s.after (with_node tree s.path (with_text bytes (tree s.path))) (marks ++ m ∷ [])
  pub prop : (look : RevisionBytes) (trees : ℕ → TreeFunction) (top base : ℕ) (txn : TxnName) (s : Setting look trees top base txn) (tree : TreeFunction) (marks : List Mark) (own : Own) (name : List ℕ) (value : Option (List ℕ)) (m : Mark) → IsEdited look trees top base txn marks own
      → IsOpenedTo look trees top base txn marks tree own s.path s.before s.own → IsProp s name value m → IsDraftAfter look trees top base txn s.after (with_node tree s.path (with_prop name value (tree s.path))) (marks ++ m ∷ [])
