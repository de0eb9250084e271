-- What stands at a path of a transaction's tree.
use Rattle.std.specs.Prelude.{◌≡◌, ◌≤◌, ℕ, List, Option, Some, None, Result, Ok, Err}
use Rattle.fsfs_base.specs.Paths.{Path}
use Rattle.fsfs_tree.specs.Nodes.{Node, TreeFunction}
use Rattle.fsfs_tree.specs.Trees.{IsTree}
use Rattle.fsfs_tree.specs.Histories.{AreRevisions}
use Rattle.fsfs_model.specs.declared.flat.mark.Mark.{Mark}
use Rattle.fsfs_base.specs.declared.fields.txn_name.TxnName.{TxnName}
use Rattle.fsfs_revision.specs.Told.{Told, RevisionBytes, Knows}
use Rattle.fsfs_revision.specs.Shows.Reading.{Pairs}
use Rattle.fsfs_revision.specs.Shows.ByTree.{LacksAt, IsBlockedAt}
use Rattle.fsfs_draft.specs.Own.{Own, draft_tree}
use Rattle.fsfs_draft.specs.Drafts.{Folder, IsDraft, ShowTrees}
use Rattle.fsfs_draft.specs.Sides.{OwnFiles}
use Rattle.fsfs_draft.specs.Edits.{IsDraftAfter}
use Rattle.fsfs_draft.specs.Errors as errors
use Rattle.fsfs_draft.specs.Walks.{IsAt}
use Rattle.fsfs_draft.specs.declared.error.EditError.{EditError}
use Rattle.fsfs_draft.specs.declared.walk.Step.{Step}
use Rattle.fsfs_txn.specs.declared.getting.NodeView.{NodeView}
use Rattle.fsfs_txn.specs.declared.getting.Got.{Got}
use Rattle.fsfs_txn.specs.declared.getting.Got.TheVariants as gots
use Rattle.fsfs_txn.specs.declared.txn_error.TxnError.{TxnError}
use Rattle.fsfs_txn.specs.Spending.{IsFailure}
use Rattle.fsfs_txn.specs.Standing.{Stands}

-- ---- the properties of what a walk came to

abbrev pub HasProps : Option Node → Pairs → Type 0
HasProps None pairs = ⊥
HasProps (Some n) pairs = pairs ≡ n.properties

abbrev pub AreProps : Option Node → Result Pairs EditError → Type 0
AreProps o (Ok pairs) = HasProps o pairs
AreProps o (Err e) = errors.IsFailure e

-- over a draft they are those of the node in its tree
abbrev pub ReadsProps : Told → TxnName → Folder → Step → Result Pairs EditError → Type 0
ReadsProps told txn folder step result = (look : RevisionBytes) (trees : ℕ → TreeFunction) (top base : ℕ) (own : Own) (path : Path) → Knows told top look → ShowTrees look top trees → base ≤ top → IsDraft look top base txn folder own → OwnFiles own → IsAt look trees base own path step
    → AreProps (draft_tree trees own (trees base) path) result

-- ---- what stands at a path

-- it is the node's kind and its properties
abbrev pub IsView : Option Node → NodeView → Type 0
IsView None view = ⊥
IsView (Some n) view = (view.kind ≡ n.kind) × (view.props ≡ n.properties)

abbrev pub IsGot : TreeFunction → Path → Got → Type 0
IsGot tree path (gots.Node view) = IsView (tree path) view
IsGot tree path (gots.NotFound depth) = LacksAt tree path depth
IsGot tree path (gots.NotDir depth) = IsBlockedAt tree path depth

abbrev pub IsGotIn : TreeFunction → Path → Result Got EditError → Type 0
IsGotIn tree path (Ok got) = IsGot tree path got
IsGotIn tree path (Err e) = errors.IsFailure e

-- over any draft it is found in its tree
abbrev pub Gets : Told → TxnName → Folder → Path → Result Got EditError → Type 0
Gets told txn folder path result = (look : RevisionBytes) (trees : ℕ → TreeFunction) (top base : ℕ) (tree : TreeFunction) (marks : List Mark) → Knows told top look → ShowTrees look top trees → base ≤ top → IsTree tree
    → IsDraftAfter look trees top base txn folder tree marks → IsGotIn tree path result

abbrev pub IsGetting : TreeFunction → Path → Result Got TxnError → Type 0
IsGetting tree path (Ok got) = IsGot tree path got
IsGetting tree path (Err e) = IsFailure e

-- over any history that the bytes show it is what the transaction's tree has there
abbrev pub MeetsGetting : Told → ℕ → TxnName → Folder → Path → Result Got TxnError → Type 0
MeetsGetting told base txn folder path result = (look : RevisionBytes) (trees : ℕ → TreeFunction) (top : ℕ) (tree : TreeFunction) (marks : List Mark) → Knows told top look → ShowTrees look top trees → AreRevisions trees top → base ≤ top
    → Stands look trees top base txn folder tree marks → IsGetting tree path result
