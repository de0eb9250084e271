-- The text of what stands at a path of a transaction's tree.
use Rattle.std.specs.Prelude.{◌≡◌, ◌≤◌, ℕ, List, [], Option, Some, None, option_map, Result, Ok, Err}
use Rattle.fsfs_base.specs.Paths.{Path}
use Rattle.fsfs_base.specs.declared.kind.Kind.{Kind}
use Rattle.fsfs_base.specs.declared.kind.Kind.TheVariants.{File, Dir}
use Rattle.fsfs_tree.specs.Nodes.{Node, TreeFunction, Content, Bytes}
use Rattle.fsfs_tree.specs.Trees.{IsTree}
use Rattle.fsfs_tree.specs.Histories.{AreRevisions}
use Rattle.fsfs_model.specs.declared.flat.mark.Mark.{Mark}
use Rattle.fsfs_base.specs.declared.fields.txn_name.TxnName.{TxnName}
use Rattle.fsfs_revision.specs.Told.{Told, RevisionBytes, Knows}
use Rattle.fsfs_noderev.specs.declared.rep.Rep.{Rep}
use Rattle.fsfs_noderev.specs.declared.rep.Contents.{Contents}
use Rattle.fsfs_noderev.specs.declared.rep.Contents.TheVariants as contents
use Rattle.fsfs_noderev.specs.declared.node_rev.NodeRev.{NodeRev}
use Rattle.fsfs_draft.specs.Own.{Own, draft_tree}
use Rattle.fsfs_draft.specs.Drafts.{Folder, IsFileText, IsDraft, ShowTrees}
use Rattle.fsfs_draft.specs.Edits.{IsDraftAfter}
use Rattle.fsfs_draft.specs.Errors as errors
use Rattle.fsfs_draft.specs.Walks.{IsAt}
use Rattle.fsfs_draft.specs.declared.error.EditError.{EditError}
use Rattle.fsfs_draft.specs.declared.walk.Step.{Step}
use Rattle.fsfs_txn.specs.declared.getting.Got.{Got}
use Rattle.fsfs_txn.specs.declared.getting.Got.TheVariants as gots
use Rattle.fsfs_txn.specs.declared.txn_error.TxnError.{TxnError}
use Rattle.fsfs_txn.specs.Standing.{Stands}

-- the representation of a file's text
abbrev pub rep_of : Kind → Option Contents → Option Rep
rep_of Dir text = None
rep_of File None = None
rep_of File (Some contents.Own) = None
rep_of File (Some (contents.At rep)) = Some rep

-- a file's representation is of this text, in a revision or in the prototype file; without one there is no byte. A directory has none
abbrev pub IsRepText : RevisionBytes → List ℕ → Kind → Option Rep → Content → Type 0
IsRepText look proto Dir rep text = (rep ≡ None) × (text ≡ Bytes [])
IsRepText look proto File rep text = (v : NodeRev) × (v.text ≡ option_map (λ r. contents.At r) rep) × IsFileText look proto v text

abbrev pub HasText : RevisionBytes → List ℕ → Option Node → Option Rep → Type 0
HasText look proto None rep = ⊥
HasText look proto (Some n) rep = IsRepText look proto n.kind rep n.text

abbrev pub IsText : RevisionBytes → List ℕ → Option Node → Result (Option Rep) EditError → Type 0
IsText look proto o (Ok rep) = HasText look proto o rep
IsText look proto o (Err e) = errors.IsFailure e

-- over a draft it is that of the node in its tree
abbrev pub ReadsText : TxnName → Folder → Step → Result (Option Rep) EditError → Type 0
ReadsText txn folder step result = (look : RevisionBytes) (trees : ℕ → TreeFunction) (top base : ℕ) (own : Own) (path : Path) → ShowTrees look top trees → base ≤ top → IsDraft look top base txn folder own → IsAt look trees base own path step
    → IsText look folder.proto (draft_tree trees own (trees base) path) result

-- where something stands at the path, its text
abbrev pub IsGotText : {E : Type 0} → RevisionBytes → List ℕ → TreeFunction → Path → Result Got E → Type 0
IsGotText look proto tree path (Ok (gots.Node view)) = HasText look proto (tree path) view.text
IsGotText look proto tree path (Ok (gots.NotFound depth)) = Unit {0}
IsGotText look proto tree path (Ok (gots.NotDir depth)) = Unit {0}
IsGotText look proto tree path (Err e) = Unit {0}

abbrev pub GetsText : Told → TxnName → Folder → Path → Result Got EditError → Type 0
GetsText told txn folder path result = (look : RevisionBytes) (trees : ℕ → TreeFunction) (top base : ℕ) (tree : TreeFunction) (marks : List Mark) → Knows told top look → ShowTrees look top trees → base ≤ top → IsTree tree
    → IsDraftAfter look trees top base txn folder tree marks → IsGotText look folder.proto tree path result

abbrev pub MeetsGettingText : Told → ℕ → TxnName → Folder → Path → Result Got TxnError → Type 0
MeetsGettingText told base txn folder path result = (look : RevisionBytes) (trees : ℕ → TreeFunction) (top : ℕ) (tree : TreeFunction) (marks : List Mark) → Knows told top look → ShowTrees look top trees → AreRevisions trees top → base ≤ top
    → Stands look trees top base txn folder tree marks → IsGotText look folder.proto tree path result
