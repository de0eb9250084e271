-- What an opening of a transaction's path answers.
use Rattle.std.specs.Prelude.{◌≤◌, ℕ, List, Result, Ok, Err}
use Rattle.fsfs_base.specs.Paths.{Path}
use Rattle.fsfs_tree.specs.Nodes.{TreeFunction}
use Rattle.fsfs_tree.specs.Trees.{IsTree}
use Rattle.fsfs_tree.specs.Histories.{AreRevisions}
use Rattle.fsfs_model.specs.declared.flat.mark.Mark.{Mark}
use Rattle.fsfs_base.specs.declared.fields.txn_name.TxnName.{TxnName}
use Rattle.fsfs_revision.specs.Told.{Told, RevisionBytes, Knows}
use Rattle.fsfs_revision.specs.Shows.ByTree.{LacksAt, IsBlockedAt}
use Rattle.fsfs_draft.specs.Own.{Own}
use Rattle.fsfs_draft.specs.Drafts.{Folder, ShowTrees}
use Rattle.fsfs_draft.specs.Edits.{IsDraftAfter}
use Rattle.fsfs_draft.specs.Errors as errors
use Rattle.fsfs_draft.specs.Walks.{HasKind}
use Rattle.fsfs_draft.specs.declared.error.EditError.{EditError}
use Rattle.fsfs_txn.specs.declared.opening.Opened.{Opened}
use Rattle.fsfs_txn.specs.declared.opening.PathOpened.{PathOpened}
use Rattle.fsfs_txn.specs.declared.opening.PathOpened.TheVariants as paths
use Rattle.fsfs_txn.specs.declared.txn_error.TxnError.{TxnError}
use Rattle.fsfs_txn.specs.Edits.Mergeinfo.{Counts}
use Rattle.fsfs_txn.specs.Spending.{IsFailure}
use Rattle.fsfs_txn.specs.Standing.{Stands}

-- a fact of what was opened
abbrev pub IfOpenedPath : {E : Type 0} → Result PathOpened E → (Opened → Type 0) → Type 0
IfOpenedPath (Ok (paths.Node opened)) P = P opened
IfOpenedPath (Ok (paths.NotFound depth)) P = Unit {0}
IfOpenedPath (Ok (paths.NotDir depth)) P = Unit {0}
IfOpenedPath (Err e) P = Unit {0}

-- something of the kind stands at the path, and counts of mergeinfo are met on the way, or are not; or the first names lead to nothing, or
-- to a file; `Fails` says which failures may come
abbrev pub IsOpeningPath : {E : Type 0} → (E → Type 0) → RevisionBytes → (ℕ → TreeFunction) → ℕ → Own → TreeFunction → Path → Result PathOpened E → Type 0
IsOpeningPath Fails look trees base own tree path (Ok (paths.Node opened)) = HasKind (tree path) opened.kind × Counts look trees base own path opened.counted
IsOpeningPath Fails look trees base own tree path (Ok (paths.NotFound depth)) = LacksAt tree path depth
IsOpeningPath Fails look trees base own tree path (Ok (paths.NotDir depth)) = IsBlockedAt tree path depth
IsOpeningPath Fails look trees base own tree path (Err e) = Fails e

-- over any draft it is so in its tree
abbrev pub OpensPath : Told → TxnName → Folder → Path → Result PathOpened EditError → Type 0
OpensPath told txn folder path result = (look : RevisionBytes) (trees : ℕ → TreeFunction) (top base : ℕ) (tree : TreeFunction) (marks : List Mark) → Knows told top look → ShowTrees look top trees → base ≤ top → IsTree tree
    → (d : IsDraftAfter look trees top base txn folder tree marks) → IsOpeningPath errors.IsFailure look trees base d.0.shows.own tree path result

-- over any history that the bytes show it is so in the transaction's tree
abbrev pub MeetsOpening : Told → ℕ → TxnName → Folder → Path → Result PathOpened TxnError → Type 0
MeetsOpening told base txn folder path result = (look : RevisionBytes) (trees : ℕ → TreeFunction) (top : ℕ) (tree : TreeFunction) (marks : List Mark) → Knows told top look → ShowTrees look top trees → AreRevisions trees top → base ≤ top
    → (stands : Stands look trees top base txn folder tree marks) → IsOpeningPath IsFailure look trees base stands.shows.0.shows.own tree path result
