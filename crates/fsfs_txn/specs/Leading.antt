-- Where what was opened leads, as long as the transaction makes no move, and that nothing is lacking to an edit there.
use Rattle.std.specs.Prelude.{◌≤◌, ℕ, List, Result, Ok, Err}
use Rattle.fsfs_tree.specs.Nodes.{TreeFunction}
use Rattle.fsfs_tree.specs.Histories.{AreRevisions}
use Rattle.fsfs_model.specs.declared.flat.mark.Mark.{Mark}
use Rattle.fsfs_base.specs.declared.fields.txn_name.TxnName.{TxnName}
use Rattle.fsfs_revision.specs.Told.{Told, RevisionBytes, Knows}
use Rattle.fsfs_draft.specs.Drafts.{Folder, ShowTrees}
use Rattle.fsfs_txn.specs.Opened.Knowing.{AreKnown}
use Rattle.fsfs_txn.specs.Opened.Leading.{Leads, IsNotLacking}
use Rattle.fsfs_txn.specs.declared.opened.opening.Way.{Way}
use Rattle.fsfs_txn.specs.declared.opening.Opened.{Opened}
use Rattle.fsfs_txn.specs.declared.opening.PathOpened.{PathOpened}
use Rattle.fsfs_txn.specs.declared.txn_error.TxnError.{TxnError}
use Rattle.fsfs_txn.specs.declared.txn_error.TxnError.TheVariants as errors
use Rattle.fsfs_txn.specs.Opening.{IfOpenedPath}
use Rattle.fsfs_txn.specs.Standing.{Stands}
use Rattle.fsfs_txn.specs.Edits.Texts.{IfLeft}

-- over any history that the bytes show, what was opened leads to its path
abbrev pub OpensLeading : Told → ℕ → TxnName → Folder → Result PathOpened TxnError → Type 0
OpensLeading told base txn folder result = (look : RevisionBytes) (trees : ℕ → TreeFunction) (top : ℕ) (tree : TreeFunction) (marks : List Mark) → Knows told top look → ShowTrees look top trees → AreRevisions trees top → base ≤ top
    → Stands look trees top base txn folder tree marks → IfOpenedPath result (λ opened. Leads look txn folder opened.way)

-- nothing was lacking
abbrev pub HasAll : {T : Type 0} → Result T TxnError → Type 0
HasAll (Ok x) = Unit {0}
HasAll (Err (errors.Spent first)) = Unit {0}
HasAll (Err (errors.Fault e)) = IsNotLacking e

-- so it is where what was opened leads to its path: in the transaction that it was opened in, before another move
abbrev pub LacksNothing : {T : Type 0} → ℕ → TxnName → Folder → Opened → Result T TxnError → Type 0
LacksNothing base txn folder o result = (look : RevisionBytes) (trees : ℕ → TreeFunction) (top : ℕ) (tree : TreeFunction) (marks : List Mark) → AreKnown look top o.way.known.items → ShowTrees look top trees → AreRevisions trees top → base ≤ top
    → Stands look trees top base txn folder tree marks → Leads look txn folder o.way → HasAll result

-- a fact of what is left, whatever was answered, but where the bench failed
abbrev pub OnLeft : {T : Type 0} → Result T TxnError → Type 0 → Type 0
OnLeft (Ok x) P = P
OnLeft (Err e) P = IfLeft e P

-- whatever was opened and led to its path leads there still, but where the bench failed
abbrev pub LeadStill : {T : Type 0} → ℕ → TxnName → Folder → Folder → Opened → Result T TxnError → Type 0
LeadStill base txn before after o result = (look : RevisionBytes) (trees : ℕ → TreeFunction) (top : ℕ) (tree : TreeFunction) (marks : List Mark) → AreKnown look top o.way.known.items → ShowTrees look top trees → AreRevisions trees top → base ≤ top
    → Stands look trees top base txn before tree marks → (other : Way) → Leads look txn before other → OnLeft result (Leads look txn after other)
