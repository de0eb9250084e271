-- Where ways lead, under other names.
use Rattle.std.proofs.Common.{◌≡◌, ◌≤◌, ℕ, List, subst}
use Rattle.std.specs.Prelude.{Result, Ok}
use Rattle.fsfs_tree.specs.Nodes.{TreeFunction}
use Rattle.fsfs_tree.specs.Trees.{IsTree}
use Rattle.fsfs_model.specs.declared.flat.mark.Mark.{Mark}
use Rattle.fsfs_base.specs.declared.fields.txn_name.TxnName.{TxnName}
use Rattle.fsfs_draft.specs.Drafts.{Folder, ShowTrees}
use Rattle.fsfs_draft.specs.Edits.{IsDraftAfter}
use Rattle.fsfs_draft.specs.declared.error.EditError.{EditError}
use Rattle.fsfs_txn.specs.declared.opened.opening.Way.{Way}
use Rattle.fsfs_revision.specs.Told.{Told, RevisionBytes, Knows}
use Rattle.fsfs_txn.specs.Opened.Leading.{Leads, LacksNothing, LeadStill}
use Rattle.fsfs_txn.specs.declared.opening.Opened.{Opened}
use Rattle.fsfs_txn.specs.declared.opening.PathOpened.{PathOpened}
use Rattle.fsfs_txn.specs.declared.opening.PathOpened.TheVariants as paths
use Rattle.fsfs_txn.specs.declared.txn_error.TxnError.{TxnError}
use Rattle.fsfs_txn.specs.Opening.{IfOpenedPath}

pub same_all : {T : Type 0} (t u : TxnName) (f h : Folder) (way : Way) (r : Result T EditError) → t ≡ u → f ≡ h → LacksNothing t f way r → LacksNothing u h way r
same_all t u f h way r txn folder all = subst (λ (x : Folder). LacksNothing u x way r) folder (subst (λ (x : TxnName). LacksNothing x f way r) txn all)

pub same_still : {T : Type 0} (t u : TxnName) (f h after : Folder) (way : Way) (r : Result T EditError) → t ≡ u → f ≡ h → LeadStill t f after way r → LeadStill u h after way r
same_still t u f h after way r txn folder still = subst (λ (x : Folder). LeadStill u x after way r) folder (subst (λ (x : TxnName). LeadStill x f after way r) txn still)

-- over any draft the way leads to its path
abbrev pub LeadsOver : Told → TxnName → Folder → Way → Type 0
LeadsOver told txn f way = (look : RevisionBytes) (trees : ℕ → TreeFunction) (top base : ℕ) (tree : TreeFunction) (marks : List Mark) → Knows told top look → ShowTrees look top trees → base ≤ top → IsTree tree
    → IsDraftAfter look trees top base txn f tree marks → Leads look txn f way

pub same_leading : (told : Told) (t u : TxnName) (f h : Folder) (way : Way) → t ≡ u → f ≡ h → LeadsOver told t f way → LeadsOver told u h way
same_leading told t u f h way txn folder leads = subst (λ (x : Folder). LeadsOver told u x way) folder (subst (λ (x : TxnName). LeadsOver told x f way) txn leads)

-- what was opened, whatever failures there are
pub opened_as : (P : Opened → Type 0) (o : PathOpened) → IfOpenedPath (let r : Result PathOpened EditError = Ok o in r) P → IfOpenedPath (let r : Result PathOpened TxnError = Ok o in r) P
opened_as P (paths.Node opened) h = h
opened_as P (paths.NotFound depth) h = tt
opened_as P (paths.NotDir depth) h = tt
