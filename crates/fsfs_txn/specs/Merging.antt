-- A transaction merged with a later revision: what is left, and where the two clash.
use Rattle.std.specs.Prelude.{◌≡◌, ◌≢◌, ◌≤◌, ◌<◌, ◌+◌, ℕ, List, Result, Ok, Err}
use Rattle.fsfs_revision.specs.Ancestry.Trees.{ShowTrees}
use Rattle.fsfs_tree.specs.Nodes.{TreeFunction}
use Rattle.fsfs_model.specs.Flat.Landing.{NoClash, IsFirstClash, land}
use Rattle.fsfs_model.specs.declared.flat.mark.Mark.{Mark}
use Rattle.fsfs_base.specs.declared.fields.txn_name.TxnName.{TxnName}
use Rattle.fsfs_revision.specs.Told.{Told, RevisionBytes, Knows}
use Rattle.fsfs_draft.specs.Drafts.{Folder}
use Rattle.fsfs_merge.specs.declared.land.Outcome.{Outcome}
use Rattle.fsfs_merge.specs.declared.land.Outcome.TheVariants as outcomes
use Rattle.fsfs_draft.specs.Errors as errors
use Rattle.fsfs_draft.specs.declared.error.EditError.{EditError}
use Rattle.fsfs_txn.specs.declared.txn_error.TxnError.{TxnError}
use Rattle.fsfs_txn.specs.Spending.{IfStays}
use Rattle.fsfs_txn.specs.Standing.{Stands}

-- the first clash, and the transaction is as it was; or nothing clashes, and it stands on the head for the landed tree, whose nodes may have
-- any number, and the same marks; `Stays` says what a failure leaves
abbrev pub IsMerging : {E : Type 0} → (E → Type 0 → Type 0) → RevisionBytes → (ℕ → TreeFunction) → ℕ → ℕ → ℕ → TxnName → TreeFunction → List Mark → Folder → Folder → Result Outcome E → Type 0
IsMerging Stays look trees top base head txn tree marks before after (Ok (outcomes.Clash path)) = IsFirstClash base (trees base) (trees head) tree marks path × (after ≡ before)
IsMerging Stays look trees top base head txn tree marks before after (Ok outcomes.Landed) = NoClash base (trees base) (trees head) tree marks × ((n : ℕ) → Stands look trees top head txn after (land (trees base) (trees head) tree marks n) marks)
IsMerging Stays look trees top base head txn tree marks before after (Err e) = Stays e (after ≡ before)

-- over any history that the bytes show, where the head is later than the base
abbrev pub Merges : Told → ℕ → ℕ → TxnName → Folder → Folder → Result Outcome EditError → Type 0
Merges told base head txn before after result = (look : RevisionBytes) (trees : ℕ → TreeFunction) (top : ℕ) (tree : TreeFunction) (marks : List Mark) → Knows told top look → ShowTrees look top trees → base < head → head ≤ top
    → Stands look trees top base txn before tree marks → IsMerging errors.IfStays look trees top base head txn tree marks before after result

abbrev pub MeetsMerging : Told → ℕ → ℕ → TxnName → Folder → Folder → Result Outcome TxnError → Type 0
MeetsMerging told base head txn before after result = (look : RevisionBytes) (trees : ℕ → TreeFunction) (top : ℕ) (tree : TreeFunction) (marks : List Mark) → Knows told top look → ShowTrees look top trees → base < head → head ≤ top
    → Stands look trees top base txn before tree marks → IsMerging IfStays look trees top base head txn tree marks before after result

-- the base and the count of moves after it: the head, and one more, where it landed
abbrev pub IsLandedOn : ℕ → ℕ → ℕ → ℕ → ℕ → Result Outcome TxnError → Type 0
IsLandedOn head old_base new_base old new (Ok outcomes.Landed) = (new_base ≡ head) × (old_base ≢ head → new ≡ old + 1) × (old_base ≡ head → new ≡ old)
IsLandedOn head old_base new_base old new (Ok (outcomes.Clash path)) = (new_base ≡ old_base) × (new ≡ old)
IsLandedOn head old_base new_base old new (Err e) = (new_base ≡ old_base) × (new ≡ old)
