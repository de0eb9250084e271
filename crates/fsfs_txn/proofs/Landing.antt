-- A merge that landed, as one of a transaction.
use Rattle.std.proofs.Common.{◌≡◌, ◌≤◌, ◌<◌, ℕ, List, subst, arith}
use Rattle.std.specs.Prelude.{Result, Ok, Err}
use Rattle.fsfs_revision.specs.Ancestry.Trees.{ShowTrees}
use Rattle.fsfs_tree.specs.Nodes.{TreeFunction}
use Rattle.fsfs_model.specs.Flat.Transactions.{IsTransaction, Landed}
use Rattle.fsfs_model.specs.declared.flat.mark.Mark.{Mark}
use Rattle.fsfs_base.specs.declared.fields.txn_name.TxnName.{TxnName}
use Rattle.fsfs_revision.specs.Told.{Told, RevisionBytes, Knows}
use Rattle.fsfs_draft.specs.Drafts.{Folder}
use Rattle.fsfs_draft.specs.Edits.{IsDraftAfter}
use Rattle.fsfs_merge.specs.Landings.{LeavesLanded}
use Rattle.fsfs_merge.specs.declared.land.Outcome.{Outcome}
use Rattle.fsfs_merge.specs.declared.land.Outcome.TheVariants as outcomes
use Rattle.fsfs_draft.specs.Errors as errors
use Rattle.fsfs_draft.specs.declared.error.EditError.{EditError}
use Rattle.fsfs_txn.specs.Standing.{Stands}
use Rattle.fsfs_txn.specs.Merging.{IsMerging}

pub landed : (look : RevisionBytes) (trees : ℕ → TreeFunction) (top base head : ℕ) (txn : TxnName) (before : Folder) (tree : TreeFunction) (marks : List Mark) → base < head → head ≤ top → Stands look trees top base txn before tree marks
    → (after : Folder) (result : Result Outcome EditError) → LeavesLanded look trees top base head txn tree marks before after result → IsMerging errors.IfStays look trees top base head txn tree marks before after result
landed look trees top base head txn before tree marks less within stands after (Ok (outcomes.Clash path)) h = h
landed look trees top base head txn before tree marks less within stands after (Ok outcomes.Landed) h = (h.0, λ n. record { edits = Landed base head n tree marks stands.edits (omega (arith, less)) within h.0; shows = h.1 n })
landed look trees top base head txn before tree marks less within stands after (Err e) h = h

-- what a merge leaves, over any draft
abbrev pub Lands : Told → ℕ → ℕ → TxnName → Folder → Folder → Result Outcome EditError → Type 0
Lands told base head txn before after result = (look : RevisionBytes) (top : ℕ) (trees : ℕ → TreeFunction) (tree : TreeFunction) (marks : List Mark) → Knows told top look → ShowTrees look top trees → base < head → head ≤ top → IsTransaction trees top base tree marks
    → IsDraftAfter look trees top base txn before tree marks → LeavesLanded look trees top base head txn tree marks before after result

pub same_landed : (told : Told) (base head : ℕ) (t u : TxnName) (f h after : Folder) (r : Result Outcome EditError) → t ≡ u → f ≡ h → Lands told base head t f after r → Lands told base head u h after r
same_landed told base head t u f h after r txn folder lands = subst (λ (x : Folder). Lands told base head u x after r) folder (subst (λ (x : TxnName). Lands told base head x f after r) txn lands)

pub merged_over : {E F : Type 0} (Stays : E → Type 0 → Type 0) (Leaves : F → Type 0 → Type 0) (look : RevisionBytes) (trees : ℕ → TreeFunction) (top base head : ℕ) (txn : TxnName) (tree : TreeFunction) (marks : List Mark) (before after : Folder) (o : Outcome)
    → IsMerging Stays look trees top base head txn tree marks before after (Ok o) → IsMerging Leaves look trees top base head txn tree marks before after (Ok o)
merged_over Stays Leaves look trees top base head txn tree marks before after (outcomes.Clash path) h = h
merged_over Stays Leaves look trees top base head txn tree marks before after outcomes.Landed h = h
