-- What a limit says, from the draft's refusal to the answer.
use Rattle.std.proofs.Common.{◌≡◌, ℕ, sym, subst}
use Rattle.std.specs.Prelude.{Result, Ok, Err, IfErr}
use Rattle.fsfs_noderev.specs.declared.limits.limit.PathLimit.{PathLimit}
use Rattle.fsfs_commit.specs.Found.{IfRefused}
use Rattle.fsfs_commit.specs.declared.committing.CommitFault.{CommitFault}
use Rattle.fsfs_commit.specs.declared.committing.CommitFault.TheVariants as faults
use Rattle.fsfs_commit.specs.Transaction.Findings.{IfLimit}
use Rattle.fsfs_commit.specs.Transaction.Meaning.{IfTxn}
use Rattle.fsfs_commit.specs.declared.transaction.refusal.CommitRefusal.{CommitRefusal}
use Rattle.fsfs_commit.specs.declared.transaction.refusal.CommitRefusal.TheVariants as refusals
use Rattle.fsfs_commit.specs.declared.transaction.txn_draft.Left.{Left}
use Rattle.fsfs_commit.specs.declared.transaction.txn_draft.Left.TheVariants.{Txn as Kept}
use Rattle.fsfs_txn_nodes.specs.declared.memory.held_nodes.HeldNodes.{HeldNodes}
use Rattle.fsfs_txn.specs.declared.txn.Txn.{Txn as LiveTxn}
use Rattle.fsfs_repo.specs.declared.txns.answers.CommitBar.{CommitBar}
use Rattle.fsfs_repo.specs.declared.txns.answers.CommitBar.TheVariants as bars
use Rattle.fsfs_repo.specs.declared.txns.answers.Fate.{Fate}
use Rattle.fsfs_repo.specs.declared.txns.answers.Fate.TheVariants as fates
use Rattle.fsfs_repo.specs.Txns.Fates.{of_fault, of_refusal}
use Rattle.fsfs_repo.specs.Txns.Limits.{IfBarLimit, IfFateLimit}

limit_found : (why : CommitRefusal) (F : CommitRefusal → Type 0) (P : PathLimit → Type 0) → ((limit : PathLimit) → F (refusals.PastLimit limit) → P limit) → F why → IfLimit why P
limit_found (refusals.Clash head path) F P of found = tt
limit_found refusals.Spent F P of found = tt
limit_found refusals.Memory F P of found = tt
limit_found refusals.DiskFault F P of found = tt
limit_found refusals.BenchFault F P of found = tt
limit_found (refusals.Wrong wrong) F P of found = tt
limit_found (refusals.PastLimit limit) F P of found = of limit found
limit_found refusals.Lacking F P of found = tt

fault_found : (fault : CommitFault CommitRefusal) (F : CommitRefusal → Type 0) (P : PathLimit → Type 0) → ((limit : PathLimit) → F (refusals.PastLimit limit) → P limit) → IfRefused F fault → IfRefused (λ why. IfLimit why P) fault
fault_found faults.RevsFull F P of found = tt
fault_found (faults.Stuck at) F P of found = tt
fault_found (faults.Refused refusal) F P of found = limit_found refusal F P of found
fault_found (faults.DiskFault call) F P of found = tt

-- of what a commit says
pub commit_found : (r : Result ℕ (CommitFault CommitRefusal)) (F : CommitRefusal → Type 0) (P : PathLimit → Type 0) → ((limit : PathLimit) → F (refusals.PastLimit limit) → P limit) → IfErr r (IfRefused F) → IfErr r (IfRefused (λ why. IfLimit why P))
commit_found (Ok rev) F P of found = tt
commit_found (Err fault) F P of found = fault_found fault F P of found

refusal_fate : (why : CommitRefusal) (P : PathLimit → Type 0) → IfLimit why P → IfFateLimit (of_refusal why) P
refusal_fate (refusals.Clash head path) P past = tt
refusal_fate refusals.Spent P past = tt
refusal_fate refusals.Memory P past = tt
refusal_fate refusals.DiskFault P past = tt
refusal_fate refusals.BenchFault P past = tt
refusal_fate (refusals.Wrong wrong) P past = tt
refusal_fate (refusals.PastLimit limit) P past = past
refusal_fate refusals.Lacking P past = tt

fault_fate : (fault : CommitFault CommitRefusal) (P : PathLimit → Type 0) → IfRefused (λ why. IfLimit why P) fault → IfFateLimit (of_fault fault) P
fault_fate faults.RevsFull P past = tt
fault_fate (faults.Stuck at) P past = tt
fault_fate (faults.Refused refusal) P past = refusal_fate refusal P past
fault_fate (faults.DiskFault call) P past = tt

-- of its fate
pub fate_past : (fault : CommitFault CommitRefusal) (fate : Fate) (P : PathLimit → Type 0) → fate ≡ of_fault fault → IfRefused (λ why. IfLimit why P) fault → IfFateLimit fate P
fate_past fault fate P same past = subst (λ f. IfFateLimit f P) (sym same) (fault_fate fault P past)

pub barred_past : (fate : Fate) (bar : CommitBar) (P : PathLimit → Type 0) → fate ≡ fates.Barred bar → IfFateLimit fate P → IfBarLimit bar P
barred_past fate bar P is past = subst (λ f. IfFateLimit f P) is past

-- of the transaction that is handed back
pub bar_past : {B : Type 0} {D : _} (bar : CommitBar) (left : Left B D) (txn : LiveTxn (HeldNodes B D)) (P : PathLimit → LiveTxn (HeldNodes B D) → Type 0) → left ≡ Kept txn → IfBarLimit bar (λ limit. IfTxn left (P limit)) → IfBarLimit bar (λ limit. P limit txn)
bar_past (bars.Conflict path head) left txn P is past = tt
bar_past bars.RevsFull left txn P is past = tt
bar_past (bars.Stuck at) left txn P is past = tt
bar_past (bars.Wrong wrong) left txn P is past = tt
bar_past (bars.PastLimit limit) left txn P is past = subst (λ l. IfTxn l (P limit)) is past
bar_past bars.Lacking left txn P is past = tt
bar_past bars.Memory left txn P is past = tt
