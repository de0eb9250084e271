-- What the commit of a pass comes to.
use Rattle.std.proofs.Common.{◌≡◌, ◌<◌, ◌≤◌, ℕ, List, Bool, false, inl, refl, sym, subst, ◌∙◌, arith}
use Rattle.std.proofs.lemmas.Result.{IfOk-weaker, IfErr-weaker}
use Rattle.std.specs.Prelude.{Option, None, Result, Ok, Err, IfOk, IfErr, is_some}
use Rattle.std.specs.FinMap.{get}
use Rattle.fsfs_base.specs.Failures.{Rose}
use Rattle.fsfs_base.specs.declared.failed.Failed.{Failed}
use Rattle.fsfs_base.proofs.ResultLemmas.{none_of}
use Rattle.fsfs_base.specs.declared.fields.txn_name.TxnName.{TxnName}
use Rattle.fsfs_tree.specs.Revisions.{tree_of}
use Rattle.fsfs_tree.specs.Dated.{IsDated, last_of}
use Rattle.fsfs_model.specs.Flat.Transactions.{IsTransaction}
use Rattle.fsfs_draft.specs.Drafts.{Folder}
use Rattle.fsfs_machine.specs.declared.machine.Recorded.{Recorded}
use Rattle.fsfs_machine.specs.declared.machine.Txn.{Txn}
use Rattle.fsfs_machine.specs.declared.machine.Step.TheVariants.{PurgeSpent}
use Rattle.fsfs_machine.specs.Kept.{IsIn}
use Rattle.fsfs_machine.specs.Machine.{revisions}
use Rattle.fsfs_turn.specs.Learning.{with_spent}
use Rattle.fsfs_turn.specs.Views.{View}
use Rattle.fsfs_turn.specs.Courses.{End}
use Rattle.fsfs_begin.specs.Purged.{Purges, HasNotPurged}
use Rattle.fsfs_begin.specs.declared.purge_fault.PurgeFault.{PurgeFault}
use Rattle.fsfs_begin.specs.declared.purge_fault.PurgeFault.TheVariants as purges
use Rattle.fsfs_commit.specs.Works.{CanCommit}
use Rattle.fsfs_commit.specs.Replies.{Cause, Committed, FaultLeft, Moved, Refused, RoseIfDisk, UnlessDoubt, Wrote}
use Rattle.fsfs_commit.specs.declared.committing.CommitFault.{CommitFault}
use Rattle.fsfs_commit.specs.declared.committing.CommitFault.TheVariants as faults
use Rattle.fsfs_commit.proofs.Turning.{none_more, committed_as}
use Rattle.fsfs_commit.specs.Transaction.Dating.{IsDatedAt}
use Rattle.fsfs_commit.specs.Transaction.Meaning.{IfTxn, IsTxnOf, Means}
use Rattle.fsfs_commit.specs.Transaction.Refusals.{IsClashAt, IsDiskFault, Refuses}
use Rattle.fsfs_commit.specs.declared.transaction.refusal.CommitRefusal.{CommitRefusal}
use Rattle.fsfs_commit.specs.declared.transaction.refusal.CommitRefusal.TheVariants as refusals
use Rattle.fsfs_txn_nodes.specs.declared.memory.held_nodes.HeldNodes.{HeldNodes}
use Rattle.fsfs_txn.specs.declared.txn.Txn.{Txn as LiveTxn}
use Rattle.fsfs_commit.specs.declared.transaction.txn_draft.Left.{Left}
use Rattle.fsfs_commit.specs.declared.transaction.txn_draft.Left.TheVariants.{Txn as Kept}
use Rattle.fsfs_repo.specs.declared.txns.answers.CommitAnswer.{CommitAnswer}
use Rattle.fsfs_repo.specs.declared.txns.answers.CommitAnswer.TheVariants as answers
use Rattle.fsfs_repo.specs.Txns.Commits.{Ends, IsDropped, IsNoMore, Meets}
use Rattle.fsfs_repo.specs.Txns.Fates.{Fated, FateLeft, IfStopped, UnlessDoubtful, of_fault, of_refusal}

-- ---- the purge

pub not_gone : (knows : View → Type 0) (name : ℕ) (m : View) (fault : PurgeFault) → Purges knows (with_spent name) (λ went. PurgeSpent m.number 0 went) (Err fault) m → IsDropped knows false name m
not_gone knows name m (purges.DiskFault at) w = (w.1, w.2, w.3, w.4, subst (λ a. HasNotPurged a (with_spent name) (PurgeSpent m.number 0 w.2) m w.1) w.0 w.5)

-- the name is known to be given still
pub given_still : (v u : View) (k n : ℕ) → u.given ≡ v.given → IsIn k v.given → k ≡ n → IsIn n u.given
given_still v u k n same given named = subst (λ a. IsIn a u.given) named (subst (λ g. IsIn k g) (sym same) given)

pub dropped_as : (knows : View → Type 0) (gone : Bool) (k n : ℕ) (m : View) → k ≡ n → IsDropped knows gone n m → IsDropped knows gone k m
dropped_as knows gone k n m named d = subst (λ a. IsDropped knows gone a m) (sym named) d

-- ---- what may be committed

pub can_commit : (v : View) (name : TxnName) (base : ℕ) (settled : Folder) (x : Txn) (p : List (List ℕ × List ℕ)) → IsTxnOf v.seen name base settled x → IsIn x.name v.given → IsDated p → CanCommit v x p
can_commit v name base settled x p is given dated = record {
  over = subst (λ b. IsTransaction (tree_of (revisions v.seen)) (last_of (revisions v.seen)) b (get x.tree) x.marks) (sym is.on) is.stands.edits;
  based = omega (arith, is.on, is.based);
  given = given;
  dated = dated;
}

-- ---- nothing was added

pub unmoved : (v : View) → Moved v v
unmoved v = record {
  drifted = record { number = refl; layout = refl; since = refl; opened = refl; mine = refl; least = omega arith; given = refl; still = λ stuck. stuck; full = λ full. full; grows = none_more v.seen v.seen refl; course = End v };
  section = refl;
}

pub no_more : (knows : View → Type 0) (v u : View) (x : Txn) (n : ℕ) (gone : Bool) → Moved v u → v.section ≡ None → IsIn x.name v.given → x.name ≡ n → (u.section ≡ None → IsIn n u.given → IsDropped knows gone n u) → IsNoMore knows v u x
no_more knows v u x n gone moved none given named drop =
    (moved, (gone, dropped_as knows gone x.name n u named (drop (moved.section ∙ none) (given_still v u x.name n moved.drifted.given given named))))

pub of_txn : {B : Type 0} {D : _} (left : Left B D) (txn : LiveTxn (HeldNodes B D)) (P : LiveTxn (HeldNodes B D) → Type 0) → left ≡ Kept txn → IfTxn left P → P txn
of_txn left txn P is means = subst (λ l. IfTxn l P) is means

-- the transaction that is handed back is sound
pub back_so : (spent : Option Failed) (h : List Recorded) (name : TxnName) (base : ℕ) (settled : Folder) (y : Txn) → is_some spent ≡ false → Means spent h name base settled y → (spent ≡ None) × IsTxnOf h name base settled y
back_so spent h name base settled y sound means = let none = none_of spent sound in (none, means none)

-- ---- its cause

refused_so : (refusal : CommitRefusal) (v u : View) (y : Txn) → u.pass.least < 2147483647 → Refuses refusal u.pass.least u.seen y → Fated (of_refusal refusal) v u y
refused_so (refusals.Clash head path) v u y less says = (says.0, omega (arith, says.0, less), subst (λ n. IsClashAt path n u.seen y) (sym says.0) says.1)
refused_so refusals.Spent v u y less says = tt
refused_so refusals.Memory v u y less says = tt
refused_so refusals.DiskFault v u y less says = tt
refused_so refusals.BenchFault v u y less says = tt
refused_so (refusals.Wrong wrong) v u y less says = says
refused_so (refusals.PastLimit limit) v u y less says = tt
refused_so refusals.Lacking v u y less says = says

pub fated : (fault : CommitFault CommitRefusal) (v u : View) (y : Txn) → Cause Refuses fault v u y → Fated (of_fault fault) v u y
fated faults.RevsFull v u y cause = cause
fated (faults.Stuck at) v u y cause = cause
fated (faults.Refused refusal) v u y cause = refused_so refusal v u y cause.0 cause.1
fated (faults.DiskFault call) v u y cause = cause

-- ---- what is certain

refused_certain : (refusal : CommitRefusal) (P : Type 0) → P → UnlessDoubtful (of_refusal refusal) P
refused_certain (refusals.Clash head path) P p = p
refused_certain refusals.Spent P p = p
refused_certain refusals.Memory P p = p
refused_certain refusals.DiskFault P p = λ none. p
refused_certain refusals.BenchFault P p = p
refused_certain (refusals.Wrong wrong) P p = p
refused_certain (refusals.PastLimit limit) P p = p
refused_certain refusals.Lacking P p = p

pub certain_so : (fault : CommitFault CommitRefusal) (P : Type 0) → UnlessDoubt fault P → UnlessDoubtful (of_fault fault) P
certain_so faults.RevsFull P p = p
certain_so (faults.Stuck at) P p = p
certain_so (faults.Refused refusal) P p = refused_certain refusal P p
certain_so (faults.DiskFault call) P p = p

-- ---- what is left in doubt

refused_left : (refusal : CommitRefusal) (p : List (List ℕ × List ℕ)) (v : View) (x : Txn) (u : View) → u.left ≡ v.left → FateLeft (of_refusal refusal) p v x u
refused_left (refusals.Clash head path) p v x u same = same
refused_left refusals.Spent p v x u same = same
refused_left refusals.Memory p v x u same = same
refused_left refusals.DiskFault p v x u same = inl same
refused_left refusals.BenchFault p v x u same = same
refused_left (refusals.Wrong wrong) p v x u same = same
refused_left (refusals.PastLimit limit) p v x u same = same
refused_left refusals.Lacking p v x u same = same

pub left_by_fate : (fault : CommitFault CommitRefusal) (p : List (List ℕ × List ℕ)) (v : View) (x : Txn) (u : View) → FaultLeft fault (Wrote p v u x) v u → FateLeft (of_fault fault) p v x u
left_by_fate faults.RevsFull p v x u same = same
left_by_fate (faults.Stuck at) p v x u same = same
left_by_fate (faults.Refused refusal) p v x u same = refused_left refusal p v x u same
left_by_fate (faults.DiskFault call) p v x u w = w

-- ---- the counts

refused_stops : (refusal : CommitRefusal) (P : Type 0) → (IsDiskFault refusal → P) → IfStopped (of_refusal refusal) P
refused_stops (refusals.Clash head path) P rose = tt
refused_stops refusals.Spent P rose = tt
refused_stops refusals.Memory P rose = tt
refused_stops refusals.DiskFault P rose = rose tt
refused_stops refusals.BenchFault P rose = tt
refused_stops (refusals.Wrong wrong) P rose = tt
refused_stops (refusals.PastLimit limit) P rose = tt
refused_stops refusals.Lacking P rose = tt

pub stopped : (fault : CommitFault CommitRefusal) (P : Type 0) → RoseIfDisk IsDiskFault P fault → IfStopped (of_fault fault) P
stopped faults.RevsFull P rose = tt
stopped (faults.Stuck at) P rose = tt
stopped (faults.Refused refusal) P rose = refused_stops refusal P rose
stopped (faults.DiskFault call) P rose = rose

pub rose_later : (n a b : ℕ) → a ≤ b → Rose n a → Rose n b
rose_later n a b later rose = omega (arith, later, rose)

pub rose_before : (n a b : ℕ) → n ≤ a → Rose a b → Rose n b
rose_before n a b later rose = omega (arith, later, rose)

-- ---- all of it

module _ (K : View → Type 0) (M : View → Txn → Type 0) (v : View) (x : Txn) where
  -- the same, of the properties by another name
  pub added_so : {E : Type 0} (p q : List (List ℕ × List ℕ)) (r : Result ℕ E) → q ≡ p → IfOk r (λ rev. (u : View) × (y : Txn) × K u × M u y × Committed rev q v u x y) → IfOk r (λ rev. (u : View) × (y : Txn) × K u × Committed rev p v u x y)
  added_so p q r same w = IfOk-weaker r _ _ (λ rev a. (a.0, a.1, a.2, committed_as rev p q v a.0 x a.1 same a.4)) w

  -- of what is left of the draft
  pub left_so : {X : Type 0} (p q : List (List ℕ × List ℕ)) (N : View → Txn → Type 0) (r : Result X (CommitFault CommitRefusal)) → q ≡ p → ((u : View) (y : Txn) → M u y → N u y)
      → IfErr r (λ fault. (u : View) × (y : Txn) × K u × M u y × Refused Refuses q fault v u x y) → IfErr r (λ fault. (u : View) × (y : Txn) × K u × Refused Refuses p fault v u x y × N u y)
  left_so p q N r same f w = IfErr-weaker r _ _ (λ fault a. (a.0, a.1, a.2, subst (λ z. Refused Refuses z fault v a.0 x a.1) same a.4, f a.0 a.1 a.3)) w

  -- what is known behind it, whatever it answers: the pass is in no section, and knows the name to be given still
  pub known_then : (p q : List (List ℕ × List ℕ)) (n : ℕ) (r : Result ℕ (CommitFault CommitRefusal)) → v.section ≡ None → IsIn x.name v.given → x.name ≡ n
      → IfOk r (λ rev. (u : View) × (y : Txn) × K u × M u y × Committed rev p v u x y) → IfErr r (λ fault. (u : View) × (y : Txn) × K u × M u y × Refused Refuses q fault v u x y)
      → (u : View) × K u × (u.section ≡ None) × IsIn n u.given
  known_then p q n (Ok rev) none given named ok err = (ok.0, ok.2, ok.4.outside, given_still v ok.0 x.name n ok.4.given given named)
  known_then p q n (Err fault) none given named ok err = (err.0, err.2, err.4.moved.section ∙ none, given_still v err.0 x.name n err.4.moved.drifted.given given named)

pub meets_so : {X : Type 0} (knows : View → Type 0) (back : List Recorded → Txn → X → Type 0) (micros : ℕ) (old dated : List (List ℕ × List ℕ)) (v : View) (x : Txn) (answer : CommitAnswer X)
    → IsDatedAt micros old dated → Ends knows back dated v x answer → Meets knows back micros old v x answer
meets_so knows back micros old dated v x (answers.Committed rev purged) is ends = (dated, is, ends)
meets_so knows back micros old dated v x (answers.Barred bar txn) is ends = ends
meets_so knows back micros old dated v x (answers.DiskFault at) is ends = (dated, is, ends)
meets_so knows back micros old dated v x answers.BenchFault is ends = ends
