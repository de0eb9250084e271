-- What is told of a call of a transaction: refusals and failures, as faults of a job, and their causes.
use Rattle.std.proofs.Common.{◌≡◌, ◌≤◌, ℕ, sym, subst, ◌∙◌, inl, inr, arith}
use Rattle.std.specs.Prelude.{Option, Some, None, Result, Ok, Err, OnOk}
use Rattle.fsfs_base.specs.Counts.{Rose}
use Rattle.fsfs_base.specs.Paths.{Path}
use Rattle.fsfs_base.specs.declared.failed.Failed.{Failed}
use Rattle.fsfs_revision.specs.declared.wrong.Wrong.{Wrong}
use Rattle.fsfs_revision.specs.declared.wrong.Wrong.TheVariants as wrongs
use Rattle.fsfs_revision.specs.declared.wrong.Refusal.TheVariants as refusals
use Rattle.fsfs_cli.specs.CommandFaults.{fault_from_wrong}
use Rattle.fsfs_cli.specs.declared.faults.fault.Fault.{Fault}
use Rattle.fsfs_cli.specs.declared.faults.fault.Fault.TheVariants.{Words, Request, Repository, Outside, Memory, Limit}
use Rattle.fsfs_draft.specs.declared.error.EditError.TheVariants as edits
use Rattle.fsfs_txn.specs.Spending as spending
use Rattle.fsfs_txn.specs.Spending.{IsSpentAfter}
use Rattle.fsfs_txn.specs.Edits.Texts as txn_texts
use Rattle.fsfs_txn.specs.declared.txn_error.TxnError.{TxnError}
use Rattle.fsfs_txn.specs.declared.txn_error.TxnError.TheVariants as txns
use Rattle.fsfs_txn.specs.declared.edits.making.Made.{Made}
use Rattle.fsfs_txn.specs.declared.edits.making.Made.TheVariants as mades
use Rattle.fsfs_txn.specs.declared.edits.deleting.Deleted.{Deleted}
use Rattle.fsfs_txn.specs.declared.edits.deleting.Deleted.TheVariants as deletes
use Rattle.fsfs_txn.specs.declared.edits.copying.Copied.{Copied}
use Rattle.fsfs_txn.specs.declared.edits.copying.Copied.TheVariants as copies
use Rattle.fsfs_txn.specs.declared.edits.texts.TextSet.{TextSet}
use Rattle.fsfs_txn.specs.declared.edits.texts.TextSet.TheVariants as texts
use Rattle.fsfs_txn.specs.declared.edits.properties.PropertySet.{PropertySet}
use Rattle.fsfs_txn.specs.declared.edits.properties.PropertySet.TheVariants as sets
use Rattle.fsfs_jobs.specs.JobEdits.Answers.{fault_of_failure, fault_of_left, made_fault, deleted_fault, copied_fault, text_fault, property_fault, IsOrMemory, IsTold, Tells}
use Rattle.fsfs_cli.specs.declared.faults.outside_fault.OutsideFault.TheVariants as outsides
use Rattle.fsfs_jobs.specs.JobEdits.Editing.{IfRefused, IfDisk, IfBench, HasDiskCause, HasBenchCause}

-- ---- failures are no refusals

pub stays_refused : (e : TxnError) (Q P : Type 0) → spending.IfStays e Q → IfRefused (fault_of_failure e) P
stays_refused (txns.Spent first) Q P h = absurd h
stays_refused (txns.Fault edits.OutOfMemory) Q P h = tt
stays_refused (txns.Fault edits.DiskFault) Q P h = tt
stays_refused (txns.Fault edits.BenchFault) Q P h = tt
stays_refused (txns.Fault (edits.Wrong w)) Q P h = absurd h
stays_refused (txns.Fault edits.Lacking) Q P h = absurd h

pub failure_refused : (e : TxnError) (P : Type 0) → spending.IsFailure e → IfRefused (fault_of_failure e) P
failure_refused (txns.Spent first) P h = absurd h
failure_refused (txns.Fault edits.OutOfMemory) P h = tt
failure_refused (txns.Fault edits.DiskFault) P h = tt
failure_refused (txns.Fault edits.BenchFault) P h = tt
failure_refused (txns.Fault (edits.Wrong w)) P h = absurd h
failure_refused (txns.Fault edits.Lacking) P h = absurd h

-- whatever they are, where no book is read
pub left_refused : (e : TxnError) (P : Type 0) → IfRefused (fault_of_left e) P
left_refused (txns.Spent first) P = tt
left_refused (txns.Fault edits.OutOfMemory) P = tt
left_refused (txns.Fault edits.DiskFault) P = tt
left_refused (txns.Fault edits.BenchFault) P = tt
left_refused (txns.Fault (edits.Wrong w)) P = tt
left_refused (txns.Fault edits.Lacking) P = tt

-- a refusal, but for want of memory where its path is made
pub or_memory : (Q : Fault → Type 0) (is fault : Fault) → IsOrMemory is fault → IfRefused is (Q is) → IfRefused fault (Q fault)
or_memory Q is fault (inl e) h = subst (λ (f : Fault). IfRefused f (Q f)) (sym e) h
or_memory Q is fault (inr e) h = subst (λ (f : Fault). IfRefused f (Q f)) (sym e) tt

pub failed_as : (Q : Fault → Type 0) (is fault : Fault) → (let r : Result (Unit {0}) Fault = Err fault in r) ≡ Err is → IfRefused is (Q is) → IfRefused fault (Q fault)
failed_as Q is fault same h = let e : is ≡ fault = cc in subst (λ (f : Fault). IfRefused f (Q f)) e h

-- ---- causes

-- a fault that no count tells
abbrev pub IsQuiet : Option Fault → Type 0
IsQuiet None = Unit {0}
IsQuiet (Some (Request why)) = Unit {0}
IsQuiet (Some (Limit why)) = Unit {0}
IsQuiet (Some (Words why)) = ⊥
IsQuiet (Some (Repository why)) = ⊥
IsQuiet (Some (Outside why)) = ⊥
IsQuiet (Some Memory) = Unit {0}

pub quiet_disk : (is fault : Fault) (R : Type 0) → IsQuiet (Some is) → IsOrMemory is fault → IfDisk fault R
quiet_disk is fault R q (inr e) = subst (λ (f : Fault). IfDisk f R) (sym e) tt
quiet_disk is fault R q (inl e) = subst (λ (f : Fault). IfDisk f R) (sym e) (by is q)
  where
    by : (is : Fault) → IsQuiet (Some is) → IfDisk is R
    by (Request why) q = tt
    by (Limit why) q = tt
    by (Words why) q = absurd q
    by (Repository why) q = absurd q
    by (Outside why) q = absurd q
    by Memory q = tt

pub quiet_bench : (is fault : Fault) (R : Type 0) → IsQuiet (Some is) → IsOrMemory is fault → IfBench fault R
quiet_bench is fault R q (inr e) = subst (λ (f : Fault). IfBench f R) (sym e) tt
quiet_bench is fault R q (inl e) = subst (λ (f : Fault). IfBench f R) (sym e) (by is q)
  where
    by : (is : Fault) → IsQuiet (Some is) → IfBench is R
    by (Request why) q = tt
    by (Limit why) q = tt
    by (Words why) q = absurd q
    by (Repository why) q = absurd q
    by (Outside why) q = absurd q
    by Memory q = tt

wrong_disk : (w : Wrong) (R : Type 0) → IfDisk (fault_from_wrong w) R
wrong_disk (wrongs.Refused (refusals.NoRev asked youngest)) R = tt
wrong_disk (wrongs.Refused (refusals.Missing rev)) R = tt
wrong_disk (wrongs.Refused (refusals.Small small)) R = tt
wrong_disk (wrongs.Damaged damage) R = tt
wrong_disk (wrongs.Delta at) R = tt

wrong_bench : (w : Wrong) (R : Type 0) → IfBench (fault_from_wrong w) R
wrong_bench (wrongs.Refused (refusals.NoRev asked youngest)) R = tt
wrong_bench (wrongs.Refused (refusals.Missing rev)) R = tt
wrong_bench (wrongs.Refused (refusals.Small small)) R = tt
wrong_bench (wrongs.Damaged damage) R = tt
wrong_bench (wrongs.Delta at) R = tt

pub failure_disk : (e : TxnError) (R : Type 0) → spending.IfDisk e R → IfDisk (fault_of_failure e) R
failure_disk (txns.Spent first) R h = tt
failure_disk (txns.Fault edits.OutOfMemory) R h = tt
failure_disk (txns.Fault edits.DiskFault) R h = h
failure_disk (txns.Fault edits.BenchFault) R h = tt
failure_disk (txns.Fault (edits.Wrong w)) R h = wrong_disk w R
failure_disk (txns.Fault edits.Lacking) R h = tt

pub failure_bench : (T : Type 0) (old new : Option Failed) (e : TxnError) (before now : ℕ) → old ≡ None → IsSpentAfter {T = T} old new (Err e) → spending.IsBenchCount e before now → IfBench (fault_of_failure e) (Rose before now)
failure_bench T old new (txns.Spent first) before now none spent h = let bad : None ≡ Some first = sym none ∙ spent.0 in absurd cc
failure_bench T old new (txns.Fault edits.OutOfMemory) before now none spent h = tt
failure_bench T old new (txns.Fault edits.DiskFault) before now none spent h = tt
failure_bench T old new (txns.Fault edits.BenchFault) before now none spent h = h
failure_bench T old new (txns.Fault (edits.Wrong w)) before now none spent h = wrong_bench w (Rose before now)
failure_bench T old new (txns.Fault edits.Lacking) before now none spent h = tt

pub left_bench : (T : Type 0) (old new : Option Failed) (e : TxnError) (R : Type 0) → old ≡ None → IsSpentAfter {T = T} old new (Err e) → txn_texts.IfBench e R → IfBench (fault_of_left e) R
left_bench T old new (txns.Spent first) R none spent h = let bad : None ≡ Some first = sym none ∙ spent.0 in absurd cc
left_bench T old new (txns.Fault edits.OutOfMemory) R none spent h = tt
left_bench T old new (txns.Fault edits.DiskFault) R none spent h = tt
left_bench T old new (txns.Fault edits.BenchFault) R none spent h = h
left_bench T old new (txns.Fault (edits.Wrong w)) R none spent h = tt
left_bench T old new (txns.Fault edits.Lacking) R none spent h = tt

left_count : (T : Type 0) (old new : Option Failed) (e : TxnError) (before now : ℕ) → old ≡ None → IsSpentAfter {T = T} old new (Err e) → spending.IsBenchCount e before now → IfBench (fault_of_left e) (Rose before now)
left_count T old new (txns.Spent first) before now none spent h = let bad : None ≡ Some first = sym none ∙ spent.0 in absurd cc
left_count T old new (txns.Fault edits.OutOfMemory) before now none spent h = tt
left_count T old new (txns.Fault edits.DiskFault) before now none spent h = tt
left_count T old new (txns.Fault edits.BenchFault) before now none spent h = h
left_count T old new (txns.Fault (edits.Wrong w)) before now none spent h = tt
left_count T old new (txns.Fault edits.Lacking) before now none spent h = tt

left_no_disk : (e : TxnError) (R : Type 0) → IfDisk (fault_of_left e) R
left_no_disk (txns.Spent first) R = tt
left_no_disk (txns.Fault edits.OutOfMemory) R = tt
left_no_disk (txns.Fault edits.DiskFault) R = tt
left_no_disk (txns.Fault edits.BenchFault) R = tt
left_no_disk (txns.Fault (edits.Wrong w)) R = tt
left_no_disk (txns.Fault edits.Lacking) R = tt

module _ {T : Type 0} (told : T → Option Fault) (quiet : (x : T) → IsQuiet (told x)) where
  told_disk : (x : T) (o : Option Fault) (R : Type 0) (fault : Fault) → IsQuiet o → IsTold o (Err fault) → IfDisk fault R
  told_disk x None R fault q h = absurd h
  told_disk x (Some is) R fault q h = quiet_disk is fault R q h

  told_bench : (x : T) (o : Option Fault) (R : Type 0) (fault : Fault) → IsQuiet o → IsTold o (Err fault) → IfBench fault R
  told_bench x None R fault q h = absurd h
  told_bench x (Some is) R fault q h = quiet_bench is fault R q h

  pub tells_disk : (before now : ℕ) (outcome : Result T TxnError) (result : Result (Unit {0}) Fault) → Tells fault_of_failure told outcome result → spending.HasDiskCause before now outcome → HasDiskCause before now result
  tells_disk before now (Ok x) (Ok done) t c = record { later = c.later; failed = tt }
  tells_disk before now (Ok x) (Err fault) t c = record { later = c.later; failed = told_disk x (told x) (Rose before now) fault (quiet x) t }
  tells_disk before now (Err e) (Ok done) t c = record { later = c.later; failed = tt }
  tells_disk before now (Err e) (Err fault) t c =
      let is : fault_of_failure e ≡ fault = cc in
      record { later = c.later; failed = subst (λ (f : Fault). IfDisk f (Rose before now)) is (failure_disk e (Rose before now) c.failed) }

  pub tells_bench : (old new : Option Failed) (before now : ℕ) (outcome : Result T TxnError) (result : Result (Unit {0}) Fault) → old ≡ None → IsSpentAfter old new outcome → Tells fault_of_failure told outcome result → spending.HasBenchCause before now outcome → HasBenchCause before now result
  tells_bench old new before now (Ok x) (Ok done) none s t c = record { later = c.later; failed = tt }
  tells_bench old new before now (Ok x) (Err fault) none s t c = record { later = c.later; failed = told_bench x (told x) (Rose before now) fault (quiet x) t }
  tells_bench old new before now (Err e) (Ok done) none s t c = record { later = c.later; failed = tt }
  tells_bench old new before now (Err e) (Err fault) none s t c =
      let is : fault_of_failure e ≡ fault = cc in
      record { later = c.later; failed = subst (λ (f : Fault). IfBench f (Rose before now)) is (failure_bench T old new e before now none s c.failed) }

  pub tells_bench_rise : (old new : Option Failed) (before now : ℕ) (outcome : Result T TxnError) (result : Result (Unit {0}) Fault) → old ≡ None → IsSpentAfter old new outcome → Tells fault_of_left told outcome result → txn_texts.HasBenchRise before now outcome → HasBenchCause before now result
  tells_bench_rise old new before now (Ok x) (Ok done) none s t c = record { later = c.later; failed = tt }
  tells_bench_rise old new before now (Ok x) (Err fault) none s t c = record { later = c.later; failed = told_bench x (told x) (Rose before now) fault (quiet x) t }
  tells_bench_rise old new before now (Err e) (Ok done) none s t c = record { later = c.later; failed = tt }
  tells_bench_rise old new before now (Err e) (Err fault) none s t c =
      let is : fault_of_left e ≡ fault = cc in
      record { later = c.later; failed = subst (λ (f : Fault). IfBench f (Rose before now)) is (left_bench T old new e (Rose before now) none s c.failed) }

  pub left_bench_cause : (old new : Option Failed) (before now : ℕ) (outcome : Result T TxnError) (result : Result (Unit {0}) Fault) → old ≡ None → IsSpentAfter old new outcome → Tells fault_of_left told outcome result → spending.HasBenchCause before now outcome → HasBenchCause before now result
  left_bench_cause old new before now (Ok x) (Ok done) none s t c = record { later = c.later; failed = tt }
  left_bench_cause old new before now (Ok x) (Err fault) none s t c = record { later = c.later; failed = told_bench x (told x) (Rose before now) fault (quiet x) t }
  left_bench_cause old new before now (Err e) (Ok done) none s t c = record { later = c.later; failed = tt }
  left_bench_cause old new before now (Err e) (Err fault) none s t c =
      let is : fault_of_left e ≡ fault = cc in
      record { later = c.later; failed = subst (λ (f : Fault). IfBench f (Rose before now)) is (left_count T old new e before now none s c.failed) }

  -- no book is read
  pub left_disk : (faults : ℕ) (outcome : Result T TxnError) (result : Result (Unit {0}) Fault) → Tells fault_of_left told outcome result → HasDiskCause faults faults result
  left_disk faults (Ok x) (Ok done) t = record { later = omega arith; failed = tt }
  left_disk faults (Ok x) (Err fault) t = record { later = omega arith; failed = told_disk x (told x) (Rose faults faults) fault (quiet x) t }
  left_disk faults (Err e) (Ok done) t = record { later = omega arith; failed = tt }
  left_disk faults (Err e) (Err fault) t =
      let is : fault_of_left e ≡ fault = cc in
      record { later = omega arith; failed = subst (λ (f : Fault). IfDisk f (Rose faults faults)) is (left_no_disk e (Rose faults faults)) }

  pub tells_lasts : (failed : TxnError → Fault) (old new : Option Failed) (outcome : Result T TxnError) (result : Result (Unit {0}) Fault) → IsSpentAfter old new outcome → Tells failed told outcome result → OnOk result (new ≡ None)
  tells_lasts failed old new (Ok x) (Ok done) s t = s.1
  tells_lasts failed old new (Ok x) (Err fault) s t = tt
  tells_lasts failed old new (Err e) (Ok done) s t = absurd cc
  tells_lasts failed old new (Err e) (Err fault) s t = tt

-- ---- the refusals of calls are quiet

pub made_quiet : (path : Path) (x : Made) → IsQuiet (made_fault path x)
made_quiet path mades.Done = tt
made_quiet path (mades.NotFound names) = tt
made_quiet path (mades.NotDir names) = tt
made_quiet path mades.Exists = tt
made_quiet path mades.Mergeinfo = tt
made_quiet path mades.TooManyEntries = tt

pub deleted_quiet : (path : Path) (x : Deleted) → IsQuiet (deleted_fault path x)
deleted_quiet path deletes.Done = tt
deleted_quiet path (deletes.NotFound names) = tt
deleted_quiet path (deletes.NotDir names) = tt
deleted_quiet path deletes.Absent = tt
deleted_quiet path deletes.RootFixed = tt
deleted_quiet path deletes.Mergeinfo = tt

pub copied_quiet : (rev : ℕ) (from to : Path) (x : Copied) → IsQuiet (copied_fault rev from to x)
copied_quiet rev from to copies.Done = tt
copied_quiet rev from to (copies.NotFound names) = tt
copied_quiet rev from to (copies.NotDir names) = tt
copied_quiet rev from to copies.Exists = tt
copied_quiet rev from to (copies.NoRev youngest) = tt
copied_quiet rev from to (copies.SourceNotFound names) = tt
copied_quiet rev from to (copies.SourceNotDir names) = tt
copied_quiet rev from to copies.Mergeinfo = tt
copied_quiet rev from to copies.TooManyEntries = tt

pub text_quiet : (path : Path) (x : TextSet) → IsQuiet (text_fault path x)
text_quiet path texts.Done = tt
text_quiet path texts.NotFile = tt
text_quiet path texts.Mergeinfo = tt
text_quiet path texts.TooLong = tt
text_quiet path (texts.Stale opened now) = tt
text_quiet path texts.SourceFault = tt
text_quiet path (texts.Checksum kept found) = tt

pub property_quiet : (path : Path) (x : PropertySet) → IsQuiet (property_fault path x)
property_quiet path sets.Done = tt
property_quiet path sets.Mergeinfo = tt
property_quiet path sets.TooLong = tt
property_quiet path (sets.Stale opened now) = tt

-- ---- of a call that reads no book, behind one that does

disk_later : (before now : ℕ) (fault : Fault) → before ≤ now → IfDisk fault (Rose now now) → IfDisk fault (Rose before now)
disk_later before now (Request why) le h = tt
disk_later before now (Limit why) le h = tt
disk_later before now (Words why) le h = tt
disk_later before now (Repository why) le h = tt
disk_later before now (Outside outsides.Mount) le h = absurd h
disk_later before now (Outside (outsides.Disk place)) le h = omega (arith, le, h)
disk_later before now (Outside outsides.Read) le h = absurd h
disk_later before now (Outside outsides.Write) le h = absurd h
disk_later before now (Outside outsides.Bench) le h = tt
disk_later before now (Outside (outsides.Stuck place)) le h = absurd h
disk_later before now Memory le h = tt

pub quiet_since : (before now : ℕ) (result : Result (Unit {0}) Fault) → before ≤ now → HasDiskCause now now result → HasDiskCause before now result
quiet_since before now (Ok done) le c = record { later = le; failed = tt }
quiet_since before now (Err fault) le c = record { later = le; failed = disk_later before now fault le c.failed }
