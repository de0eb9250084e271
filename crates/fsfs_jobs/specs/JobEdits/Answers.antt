-- What the calls of a transaction answer, as faults of a job.
use Rattle.std.specs.Prelude.{◌≡◌, ◌⊎◌, ℕ, Option, Some, None, Result, Ok, Err}
use Rattle.fsfs_base.specs.Paths.{Path}
use Rattle.fsfs_base.specs.declared.places.place.DiskPlace.TheVariants as places
use Rattle.fsfs_stands.specs.declared.look_fault.LookFault.TheVariants as look
use Rattle.fsfs_cli.specs.CommandFaults.{fault_from_look, fault_from_wrong}
use Rattle.fsfs_cli.specs.declared.faults.fault.Fault.{Fault}
use Rattle.fsfs_cli.specs.declared.faults.fault.Fault.TheVariants.{Request, Outside, Memory, Limit}
use Rattle.fsfs_cli.specs.declared.faults.request_fault.RequestFault.TheVariants as requests
use Rattle.fsfs_cli.specs.declared.faults.limit_fault.LimitFault.TheVariants as limits
use Rattle.fsfs_cli.specs.declared.faults.outside_fault.OutsideFault.TheVariants as outside
use Rattle.fsfs_draft.specs.declared.error.EditError.TheVariants as edits
use Rattle.fsfs_txn.specs.declared.txn_error.TxnError.{TxnError}
use Rattle.fsfs_txn.specs.declared.txn_error.TxnError.TheVariants as txns
use Rattle.fsfs_txn.specs.declared.edits.making.Made.{Made}
use Rattle.fsfs_txn.specs.declared.edits.making.Made.TheVariants as mades
use Rattle.fsfs_txn.specs.declared.edits.deleting.Deleted.{Deleted}
use Rattle.fsfs_txn.specs.declared.edits.deleting.Deleted.TheVariants as deletes
use Rattle.fsfs_txn.specs.declared.edits.copying.Copied.{Copied}
use Rattle.fsfs_txn.specs.declared.edits.copying.Copied.TheVariants as copies
use Rattle.fsfs_txn.specs.declared.edits.texts.TextSet.{TextSet}
use Rattle.fsfs_txn.specs.declared.edits.texts.TextSet.TheVariants as texts
use Rattle.fsfs_txn.specs.declared.edits.properties.PropertySet.{PropertySet}
use Rattle.fsfs_txn.specs.declared.edits.properties.PropertySet.TheVariants as sets

-- ---- failures

-- (That there is no such node does not come of what was opened before.)
abbrev pub fault_of_failure : TxnError → Fault
fault_of_failure (txns.Spent first) = Outside outside.Bench
fault_of_failure (txns.Fault edits.OutOfMemory) = Memory
fault_of_failure (txns.Fault edits.DiskFault) = Outside (outside.Disk places.Read)
fault_of_failure (txns.Fault edits.BenchFault) = Outside outside.Bench
fault_of_failure (txns.Fault (edits.Wrong wrong)) = fault_from_wrong wrong
fault_of_failure (txns.Fault edits.Lacking) = Memory

-- of a call that reads no book: only its bench can fail, or memory run out
abbrev pub fault_of_left : TxnError → Fault
fault_of_left (txns.Spent first) = Outside outside.Bench
fault_of_left (txns.Fault edits.OutOfMemory) = Memory
fault_of_left (txns.Fault edits.DiskFault) = Memory
fault_of_left (txns.Fault edits.BenchFault) = Outside outside.Bench
fault_of_left (txns.Fault (edits.Wrong wrong)) = Memory
fault_of_left (txns.Fault edits.Lacking) = Memory

-- ---- refusals: none where the call was done

abbrev pub found_nothing : Path → ℕ → Fault
found_nothing path names = fault_from_look path (look.NotFound names)

abbrev pub found_file : Path → ℕ → Fault
found_file path names = fault_from_look path (look.NotDir names)

abbrev pub is_there : Path → Fault
is_there path = Request (requests.Exists path)

abbrev pub counts_mergeinfo : Path → Fault
counts_mergeinfo path = Request (requests.Mergeinfo path)

abbrev pub made_fault : Path → Made → Option Fault
made_fault path mades.Done = None
made_fault path (mades.NotFound names) = Some (found_nothing path names)
made_fault path (mades.NotDir names) = Some (found_file path names)
made_fault path mades.Exists = Some (is_there path)
made_fault path mades.Mergeinfo = Some (counts_mergeinfo path)
made_fault path mades.TooManyEntries = Some (Limit limits.TooManyEntries)

abbrev pub deleted_fault : Path → Deleted → Option Fault
deleted_fault path deletes.Done = None
deleted_fault path (deletes.NotFound names) = Some (found_nothing path names)
deleted_fault path (deletes.NotDir names) = Some (found_file path names)
deleted_fault path deletes.Absent = Some (Request (requests.NotFound path))
deleted_fault path deletes.RootFixed = Some (Request requests.RootFixed)
deleted_fault path deletes.Mergeinfo = Some (counts_mergeinfo path)

abbrev pub copied_fault : ℕ → Path → Path → Copied → Option Fault
copied_fault rev from to copies.Done = None
copied_fault rev from to (copies.NotFound names) = Some (found_nothing to names)
copied_fault rev from to (copies.NotDir names) = Some (found_file to names)
copied_fault rev from to copies.Exists = Some (is_there to)
copied_fault rev from to (copies.NoRev youngest) = Some (Request (requests.NoRev rev youngest))
copied_fault rev from to (copies.SourceNotFound names) = Some (found_nothing from names)
copied_fault rev from to (copies.SourceNotDir names) = Some (found_file from names)
copied_fault rev from to copies.Mergeinfo = Some (counts_mergeinfo to)
copied_fault rev from to copies.TooManyEntries = Some (Limit limits.TooManyEntries)

-- (What was just opened is not stale, what is in memory does not fail, and no digest is given with it: these do not come.)
abbrev pub text_fault : Path → TextSet → Option Fault
text_fault path texts.Done = None
text_fault path texts.NotFile = Some (Request (requests.NotFile path))
text_fault path texts.Mergeinfo = Some (counts_mergeinfo path)
text_fault path texts.TooLong = Some (Limit limits.TextTooLong)
text_fault path (texts.Stale opened now) = Some Memory
text_fault path texts.SourceFault = Some Memory
text_fault path (texts.Checksum kept found) = Some Memory

abbrev pub property_fault : Path → PropertySet → Option Fault
property_fault path sets.Done = None
property_fault path sets.Mergeinfo = Some (counts_mergeinfo path)
property_fault path sets.TooLong = Some (Limit limits.PropTooLong)
property_fault path (sets.Stale opened now) = Some Memory

-- ---- what is told of a call: memory may run out where the path of a fault is made

abbrev pub IsOrMemory : Fault → Fault → Type 0
IsOrMemory is fault = (fault ≡ is) ⊎ (fault ≡ Memory)

abbrev pub IsTold : Option Fault → Result (Unit {0}) Fault → Type 0
IsTold None (Ok done) = Unit {0}
IsTold None (Err fault) = ⊥
IsTold (Some is) (Ok done) = ⊥
IsTold (Some is) (Err fault) = IsOrMemory is fault

abbrev pub Tells : {T : Type 0} → (TxnError → Fault) → (T → Option Fault) → Result T TxnError → Result (Unit {0}) Fault → Type 0
Tells failed told (Ok outcome) result = IsTold (told outcome) result
Tells failed told (Err error) result = result ≡ Err (failed error)
