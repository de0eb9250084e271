-- The listing of transactions and their removal: what they print and do, and why not.
use Rattle.std.specs.Prelude.{◌≡◌, ◌⊎◌, ℕ, List, [], ◌∷◌, Option, Some, None, IfSome, Result, Ok, Err}
use Rattle.fsfs_base.specs.Failures.{Rose}
use Rattle.fsfs_disk.specs.Labels.{Label, Txn, Pack, HotCopy}
use Rattle.fsfs_disk.specs.Crash.{AreAll, Leaves, LeavesBoth}
use Rattle.fsfs_disk.specs.Trace.{Trace, files_now, labels_now}
use Rattle.fsfs_cli.specs.CommandFaults.{fault_from_open}
use Rattle.fsfs_cli.specs.declared.faults.fault.Fault.{Fault}
use Rattle.fsfs_cli.specs.declared.faults.fault.Fault.TheVariants.{Request, Outside, Memory}
use Rattle.fsfs_cli.specs.declared.faults.request_fault.RequestFault.TheVariants as request
use Rattle.fsfs_cli.specs.declared.faults.outside_fault.OutsideFault.TheVariants.{Mount, Disk}
use Rattle.fsfs_create.specs.OpenFaults.{OpensBecause}
use Rattle.fsfs_layout.specs.declared.opened.Opened.{Opened}
use Rattle.fsfs_base.specs.declared.places.open_fault.OpenFault.{OpenFault}
use Rattle.fsfs_base.specs.declared.places.place.DiskPlace.TheVariants as place
use Rattle.fsfs_disk.specs.Transactions.Txns.{AreTxns}
use Rattle.fsfs_disk.specs.Transactions.Removals.{IsImageOf, Removes, WasKept, HasSameLabels}
use Rattle.fsfs_disk.specs.declared.transactions.removing.RemovalFault.{RemovalFault}
use Rattle.fsfs_disk.specs.declared.transactions.removing.RemovalFault.TheVariants.{NoTxn, Failed}
use Rattle.fsfs_top.specs.TxnAnswers.{names_text}
use Rattle.fsfs_workers.specs.Openings.{OpensAs, DoesNotOpen}
use Rattle.fsfs_top.specs.Looks.{NotOpened, PrintsLine, DecidesOpening}
use Rattle.fsfs_top.specs.Scenes.{HostScene, Scene, SinkScene}

-- the files decide which refusal of an opening comes
abbrev pub OpeningIsDecided : Option Trace → Option Fault → Type 0
OpeningIsDecided told fault = IfSome told (λ t. DecidesOpening (λ o. Unit {0}) (files_now t) fault)

-- the transactions among labels, by base and number
abbrev pub txns_of : List Label → List (ℕ × ℕ)
txns_of [] = []
txns_of (Txn base number ∷ labels) = (base, number) ∷ txns_of labels
txns_of (Pack shard ∷ labels) = txns_of labels
txns_of (HotCopy ∷ labels) = txns_of labels

-- ---- a listing

-- What a listing of an opened repository printed: the names of the transactions, a line for each. `disk` says that the count of the disk's
-- faults rose.
abbrev pub Lists : Type 0 → Option Trace → SinkScene → SinkScene → Option Fault → Type 0
Lists disk told old new fault =
    ((fault ≡ Some (Outside (Disk place.List))) × disk × (new ≡ old))
    ⊎ (((fault ≡ Some Memory) × (new ≡ old))
    ⊎ ((names : List (List ℕ)) × IfSome told (λ t. AreTxns (labels_now t) names) × PrintsLine (names_text names) old new fault))

-- of the repository that a disk has, which is opened first
abbrev pub ListsOpened : Type 0 → Option Trace → SinkScene → SinkScene → Option Fault → Type 0
ListsOpened disk told old new fault =
    ((why : OpenFault) × (fault ≡ Some (fault_from_open why)) × OpensBecause disk told why × DoesNotOpen told why × (new ≡ old))
    ⊎ ((o : Opened) × OpensAs told o × Lists disk told old new fault)

-- of the repository at a path
abbrev pub ListsTxns : List ℕ → Scene → Scene → Option Fault → Type 0
ListsTxns repos a b fault =
    NotOpened repos a b fault
    ⊎ ((o : Opened) × OpensAs (a.host.disk_at repos) o × Lists (Rose a.host.disk_faults b.host.disk_faults) (a.host.disk_at repos) a.out b.out fault)

-- ---- a removal

-- the fault of a removal that ended so
abbrev pub removal_fault : Result (Unit {0}) RemovalFault → Option Fault
removal_fault (Ok done) = None
removal_fault (Err (NoTxn name)) = Some (Request (request.NoTxn name))
removal_fault (Err Failed) = Some (Outside (Disk place.Remove))

-- the disk failed only where the count of its faults rose
abbrev pub IfRemovalFails : Type 0 → Result (Unit {0}) RemovalFault → Type 0
IfRemovalFails disk (Ok done) = Unit {0}
IfRemovalFails disk (Err (NoTxn name)) = Unit {0}
IfRemovalFails disk (Err Failed) = disk

-- what removing these transactions, in this order, did to the labels of an opened repository
abbrev pub RemovesNow : Type 0 → List (ℕ × ℕ) → Option Trace → Option Trace → Option Fault → Type 0
RemovesNow disk txns old new fault = (result : Result (Unit {0}) RemovalFault) × Removes txns old new result × (fault ≡ removal_fault result) × IfRemovalFails disk result

-- of the repository that a disk has, which is opened first
abbrev pub RemovesOpened : Type 0 → List (ℕ × ℕ) → Option Trace → Option Trace → Option Fault → Type 0
RemovesOpened disk txns old new fault =
    ((why : OpenFault) × (fault ≡ Some (fault_from_open why)) × OpensBecause disk old why × DoesNotOpen old why × HasSameLabels old new)
    ⊎ ((o : Opened) × OpensAs old o × RemovesNow disk txns old new fault)

-- of the repository at a path
abbrev pub RemovesTxns : List ℕ → List (ℕ × ℕ) → HostScene → HostScene → Option Fault → Type 0
RemovesTxns repos txns a b fault =
    ((fault ≡ Some (Outside Mount)) × Rose a.mount_faults b.mount_faults × (b.disk_at repos ≡ a.disk_at repos))
    ⊎ RemovesOpened (Rose a.disk_faults b.disk_faults) txns (a.disk_at repos) (b.disk_at repos) fault

-- a crash at some moment of a removal leaves files that one before could have left, and no label that was not kept then
abbrev pub LeavesRemoval : Option Trace → Option Trace → Type 0
LeavesRemoval old new = Leaves old new (IsImageOf old) × LeavesBoth old new (λ m ls. AreAll (WasKept old) ls)
