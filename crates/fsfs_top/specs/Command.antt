-- What the top call does, from the words to the files and the line about a fault.
use Rattle.std.specs.Prelude.{◌≡◌, ◌⊎◌, ℕ, List, Option, Some, None, IfSome, Result, Ok, Err}
use Rattle.fsfs_base.specs.Failures.{Rose}
use Rattle.fsfs_base.specs.Files.{Files}
use Rattle.fsfs_disk.specs.Trace.{Trace}
use Rattle.fsfs_disk.specs.Crash.{Leaves}
use Rattle.fsfs_base.specs.Streams.{Adds}
use Rattle.fsfs_base.specs.Output.{AddsFront}
use Rattle.fsfs_cli.specs.CommandFaults.{fault_from_create, fault_from_words}
use Rattle.fsfs_cli.specs.Lines.{line_of, status_of}
use Rattle.fsfs_cli.specs.declared.faults.fault.Fault.{Fault}
use Rattle.fsfs_cli.specs.declared.faults.fault.Fault.TheVariants.{Outside}
use Rattle.fsfs_cli.specs.declared.faults.outside_fault.OutsideFault.TheVariants.{Mount}
use Rattle.fsfs_layout.specs.CreatedFiles.{identifier_text, random_identifier}
use Rattle.fsfs_create.specs.Creation.{CreateFails, IsCreated, IsNoneOrWhole, IsNoRepository, IsUnpublished}
use Rattle.fsfs_create.specs.NewStore.{IsNewStore}
use Rattle.fsfs_base.specs.declared.places.create_fault.CreateFault.{CreateFault}
use Rattle.fsfs_cli.specs.Requests.{paths_of}
use Rattle.fsfs_cli.specs.Words.{asked}
use Rattle.fsfs_cli.specs.Readings.{Asks, Refuses}
use Rattle.fsfs_cli.specs.declared.faults.words_fault.WordsFault.{WordsFault}
use Rattle.fsfs_cli.specs.declared.request.Task.{Task}
use Rattle.fsfs_cli.specs.declared.request.Task.TheVariants.{Create, ListTxns, RemoveTxns, Pack, Look, RunJobs}
use Rattle.fsfs_cli.specs.declared.tool.Tool.{Tool}
use Rattle.fsfs_top.specs.Looks.{PrintsLook, LookIsDecided}
use Rattle.fsfs_top.specs.Packing.{Packs}
use Rattle.fsfs_top.specs.Transactions.{OpeningIsDecided, ListsTxns, RemovesTxns}
use Rattle.fsfs_top.specs.Scenes.{HostScene, SinkScene, Scene, OthersStay}

-- ---- a creation

-- a moment and sixteen bytes: those that the clock and the dice gave, where they tell
pub record Drawn (clock : Option ℕ) (dice : Option (List ℕ)) : Type 0 where
  pub moment : ℕ
  pub bits : List ℕ
  pub moment_is : IfSome clock (λ t. moment ≡ t)
  pub bits_are : IfSome dice (λ b. bits ≡ b)

-- the identifier of the repository that they make
abbrev pub identifier_of : (clock : Option ℕ) (dice : Option (List ℕ)) → Drawn clock dice → List ℕ
identifier_of clock dice d = identifier_text (random_identifier d.bits)

-- what a creation did to the disk of its path, by its fault or none
abbrev pub Created : List ℕ → ℕ → Option ℕ → Option (List ℕ) → HostScene → HostScene → Option Fault → Type 0
Created repos shard clock dice a b fault =
    ((fault ≡ Some (Outside Mount)) × Rose a.mount_faults b.mount_faults × (b.disk_at repos ≡ a.disk_at repos))
    ⊎ (((why : CreateFault) × (fault ≡ Some (fault_from_create why)) × ((d : Drawn clock dice) × CreateFails (Rose a.disk_faults b.disk_faults) shard (identifier_of clock dice d) d.moment (a.disk_at repos) (b.disk_at repos) why))
    ⊎ ((fault ≡ None) × IsNoRepository (a.disk_at repos) × ((d : Drawn clock dice) × IsCreated shard (identifier_of clock dice d) d.moment (a.disk_at repos) (b.disk_at repos))))

-- A crash at any moment of a creation leaves no repository, or the whole of the one that it makes: the same one at each moment.
abbrev pub LeavesNoneOrCreated : ℕ → Option ℕ → Option (List ℕ) → Option Trace → Option Trace → Type 0
LeavesNoneOrCreated shard clock dice old new = (d : Drawn clock dice) × Leaves old new (IsNoneOrWhole shard (identifier_of clock dice d) d.moment old)

-- by what it stands for: no repository, or the new store, whose history is revision 0 alone with the date of the moment that the clock
-- gave, where it tells
abbrev pub IsNoneOrStore : Option ℕ → Files → Type 0
IsNoneOrStore clock m = IsUnpublished m ⊎ ((moment : ℕ) × IfSome clock (λ c. moment ≡ c) × IsNewStore moment m)

-- ---- a command

-- What is done of a task at a path between two moments, by its fault or none: a row for each task of the programs that have commands. None of these
-- reads the input. (What svnjobs does is `DidJobs`.)
abbrev pub Does : List ℕ → Task → Option ℕ → Option (List ℕ) → Scene → Scene → Option Fault → Type 0
Does repos (Create shard) clock dice a b fault = Created repos shard clock dice a.host b.host fault × (b.out ≡ a.out) × (b.input ≡ a.input)
Does repos ListTxns clock dice a b fault = ListsTxns repos a b fault × OpeningIsDecided (a.host.disk_at repos) fault × (b.input ≡ a.input)
Does repos (RemoveTxns txns) clock dice a b fault = RemovesTxns repos txns a.host b.host fault × OpeningIsDecided (a.host.disk_at repos) fault × (b.out ≡ a.out) × (b.input ≡ a.input)
Does repos Pack clock dice a b fault = Packs repos a b fault × OpeningIsDecided (a.host.disk_at repos) fault × (b.input ≡ a.input)
Does repos (Look look) clock dice a b fault = PrintsLook repos look a b fault × LookIsDecided look (a.host.disk_at repos) fault × (b.input ≡ a.input)
Does repos (RunJobs run) clock dice a b fault = Unit {0}

-- the words are refused, and nothing is done
abbrev pub RefusesWords : Tool → List (List ℕ) → Scene → Scene → Option Fault → Type 0
RefusesWords tool words a b fault = (why : WordsFault) × (fault ≡ Some (fault_from_words why)) × Refuses (asked tool words) why × (b ≡ a)

-- What a command did, by its fault or none: the task that its words ask for, at the paths of that task alone; or nothing where they are refused.
abbrev pub Did : Tool → List (List ℕ) → Option ℕ → Option (List ℕ) → Scene → Scene → Option Fault → Type 0
Did tool words clock dice a b fault =
    ((repos : List ℕ) × (task : Task) × Asks tool words repos task × Does repos task clock dice a b fault × OthersStay (paths_of repos task) a.host b.host) ⊎ RefusesWords tool words a b fault

-- the fault of a run, or none
abbrev pub fault_of : Result (Unit {0}) Fault → Option Fault
fault_of (Ok done) = None
fault_of (Err fault) = Some fault

-- and its status
abbrev pub answer_of : Option Fault → ℕ
answer_of None = 0
answer_of (Some fault) = status_of fault

-- the line of a fault was written, or where the sink failed a first part of it; nothing without a fault
abbrev pub Tells : Tool → SinkScene → SinkScene → Option Fault → Type 0
Tells tool old new None = new ≡ old
Tells tool old new (Some fault) = Adds old.written new.written (line_of tool fault) ⊎ (Rose old.faults new.faults × AddsFront old.written new.written (line_of tool fault))
