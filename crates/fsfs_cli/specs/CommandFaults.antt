-- The fault that a command answers where the words were not read, or a creation, an opening or a look failed.
use Rattle.std.specs.Prelude.{◌≡◌, ◌⊎◌, take}
use Rattle.fsfs_base.specs.Paths.{Path}
use Rattle.fsfs_revision.specs.declared.wrong.Refusal.{Refusal}
use Rattle.fsfs_revision.specs.declared.wrong.Refusal.TheVariants as refusal
use Rattle.fsfs_base.specs.declared.places.create_fault.CreateFault.{CreateFault}
use Rattle.fsfs_base.specs.declared.places.create_fault.CreateFault.TheVariants as create
use Rattle.fsfs_base.specs.declared.places.open_fault.OpenFault.{OpenFault}
use Rattle.fsfs_base.specs.declared.places.open_fault.OpenFault.TheVariants as opening
use Rattle.fsfs_revision.specs.declared.damage.DamageKind.TheVariants as damaged
use Rattle.fsfs_revision.specs.declared.wrong.Wrong.{Wrong}
use Rattle.fsfs_revision.specs.declared.wrong.Wrong.TheVariants as wrong
use Rattle.fsfs_stands.specs.declared.look_fault.LookFault.{LookFault}
use Rattle.fsfs_stands.specs.declared.look_fault.LookFault.TheVariants as look
use Rattle.fsfs_cli.specs.declared.faults.words_fault.WordsFault.{WordsFault}
use Rattle.fsfs_cli.specs.declared.faults.words_fault.WordsFault.TheVariants as words
use Rattle.fsfs_cli.specs.declared.faults.fault.Fault.{Fault}
use Rattle.fsfs_cli.specs.declared.faults.fault.Fault.TheVariants.{Words, Request, Repository, Outside, Memory, Limit}
use Rattle.fsfs_cli.specs.declared.faults.bad_words.BadWords.TheVariants.{Usage, BadPath}
use Rattle.fsfs_cli.specs.declared.faults.request_fault.RequestFault.TheVariants.{NotFound, NotDir, NotFile, NoRev, AlreadyRepo, NotRepo, BadScript}
use Rattle.fsfs_cli.specs.declared.faults.repository_fault.RepositoryFault.TheVariants.{OtherFormat, Linear, Small, Corrupt, Delta}
use Rattle.fsfs_cli.specs.declared.faults.outside_fault.OutsideFault.TheVariants.{Disk, Read}
use Rattle.fsfs_cli.specs.declared.faults.limit_fault.LimitFault.TheVariants as limits
use Rattle.fsfs_script.specs.declared.script_error.ScriptError.{ScriptError}
use Rattle.fsfs_script.specs.declared.script_error.ScriptError.TheVariants as script

abbrev pub fault_from_words : WordsFault → Fault
fault_from_words words.Usage = Words Usage
fault_from_words (words.BadPath bad) = Words (BadPath bad)
fault_from_words words.Memory = Memory

abbrev pub fault_from_create : CreateFault → Fault
fault_from_create create.AlreadyRepo = Request AlreadyRepo
fault_from_create (create.DiskFault place) = Outside (Disk place)
fault_from_create create.Memory = Memory

abbrev pub fault_from_open : OpenFault → Fault
fault_from_open opening.NotRepo = Request NotRepo
fault_from_open (opening.OtherFormat found) = Repository (OtherFormat found)
fault_from_open opening.Linear = Repository Linear
fault_from_open (opening.Small small) = Repository (Small small)
fault_from_open (opening.DiskFault place) = Outside (Disk place)
fault_from_open opening.Memory = Memory

-- a revision whose file is absent is damaged at its beginning
abbrev pub fault_from_refusal : Refusal → Fault
fault_from_refusal (refusal.NoRev asked youngest) = Request (NoRev asked youngest)
fault_from_refusal (refusal.Missing rev) = Repository (Corrupt (record { at = record { rev = rev; offset = 0 }; what = damaged.Missing }))
fault_from_refusal (refusal.Small small) = Repository (Small small)

abbrev pub fault_from_wrong : Wrong → Fault
fault_from_wrong (wrong.Refused why) = fault_from_refusal why
fault_from_wrong (wrong.Damaged damage) = Repository (Corrupt damage)
fault_from_wrong (wrong.Delta at) = Repository (Delta at)

-- of a script that was not read
abbrev pub fault_from_script : ScriptError → Fault
fault_from_script (script.BadScript bad) = Request (BadScript bad)
fault_from_script script.TextTooLong = Limit limits.TextTooLong
fault_from_script script.PropTooLong = Limit limits.PropTooLong
fault_from_script script.TooManyJobs = Limit limits.TooManyJobs
fault_from_script script.ReadFault = Outside Read
fault_from_script script.OutOfMemory = Memory

-- of a look at a path: where nothing was found or a file is no directory, the path down to there
abbrev pub fault_from_look : Path → LookFault → Fault
fault_from_look path (look.NotFound names) = Request (NotFound (take names path))
fault_from_look path (look.NotDir names) = Request (NotDir (take names path))
fault_from_look path look.NotFile = Request (NotFile path)
fault_from_look path (look.Wrong wrong) = fault_from_wrong wrong

-- the same, but for want of memory where a path is made for the fault
abbrev pub IsFromLook : Path → LookFault → Fault → Type 0
IsFromLook path (look.NotFound names) fault = (fault ≡ fault_from_look path (look.NotFound names)) ⊎ (fault ≡ Memory)
IsFromLook path (look.NotDir names) fault = (fault ≡ fault_from_look path (look.NotDir names)) ⊎ (fault ≡ Memory)
IsFromLook path look.NotFile fault = (fault ≡ fault_from_look path look.NotFile) ⊎ (fault ≡ Memory)
IsFromLook path (look.Wrong wrong) fault = fault ≡ fault_from_wrong wrong
