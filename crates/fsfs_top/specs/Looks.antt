-- Looks at a repository: what they print, and why they print nothing or no more.
use Rattle.std.specs.Prelude.{◌≡◌, ◌≤◌, ◌<◌, ◌⊎◌, ℕ, List, ◌∷◌, [], ◌++◌, decimal, Option, Some, None, IfSome, option_map, unwrap_or, Result, Ok, Err}
use Rattle.fsfs_base.specs.Failures.{Rose}
use Rattle.fsfs_base.specs.Files.{Files}
use Rattle.fsfs_base.specs.Paths.{Path}
use Rattle.fsfs_revision.specs.Told.{RevisionBytes, Telling, Knows}
use Rattle.fsfs_revision.specs.RevProps.{MayRead, ReadsOnly, only}
use Rattle.fsfs_disk.specs.Trace.{Trace, files_now}
use Rattle.fsfs_base.specs.Streams.{Adds}
use Rattle.fsfs_base.specs.Output.{AddsFront}
use Rattle.fsfs_cli.specs.CommandFaults.{fault_from_open, fault_from_look, IsFromLook}
use Rattle.fsfs_cli.specs.declared.faults.fault.Fault.{Fault}
use Rattle.fsfs_cli.specs.declared.faults.fault.Fault.TheVariants.{Request, Repository, Outside, Memory}
use Rattle.fsfs_cli.specs.declared.faults.request_fault.RequestFault.TheVariants.{NotRepo, NoRev}
use Rattle.fsfs_cli.specs.declared.faults.repository_fault.RepositoryFault.TheVariants.{OtherFormat, Linear}
use Rattle.fsfs_cli.specs.declared.faults.outside_fault.OutsideFault.TheVariants.{Mount, Disk, Write}
use Rattle.fsfs_revision.specs.RevBytes.{rev_bytes, props_bytes}
use Rattle.fsfs_look.specs.Written.{Writes, IfDisk, IfWrite}
use Rattle.fsfs_look.specs.declared.look_error.LookError.{LookError}
use Rattle.fsfs_look.specs.declared.look_error.LookError.TheVariants as errors
use Rattle.fsfs_layout.specs.Opening.{small_texts, IsOpened, IsNone, HasFormat, IsLinear}
use Rattle.fsfs_create.specs.OpenFaults.{OpensBecause}
use Rattle.fsfs_layout.specs.declared.layout.Layout.{Layout}
use Rattle.fsfs_layout.specs.declared.opened.Opened.{Opened}
use Rattle.fsfs_base.specs.declared.places.open_fault.OpenFault.{OpenFault}
use Rattle.fsfs_base.specs.declared.places.place.DiskPlace.TheVariants.{Read}
use Rattle.fsfs_stands.specs.Texts.{End, Whole, Refused}
use Rattle.fsfs_stands.specs.TreeTexts.{TreeText}
use Rattle.fsfs_stands.specs.FileTexts.{FileText}
use Rattle.fsfs_stands.specs.declared.look_fault.LookFault.{LookFault}
use Rattle.fsfs_look.specs.Revprops.Texts.{AuthorText, DateText, LogText, InfoText}
use Rattle.fsfs_stands.specs.ChangedTexts.{ChangedText}
use Rattle.fsfs_stands.specs.HistoryTexts.{HistoryText}
use Rattle.fsfs_dump.specs.Texts.{DumpText}
use Rattle.fsfs_sound.specs.Laws.{ShowsOpenHistory}
use Rattle.fsfs_verify.specs.Texts.{VerifyText}
use Rattle.fsfs_cli.specs.Requests.{printed_path}
use Rattle.fsfs_cli.specs.declared.request.Look.{Look}
use Rattle.fsfs_cli.specs.declared.request.Look.TheVariants.{Youngest, Uuid, Dump, Verify, AtRevision}
use Rattle.fsfs_cli.specs.declared.request.Printed.{Printed}
use Rattle.fsfs_cli.specs.declared.request.Printed.TheVariants.{Tree, Text, Author, Date, Log, Info, Changed, History}
use Rattle.fsfs_cli.specs.declared.request.RevisionLook.{RevisionLook}
use Rattle.fsfs_workers.specs.Openings.{OpensAs, DoesNotOpen}
use Rattle.fsfs_top.specs.Scenes.{Scene, SinkScene}

-- nothing was printed, since the path was not mounted or the repository there not opened
abbrev pub NotOpened : List ℕ → Scene → Scene → Option Fault → Type 0
NotOpened repos a b fault =
    ((fault ≡ Some (Outside Mount)) × Rose a.host.mount_faults b.host.mount_faults × (b.out ≡ a.out))
    ⊎ ((why : OpenFault) × (fault ≡ Some (fault_from_open why)) × OpensBecause (Rose a.host.disk_faults b.host.disk_faults) (a.host.disk_at repos) why × DoesNotOpen (a.host.disk_at repos) why × (b.out ≡ a.out))

-- ---- a look at the small files

-- the line of a revision's number
abbrev pub revision_line : ℕ → List ℕ
revision_line rev = decimal rev ++ 10 ∷ []

-- the line of an identifier
abbrev pub uuid_line : List ℕ → List ℕ
uuid_line identifier = identifier ++ 10 ∷ []

-- a line was printed, or where the output failed a first part of it
abbrev pub PrintsLine : List ℕ → SinkScene → SinkScene → Option Fault → Type 0
PrintsLine line old new fault = ((fault ≡ None) × Adds old.written new.written line) ⊎ ((fault ≡ Some (Outside Write)) × Rose old.faults new.faults × AddsFront old.written new.written line)

-- ---- a look at a revision

-- the bytes of all revisions, and those of their property files
pub record AllBytes : Type 0 where
  pub revs : RevisionBytes
  pub props : RevisionBytes

-- of a repository's files
abbrev pub all_bytes : Layout → Files → AllBytes
all_bytes layout files = record { revs = rev_bytes layout files; props = props_bytes layout files }

-- all of them is what is told, and may be read, of the revisions up to top
abbrev pub KnowsAll : {Below : Type 0} → Telling Below → MayRead → ℕ → AllBytes → Type 0
KnowsAll told may top bytes = Knows told.revs top bytes.revs × ReadsOnly may top bytes.props

-- what is printed of a revision, as a reading of the bytes
abbrev pub TextOf : Printed → AllBytes → ℕ → List ℕ → End → Type 0
TextOf (Tree show_ids path) bytes rev = TreeText bytes.revs rev path show_ids
TextOf (Text path) bytes rev = FileText bytes.revs rev path
TextOf Author bytes rev = AuthorText (only bytes.props) rev
TextOf Date bytes rev = DateText (only bytes.props) rev
TextOf Log bytes rev = LogText (only bytes.props) rev
TextOf Info bytes rev = InfoText (only bytes.props) rev
TextOf Changed bytes rev = ChangedText bytes.revs rev
TextOf (History path) bytes rev = HistoryText bytes.revs rev path

-- the revision that is looked at: the youngest where none is named
abbrev pub looked_revision : RevisionLook → Opened → ℕ
looked_revision look o = unwrap_or look.revision o.youngest

-- the same of the files of an opened repository
abbrev pub TextIn : RevisionLook → Opened → Files → List ℕ → End → Type 0
TextIn look o files = TextOf look.printed (all_bytes o.layout files) (looked_revision look o)

-- the named revision is above the youngest
pub record LacksRevision (look : RevisionLook) (o : Opened) (rev : ℕ) : Type 0 where
  pub named : look.revision ≡ Some rev
  pub above : o.youngest < rev

-- the fault of a look at this path that failed so; want of memory may come where a path is made for it
abbrev pub IsFaultAt : Path → LookError → Fault → Type 0
IsFaultAt path (errors.Fault why) fault = IsFromLook path why fault
IsFaultAt path errors.DiskFault fault = fault ≡ Outside (Disk Read)
IsFaultAt path errors.WriteFault fault = fault ≡ Outside Write
IsFaultAt path errors.OutOfMemory fault = fault ≡ Memory

-- the same with its cause, that a count of faults rose; none of a look that was done
abbrev pub IsFaultOf : Type 0 → Type 0 → Path → Result (Unit {0}) LookError → Option Fault → Type 0
IsFaultOf disk write path (Ok done) fault = fault ≡ None
IsFaultOf disk write path (Err error) fault = (told : Fault) × (fault ≡ Some told) × IsFaultAt path error told × IfDisk error disk × IfWrite error write

-- A revision of an opened repository was looked at: the whole text was printed, or all before what is refused; or where the look failed a first part.
-- `disk` says that the count of the disk's faults rose.
pub record Looked (disk : Type 0) (look : RevisionLook) (o : Opened) (files : Option Files) (old new : SinkScene) (fault : Option Fault) : Type 0 where
  pub there : looked_revision look o ≤ o.youngest
  pub result : Result (Unit {0}) LookError
  pub writes : IfSome files (λ m. Writes (TextIn look o m) old.written new.written result)
  pub fault_is : IsFaultOf disk (Rose old.faults new.faults) (printed_path look.printed) result fault

-- ---- a dump

-- what is printed of all revisions of an opened repository, as a reading of its files
abbrev pub DumpIn : Opened → Files → List ℕ → End → Type 0
DumpIn o files = DumpText (rev_bytes o.layout files) (only (props_bytes o.layout files)) o.uuid o.youngest

-- A repository was dumped: the whole text was printed, or all before what is refused; or where that failed a first part.
pub record IsDumped (disk : Type 0) (o : Opened) (files : Option Files) (old new : SinkScene) (fault : Option Fault) : Type 0 where
  pub result : Result (Unit {0}) LookError
  pub writes : IfSome files (λ m. Writes (DumpIn o m) old.written new.written result)
  pub fault_is : IsFaultOf disk (Rose old.faults new.faults) [] result fault

-- ---- a check

-- what is printed of a check of all revisions of an opened repository, as a reading of its files
abbrev pub VerifyIn : Opened → Files → List ℕ → End → Type 0
VerifyIn o files = VerifyText (rev_bytes o.layout files) (props_bytes o.layout files) o.youngest

-- A repository was checked: a line was printed for each revision, or for those before the first with which something is wrong; or where
-- that failed a first part.
pub record IsVerified (disk : Type 0) (o : Opened) (files : Option Files) (old new : SinkScene) (fault : Option Fault) : Type 0 where
  pub result : Result (Unit {0}) LookError
  pub writes : IfSome files (λ m. Writes (VerifyIn o m) old.written new.written result)
  pub fault_is : IsFaultOf disk (Rose old.faults new.faults) [] result fault

-- ---- a look

-- what a look at an opened repository printed
abbrev pub LooksInto : Type 0 → Look → Opened → Option Files → SinkScene → SinkScene → Option Fault → Type 0
LooksInto disk Youngest o files old new fault = PrintsLine (revision_line o.youngest) old new fault
LooksInto disk Uuid o files old new fault = PrintsLine (uuid_line o.uuid) old new fault
LooksInto disk Dump o files old new fault = IsDumped disk o files old new fault
LooksInto disk Verify o files old new fault = IsVerified disk o files old new fault
LooksInto disk (AtRevision look) o files old new fault =
    ((rev : ℕ) × LacksRevision look o rev × (fault ≡ Some (Request (NoRev rev o.youngest))) × (new ≡ old)) ⊎ Looked disk look o files old new fault

-- what a look at the repository at a path printed
abbrev pub PrintsLook : List ℕ → Look → Scene → Scene → Option Fault → Type 0
PrintsLook repos look a b fault =
    NotOpened repos a b fault
    ⊎ ((o : Opened) × OpensAs (a.host.disk_at repos) o × LooksInto (Rose a.host.disk_faults b.host.disk_faults) look o (option_map files_now (a.host.disk_at repos)) a.out b.out fault)

-- ---- the files decide what is answered

-- a failure of the outside, or want of memory
abbrev pub IsOutside : Fault → Type 0
IsOutside (Outside why) = Unit {0}
IsOutside Memory = Unit {0}
IsOutside fault = ⊥

-- what is answered is what is decided, unless the outside failed
abbrev pub Agrees : Option Fault → Option Fault → Type 0
Agrees decided None = decided ≡ None
Agrees decided (Some fault) = (decided ≡ Some fault) ⊎ IsOutside fault

-- a look at a revision is answered wherever the bytes give a text; it is refused for what is wrong with them
pub record DecidesRevision (look : RevisionLook) (o : Opened) (files : Files) (fault : Option Fault) : Type 0 where
  pub lacking : (rev : ℕ) → LacksRevision look o rev → Agrees (Some (Request (NoRev rev o.youngest))) fault
  pub whole : (text : List ℕ) → looked_revision look o ≤ o.youngest → TextIn look o files text Whole → Agrees None fault
  pub refused : (text : List ℕ) (why : LookFault) → looked_revision look o ≤ o.youngest → TextIn look o files text (Refused why) → Agrees (Some (fault_from_look (printed_path look.printed) why)) fault

-- a dump is answered wherever the bytes give its text; it is refused for what is wrong with them
pub record DecidesDump (o : Opened) (files : Files) (fault : Option Fault) : Type 0 where
  pub whole : (text : List ℕ) → DumpIn o files text Whole → Agrees None fault
  pub refused : (text : List ℕ) (why : LookFault) → DumpIn o files text (Refused why) → Agrees (Some (fault_from_look [] why)) fault

-- the files show a history, and no text in it is a delta
abbrev pub AreSound : Opened → Files → Type 0
AreSound o files = ShowsOpenHistory (rev_bytes o.layout files) (props_bytes o.layout files) o.youngest

-- what is told is wrong with the files, and with no revision before this text's end; or the outside failed
abbrev pub TellsDamage : Opened → Files → List ℕ → Option Fault → Type 0
TellsDamage o files text None = ⊥
TellsDamage o files text (Some fault) = ((why : LookFault) × VerifyIn o files text (Refused why) × (fault ≡ fault_from_look [] why)) ⊎ IsOutside fault

-- a check is answered wherever the files show a history; where something is wrong with them, it tells what
pub record DecidesVerify (o : Opened) (files : Files) (fault : Option Fault) : Type 0 where
  pub sound : AreSound o files → Agrees None fault
  pub wrong : (text : List ℕ) (why : LookFault) → VerifyIn o files text (Refused why) → TellsDamage o files text fault

-- a look at the small files is answered wherever they open
abbrev pub DecidesOpened : Look → Opened → Files → Option Fault → Type 0
DecidesOpened Youngest o files fault = Agrees None fault
DecidesOpened Uuid o files fault = Agrees None fault
DecidesOpened Dump o files fault = DecidesDump o files fault
DecidesOpened Verify o files fault = DecidesVerify o files fault
DecidesOpened (AtRevision look) o files fault = DecidesRevision look o files fault

-- Each refusal of an opening comes wherever its cause is there; what is left is Small. Where the files open, `Then` holds.
pub record DecidesOpening (Then : Opened → Type 0) (files : Files) (fault : Option Fault) : Type 0 where
  pub none : IsNone (small_texts files) → Agrees (Some (Request NotRepo)) fault
  pub other : (number : ℕ) → HasFormat (small_texts files) number → Agrees (Some (Repository (OtherFormat number))) fault
  pub linear : IsLinear (small_texts files) → Agrees (Some (Repository Linear)) fault
  pub opened : (o : Opened) → IsOpened (small_texts files) o → Then o

abbrev pub LookIsDecided : Look → Option Trace → Option Fault → Type 0
LookIsDecided look told fault = IfSome told (λ t. DecidesOpening (λ o. DecidesOpened look o (files_now t) fault) (files_now t) fault)
