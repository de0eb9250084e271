-- What a look printed and left, as the top call tells it.
use Rattle.std.proofs.Common.{◌≡◌, ◌≤◌, ℕ, List, [], inl, inr, refl, ap, subst, arith}
use Rattle.std.specs.Prelude.{Option, Some, None, IfSome, option_map, Result, Ok, Err}
use Rattle.fsfs_base.specs.Files.{Files}
use Rattle.fsfs_base.specs.Paths.{Path}
use Rattle.fsfs_revision.specs.Told.{RevisionBytes, Telling, Knows}
use Rattle.fsfs_revision.specs.RevProps.{MayRead, ReadsOnly, only}
use Rattle.fsfs_base.specs.Failures.{Rose}
use Rattle.fsfs_disk.specs.Trace.{Trace, files_now}
use Rattle.fsfs_cli.specs.CommandFaults.{fault_from_open}
use Rattle.fsfs_cli.specs.declared.faults.fault.Fault.{Fault}
use Rattle.fsfs_fetch.specs.Owned.{TellsAll}
use Rattle.fsfs_revision.specs.RevBytes.{floor_in, rev_bytes, props_bytes}
use Rattle.fsfs_look.specs.Written.{Writes, IfDisk, IfWrite}
use Rattle.fsfs_look.proofs.NodeTexts.{writes_as}
use Rattle.fsfs_dump.specs.Texts.{DumpText}
use Rattle.fsfs_dump.proofs.MayLemmas.{dump_as}
use Rattle.fsfs_verify.specs.Texts.{VerifyText}
use Rattle.fsfs_look.specs.declared.look_error.LookError.{LookError}
use Rattle.fsfs_look.specs.declared.look_error.LookError.TheVariants as errors
use Rattle.fsfs_layout.specs.Opening.{small_texts, IsOpened}
use Rattle.fsfs_create.specs.OpenFaults.{OpensBecause}
use Rattle.fsfs_create.specs.Deciding.{Decides}
use Rattle.fsfs_layout.specs.declared.opened.Opened.{Opened}
use Rattle.fsfs_base.specs.declared.places.open_fault.OpenFault.{OpenFault}
use Rattle.fsfs_base.specs.declared.places.open_fault.OpenFault.TheVariants as opening
use Rattle.fsfs_cli.specs.Requests.{printed_path}
use Rattle.fsfs_cli.specs.declared.request.Look.{Look}
use Rattle.fsfs_cli.specs.declared.request.Look.TheVariants.{Youngest, Uuid, Dump, Verify, AtRevision}
use Rattle.fsfs_cli.specs.declared.request.RevisionLook.{RevisionLook}
use Rattle.fsfs_top.specs.Looks.{AllBytes, all_bytes, KnowsAll, TextOf, TextIn, looked_revision, IsFaultAt, IsFaultOf, DumpIn, VerifyIn, LooksInto, NotOpened, PrintsLook}
use Rattle.fsfs_workers.specs.Openings.{OpensAs, DoesNotOpen}
use Rattle.fsfs_top.specs.Scenes.{Scene, SinkScene}
use Rattle.fsfs_revision.proofs.FloorLemmas.{floor_is}
use Rattle.fsfs_top.proofs.FilesDecide.{does_not_open}

-- ---- an opened repository

-- what was written of a book over the disk is of the files
pub into_writes : {Below : Type 0} (trace : Option Trace) (look : RevisionLook) (o : Opened) (rev : ℕ) (telling : Telling Below) (may : MayRead) (old new : Option (List ℕ)) (r : Result (Unit {0}) LookError)
    → IfSome (option_map files_now trace) (λ m. IsOpened (small_texts m) o)
    → ((t : Trace) → trace ≡ Some t → floor_in o.layout (files_now t) ≡ Ok o.min_unpacked_rev → TellsAll o.youngest o.layout (files_now t) telling)
    → ((t : Trace) → trace ≡ Some t → ReadsOnly may o.youngest (props_bytes o.layout (files_now t)))
    → rev ≡ looked_revision look o → rev ≤ o.youngest → ((bytes : AllBytes) → KnowsAll telling may rev bytes → Writes (TextOf look.printed bytes rev) old new r)
    → IfSome (option_map files_now trace) (λ m. Writes (TextIn look o m) old new r)
into_writes None look o rev telling may old new r opened tells reads is le writes = tt
into_writes (Some t) look o rev telling may old new r opened tells reads is le writes =
    let all = tells t refl (floor_is o.layout o.min_unpacked_rev (files_now t) opened.behind.min_unpacked_rev) in
    subst (λ (n : ℕ). Writes (TextOf look.printed (all_bytes o.layout (files_now t)) n) old new r) is
    (writes (all_bytes o.layout (files_now t)) (λ q below. all.revs q (omega (arith, below, le)), λ q below. reads t refl q (omega (arith, below, le))))

-- the same of all revisions
pub dump_writes : {Below : Type 0} (trace : Option Trace) (o : Opened) (uuid : List ℕ) (telling : Telling Below) (may : MayRead) (old new : Option (List ℕ)) (r : Result (Unit {0}) LookError)
    → IfSome (option_map files_now trace) (λ m. IsOpened (small_texts m) o)
    → ((t : Trace) → trace ≡ Some t → floor_in o.layout (files_now t) ≡ Ok o.min_unpacked_rev → TellsAll o.youngest o.layout (files_now t) telling)
    → ((t : Trace) → trace ≡ Some t → ReadsOnly may o.youngest (props_bytes o.layout (files_now t)))
    → uuid ≡ o.uuid → ((look : RevisionBytes) → Knows telling.revs o.youngest look → Writes (DumpText look may uuid o.youngest) old new r)
    → IfSome (option_map files_now trace) (λ m. Writes (DumpIn o m) old new r)
dump_writes None o uuid telling may old new r opened tells reads is writes = tt
dump_writes (Some t) o uuid telling may old new r opened tells reads is writes =
    let all = tells t refl (floor_is o.layout o.min_unpacked_rev (files_now t) opened.behind.min_unpacked_rev) in
    let look = rev_bytes o.layout (files_now t) in
    let props = props_bytes o.layout (files_now t) in
    subst (λ (u : List ℕ). Writes (DumpText look (only props) u o.youngest) old new r) is
    (writes_as (DumpText look may uuid o.youngest) (DumpText look (only props) uuid o.youngest) old new r (dump_as may (only props) look uuid o.youngest (reads t refl)) (writes look (λ q below. all.revs q below)))

-- and of a check of them
pub verify_writes : {Below : Type 0} (trace : Option Trace) (o : Opened) (telling : Telling Below) (may : MayRead) (old new : Option (List ℕ)) (r : Result (Unit {0}) LookError)
    → IfSome (option_map files_now trace) (λ m. IsOpened (small_texts m) o)
    → ((t : Trace) → trace ≡ Some t → floor_in o.layout (files_now t) ≡ Ok o.min_unpacked_rev → TellsAll o.youngest o.layout (files_now t) telling)
    → ((t : Trace) → trace ≡ Some t → ReadsOnly may o.youngest (props_bytes o.layout (files_now t)))
    → ((look props : RevisionBytes) → Knows telling.revs o.youngest look → ReadsOnly may o.youngest props → Writes (VerifyText look props o.youngest) old new r)
    → IfSome (option_map files_now trace) (λ m. Writes (VerifyIn o m) old new r)
verify_writes None o telling may old new r opened tells reads writes = tt
verify_writes (Some t) o telling may old new r opened tells reads writes =
    let all = tells t refl (floor_is o.layout o.min_unpacked_rev (files_now t) opened.behind.min_unpacked_rev) in
    writes (rev_bytes o.layout (files_now t)) (props_bytes o.layout (files_now t)) (λ q below. all.revs q below) (reads t refl)

pub fault_with_cause : (disk write : Type 0) (path : Path) (e : LookError) (fault : Fault) → IsFaultAt path e fault → IfDisk e disk → IfWrite e write → IsFaultOf disk write path (Err e) (Some fault)
fault_with_cause disk write path e fault is d w = (fault, refl, is, d, w)

-- a book's count of faults is that of the disk below it
pub same_counts : (e : LookError) (before now old new : ℕ) → before ≡ old → now ≡ new → IfDisk e (Rose before now) → IfDisk e (Rose old new)
same_counts e before now old new p q h = subst (λ (n : ℕ). IfDisk e (Rose n new)) p (subst (λ (n : ℕ). IfDisk e (Rose before n)) q h)

-- ---- as the host counts it

counted_disk : (rose disk : Type 0) (e : LookError) → (rose → disk) → IfDisk e rose → IfDisk e disk
counted_disk rose disk (errors.Fault why) counted h = h
counted_disk rose disk errors.DiskFault counted h = counted h
counted_disk rose disk errors.WriteFault counted h = h
counted_disk rose disk errors.OutOfMemory counted h = h

pub counted_fault : (rose disk write : Type 0) (path : Path) (r : Result (Unit {0}) LookError) (fault : Option Fault) → (rose → disk) → IsFaultOf rose write path r fault → IsFaultOf disk write path r fault
counted_fault rose disk write path (Ok done) fault counted is = is
counted_fault rose disk write path (Err e) fault counted (told, is, at, d, w) = (told, is, at, counted_disk rose disk e counted d, w)

counted_look : (rose disk : Type 0) (look : Look) (o : Opened) (files : Option Files) (old new : SinkScene) (fault : Option Fault) → (rose → disk) → LooksInto rose look o files old new fault → LooksInto disk look o files old new fault
counted_look rose disk Youngest o files old new fault counted into = into
counted_look rose disk Uuid o files old new fault counted into = into
counted_look rose disk Dump o files old new fault counted dumped = record { result = dumped.result; writes = dumped.writes; fault_is = counted_fault rose disk (Rose old.faults new.faults) [] dumped.result fault counted dumped.fault_is }
counted_look rose disk Verify o files old new fault counted verified = record { result = verified.result; writes = verified.writes; fault_is = counted_fault rose disk (Rose old.faults new.faults) [] verified.result fault counted verified.fault_is }
counted_look rose disk (AtRevision look) o files old new fault counted (inl lacks) = inl lacks
counted_look rose disk (AtRevision look) o files old new fault counted (inr looked) = inr (record {
  there = looked.there;
  result = looked.result;
  writes = looked.writes;
  fault_is = counted_fault rose disk (Rose old.faults new.faults) (printed_path look.printed) looked.result fault counted looked.fault_is;
})

-- a look at an opened repository, of the disk as the host had it
pub look_now : (rose disk : Type 0) (look : Look) (o : Opened) (told mid : Option Trace) (old new : SinkScene) (fault : Option Fault) → option_map files_now mid ≡ option_map files_now told → (rose → disk)
    → LooksInto rose look o (option_map files_now mid) old new fault → LooksInto disk look o (option_map files_now told) old new fault
look_now rose disk look o told mid old new fault same counted into =
    subst (λ (m : Option Files). LooksInto disk look o m old new fault) same (counted_look rose disk look o (option_map files_now mid) old new fault counted into)

pub look_printed : (repos : List ℕ) (look : Look) (a b : Scene) (o : Opened) (told : Option Trace) (fault : Option Fault) → told ≡ a.host.disk_at repos → IfSome told (λ t. IsOpened (small_texts (files_now t)) o)
    → LooksInto (Rose a.host.disk_faults b.host.disk_faults) look o (option_map files_now told) a.out b.out fault → PrintsLook repos look a b fault
look_printed repos look a b o told fault same opened into =
    inr (o, subst (λ (x : Option Trace). OpensAs x o) same opened, subst (λ (x : Option Trace). LooksInto (Rose a.host.disk_faults b.host.disk_faults) look o (option_map files_now x) a.out b.out fault) same into)

-- ---- a repository that was not opened

pub counted_cause : (rose disk : Type 0) (told : Option Trace) (why : OpenFault) → (rose → disk) → OpensBecause rose told why → OpensBecause disk told why
counted_cause rose disk told opening.NotRepo counted h = h
counted_cause rose disk told (opening.OtherFormat number) counted h = h
counted_cause rose disk told opening.Linear counted h = h
counted_cause rose disk told (opening.Small small) counted h = h
counted_cause rose disk told (opening.DiskFault place) counted h = (counted h.0, h.1)
counted_cause rose disk told opening.Memory counted h = h

pub open_refused : (repos : List ℕ) (a b : Scene) (rose : Type 0) (told : Option Trace) (why : OpenFault) (fault : Fault) → told ≡ a.host.disk_at repos → fault ≡ fault_from_open why → (rose → Rose a.host.disk_faults b.host.disk_faults) → b.out ≡ a.out
    → OpensBecause rose told why → IfSome told (λ t. Decides (small_texts (files_now t)) (Err why)) → NotOpened repos a b (Some fault)
open_refused repos a b rose told why fault same from counted kept because decides =
    inr (
      why,
      ap (λ (f : Fault). Some f) from,
      subst (λ (x : Option Trace). OpensBecause (Rose a.host.disk_faults b.host.disk_faults) x why) same (counted_cause rose (Rose a.host.disk_faults b.host.disk_faults) told why counted because),
      subst (λ (x : Option Trace). DoesNotOpen x why) same (does_not_open told why decides),
      kept,
    )
