-- What a check finds, from what is read and written.
use Rattle.std.proofs.Common.{◌≡◌, ℕ, [], refl, inl, sym, ap, subst, arith}
use Rattle.std.specs.Prelude.{Option, Some, None, IfErr, IfSome, Result, Ok, Err}
use Rattle.fsfs_base.specs.Counts.{Rose}
use Rattle.fsfs_base.specs.Files.{Files}
use Rattle.fsfs_base.specs.declared.small_fault.SmallFault.{SmallFault}
use Rattle.fsfs_disk.specs.Trace.{Trace, files_now}
use Rattle.fsfs_layout.specs.declared.layout.Layout.{Layout}
use Rattle.fsfs_fetch.specs.Owned.{TellsAll}
use Rattle.fsfs_revision.specs.RevBytes.{by_floor, floor_in, props_bytes, rev_bytes}
use Rattle.fsfs_revision.specs.RevProps.{MayRead, ReadsOnly}
use Rattle.fsfs_revision.specs.Told.{Knows, RevisionBytes, Telling}
use Rattle.fsfs_revision.specs.declared.wrong.Refusal.TheVariants.{Small}
use Rattle.fsfs_revision.specs.declared.wrong.Wrong.TheVariants.{Refused}
use Rattle.fsfs_look.specs.Written.{Writes, IfWrite}
use Rattle.fsfs_look.specs.declared.look_error.LookError.{LookError}
use Rattle.fsfs_look.specs.declared.look_error.LookError.TheVariants.{Fault, DiskFault, OutOfMemory, WriteFault}
use Rattle.fsfs_stands.specs.declared.look_fault.LookFault.{LookFault}
use Rattle.fsfs_stands.specs.declared.look_fault.LookFault.TheVariants.{Wrong, NotFound, NotDir, NotFile}
use Rattle.fsfs_sound.specs.Damaged.{AtPath}
use Rattle.fsfs_verify.specs.Texts.{VerifyText}
use Rattle.fsfs_check.specs.Finds.{Finds, IsFloor, IsWrong}

-- ---- a floor that isn't said

no_bytes : (layout : Layout) (m : Files) (fault : SmallFault) → floor_in layout m ≡ Err fault → rev_bytes layout m 0 ≡ Err (Small fault)
unfolding rev_bytes
no_bytes layout m fault said = ap (by_floor layout m 0) said

pub floor_is_wrong : (layout : Layout) (m : Files) (youngest : ℕ) (e : LookError) → IsFloor (floor_in layout m) (Err e) → Finds (rev_bytes layout m) (props_bytes layout m) youngest (Err e)
floor_is_wrong layout m youngest (Fault why) (fault, said, is) =
    subst (IsWrong (rev_bytes layout m) (props_bytes layout m) youngest) (sym is)
    (0, record { upto = omega arith; damaged = AtPath 0 [] (Refused (Small fault)) (omega arith) (inl (inl (Small fault, no_bytes layout m fault said, refl))); before = tt })
floor_is_wrong layout m youngest DiskFault said = tt
floor_is_wrong layout m youngest OutOfMemory said = tt
floor_is_wrong layout m youngest WriteFault said = said

pub unread : (told : Option Trace) (layout : Layout) (youngest : ℕ) (e : LookError) → IfSome told (λ t. IsFloor (floor_in layout (files_now t)) (Err e)) → IfSome told (λ t. Finds (rev_bytes layout (files_now t)) (props_bytes layout (files_now t)) youngest (Err e))
unread None layout youngest e said = tt
unread (Some t) layout youngest e said = floor_is_wrong layout (files_now t) youngest e said

-- ---- the lines go nowhere

-- the sink that keeps nothing counts no fault
pub no_write : (r : Result (Unit {0}) LookError) → IfErr r (λ e. IfWrite e (Rose 0 0)) → IfErr r (λ e. IfWrite e ⊥)
no_write (Ok done) rose = tt
no_write (Err (Fault why)) rose = tt
no_write (Err DiskFault) rose = tt
no_write (Err OutOfMemory) rose = tt
no_write (Err WriteFault) rose = omega (arith, rose)

found : (look props : RevisionBytes) (youngest : ℕ) (r : Result (Unit {0}) LookError) → Writes (VerifyText look props youngest) None None r → IfErr r (λ e. IfWrite e ⊥) → Finds look props youngest r
found look props youngest (Ok done) (text, (is, shows), adds) unwritten = shows
found look props youngest (Err (Fault (Wrong w))) (text, (n, first, is), adds) unwritten = (n, first)
found look props youngest (Err (Fault (NotFound names))) (text, never, adds) unwritten = never
found look props youngest (Err (Fault (NotDir names))) (text, never, adds) unwritten = never
found look props youngest (Err (Fault NotFile)) (text, never, adds) unwritten = never
found look props youngest (Err DiskFault) writes unwritten = tt
found look props youngest (Err OutOfMemory) writes unwritten = tt
found look props youngest (Err WriteFault) writes unwritten = unwritten

-- what was written of a book over the disk, from which the floor was read before, is of its files
pub checked : {Below : Type 0} (told now : Option Trace) → now ≡ told → (layout : Layout) (youngest floor : ℕ) (telling : Telling Below) (may : MayRead) (r : Result (Unit {0}) LookError) → IfSome told (λ t. IsFloor (floor_in layout (files_now t)) (Ok floor))
    → ((t : Trace) → now ≡ Some t → floor_in layout (files_now t) ≡ Ok floor → TellsAll youngest layout (files_now t) telling)
    → ((t : Trace) → now ≡ Some t → ReadsOnly may youngest (props_bytes layout (files_now t)))
    → ((look props : RevisionBytes) → Knows telling.revs youngest look → ReadsOnly may youngest props → Writes (VerifyText look props youngest) None None r) → IfErr r (λ e. IfWrite e ⊥)
    → IfSome told (λ t. Finds (rev_bytes layout (files_now t)) (props_bytes layout (files_now t)) youngest r)
checked None now same layout youngest floor telling may r said tells reads writes unwritten = tt
checked (Some t) now same layout youngest floor telling may r said tells reads writes unwritten =
    let look = rev_bytes layout (files_now t) in
    let props = props_bytes layout (files_now t) in
    found look props youngest r (writes look props (tells t same said).revs (reads t same)) unwritten
