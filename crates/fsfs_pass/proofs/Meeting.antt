-- What the taker of a disk is told of its files.
use Rattle.std.proofs.Common.{◌≡◌, ◌<◌, ◌+◌, ◌^◌, ℕ, List, length, true, refl, sym, ap, subst, ◌∙◌}
use Rattle.std.specs.Prelude.{Option, Some, None, IfSome, IsSome, is_some, slice_get}
use Rattle.std.specs.FinMap.{get}
use Rattle.fsfs_layout.specs.Hash.Dump.{IsDump}
use Rattle.fsfs_disk.specs.Trace.{Trace, file_at, files_now}
use Rattle.fsfs_disk.specs.Trace as real
use Rattle.fsfs_base.specs.declared.places.place.DiskPlace.{DiskPlace}
use Rattle.fsfs_base.specs.declared.places.place.DiskPlace.TheVariants.{Begin, Commit}
use Rattle.fsfs_base.specs.declared.places.place.DiskPlace.TheVariants as disk
use Rattle.fsfs_base.specs.declared.places.place.BeginPlace.TheVariants as begin
use Rattle.fsfs_base.specs.declared.places.place.CommitPlace.TheVariants.{RenameCurrent}
use Rattle.fsfs_base.specs.declared.places.place.PackPlace.TheVariants.{RenameFloor}
use Rattle.fsfs_machine.specs.declared.contents.FileName.{FileName}
use Rattle.fsfs_machine.specs.declared.contents.FileName.TheVariants.{CurrentNext, CounterNext, FloorNext}
use Rattle.fsfs_machine.specs.declared.contents.Contents.{Contents}
use Rattle.fsfs_machine.specs.declared.contents.Contents.TheVariants.{Number}
use Rattle.fsfs_machine.specs.declared.machine.Recorded.{Recorded}
use Rattle.fsfs_machine.specs.declared.machine.Section.{Section}
use Rattle.fsfs_machine.specs.declared.machine.Section.TheVariants.{CountPut, CurrentPut, FloorPut}
use Rattle.fsfs_machine.specs.declared.machine.Lock.TheVariants.{Held}
use Rattle.fsfs_machine.specs.Disk.{found}
use Rattle.fsfs_machine.specs.Machine.{stuck_place}
use Rattle.fsfs_machine.specs.Kept.{KnowsAt}
use Rattle.fsfs_turn.specs.Views.{props_name, IsDue}
use Rattle.fsfs_images.specs.Shown.{Fits}
use Rattle.fsfs_images.specs.RealNames.{machine_name}
use Rattle.fsfs_images.proofs.Showing.{now_read}
use Rattle.fsfs_turn.specs.Standing.{no_others, IsStore}
use Rattle.fsfs_turn.proofs.Stepping.{lock_is}
use Rattle.fsfs_turn.proofs.Due.{at_found}
use Rattle.fsfs_turn.proofs.SmallFiles.{props_file}
use Rattle.fsfs_pass.specs.declared.seats.seat_view.SeatView.{SeatView}
use Rattle.fsfs_pass.specs.Seats.{view_of}
use Rattle.fsfs_pass.specs.Tells.{IsMet}

module _ (me : SeatView) (t : Trace) (m : IsMet me t) where
  pub met_store : IsStore me.layout me.low m.world.young (stuck_place m.world.lock) t m.world
  met_store = m.store

  -- the properties of a revision that the pass has seen
  pub met_props : (r : ℕ) (x : Recorded) → slice_get me.seen r ≡ Some x → r < 2 ^ 32 → (name : List ℕ) → name ≡ props_name (view_of me) r → (text : List ℕ) × (file_at t name ≡ Some text) × IsDump text x.revision.properties
  met_props r x there fits name named = props_file me.layout me.low m.world.young (stuck_place m.world.lock) t m.world (view_of me) met_store m.sees refl m.safe r x there fits name named

  knows : (s : Section) → me.section ≡ Some s → KnowsAt m.world.size m.world.floor m.world.history m.world.given (Held me.number s) m.world.disk
  knows s inside = subst (λ l. KnowsAt m.world.size m.world.floor m.world.history m.world.given l m.world.disk) (lock_is me.number m.world.lock s (m.sees.section ∙ inside)) m.store.kept.knows

  -- a file of the machine's, of that name
  there : (n : FileName) → Fits n → (c : Contents) (name : List ℕ) → file_at t name ≡ get (files_now t) (machine_name me.layout n) → found m.world.disk n ≡ Some c → (bytes : List ℕ) × (file_at t name ≡ Some bytes)
  there n fits c name named is = let at = at_found me.layout n (get (files_now t) (machine_name me.layout n)) (found m.world.disk n) c is ((now_read me.layout no_others t.first t.operations m.world.disk m.store.trace).read n fits) in (at.0, named ∙ at.1)

  -- the file that is to be renamed
  pub met_rename : (place : DiskPlace) (from to : List ℕ) → IsDue (view_of me) place (real.Rename from to) → (bytes : List ℕ) × (file_at t from ≡ Some bytes)
  met_rename (Begin begin.Rename) from to d = there CounterNext tt (Number d.0.next) from (ap (λ k. file_at t k) d.2) (knows (CountPut d.0) d.1).3
  met_rename (Commit RenameCurrent) from to d = there CurrentNext tt (Number (length m.world.history)) from (ap (λ k. file_at t k) d.2) (knows (CurrentPut d.0) d.1)
  met_rename (disk.Pack RenameFloor) from to d = there FloorNext tt (Number (m.world.floor + m.world.size)) from (ap (λ k. file_at t k) d.1) (knows FloorPut d.0)
  met_rename place from to d = absurd d

some_there : (o : Option (List ℕ)) (bytes : List ℕ) → o ≡ Some bytes → IsSome o
some_there o bytes is = subst (λ x. IsSome x) (sym is) refl

pub rename_there : (me : SeatView) (told : Option Trace) (from to : List ℕ) → me.told ≡ is_some told → ((t : Trace) → told ≡ Some t → IsMet me t) → (me.told ≡ true → (place : DiskPlace) × IsDue (view_of me) place (real.Rename from to)) → IfSome told (λ t. IsSome (file_at t from))
rename_there me None from to is met due = tt
rename_there me (Some t) from to is met due = let d = due is in let f = met_rename me t (met t refl) d.0 from to d.1 in some_there (file_at t from) f.0 f.1
