-- What a pack does beside the calls of its section: calls that touch no file of the machine's, and the removal of what is packed.
use Rattle.std.proofs.Common.{◌≡◌, ◌⊎◌, ◌<◌, ◌++◌, ℕ, List, [], ◌∷◌, length, true, false, cond, inr, ⊎_elim, refl, sym, ap, subst, ◌∙◌, arith, drop}
use Rattle.std.specs.Prelude.{Option, Some, None, Bool, Result, Ok, Err, OnOk, OnErr, IfOk, nat_lt, if◌then◌else◌}
use Rattle.std.proofs.lemmas.List.{take_all}
use Rattle.fsfs_base.specs.Files.{Files}
use Rattle.fsfs_layout.specs.declared.layout.Layout.{Layout}
use Rattle.fsfs_disk.specs.Labels.{Label}
use Rattle.fsfs_disk.specs.Trace.{Trace, Done, Attempted, KeepLabel, DropLabel, add_operation, files_after, ImageAfter, TornBy, Performs, PerformsIfThere, FailsAt}
use Rattle.fsfs_disk.specs.Trace as real
use Rattle.fsfs_machine.specs.declared.contents.FileName.TheVariants.{Rev}
use Rattle.fsfs_machine.specs.declared.contents.NameChange.TheVariants.{Remove}
use Rattle.fsfs_base.specs.declared.places.place.DiskPlace.{DiskPlace}
use Rattle.fsfs_base.specs.declared.places.place.DiskPlace.TheVariants as place
use Rattle.fsfs_machine.specs.declared.machine.Section.TheVariants.{Packed}
use Rattle.fsfs_machine.specs.declared.machine.Lock.TheVariants.{Held}
use Rattle.fsfs_machine.specs.declared.machine.Went.{Went}
use Rattle.fsfs_machine.specs.declared.machine.Went.TheVariants.{Fine, Before, After, Torn}
use Rattle.fsfs_machine.specs.declared.machine.Step.TheVariants as step
use Rattle.fsfs_machine.specs.Disk.{Disk, IsImage}
use Rattle.fsfs_machine.specs.Machine.{World, did, barred, answer, learns, at_place, at_call, disk_after, held_by, inside, is_there, turned, old_removed, stuck_place}
use Rattle.fsfs_machine.specs.Kept.{Kept}
use Rattle.fsfs_machine.proofs.Steps.{step_keeps}
use Rattle.fsfs_images.specs.RealNames.{machine_name}
use Rattle.fsfs_images.specs.Shown.{AreRead, IsTraceOf, Removing, Attempting}
use Rattle.fsfs_images.proofs.Showing.{image_read}
use Rattle.fsfs_turn.specs.Past.{doubt, StoodFor, Safe}
use Rattle.fsfs_turn.specs.Views.{View, Sees, drawing_at, with_txns, rev_name}
use Rattle.fsfs_turn.specs.Packing.{DoneBeside, MayRemove, OldRemoved, Removal}
use Rattle.fsfs_turn.specs.Standing.{no_others, IsStore}
use Rattle.fsfs_turn.proofs.Names.{found_apart, names_stay}
use Rattle.fsfs_turn.proofs.FloorsRise.{floor_kept, floor_apart}
use Rattle.fsfs_turn.proofs.TurnEnds.{section_leaves, IsAfter, Comes}
use Rattle.fsfs_turn.proofs.Stepping.{kept_bare, at_itself, held_here, lock_is, take_drop}
use Rattle.fsfs_turn.proofs.Moments.{stood_for, safe_step}
use Rattle.fsfs_turn.proofs.Locking.{there_in}
use Rattle.fsfs_turn.proofs.Telling.{told_world, tells}
use Rattle.fsfs_turn.proofs.Labelling.{IsUnshown, unshown_keep, unshown_drop, label_call, dropped_so}

-- the store after a removal: the section stays
abbrev pub removed_store : World → ℕ → ℕ → Went → World
removed_store w p r went = record w { disk = disk_after went (Remove (Rev r)) w.disk; lock = Held p Packed; passes = at_place w.passes p (learns (length w.history) place.Remove went) }

removal_is : (w : World) (p r : ℕ) (went : Went) → at_call w p place.Remove (Remove (Rev r)) Packed Packed went ≡ removed_store w p r went
removal_is w p r Fine = refl
removal_is w p r Before = refl
removal_is w p r After = refl
removal_is w p r (Torn any) = refl

module _ (layout : Layout) (low young : ℕ) (stuck : Option DiskPlace) (old : Trace) (w : World) (v : View) (store : IsStore layout low young stuck old w) (sees : Sees w v) (safe : Safe layout v.since old v.opened w.history (doubt w.lock)) where
  -- ---- calls beside

  there : nat_lt v.number (length w.passes) ≡ true
  there = there_in w.passes v.number v.pass sees.pass

  beside_happens : (at : DiskPlace) (went : Went) → did (told_world (with_txns [] w) v.number (learns (length w.history) at went) [] [] [] []) (answer went)
      ≡ (if is_there (with_txns [] w) v.number then did (turned (with_txns [] w) v.number at went) (answer went) else barred (with_txns [] w))
  beside_happens at went = sym (ap (λ b. cond b (did (turned (with_txns [] w) v.number at went) (answer went)) (barred (with_txns [] w))) there)

  pub beside_turns : (at : DiskPlace) (new : Trace) → IsTraceOf layout no_others new.first new.operations w.disk → Safe layout v.since new v.opened w.history (doubt w.lock) → (went : Went) → IsAfter layout low young stuck new w v (λ u. DoneBeside at went v u)
  beside_turns at new trace safe_then went = tells layout low young stuck old w v store sees (with_txns []) (step.Beside v.number at went) (answer went) (λ n. learns n at went) [] [] [] [] store.kept (beside_happens at went) refl refl new trace safe_then

  -- the bench of a pack is made, or dropped
  pub keep_comes : {X E : Type 0} (told : Option Trace) (l : Label) (result : Result X E) → OnOk result (Performs (KeepLabel l) (Some old) told) → OnErr result (FailsAt (KeepLabel l) (Some old) told)
      → Comes layout low young stuck told w v result (λ went u. DoneBeside place.MakeBench went v u)
  keep_comes told l result ok err = label_call layout low young stuck old w v store sees safe (KeepLabel l) (unshown_keep layout low young stuck old w v store sees safe l) (λ went u. DoneBeside place.MakeBench went v u) told result (done_so result ok) err (beside_turns place.MakeBench)
    where
      done_so : {X E : Type 0} (result : Result X E) → OnOk result (Performs (KeepLabel l) (Some old) told) → OnOk result ((told ≡ Some old) ⊎ Performs (KeepLabel l) (Some old) told)
      done_so (Ok x) done = inr done
      done_so (Err e) done = tt

  pub drop_comes : {E : Type 0} (told : Option Trace) (l : Label) (result : Result Bool E) → IfOk result (λ there. PerformsIfThere there (DropLabel l) (Some old) told) → OnErr result (FailsAt (DropLabel l) (Some old) told)
      → Comes layout low young stuck told w v result (λ went u. DoneBeside place.Remove went v u)
  drop_comes told l result ok err = label_call layout low young stuck old w v store sees safe (DropLabel l) (unshown_drop layout low young stuck old w v store sees safe l) (λ went u. DoneBeside place.Remove went v u) told result (dropped_so layout low young stuck old w v store sees safe told l result ok) err (beside_turns place.Remove)

  -- a call that is no part of the trace
  pub folder_comes : {X E : Type 0} (at : DiskPlace) (told : Option Trace) → told ≡ Some old → (result : Result X E) → Comes layout low young stuck told w v result (λ went u. DoneBeside at went v u)
  folder_comes at told same (Ok x) = (old, Fine, same, refl, beside_turns at old store.trace safe Fine)
  folder_comes at told same (Err e) = (old, Before, same, refl, beside_turns at old store.trace safe Before)

  -- ---- the own file of a packed revision goes

  module _ (layout_is : v.layout ≡ layout) (r : ℕ) (may : MayRemove v r) where
    lock : w.lock ≡ Held v.number Packed
    lock = lock_is v.number w.lock Packed (sees.section ∙ may.inside)

    below : nat_lt r w.floor ≡ true
    below = let firm : w.floor ≡ may.floor = sees.firm Packed may.floor may.inside may.firm in let less : r < w.floor = omega (arith, may.below, firm) in grind (arith, less)

    after_it : Went → World
    after_it went = removed_store (with_txns [] w) v.number r went

    happens : (went : Went) → did (after_it went) (answer went) ≡ inside (with_txns [] w) (old_removed (with_txns [] w) v.number r went) (held_by v.number w.lock)
    unfolding after_it
    happens went = sym (ap (λ o. inside (with_txns [] w) (old_removed (with_txns [] w) v.number r went) o) (sees.section ∙ may.inside)
        ∙ ap (λ b. cond b (did (at_call (with_txns [] w) v.number place.Remove (Remove (Rev r)) Packed Packed went) (answer went)) (barred (with_txns [] w))) below
        ∙ ap (λ z. did z (answer went)) (removal_is (with_txns [] w) v.number r went))

    kept : (went : Went) → Kept (with_txns [] (after_it went))
    kept went = kept_bare (after_it went) (step_keeps (with_txns [] w) (step.RemoveOld v.number r went) (did (after_it went) (answer went)) (happens went) store.kept).kept

    abbrev view : Went → View
    view went = record v { pass = learns (length w.history) place.Remove went v.pass; seen = w.history }

    seen : (went : Went) → Sees (after_it went) (view went)
    unfolding after_it
    seen went = record {
      pass = at_itself w.passes v.number (learns (length w.history) place.Remove went) v.pass sees.pass;
      seen = sym (take_all (length w.history) w.history (omega arith));
      section = held_here v.number Packed ∙ sym may.inside;
      up = refl;
      sure = sees.sure;
      whole = λ y e. refl;
      given = sees.given;
      opened = sees.opened;
      shown = store.shown;
      names = names_stay v.full v.section v.section w.disk (disk_after went (Remove (Rev r)) w.disk) none_read (found_apart (Remove (Rev r)) went w.disk refl) sees.names;
      firm = sees.firm;
    }
      where
        none_read : drawing_at v.section ≡ None
        none_read = ap drawing_at may.inside

    safe_here : Safe layout v.since old v.opened w.history None
    safe_here = subst (λ l. Safe layout v.since old v.opened w.history (doubt l)) lock safe

    turns : (went : Went) (new : Trace) → IsTraceOf layout no_others new.first new.operations (disk_after went (Remove (Rev r)) w.disk) → Safe layout v.since new v.opened w.history None
        → IsAfter layout low young stuck new w v (λ u. OldRemoved r went v u)
    unfolding after_it
    turns went new trace safe_then = record {
      world = after_it went;
      view = view went;
      store = record { trace = trace; size = store.size; whole = store.whole; kept = kept went; shown = store.shown; coming = tt; low_is = store.low_is; young_is = store.young_is; stuck_is = sym (ap stuck_place lock) ∙ store.stuck_is };
      sees = seen went;
      turned = record {
        turned = record { world = w; kept = store.kept; sees = sees; did = did (after_it went) (answer went); happens = happens went; answers = refl; after = kept went; leaves = seen went };
        is = refl;
        grows = (drop v.pass.seen w.history, take_drop v.pass.seen w.history ∙ ap (λ l. l ++ drop v.pass.seen w.history) (sym sees.seen));
      };
      all = refl;
      safe = safe_then;
      leaves = section_leaves w (after_it went) v.number (learns (length w.history) place.Remove went) Packed Packed went refl refl refl refl lock refl refl
          (λ last. (last.0, found_apart (Remove (Rev r)) went w.disk refl ∙ last.1, last.2))
          (floor_kept w.disk (disk_after went (Remove (Rev r)) w.disk) (floor_apart (Remove (Rev r)) went w.disk refl));
      layout_is = refl;
      since_is = refl;
      opened_is = refl;
      number_is = refl;
      left_is = refl;
    }

    stood : (went : Went) (e : Disk) → IsImage (disk_after went (Remove (Rev r)) w.disk) e → StoodFor layout v.opened w.history None e
    unfolding after_it
    stood went = stood_for layout v.opened (with_txns [] (after_it went)) store.size store.whole (kept went) sees.opened

    pub removal_comes : {E : Type 0} (told : Option Trace) (name : List ℕ) (result : Result Bool E) → name ≡ rev_name v r
        → IfOk result (λ is_there. PerformsIfThere is_there (real.Remove name) (Some old) told) → OnErr result (FailsAt (real.Remove name) (Some old) told) → Comes layout low young stuck told w v result (λ went u. Removal result r went v u)
    removal_comes told name result named ok err = by_result result ok err
      where
        name_is : name ≡ machine_name layout (Rev r)
        name_is = named ∙ ap (λ k. machine_name k (Rev r)) layout_is

        done : IsTraceOf layout no_others old.first (Done (real.Remove name) ∷ old.operations) (Remove (Rev r) ∷ w.disk)
        done = subst (λ n. IsTraceOf layout no_others old.first (Done (real.Remove n) ∷ old.operations) (Remove (Rev r) ∷ w.disk)) (sym name_is) (Removing old.operations w.disk (Rev r) store.trace may.fits)

        tried : IsTraceOf layout no_others old.first (Attempted (real.Remove name) ∷ old.operations) w.disk
        tried = Attempting old.operations w.disk (real.Remove name) store.trace

        middle : (m : Files) → (ImageAfter (real.Remove name) (files_after old.first old.operations) (real.IsImage old.first old.operations) m) ⊎ (TornBy (real.Remove name) (real.IsImage old.first old.operations) m) → (e : Disk) × IsImage (Remove (Rev r) ∷ w.disk) e × AreRead layout m e
        middle m c = ⊎_elim (λ i. image_read layout no_others old.first (Done (real.Remove name) ∷ old.operations) (Remove (Rev r) ∷ w.disk) done m i) (λ t. absurd t) c

        safe_done : (now : Disk) → IsTraceOf layout no_others old.first (Done (real.Remove name) ∷ old.operations) now → ((e : Disk) → IsImage now e → StoodFor layout v.opened w.history None e) → Safe layout v.since (add_operation (Done (real.Remove name)) old) v.opened w.history None
        safe_done now trace stands = safe_step layout v.since v.opened w.history old (Done (real.Remove name)) now (Remove (Rev r) ∷ w.disk) None None
            (image_read layout no_others old.first (Done (real.Remove name) ∷ old.operations) now trace) stands middle (stood Fine) (λ g p. p) safe_here

        safe_tried : Safe layout v.since (add_operation (Attempted (real.Remove name)) old) v.opened w.history None
        safe_tried = safe_step layout v.since v.opened w.history old (Attempted (real.Remove name)) w.disk (Remove (Rev r) ∷ w.disk) None None
            (image_read layout no_others old.first (Attempted (real.Remove name) ∷ old.operations) w.disk tried) (stood Before) middle (stood Fine) (λ g p. p) safe_here

        by_result : {E : Type 0} (result : Result Bool E) → IfOk result (λ is_there. PerformsIfThere is_there (real.Remove name) (Some old) told) → OnErr result (FailsAt (real.Remove name) (Some old) told)
            → Comes layout low young stuck told w v result (λ went u. Removal result r went v u)
        by_result (Ok true) ok err = (add_operation (Done (real.Remove name)) old, Fine, ok, refl, turns Fine (add_operation (Done (real.Remove name)) old) done (safe_done (Remove (Rev r) ∷ w.disk) done (stood Fine)))
        by_result (Ok false) ok err = (old, Fine, ok, refl, beside_turns place.Remove old store.trace safe Fine)
        by_result (Err e) ok err =
            ⊎_elim (λ same. (old, Before, same, refl, turns Before old store.trace safe_here))
            (λ more. ⊎_elim (λ same. (add_operation (Attempted (real.Remove name)) old, Before, same, refl, turns Before (add_operation (Attempted (real.Remove name)) old) tried safe_tried))
            (λ same. (add_operation (Done (real.Remove name)) old, After, same, refl, turns After (add_operation (Done (real.Remove name)) old) done (safe_done (Remove (Rev r) ∷ w.disk) done (stood After)))) more) err
