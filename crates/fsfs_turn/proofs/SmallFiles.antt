-- Reads of property files and of the floor.
use Rattle.std.proofs.Common.{◌≡◌, ◌<◌, ◌^◌, ℕ, List, [], length, Bool, true, false, cond, refl, sym, ap, subst, ◌∙◌, arith, take}
use Rattle.std.specs.Prelude.{Option, Some, Result, Ok, Err, IfOk, slice_get, nat_lt, nat_le, ◌||◌}
use Rattle.std.specs.FinMap.{get}
use Rattle.std.proofs.lemmas.List.{length-take}
use Rattle.std.proofs.lemmas.Option.{slice_get_within}
use Rattle.fsfs_layout.specs.Hash.Dump.{IsDump}
use Rattle.fsfs_layout.specs.FileNames.{only_name}
use Rattle.fsfs_layout.specs.Small.{IsRevLine}
use Rattle.fsfs_layout.specs.declared.layout.Layout.{Layout}
use Rattle.fsfs_layout.specs.declared.only_file.OnlyFile.TheVariants as only
use Rattle.fsfs_disk.specs.Trace.{Trace, files_now, file_at, IsRead}
use Rattle.fsfs_machine.specs.declared.contents.FileName.TheVariants.{Floor, Props}
use Rattle.fsfs_machine.specs.declared.contents.Contents.TheVariants.{PropsFile, Number}
use Rattle.fsfs_machine.specs.declared.machine.Recorded.{Recorded}
use Rattle.fsfs_base.specs.declared.places.place.DiskPlace.{DiskPlace}
use Rattle.fsfs_base.specs.declared.places.place.DiskPlace.TheVariants.{Read}
use Rattle.fsfs_machine.specs.declared.machine.Went.{Went}
use Rattle.fsfs_machine.specs.declared.machine.Went.TheVariants.{Fine, Before, After, Torn}
use Rattle.fsfs_machine.specs.declared.machine.Outcome.TheVariants as outcome
use Rattle.fsfs_machine.specs.declared.machine.Step.TheVariants as step
use Rattle.fsfs_machine.specs.Disk.{found}
use Rattle.fsfs_machine.specs.Machine.{World, did, barred, either, learns, sees_floor, number_of, is_known, turned, floor_of, floor_read, properties_in, has_read_props}
use Rattle.fsfs_machine.proofs.Images.{read_is_image}
use Rattle.fsfs_machine.proofs.Answering.{has_all}
use Rattle.fsfs_images.specs.RealNames.{machine_name}
use Rattle.fsfs_images.proofs.Showing.{now_read}
use Rattle.fsfs_machine.specs.declared.machine.Section.{Section}
use Rattle.fsfs_machine.specs.Kept.{FloorBy, rises, may_rise}
use Rattle.fsfs_turn.specs.Past.{IsWhole, doubt, Safe}
use Rattle.fsfs_turn.specs.Views.{View, props_name, Sees, with_txns, firm_read}
use Rattle.fsfs_turn.specs.Learning.{PropsRead, FloorRead}
use Rattle.fsfs_turn.specs.Standing.{no_others, IsStore}
use Rattle.fsfs_turn.proofs.TurnEnds.{IsAfter, Comes}
use Rattle.fsfs_turn.specs.Found.{shows_now}
use Rattle.fsfs_turn.proofs.Stepping.{get_taken, lock_is}
use Rattle.fsfs_turn.proofs.Due.{at_found}
use Rattle.fsfs_turn.proofs.Telling.{told_world, tells, tells_firm}

module _ (layout : Layout) (low young : ℕ) (stuck : Option DiskPlace) (t : Trace) (w : World) (v : View) (store : IsStore layout low young stuck t w) (sees : Sees w v) (layout_is : v.layout ≡ layout) (safe : Safe layout v.since t v.opened w.history (doubt w.lock)) where
  -- ---- the floor

  -- the one that the disk shows
  pub disk_floor : ℕ
  disk_floor = (shows_now layout low young stuck t w store).floor

  floor_there : found w.disk Floor ≡ Some (Number disk_floor)
  unfolding disk_floor
  floor_there = (shows_now layout low young stuck t w store).is

  -- it is of whole shards
  pub floor_whole : IsWhole v.layout disk_floor
  unfolding disk_floor
  floor_whole = subst (λ k. IsWhole k disk_floor) (sym layout_is) (shows_now layout low young stuck t w store).whole

  -- in a section that doesn't raise it, it is firm
  firm_here : (s : Section) → v.section ≡ Some s → rises s ≡ false → w.floor ≡ disk_floor
  firm_here s at level =
      let calm : may_rise w.lock ≡ false = ap may_rise (lock_is v.number w.lock s (sees.section ∙ at)) ∙ level in
      let shown : found w.disk Floor ≡ Some (Number w.floor) = subst (λ b. FloorBy b w.size w.floor w.disk) calm (store.kept.floors w.disk (read_is_image w.disk)) in
      let both : Some (Number w.floor) ≡ Some (Number disk_floor) = sym shown ∙ floor_there in
      cc

  -- so it is what the pass knows then
  firm_then : (went : Went) (s : Section) (f : ℕ) → v.section ≡ Some s → firm_read v.section went disk_floor v.firm ≡ Some f → w.floor ≡ f
  firm_then went s f at e = by_went went (ap (λ o. firm_read o went disk_floor v.firm) (sym at) ∙ e)
    where
      by_rise : (b : Bool) → rises s ≡ b → cond b v.firm (Some disk_floor) ≡ Some f → w.floor ≡ f
      by_rise true u e = sees.firm s f at e
      by_rise false u e = let same : disk_floor ≡ f = cc in firm_here s at u ∙ same

      by_went : (went : Went) → firm_read (Some s) went disk_floor v.firm ≡ Some f → w.floor ≡ f
      by_went Fine e = by_rise (rises s) refl e
      by_went Before e = sees.firm s f at e
      by_went After e = sees.firm s f at e
      by_went (Torn any) e = sees.firm s f at e

  floor_happens : (went : Went) → did (told_world w v.number (sees_floor (length w.history) went (Some disk_floor)) [] [] [] []) (either went (outcome.Floor disk_floor) outcome.Failed)
      ≡ floor_read (with_txns [] w) v.number went (slice_get w.passes v.number)
  floor_happens went = sym (ap (λ o. floor_read (with_txns [] w) v.number went o) sees.pass
      ∙ ap (λ c. did (told_world w v.number (sees_floor (length w.history) went (number_of c)) [] [] [] []) (either went (floor_of (number_of c)) outcome.Failed)) floor_there)

  pub floor_turns : (went : Went) → IsAfter layout low young stuck t w v (λ u. FloorRead disk_floor went v u)
  floor_turns went = tells_firm layout low young stuck t w v store sees (with_txns []) (step.ReadFloor v.number went) (either went (outcome.Floor disk_floor) outcome.Failed)
      (λ n. sees_floor n went (Some disk_floor)) (firm_read v.section went disk_floor v.firm) (firm_then went) [] [] [] [] store.kept (floor_happens went) refl refl t store.trace safe

  pub floor_file : (name : List ℕ) → name ≡ only_name only.MinUnpackedRev → (text : List ℕ) × (file_at t name ≡ Some text) × IsRevLine text disk_floor
  floor_file name named =
      let at = at_found layout Floor (get (files_now t) (machine_name layout Floor)) (found w.disk Floor) (Number disk_floor) floor_there ((now_read layout no_others t.first t.operations w.disk store.trace).read Floor tt) in
      (at.0, ap (λ n. get (files_now t) n) named ∙ at.1, at.2)

  pub floor_comes : {X E : Type 0} (told : Option Trace) → told ≡ Some t → (result : Result X E) → Comes layout low young stuck told w v result (λ went u. FloorRead disk_floor went v u)
  floor_comes told same (Ok o) = (t, Fine, same, refl, floor_turns Fine)
  floor_comes told same (Err e) = (t, Before, same, refl, floor_turns Before)

  -- what is read there is its line
  pub floor_line : {E : Type 0} (offset : ℕ) (name old new : List ℕ) → name ≡ only_name only.MinUnpackedRev → (result : Result (Option ℕ) E) → IfOk result (IsRead (file_at t name) offset old new)
      → (text : List ℕ) × IsRevLine text disk_floor × IfOk result (IsRead (Some text) offset old new)
  floor_line offset name old new named (Ok o) read = let file = floor_file name named in (file.0, file.2, subst (λ f. IsRead f offset old new o) file.1 read)
  floor_line offset name old new named (Err e) read = let file = floor_file name named in (file.0, file.2, tt)

  -- ---- the properties of a revision

  module _ (r : ℕ) (x : Recorded) (there : slice_get v.seen r ≡ Some x) where
    here : slice_get (take v.pass.seen w.history) r ≡ Some x
    here = subst (λ h. slice_get h r ≡ Some x) sees.seen there

    known_it : is_known v.pass r ≡ true
    known_it =
        let less : r < length (take v.pass.seen w.history) = slice_get_within (take v.pass.seen w.history) r x here in
        let e : nat_lt r v.pass.seen ≡ true = (let l : r < v.pass.seen = omega (arith, less, length-take v.pass.seen w.history) in grind (arith, l)) in
        ap (λ b. b || nat_le r v.pass.least) e

    props_there : found w.disk (Props r) ≡ Some (PropsFile x.revision.properties)
    props_there = (has_all w.size w.floor w.history w.lock w.disk (store.kept.stands w.disk (read_is_image w.disk)) r x (get_taken v.pass.seen r w.history x here)).1

    props_happens : (went : Went) → did (told_world w v.number (learns (length w.history) Read went) [] [] [] []) (either went (outcome.Properties x.revision.properties) outcome.Failed)
        ≡ has_read_props (with_txns [] w) v.number r went (slice_get w.passes v.number)
    props_happens went = sym (ap (λ o. has_read_props (with_txns [] w) v.number r went o) sees.pass
        ∙ ap (λ b. cond b (did (turned (with_txns [] w) v.number Read went) (either went (properties_in (found w.disk (Props r))) outcome.Failed)) (barred (with_txns [] w))) known_it
        ∙ ap (λ c. did (turned (with_txns [] w) v.number Read went) (either went (properties_in c) outcome.Failed)) props_there)

    pub props_turns : (went : Went) → IsAfter layout low young stuck t w v (λ u. PropsRead r x went v u)
    props_turns went = tells layout low young stuck t w v store sees (with_txns []) (step.ReadProps v.number r went) (either went (outcome.Properties x.revision.properties) outcome.Failed)
        (λ n. learns n Read went) [] [] [] [] store.kept (props_happens went) refl refl t store.trace safe

    pub props_file : r < 2 ^ 32 → (name : List ℕ) → name ≡ props_name v r → (text : List ℕ) × (file_at t name ≡ Some text) × IsDump text x.revision.properties
    props_file fits name named =
        let at = at_found layout (Props r) (get (files_now t) (machine_name layout (Props r))) (found w.disk (Props r)) (PropsFile x.revision.properties) props_there ((now_read layout no_others t.first t.operations w.disk store.trace).read (Props r) fits) in
        (at.0, ap (λ n. get (files_now t) n) (named ∙ ap (λ k. machine_name k (Props r)) layout_is) ∙ at.1, at.2)

    pub props_comes : {X E : Type 0} (told : Option Trace) → told ≡ Some t → (result : Result X E) → Comes layout low young stuck told w v result (λ went u. PropsRead r x went v u)
    props_comes told same (Ok o) = (t, Fine, same, refl, props_turns Fine)
    props_comes told same (Err e) = (t, Before, same, refl, props_turns Before)

    -- what is read there is a dump of them
    pub props_text : {E : Type 0} (offset : ℕ) → r < 2 ^ 32 → (name old new : List ℕ) → name ≡ props_name v r → (result : Result (Option ℕ) E) → IfOk result (IsRead (file_at t name) offset old new)
        → (text : List ℕ) × IsDump text x.revision.properties × IfOk result (IsRead (Some text) offset old new)
    props_text offset fits name old new named (Ok o) read = let file = props_file fits name named in (file.0, file.2, subst (λ f. IsRead f offset old new o) file.1 read)
    props_text offset fits name old new named (Err e) read = let file = props_file fits name named in (file.0, file.2, tt)
