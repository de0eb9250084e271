-- The one pass of an owned store stays alone: each of its turns but a reveal adds no revision, and no turn but one that leaves a revision in
-- doubt leaves the lock stuck.
use Rattle.std.proofs.Common.{◌≡◌, ◌⊎◌, ◌≤◌, ◌+◌, ◌++◌, ◌∷◌, [], ℕ, List, length, true, false, cond, inl, inr, ⊎_elim, refl, sym, ap, subst, ◌∙◌, arith, append-nil, length-append}
use Rattle.std.proofs.lemmas.List.{nil_from_length}
use Rattle.std.specs.Prelude.{Bool, Option, Some, None, Result, Ok, Err, option_map, OnOk, OnErr, IfOk}
use Rattle.fsfs_base.specs.Files.{Files}
use Rattle.fsfs_layout.specs.declared.layout.Layout.{Layout}
use Rattle.fsfs_layout.specs.Small.{IsRevLine}
use Rattle.fsfs_layout.specs.Hash.Dump.{IsDump}
use Rattle.fsfs_tree.specs.Revisions.{Revision}
use Rattle.fsfs_disk.specs.Labels.{Label}
use Rattle.fsfs_disk.specs.Trace.{Trace, Operation, Done, Attempted, add_operation, change_of, Performs, PerformsIfThere, FailsAt, FailsToPut, FailsToAdopt}
use Rattle.fsfs_disk.specs.Trace as real
use Rattle.fsfs_disk.proofs.TraceLemmas.{ended, ended_put, ended_adopt, ended_if_there}
use Rattle.fsfs_base.specs.declared.places.place.DiskPlace.{DiskPlace}
use Rattle.fsfs_base.specs.declared.places.place.DiskPlace.TheVariants.{Begin, Commit}
use Rattle.fsfs_base.specs.declared.places.place.DiskPlace.TheVariants as disk
use Rattle.fsfs_base.specs.declared.places.place.BeginPlace.TheVariants as begin
use Rattle.fsfs_base.specs.declared.places.place.CommitPlace.TheVariants.{PutRev, PutProps, FirmRev, PutCurrent, RenameCurrent, FirmCurrent}
use Rattle.fsfs_base.specs.declared.places.place.PackPlace.TheVariants as pack
use Rattle.fsfs_machine.specs.declared.machine.Recorded.{Recorded}
use Rattle.fsfs_machine.specs.declared.machine.Coming.{Coming}
use Rattle.fsfs_machine.specs.declared.machine.Drawn.{Drawn}
use Rattle.fsfs_machine.specs.declared.machine.Txn.{Txn}
use Rattle.fsfs_machine.specs.declared.machine.Section.{Section}
use Rattle.fsfs_machine.specs.declared.machine.Section.TheVariants.{Begun, CountRead, CountPut, CountRenamed, RevPut, PropsPut, RevFirm, CurrentPut, CurrentRenamed, CurrentFirm, Doubtful, PackPut, ManifestPut, PackFirm, FloorPut, FloorRenamed, Packed, FloorDoubtful, Over}
use Rattle.fsfs_machine.specs.declared.machine.Step.{Step}
use Rattle.fsfs_machine.specs.declared.machine.Went.{Went}
use Rattle.fsfs_machine.specs.declared.machine.Went.TheVariants.{Fine, Before, After, Torn}
use Rattle.fsfs_machine.specs.Machine.{recorded, either, after, spoiled}
use Rattle.fsfs_turn.specs.Views.{View, Begins, coming_of, IsDue, Answers, Called, Adopted, Looked, LockTaken, FoundStuck, MustStick, LockGiven, Revealed}
use Rattle.fsfs_turn.specs.Learning.{PropsRead, FloorRead, drawn_of, CounterRead, ReadsCounter, Listed, BenchMade, Purged, SpentPurged}
use Rattle.fsfs_turn.specs.Packing.{DoneBeside, OldRemoved, Removal}
use Rattle.fsfs_turn.specs.Past.{IsWhole}
use Rattle.fsfs_turn.specs.Standing.{Knows}
use Rattle.fsfs_turn.specs.Stands.{OwnFilesLast}
use Rattle.fsfs_turn.specs.declared.since.Since.{Since}
use Rattle.fsfs_turn.specs.Alone.{leaves_stuck, are_harmless, is_doubtful, is_doubtful_at, KnowsAlone, AloneStays, AloneAdds}
use Rattle.fsfs_turn.specs.Found.{seen_within}
use Rattle.fsfs_turn.proofs.OwnFiles.{IsNotOwn, SparesOwn, own_last}

-- ---- for callers

-- a history that goes on and is no longer is the same
pub same_by_length : (h g : List Recorded) → Begins g h → length g ≤ length h → g ≡ h
same_by_length h g b le =
    let long : length g ≡ length h + length b.0 = ap length b.1 ∙ length-append h b.0 in
    let none : b.0 ≡ [] = nil_from_length b.0 (omega (arith, le, long)) in
    b.1 ∙ ap (λ (l : List Recorded). h ++ l) none ∙ append-nil h

pub alone_stays : AloneStays
alone_stays young now stuck left v u a b grows opened mine =
    let own : length u.pass.mine ≡ length v.pass.mine = ap length mine in
    (same_by_length v.seen u.seen grows (omega (arith, a.own, b.own, opened, own)), omega (arith, a.all, b.all, a.own, b.own, opened, own))

pub alone_adds : AloneAdds
alone_adds young now rev stuck left v u before next a b is grows opened mine =
    let own : length u.pass.mine ≡ length v.pass.mine + 1 = ap length mine ∙ length-append v.pass.mine (rev ∷ []) in
    let long : length u.seen ≡ length before + 1 = ap length is ∙ length-append before (next ∷ []) in
    (same_by_length v.seen before grows (omega (arith, a.own, b.own, opened, own, long)), omega (arith, a.all, b.all, a.own, b.own, opened, own))

-- ---- faults

harmless_end : (places : List DiskPlace) (place : DiskPlace) → are_harmless (places ++ place ∷ []) ≡ true → (are_harmless places ≡ true) × (leaves_stuck place ≡ false)
harmless_end [] place e = (refl, by_test (leaves_stuck place) e)
  where
    by_test : (b : Bool) → cond b false true ≡ true → b ≡ false
    by_test true e = absurd cc
    by_test false e = refl
harmless_end (x ∷ places) place e = by_test (leaves_stuck x) e (harmless_end places place)
  where
    by_test : (b : Bool) → cond b false (are_harmless (places ++ place ∷ [])) ≡ true → (are_harmless (places ++ place ∷ []) ≡ true → (are_harmless places ≡ true) × (leaves_stuck place ≡ false))
        → (cond b false (are_harmless places) ≡ true) × (leaves_stuck place ≡ false)
    by_test true e rest = absurd cc
    by_test false e rest = rest e

-- after a call the faults are harmless only where they were before
pub harmless_before : (went : Went) (places : List DiskPlace) (place : DiskPlace) → are_harmless (either went places (places ++ place ∷ [])) ≡ true → are_harmless places ≡ true
harmless_before Fine places place e = e
harmless_before Before places place e = (harmless_end places place e).0
harmless_before After places place e = (harmless_end places place e).0
harmless_before (Torn any) places place e = (harmless_end places place e).0

-- a section that went on is not in doubt
pub after_calm : (s : Section) → is_doubtful (after s) ≡ false
after_calm Begun = refl
after_calm (CountRead x) = refl
after_calm (CountPut x) = refl
after_calm (CountRenamed x) = refl
after_calm (RevPut x) = refl
after_calm (PropsPut x) = refl
after_calm (RevFirm x) = refl
after_calm (CurrentPut x) = refl
after_calm (CurrentRenamed x) = refl
after_calm (CurrentFirm x) = refl
after_calm (Doubtful place x) = refl
after_calm PackPut = refl
after_calm ManifestPut = refl
after_calm PackFirm = refl
after_calm FloorPut = refl
after_calm FloorRenamed = refl
after_calm Packed = refl
after_calm (FloorDoubtful place) = refl
after_calm Over = refl

spoiled_sound : (s : Section) (place : DiskPlace) → (is_doubtful (spoiled s) ≡ true → leaves_stuck place ≡ true) → leaves_stuck place ≡ false → is_doubtful (spoiled s) ≡ false
spoiled_sound s place brings not = by_test (is_doubtful (spoiled s)) brings
  where
    by_test : (b : Bool) → (b ≡ true → leaves_stuck place ≡ true) → b ≡ false
    by_test true brings = sym (brings refl) ∙ not
    by_test false brings = refl

called_sound : (went : Went) (s : Section) (places : List DiskPlace) (place : DiskPlace) → (is_doubtful (spoiled s) ≡ true → leaves_stuck place ≡ true)
    → are_harmless (either went places (places ++ place ∷ [])) ≡ true → is_doubtful (either went (after s) (spoiled s)) ≡ false
called_sound Fine s places place brings e = after_calm s
called_sound Before s places place brings e = spoiled_sound s place brings (harmless_end places place e).1
called_sound After s places place brings e = spoiled_sound s place brings (harmless_end places place e).1
called_sound (Torn any) s places place brings e = spoiled_sound s place brings (harmless_end places place e).1

pub either_calm : (went : Went) (s t : Section) → is_doubtful s ≡ false → is_doubtful t ≡ false → is_doubtful (either went s t) ≡ false
either_calm Fine s t a b = a
either_calm Before s t a b = b
either_calm After s t a b = b
either_calm (Torn any) s t a b = b

same_section : (s t : Section) → Some s ≡ Some t → s ≡ t
same_section s t e = cc

spoiled_by : (inside s : Section) (at : Option Section) → at ≡ Some s → at ≡ Some inside → is_doubtful (spoiled s) ≡ false → is_doubtful (spoiled inside) ≡ true → false ≡ true
spoiled_by inside s at is was calm doubtful = sym calm ∙ ap (λ z. is_doubtful (spoiled z)) (same_section s inside (sym is ∙ was)) ∙ doubtful

-- the call that is due leaves the lock to be stuck only at these places
pub due_brings : (v : View) (place : DiskPlace) (change : real.NameChange) → IsDue v place change → (inside : Section) → v.section ≡ Some inside → is_doubtful (spoiled inside) ≡ true → leaves_stuck place ≡ true
due_brings v (Begin begin.Put) (real.Put name bytes) d inside was doubtful = spoiled_by inside (CountRead d.0) v.section d.1 was refl doubtful
due_brings v (Begin begin.Rename) (real.Rename from to) d inside was doubtful = spoiled_by inside (CountPut d.0) v.section d.1 was refl doubtful
due_brings v (Begin begin.Firm) real.FirmNames d inside was doubtful = spoiled_by inside (CountRenamed d.0) v.section d.1 was refl doubtful
due_brings v (Commit PutProps) (real.Put name bytes) d inside was doubtful = spoiled_by inside (RevPut d.0) v.section d.1 was refl doubtful
due_brings v (Commit FirmRev) real.FirmNames d inside was doubtful = spoiled_by inside (PropsPut d.0) v.section d.1 was refl doubtful
due_brings v (Commit PutCurrent) (real.Put name bytes) d inside was doubtful = spoiled_by inside (RevFirm d.0) v.section d.1 was refl doubtful
due_brings v (Commit RenameCurrent) (real.Rename from to) d inside was doubtful = refl
due_brings v (Commit FirmCurrent) real.FirmNames d inside was doubtful = refl
due_brings v (disk.Pack pack.AdoptPack) (real.Adopt name bytes) d inside was doubtful = ⊎_elim
    (λ (begun : v.section ≡ Some Begun). spoiled_by inside Begun v.section begun was refl doubtful)
    (λ (packed : v.section ≡ Some Packed). spoiled_by inside Packed v.section packed was refl doubtful) d.2
due_brings v (disk.Pack pack.AdoptManifest) (real.Adopt name bytes) d inside was doubtful = spoiled_by inside PackPut v.section d.2 was refl doubtful
due_brings v (disk.Pack pack.FirmPack) real.FirmNames d inside was doubtful = spoiled_by inside ManifestPut v.section d was refl doubtful
due_brings v (disk.Pack pack.PutFloor) (real.Put name bytes) d inside was doubtful = spoiled_by inside PackFirm v.section d.2 was refl doubtful
due_brings v (disk.Pack pack.RenameFloor) (real.Rename from to) d inside was doubtful = refl
due_brings v (disk.Pack pack.FirmFloor) real.FirmNames d inside was doubtful = refl
due_brings v place change d inside was doubtful = absurd d

-- ---- the files that no turn touches

-- a call of the disk adds one operation to its trace, which spares them, or none
abbrev pub GoesOn : Bool → Option Trace → Option Trace → Type 0
GoesOn packs old new = (new ≡ old) ⊎ ((op : Operation) × SparesOwn packs (change_of op) × (new ≡ option_map (add_operation op) old))

goes_at : (packs : Bool) (change : real.NameChange) → SparesOwn packs change → (old new : Option Trace) → FailsAt change old new → GoesOn packs old new
goes_at packs change spares old new w = ⊎_elim (λ same. inl same) (λ more. ⊎_elim (λ tried. inr (Attempted change, spares, tried)) (λ done. inr (Done change, spares, done)) more) w

pub goes_by : {X E : Type 0} (packs : Bool) (change : real.NameChange) → SparesOwn packs change → (old new : Option Trace) (result : Result X E) → OnOk result (Performs change old new) → OnErr result (FailsAt change old new) → GoesOn packs old new
goes_by packs change spares old new result ok err = goes_at packs change spares old new (ended change old new result ok err)

pub goes_by_put : {X E : Type 0} (packs : Bool) (name bytes : List ℕ) → IsNotOwn packs name → (old new : Option Trace) (result : Result X E) → OnOk result (Performs (real.Put name bytes) old new) → OnErr result (FailsToPut name bytes old new) → GoesOn packs old new
goes_by_put packs name bytes spares old new result ok err =
    ⊎_elim (λ same. inl same) (λ more. ⊎_elim (λ tried. inr (Attempted (real.Put name bytes), spares, tried)) (λ done. inr (Done (real.Put name done.0), spares, done.1)) more) (ended_put name bytes old new result ok err)

pub goes_by_adoption : {X E : Type 0} (packs : Bool) (change : real.NameChange) → SparesOwn packs change → (old new : Option Trace) (without : Files → Files) (held left : Option Files) (result : Result X E)
    → OnOk result (Performs change old new) → OnErr result (FailsToAdopt change old new without held left) → GoesOn packs old new
goes_by_adoption packs change spares old new without held left result ok err = goes_at packs change spares old new (ended_adopt change old new without held left result ok err)

pub goes_if_there : {E : Type 0} (packs : Bool) (change : real.NameChange) → SparesOwn packs change → (old new : Option Trace) (result : Result Bool E) → IfOk result (λ there. PerformsIfThere there change old new) → OnErr result (FailsAt change old new) → GoesOn packs old new
goes_if_there packs change spares old new result ok err = goes_at packs change spares old new (ended_if_there change old new result ok err)

own_next : (layout : Layout) (since now : Since) (old new : Option Trace) → now ≡ since → GoesOn since.packs old new → OwnFilesLast layout since old → OwnFilesLast layout now new
own_next layout since now old new same goes own = subst (λ n. OwnFilesLast layout n new) (sym same) (⊎_elim
    (λ is. subst (λ o. OwnFilesLast layout since o) (sym is) own)
    (λ more. subst (λ o. OwnFilesLast layout since o) (sym more.2) (added old more.0 more.1 own)) goes)
  where
    added : (told : Option Trace) (op : Operation) → SparesOwn since.packs (change_of op) → OwnFilesLast layout since told → OwnFilesLast layout since (option_map (add_operation op) told)
    added None op spares own = tt
    added (Some t) op spares own = own_last layout since t op spares own

-- ---- turns

-- no more is seen than there is
pub seen_bound : (layout : Layout) (low young : ℕ) (stuck : Option DiskPlace) (told : Option Trace) (v : View) → Knows layout low young stuck told v → length v.seen ≤ young + 1
seen_bound layout low young stuck None v known = absurd known
seen_bound layout low young stuck (Some t) v known = let up : known.0.young + 1 ≡ length known.0.history = known.1.kept.young known.2.up in omega (arith, up, seen_within known.0 v known.2, known.1.young_is)

pub no_shorter : (h g : List Recorded) → Begins g h → length h ≤ length g
no_shorter h g b = let long : length g ≡ length h + length b.0 = ap length b.1 ∙ length-append h b.0 in omega (arith, long)

-- what the pass knows after a turn
module _ (layout : Layout) (low young : ℕ) (stuck : Option DiskPlace) (old new : Option Trace) (v : View) (goes : GoesOn v.since.packs old new) (known : KnowsAlone layout low young stuck old v) where
  -- one that added no revision, and by which no section came to be in doubt but by a fault that isn't harmless
  then_known : (u : View) → Knows layout low young stuck new u → length u.seen ≡ length v.seen → u.opened ≡ v.opened → u.since ≡ v.since → u.pass.mine ≡ v.pass.mine → u.pass.stuck ≡ v.pass.stuck → (are_harmless u.pass.faults ≡ true → are_harmless v.pass.faults ≡ true)
      → (are_harmless u.pass.faults ≡ true → is_doubtful_at v.section ≡ false → is_doubtful_at u.section ≡ false) → KnowsAlone layout low young stuck new u
  then_known u now seen opened since mine found faults sound =
      let own : length u.pass.mine ≡ length v.pass.mine = ap length mine in (
        now,
        record { all = omega (arith, known.1.all, seen); own = omega (arith, known.1.own, seen, opened, own); free = λ few. known.1.free (faults few); sound = λ few. sound few (known.1.sound (faults few)); found = λ few. found ∙ known.1.found (faults few) },
        own_next layout v.since u.since old new since goes known.2,
      )

  -- one that leaves what was seen, and the faults
  leaves : (u : View) → Knows layout low young stuck new u → u.seen ≡ v.seen → u.opened ≡ v.opened → u.since ≡ v.since → u.pass.mine ≡ v.pass.mine → u.pass.stuck ≡ v.pass.stuck → u.pass.faults ≡ v.pass.faults
      → (is_doubtful_at v.section ≡ false → is_doubtful_at u.section ≡ false) → KnowsAlone layout low young stuck new u
  leaves u now seen opened since mine found faults sound = then_known u now (ap length seen) opened since mine found (λ few. sym (ap (λ l. are_harmless l) faults) ∙ few) (λ few s. sound s)

  -- one that tells the history as it is
  learned : (place : DiskPlace) (went : Went) (u : View) → Knows layout low young stuck new u → Begins u.seen v.seen → u.opened ≡ v.opened → u.since ≡ v.since → u.pass.mine ≡ v.pass.mine → u.pass.stuck ≡ v.pass.stuck → u.pass.faults ≡ either went v.pass.faults (v.pass.faults ++ place ∷ [])
      → (are_harmless (either went v.pass.faults (v.pass.faults ++ place ∷ [])) ≡ true → is_doubtful_at v.section ≡ false → is_doubtful_at u.section ≡ false) → KnowsAlone layout low young stuck new u
  learned place went u now grows opened since mine found faults sound =
      let same : are_harmless u.pass.faults ≡ are_harmless (either went v.pass.faults (v.pass.faults ++ place ∷ [])) = ap (λ l. are_harmless l) faults in
      then_known u now (omega (arith, known.1.all, seen_bound layout low young stuck new u now, no_shorter v.seen u.seen grows)) opened since mine found
      (λ few. harmless_before went v.pass.faults place (sym same ∙ few)) (λ few s. sound (sym same ∙ few) s)

  same_at : (u : View) → u.section ≡ v.section → is_doubtful_at v.section ≡ false → is_doubtful_at u.section ≡ false
  same_at u is s = ap (λ o. is_doubtful_at o) is ∙ s

  pub look_alone : (u : View) × Knows layout low young stuck new u × Looked young v u → (u : View) × KnowsAlone layout low young stuck new u × Looked young v u
  look_alone w = (w.0, leaves w.0 w.1 (ap {A = View} (λ z. z.seen) w.2.is) (ap {A = View} (λ z. z.opened) w.2.is) (ap {A = View} (λ z. z.since) w.2.is) (ap {A = View} (λ z. z.pass.mine) w.2.is) (ap {A = View} (λ z. z.pass.stuck) w.2.is) (ap {A = View} (λ z. z.pass.faults) w.2.is) (same_at w.0 (ap {A = View} (λ z. z.section) w.2.is)), w.2)

  pub take_alone : (u : View) × Knows layout low young stuck new u × LockTaken v u → (u : View) × KnowsAlone layout low young stuck new u × LockTaken v u
  take_alone w = (w.0, leaves w.0 w.1 (ap {A = View} (λ z. z.seen) w.2.is) (ap {A = View} (λ z. z.opened) w.2.is) (ap {A = View} (λ z. z.since) w.2.is) (ap {A = View} (λ z. z.pass.mine) w.2.is) (ap {A = View} (λ z. z.pass.stuck) w.2.is) (ap {A = View} (λ z. z.pass.faults) w.2.is) (λ s. ap {A = View} (λ z. is_doubtful_at z.section) w.2.is), w.2)

  -- it is found stuck only where a fault brought doubt
  pub stuck_alone : (place : DiskPlace) → stuck ≡ Some place → (u : View) × Knows layout low young stuck new u × FoundStuck place v u → (u : View) × KnowsAlone layout low young stuck new u × FoundStuck place v u
  stuck_alone place is w = (
    w.0,
    (
      w.1,
      record {
        all = omega (arith, known.1.all, seen);
        own = omega (arith, known.1.own, seen, opened, own);
        free = λ few. known.1.free (sym faults ∙ few);
        sound = λ few. ap {A = View} (λ z. is_doubtful_at z.section) w.2.is ∙ known.1.sound (sym faults ∙ few);
        found = λ few. doubtless few;
      },
      own_next layout v.since w.0.since old new (ap {A = View} (λ z. z.since) w.2.is) goes known.2,
    ),
    w.2,
  )
    where
      seen : length w.0.seen ≡ length v.seen
      seen = ap {A = View} (λ z. length z.seen) w.2.is

      opened : w.0.opened ≡ v.opened
      opened = ap {A = View} (λ z. z.opened) w.2.is

      own : length w.0.pass.mine ≡ length v.pass.mine
      own = ap {A = View} (λ z. length z.pass.mine) w.2.is

      faults : are_harmless w.0.pass.faults ≡ are_harmless v.pass.faults
      faults = ap {A = View} (λ z. are_harmless z.pass.faults) w.2.is

      doubtless : are_harmless w.0.pass.faults ≡ true → w.0.pass.stuck ≡ None
      doubtless few = let both : None ≡ Some place = sym (known.1.free (sym faults ∙ few)) ∙ is in absurd cc

  pub give_alone : (step : Step) → (u : View) × Knows layout low young stuck new u × LockGiven step v u → (u : View) × KnowsAlone layout low young stuck new u × LockGiven step v u
  give_alone step w = (w.0, leaves w.0 w.1 (ap {A = View} (λ z. z.seen) w.2.is) (ap {A = View} (λ z. z.opened) w.2.is) (ap {A = View} (λ z. z.since) w.2.is) (ap {A = View} (λ z. z.pass.mine) w.2.is) (ap {A = View} (λ z. z.pass.stuck) w.2.is) (ap {A = View} (λ z. z.pass.faults) w.2.is) (λ s. ap {A = View} (λ z. is_doubtful_at z.section) w.2.is), w.2)

  -- it is left stuck only where the section was in doubt
  pub stick_alone : (place : DiskPlace) (step : Step) → MustStick place v → (u : View) × Knows layout low young (Some place) new u × LockGiven step v u → (u : View) × KnowsAlone layout low young (Some place) new u × LockGiven step v u
  stick_alone place step must w = (
    w.0,
    (
      w.1,
      record { all = omega (arith, known.1.all, seen); own = omega (arith, known.1.own, seen, opened, own); free = λ few. doubtless few; sound = λ few. ap {A = View} (λ z. is_doubtful_at z.section) w.2.is; found = λ few. found ∙ known.1.found (sym faults ∙ few) },
      own_next layout v.since w.0.since old new (ap {A = View} (λ z. z.since) w.2.is) goes known.2,
    ),
    w.2,
  )
    where
      seen : length w.0.seen ≡ length v.seen
      seen = ap {A = View} (λ z. length z.seen) w.2.is

      opened : w.0.opened ≡ v.opened
      opened = ap {A = View} (λ z. z.opened) w.2.is

      own : length w.0.pass.mine ≡ length v.pass.mine
      own = ap {A = View} (λ z. length z.pass.mine) w.2.is

      faults : are_harmless w.0.pass.faults ≡ are_harmless v.pass.faults
      faults = ap {A = View} (λ z. are_harmless z.pass.faults) w.2.is

      found : w.0.pass.stuck ≡ v.pass.stuck
      found = ap {A = View} (λ z. z.pass.stuck) w.2.is

      must_doubt : MustStick place v → is_doubtful_at v.section ≡ true
      must_doubt must = ⊎_elim
          (λ (d : (x : Coming) × (v.section ≡ Some (Doubtful place x))). ap (λ o. is_doubtful_at o) d.1)
          (λ (at : v.section ≡ Some (FloorDoubtful place)). ap (λ o. is_doubtful_at o) at) must

      doubtless : are_harmless w.0.pass.faults ≡ true → Some place ≡ None
      doubtless few = let both : false ≡ true = sym (known.1.sound (sym faults ∙ few)) ∙ must_doubt must in absurd cc

  adopted_alone : (txn : Txn) (properties : List (List ℕ × List ℕ)) (next : Revision) (bytes : List ℕ) (went : Went) (u : View) → Knows layout low young stuck new u → Adopted txn properties next bytes went v u → KnowsAlone layout low young stuck new u
  adopted_alone txn properties next bytes went u now a =
      let same : are_harmless u.pass.faults ≡ are_harmless (either went v.pass.faults (v.pass.faults ++ Commit PutRev ∷ [])) = ap {A = View} (λ z. are_harmless z.pass.faults) a.is in
      then_known u now (ap {A = View} (λ z. length z.seen) a.is) (ap {A = View} (λ z. z.opened) a.is) (ap {A = View} (λ z. z.since) a.is) (ap {A = View} (λ z. z.pass.mine) a.is) (ap {A = View} (λ z. z.pass.stuck) a.is) (λ few. harmless_before went v.pass.faults (Commit PutRev) (sym same ∙ few))
      (λ few s. ap {A = View} (λ z. is_doubtful_at z.section) a.is ∙ either_calm went (RevPut (coming_of v txn properties next bytes)) Over refl refl)

  pub adopt_alone : {X E : Type 0} (txn : Txn) (properties : List (List ℕ × List ℕ)) (next : Revision) (bytes : List ℕ) (result : Result X E)
      → (u : View) × (went : Went) × Knows layout low young stuck new u × Answers result went × Adopted txn properties next bytes went v u → (u : View) × (went : Went) × KnowsAlone layout low young stuck new u × Answers result went × Adopted txn properties next bytes went v u
  adopt_alone txn properties next bytes result w = (w.0, w.1, adopted_alone txn properties next bytes w.1 w.0 w.2 w.4, w.3, w.4)

  pub no_adopt_alone : (txn : Txn) (properties : List (List ℕ × List ℕ)) (next : Revision) (bytes : List ℕ) → (u : View) × Knows layout low young stuck new u × Adopted txn properties next bytes Before v u → (u : View) × KnowsAlone layout low young stuck new u × Adopted txn properties next bytes Before v u
  no_adopt_alone txn properties next bytes w = (w.0, adopted_alone txn properties next bytes Before w.0 w.1 w.2, w.2)

  -- a reveal adds one
  pub reveal_alone : (rev : ℕ) (x : Coming) → rev ≡ length v.seen → (u : View) × Knows layout low rev stuck new u × Revealed x v u → (u : View) × KnowsAlone layout low rev stuck new u × Revealed x v u
  reveal_alone rev x rev_is w = (
    w.0,
    (w.1, record { all = omega (arith, rev_is, long); own = omega (arith, known.1.own, long, opened, own); free = λ few. known.1.free (sym faults ∙ few); sound = λ few. ap {A = View} (λ z. is_doubtful_at z.section) w.2.is; found = λ few. ap {A = View} (λ z. z.pass.stuck) w.2.is ∙ known.1.found (sym faults ∙ few) }, own_next layout v.since w.0.since old new (ap {A = View} (λ z. z.since) w.2.is) goes known.2),
    w.2,
  )
    where
      long : length w.0.seen ≡ length v.seen + 1
      long = ap {A = View} (λ z. length z.seen) w.2.is ∙ length-append v.seen (recorded x ∷ [])

      opened : w.0.opened ≡ v.opened
      opened = ap {A = View} (λ z. z.opened) w.2.is

      own : length w.0.pass.mine ≡ length v.pass.mine + 1
      own = ap {A = View} (λ z. length z.pass.mine) w.2.is ∙ length-append v.pass.mine (length v.seen ∷ [])

      faults : are_harmless w.0.pass.faults ≡ are_harmless v.pass.faults
      faults = ap {A = View} (λ z. are_harmless z.pass.faults) w.2.is

  -- a call of its section
  called_alone : (place : DiskPlace) (change : real.NameChange) (went : Went) (u : View) → IsDue v place change → Knows layout low young stuck new u → Called place went v u → KnowsAlone layout low young stuck new u
  called_alone place change went u due now c = learned place went u now c.grows (ap {A = View} (λ z. z.opened) c.is) (ap {A = View} (λ z. z.since) c.is) (ap {A = View} (λ z. z.pass.mine) c.is) (ap {A = View} (λ z. z.pass.stuck) c.is) (ap {A = View} (λ z. z.pass.faults) c.is)
      (λ few s. ap {A = View} (λ z. is_doubtful_at z.section) c.is ∙ called_sound went c.inside v.pass.faults place (λ doubtful. due_brings v place change due c.inside c.was doubtful) few)

  pub call_alone : {X E : Type 0} (place : DiskPlace) (change : real.NameChange) (result : Result X E) → IsDue v place change → (u : View) × (went : Went) × Knows layout low young stuck new u × Answers result went × Called place went v u → (u : View) × (went : Went) × KnowsAlone layout low young stuck new u × Answers result went × Called place went v u
  call_alone place change result due w = (w.0, w.1, called_alone place change w.1 w.0 due w.2 w.4, w.3, w.4)

  pub no_call_alone : (place : DiskPlace) (change : real.NameChange) → IsDue v place change → (u : View) × Knows layout low young stuck new u × Called place Before v u → (u : View) × KnowsAlone layout low young stuck new u × Called place Before v u
  no_call_alone place change due w = (w.0, called_alone place change Before w.0 due w.1 w.2, w.2)

  -- with what is told beside it
  pub props_alone : {X E : Type 0} (r : ℕ) (x : Recorded) (result : Result X E) (Read : List ℕ → Type 0)
      → (u : View) × (went : Went) × (text : List ℕ) × Knows layout low young stuck new u × Answers result went × PropsRead r x went v u × IsDump text x.revision.properties × Read text
      → (u : View) × (went : Went) × (text : List ℕ) × KnowsAlone layout low young stuck new u × Answers result went × PropsRead r x went v u × IsDump text x.revision.properties × Read text
  props_alone r x result Read w = (w.0, w.1, w.2, learned disk.Read w.1 w.0 w.3 w.5.grows (ap {A = View} (λ z. z.opened) w.5.is) (ap {A = View} (λ z. z.since) w.5.is) (ap {A = View} (λ z. z.pass.mine) w.5.is) (ap {A = View} (λ z. z.pass.stuck) w.5.is) (ap {A = View} (λ z. z.pass.faults) w.5.is) (λ few. same_at w.0 (ap {A = View} (λ z. z.section) w.5.is)), w.4, w.5, w.6, w.7)

  pub floor_alone : {X E : Type 0} (result : Result X E) (Read : List ℕ → Type 0)
      → (u : View) × (went : Went) × (floor : ℕ) × (text : List ℕ) × Knows layout low young stuck new u × Answers result went × FloorRead floor went v u × IsWhole v.layout floor × IsRevLine text floor × Read text
      → (u : View) × (went : Went) × (floor : ℕ) × (text : List ℕ) × KnowsAlone layout low young stuck new u × Answers result went × FloorRead floor went v u × IsWhole v.layout floor × IsRevLine text floor × Read text
  floor_alone result Read w = (w.0, w.1, w.2, w.3, learned disk.Read w.1 w.0 w.4 w.6.grows (ap {A = View} (λ z. z.opened) w.6.is) (ap {A = View} (λ z. z.since) w.6.is) (ap {A = View} (λ z. z.pass.mine) w.6.is) (ap {A = View} (λ z. z.pass.stuck) w.6.is) (ap {A = View} (λ z. z.pass.faults) w.6.is) (λ few. same_at w.0 (ap {A = View} (λ z. z.section) w.6.is)), w.5, w.6, w.7, w.8, w.9)

  -- what it knew
  pub same_alone : Knows layout low young stuck new v → KnowsAlone layout low young stuck new v
  same_alone now = leaves v now refl refl refl refl refl refl (λ s. s)

  pub counter_alone : {E : Type 0} (files : Option Files) (base : ℕ) (result : Result (Option ℕ) E) (before filled : List ℕ) → ReadsCounter (Knows layout low young stuck new) files base result before filled v → ReadsCounter (KnowsAlone layout low young stuck new) files base result before filled v
  counter_alone files base result before filled c = record {
    text = c.text;
    number = c.number;
    line = c.line;
    files = c.files;
    files_are = c.files_are;
    there = c.there;
    read = c.read;
    turned = λ few. let w = c.turned few in (w.0, w.1, counted w.1 w.0 w.2 w.4, w.3, w.4);
    full = λ many. leaves (record v { full = true }) (c.full many) refl refl refl refl refl refl (λ s. s);
  }
    where
      counted : (went : Went) (u : View) → Knows layout low young stuck new u → CounterRead base c.number went v u → KnowsAlone layout low young stuck new u
      counted went u now r = learned (Begin begin.Read) went u now r.grows (ap {A = View} (λ z. z.opened) r.is) (ap {A = View} (λ z. z.since) r.is) (ap {A = View} (λ z. z.pass.mine) r.is) (ap {A = View} (λ z. z.pass.stuck) r.is) (ap {A = View} (λ z. z.pass.faults) r.is)
          (λ few s. ap {A = View} (λ z. is_doubtful_at z.section) r.is ∙ either_calm went (CountRead (drawn_of base c.number)) Over refl refl)

  pub list_alone : (labels : Option (List Label)) (went : Went) → (ls : List Label) × (labels ≡ Some ls) × (u : View) × Knows layout low young stuck new u × Listed ls went v u → (ls : List Label) × (labels ≡ Some ls) × (u : View) × KnowsAlone layout low young stuck new u × Listed ls went v u
  list_alone labels went w = (w.0, w.1, w.2, learned disk.List went w.2 w.3 w.4.grows (ap {A = View} (λ z. z.opened) w.4.is) (ap {A = View} (λ z. z.since) w.4.is) (ap {A = View} (λ z. z.pass.mine) w.4.is) (ap {A = View} (λ z. z.pass.stuck) w.4.is) (ap {A = View} (λ z. z.pass.faults) w.4.is) (λ few. same_at w.2 (ap {A = View} (λ z. z.section) w.4.is)), w.4)

  pub make_alone : {X E : Type 0} (x : Drawn) (result : Result X E) → (u : View) × (went : Went) × Knows layout low young stuck new u × Answers result went × BenchMade x went v u → (u : View) × (went : Went) × KnowsAlone layout low young stuck new u × Answers result went × BenchMade x went v u
  make_alone x result w = (w.0, w.1, learned disk.MakeBench w.1 w.0 w.2 w.4.grows (ap {A = View} (λ z. z.opened) w.4.is) (ap {A = View} (λ z. z.since) w.4.is) (ap {A = View} (λ z. z.pass.mine) w.4.is) (ap {A = View} (λ z. z.pass.stuck) w.4.is) (ap {A = View} (λ z. z.pass.faults) w.4.is) (λ few. same_at w.0 (ap {A = View} (λ z. z.section) w.4.is)), w.3, w.4)

  pub purge_alone : {X E : Type 0} (txn : Txn) (result : Result X E) → (u : View) × (went : Went) × Knows layout low young stuck new u × Answers result went × Purged txn went v u → (u : View) × (went : Went) × KnowsAlone layout low young stuck new u × Answers result went × Purged txn went v u
  purge_alone txn result w = (w.0, w.1, learned disk.Remove w.1 w.0 w.2 w.4.grows (ap {A = View} (λ z. z.opened) w.4.is) (ap {A = View} (λ z. z.since) w.4.is) (ap {A = View} (λ z. z.pass.mine) w.4.is) (ap {A = View} (λ z. z.pass.stuck) w.4.is) (ap {A = View} (λ z. z.pass.faults) w.4.is) (λ few. same_at w.0 (ap {A = View} (λ z. z.section) w.4.is)), w.3, w.4)

  pub spent_alone : {X E : Type 0} (name : ℕ) (result : Result X E) → (u : View) × (went : Went) × Knows layout low young stuck new u × Answers result went × SpentPurged name went v u → (u : View) × (went : Went) × KnowsAlone layout low young stuck new u × Answers result went × SpentPurged name went v u
  spent_alone name result w = (w.0, w.1, learned disk.Remove w.1 w.0 w.2 w.4.grows (ap {A = View} (λ z. z.opened) w.4.is) (ap {A = View} (λ z. z.since) w.4.is) (ap {A = View} (λ z. z.pass.mine) w.4.is) (ap {A = View} (λ z. z.pass.stuck) w.4.is) (ap {A = View} (λ z. z.pass.faults) w.4.is) (λ few. same_at w.0 (ap {A = View} (λ z. z.section) w.4.is)), w.3, w.4)

  -- a call beside the section
  beside_known : (place : DiskPlace) (went : Went) (u : View) → Knows layout low young stuck new u → DoneBeside place went v u → KnowsAlone layout low young stuck new u
  beside_known place went u now b = learned place went u now b.grows (ap {A = View} (λ z. z.opened) b.is) (ap {A = View} (λ z. z.since) b.is) (ap {A = View} (λ z. z.pass.mine) b.is) (ap {A = View} (λ z. z.pass.stuck) b.is) (ap {A = View} (λ z. z.pass.faults) b.is) (λ few. same_at u (ap {A = View} (λ z. z.section) b.is))

  pub beside_alone : {X E : Type 0} (place : DiskPlace) (result : Result X E) → (u : View) × (went : Went) × Knows layout low young stuck new u × Answers result went × DoneBeside place went v u → (u : View) × (went : Went) × KnowsAlone layout low young stuck new u × Answers result went × DoneBeside place went v u
  beside_alone place result w = (w.0, w.1, beside_known place w.1 w.0 w.2 w.4, w.3, w.4)

  -- the own file of a packed revision goes
  removed_known : (r : ℕ) (went : Went) (u : View) → Knows layout low young stuck new u → OldRemoved r went v u → KnowsAlone layout low young stuck new u
  removed_known r went u now o = learned disk.Remove went u now o.grows (ap {A = View} (λ z. z.opened) o.is) (ap {A = View} (λ z. z.since) o.is) (ap {A = View} (λ z. z.pass.mine) o.is) (ap {A = View} (λ z. z.pass.stuck) o.is) (ap {A = View} (λ z. z.pass.faults) o.is) (λ few. same_at u (ap {A = View} (λ z. z.section) o.is))

  pub removal_alone : {E : Type 0} (r : ℕ) (result : Result Bool E) → (u : View) × (went : Went) × Knows layout low young stuck new u × Answers result went × Removal result r went v u → (u : View) × (went : Went) × KnowsAlone layout low young stuck new u × Answers result went × Removal result r went v u
  removal_alone r (Ok true) w = (w.0, w.1, removed_known r w.1 w.0 w.2 w.4, w.3, w.4)
  removal_alone r (Ok false) w = (w.0, w.1, beside_known disk.Remove w.1 w.0 w.2 w.4, w.3, w.4)
  removal_alone r (Err e) w = (w.0, w.1, removed_known r w.1 w.0 w.2 w.4, w.3, w.4)
