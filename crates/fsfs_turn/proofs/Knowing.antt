-- The calls of an owned store, whatever its disk tells.
use Rattle.std.proofs.Common.{◌≡◌, ◌⊎◌, ◌<◌, ◌≤◌, ◌^◌, ℕ, List, length, true, false, inl, inr, ⊎_elim, refl, sym, ap, subst, ◌∙◌}
use Rattle.std.specs.Prelude.{Option, Some, None, Bool, IfSome, IsSome, OnOk, OnErr, IfOk, Result, Ok, Err, slice_get, option_map}
use Rattle.std.specs.FinMap.{get, empty}
use Rattle.fsfs_base.specs.Files.{Files}
use Rattle.fsfs_tree.specs.Revisions.{Revision}
use Rattle.fsfs_layout.specs.declared.layout.Layout.{Layout}
use Rattle.fsfs_layout.specs.FileNames.{only_name}
use Rattle.fsfs_layout.specs.Small.{IsRevLine}
use Rattle.fsfs_layout.specs.declared.only_file.OnlyFile.TheVariants as only
use Rattle.fsfs_layout.specs.Hash.Dump.{IsDump}
use Rattle.fsfs_disk.specs.Labels.{Label, has_label, with_label, without_label}
use Rattle.fsfs_disk.specs.Trace.{Trace, KeepLabel, DropLabel, file_at, files_now, labels_now, IsRead, Performs, PerformsIfThere, FailsAt, FailsToPut, FailsToAdopt}
use Rattle.fsfs_disk.specs.Trace as real
use Rattle.fsfs_disk.proofs.TraceLemmas.{file_at-put}
use Rattle.fsfs_disk.proofs.LabelLemmas.{without_absent}
use Rattle.fsfs_machine.specs.declared.machine.Recorded.{Recorded}
use Rattle.fsfs_machine.specs.declared.machine.Coming.{Coming}
use Rattle.fsfs_machine.specs.declared.machine.Drawn.{Drawn}
use Rattle.fsfs_machine.specs.declared.machine.Txn.{Txn}
use Rattle.fsfs_base.specs.declared.places.place.DiskPlace.{DiskPlace}
use Rattle.fsfs_base.specs.declared.places.place.DiskPlace.TheVariants as disk
use Rattle.fsfs_machine.specs.declared.machine.Section.TheVariants.{Begun, CurrentFirm}
use Rattle.fsfs_machine.specs.declared.machine.Step.TheVariants as step
use Rattle.fsfs_machine.specs.declared.machine.Went.{Went}
use Rattle.fsfs_machine.specs.declared.machine.Went.TheVariants.{Before}
use Rattle.fsfs_machine.specs.Kept.{IsIn}
use Rattle.fsfs_turn.specs.Views.{View, rev_name, props_name, IsDue, MayAdopt, MayGive, Answers, Called, Adopted, Looked, LockTaken, FoundStuck, MustStick, LockGiven, Revealed}
use Rattle.fsfs_turn.specs.Learning.{PropsRead, FloorRead, CounterRead, ReadsCounter, Listed, MayMake, BenchMade, MayPurge, Purged, SpentPurged}
use Rattle.fsfs_turn.specs.Labels.{Relabels, MayRelabel, Drops}
use Rattle.fsfs_turn.specs.Past.{IsWhole}
use Rattle.fsfs_turn.specs.Standing.{Knows}
use Rattle.fsfs_turn.proofs.TurnEnds.{known_after, known_comes}
use Rattle.fsfs_turn.specs.Packing.{DoneBeside, MayRemove, Removal}
use Rattle.fsfs_turn.proofs.Due.{put_comes, rename_comes, firm_comes, folder_fails, part_fails, part_comes}
use Rattle.fsfs_turn.proofs.Locking.{looks, takes, finds_stuck, gives_lock, sticks, reveals_it}
use Rattle.fsfs_turn.proofs.Adopting.{adopt_comes, adopt_file_comes, adopt_fails}
use Rattle.fsfs_turn.proofs.SmallFiles.{disk_floor, floor_whole, floor_comes, floor_line, props_comes, props_text}
use Rattle.fsfs_turn.proofs.Counting.{counter, counter_comes, counter_reads, full_sees}
use Rattle.fsfs_turn.proofs.Labelling.{list_turns, make_comes, purge_comes, spent_comes}
use Rattle.fsfs_turn.proofs.Packing.{keep_comes, drop_comes, folder_comes, removal_comes}

-- what was put is in use
pub put_used : {X E : Type 0} (old new : Option Trace) (name bytes : List ℕ) (result : Result X E) → OnOk result (Performs (real.Put name bytes) old new) → OnOk result (IfSome new (λ t. IsSome (file_at t name)))
put_used old new name bytes (Ok x) done = file_at-put old new name bytes done
put_used old new name bytes (Err e) done = tt

-- what is read of `txn-current`
counter_bytes_in : {E : Type 0} (t : Trace) (name buffer filled : List ℕ) → name ≡ only_name only.TxnCurrent → (result : Result (Option ℕ) E) → IfOk result (IsRead (file_at t name) 0 buffer filled) → IfOk result (IsRead (get (files_now t) (only_name only.TxnCurrent)) 0 buffer filled)
counter_bytes_in t name buffer filled named result read = subst (λ n. IfOk result (IsRead (get (files_now t) n) 0 buffer filled)) named read

pub counter_bytes : {E : Type 0} (old new : Option Trace) → new ≡ old → (name buffer filled : List ℕ) → name ≡ only_name only.TxnCurrent → (result : Result (Option ℕ) E) → IfSome old (λ t. IfOk result (IsRead (file_at t name) 0 buffer filled))
    → IfSome (option_map files_now new) (λ m. IfOk result (IsRead (get m (only_name only.TxnCurrent)) 0 buffer filled))
counter_bytes None new same name buffer filled named result read = subst (λ o. IfSome (option_map files_now o) (λ m. IfOk result (IsRead (get m (only_name only.TxnCurrent)) 0 buffer filled))) (sym same) tt
counter_bytes (Some t) new same name buffer filled named result read = subst (λ o. IfSome (option_map files_now o) (λ m. IfOk result (IsRead (get m (only_name only.TxnCurrent)) 0 buffer filled))) (sym same) (counter_bytes_in t name buffer filled named result read)

-- ---- labels

relabelled_by : (f : List Label → List Label) (change : real.NameChange) → ((ls : List Label) → real.relabelled change ls ≡ f ls) → (old new : Option Trace) → Performs change old new → option_map labels_now new ≡ option_map f (option_map labels_now old)
relabelled_by f change by None new done = ap (λ o. option_map labels_now o) done
relabelled_by f change by (Some t) new done = ap (λ o. option_map labels_now o) done ∙ ap (λ (ls : List Label). Some ls) (by (labels_now t))

pub tried_labels : (change : real.NameChange) (old new : Option Trace) → real.Attempts change old new → option_map labels_now new ≡ option_map labels_now old
tried_labels change None new tried = ap (λ o. option_map labels_now o) tried
tried_labels change (Some t) new tried = ap (λ o. option_map labels_now o) tried

failed_labels : (f : List Label → List Label) (change : real.NameChange) → ((ls : List Label) → real.relabelled change ls ≡ f ls) → (old new : Option Trace) → FailsAt change old new
    → (option_map labels_now new ≡ option_map labels_now old) ⊎ (option_map labels_now new ≡ option_map f (option_map labels_now old))
failed_labels f change by old new failed = ⊎_elim (λ same. inl (ap (λ o. option_map labels_now o) same))
    (λ more. ⊎_elim (λ tried. inl (tried_labels change old new tried)) (λ done. inr (relabelled_by f change by old new done)) more) failed

pub kept_label : {X E : Type 0} (l : Label) (old new : Option Trace) (result : Result X E) → OnOk result (Performs (KeepLabel l) old new) → OnOk result (Relabels false (with_label l) (option_map labels_now old) (option_map labels_now new))
kept_label l old new (Ok x) done = record { met = option_map labels_now old; is_met = λ free. refl; made = relabelled_by (with_label l) (KeepLabel l) (λ ls. refl) old new done }
kept_label l old new (Err e) done = tt

pub unkept_label : {X E : Type 0} (l : Label) (old new : Option Trace) (result : Result X E) → OnErr result (FailsAt (KeepLabel l) old new) → OnErr result (MayRelabel false (with_label l) (option_map labels_now old) (option_map labels_now new))
unkept_label l old new (Ok x) failed = tt
unkept_label l old new (Err e) failed = record { met = option_map labels_now old; is_met = λ free. refl; either = failed_labels (with_label l) (KeepLabel l) (λ ls. refl) old new failed }

said_at : (l : Label) (old : Option Trace) (there : Bool) → IfSome old (λ t. there ≡ has_label l (labels_now t)) → IfSome (option_map labels_now old) (λ ls. there ≡ has_label l ls)
said_at l None there said = tt
said_at l (Some t) there said = said

pub dropped_label : {E : Type 0} (l : Label) (old new : Option Trace) (result : Result Bool E) → IfSome old (λ t. IfOk result (λ there. there ≡ has_label l (labels_now t)))
    → IfOk result (λ there. PerformsIfThere there (DropLabel l) old new) → IfOk result (λ there. Drops false l there (option_map labels_now old) (option_map labels_now new))
dropped_label l old new (Ok true) there done = record { met = option_map labels_now old; is_met = λ free. refl; made = relabelled_by (without_label l) (DropLabel l) (λ ls. refl) old new done; said = said_at l old true there }
dropped_label l None new (Ok false) there done = record { met = None; is_met = λ free. refl; made = ap (λ o. option_map labels_now o) done; said = tt }
dropped_label l (Some t) new (Ok false) there done = record { met = Some (labels_now t); is_met = λ free. refl; made = ap (λ o. option_map labels_now o) done ∙ ap (λ (ls : List Label). Some ls) (sym (without_absent l (labels_now t) (sym there))); said = there }
dropped_label l old new (Err e) there done = tt

pub undropped_label : {X E : Type 0} (l : Label) (old new : Option Trace) (result : Result X E) → OnErr result (FailsAt (DropLabel l) old new) → OnErr result (MayRelabel false (without_label l) (option_map labels_now old) (option_map labels_now new))
undropped_label l old new (Ok x) failed = tt
undropped_label l old new (Err e) failed = record { met = option_map labels_now old; is_met = λ free. refl; either = failed_labels (without_label l) (DropLabel l) (λ ls. refl) old new failed }

-- a new bench is empty, where the disk tells
empty_where : (change : real.NameChange) (old new : Option Trace) (held : Option Files) → Performs change old new → held ≡ option_map (λ _. empty) old → held ≡ option_map (λ _. empty) (option_map labels_now new)
empty_where change None new held done e = subst (λ o. held ≡ option_map (λ _. empty) (option_map labels_now o)) (sym done) e
empty_where change (Some t) new held done e = subst (λ o. held ≡ option_map (λ _. empty) (option_map labels_now o)) (sym done) e

pub empty_told : {X E : Type 0} (l : Label) (old new : Option Trace) (contents : X → Option Files) (result : Result X E) → OnOk result (Performs (KeepLabel l) old new) → IfOk result (λ b. contents b ≡ option_map (λ _. empty) old)
    → IfOk result (λ b. contents b ≡ option_map (λ _. empty) (option_map labels_now new))
empty_told l old new contents (Ok b) done e = empty_where (KeepLabel l) old new (contents b) done e
empty_told l old new contents (Err why) done e = tt

pub ok_always : {X E P : Type 0} (result : Result X E) → P → OnOk result P
ok_always (Ok x) p = p
ok_always (Err e) p = tt

pub names_now : {X E : Type 0} (old new : Option Trace) (P : List Label → X → Type 0) (result : Result X E) → new ≡ old → IfSome old (λ t. IfOk result (P (labels_now t))) → IfSome (option_map labels_now new) (λ ls. IfOk result (P ls))
names_now None new P result same names = subst (λ o. IfSome (option_map labels_now o) (λ ls. IfOk result (P ls))) (sym same) tt
names_now (Some t) new P result same names = subst (λ o. IfSome (option_map labels_now o) (λ ls. IfOk result (P ls))) (sym same) names

-- ---- a bench's file

pub file_left : {X E : Type 0} (change : real.NameChange) (old new : Option Trace) (without : Files → Files) (held left : Option Files) (result : Result X E) → OnErr result (FailsToAdopt change old new without held left)
    → OnErr result ((left ≡ held) ⊎ (left ≡ option_map without held))
file_left change old new without held left (Ok x) failed = tt
file_left change old new without held left (Err e) failed = ⊎_elim (λ stays. inl stays.1) (λ gone. inr gone.1) failed

module _ (layout : Layout) (low young : ℕ) (stuck : Option DiskPlace) where
  pub put_known : {X E : Type 0} (old new : Option Trace) (name bytes : List ℕ) (result : Result X E) → OnOk result (Performs (real.Put name bytes) old new) → OnErr result (FailsToPut name bytes old new)
      → (v : View) (place : DiskPlace) → Knows layout low young stuck old v → IsDue v place (real.Put name bytes) → (u : View) × (went : Went) × Knows layout low young stuck new u × Answers result went × Called place went v u
  put_known None new name bytes result ok err v place known due = absurd known
  put_known (Some t) new name bytes result ok err v place known due = known_comes layout low young stuck new known.0 v result (λ went u. Called place went v u) known.3 known.4 known.6 known.7
      (put_comes layout low young stuck t known.0 v known.1 known.2 known.3 known.5 new place name bytes result due ok err)

  pub rename_known : {X E : Type 0} (old new : Option Trace) (from to : List ℕ) (result : Result X E) → OnOk result (Performs (real.Rename from to) old new) → OnErr result (FailsAt (real.Rename from to) old new)
      → (v : View) (place : DiskPlace) → Knows layout low young stuck old v → IsDue v place (real.Rename from to) → (u : View) × (went : Went) × Knows layout low young stuck new u × Answers result went × Called place went v u
  rename_known None new from to result ok err v place known due = absurd known
  rename_known (Some t) new from to result ok err v place known due = known_comes layout low young stuck new known.0 v result (λ went u. Called place went v u) known.3 known.4 known.6 known.7
      (rename_comes layout low young stuck t known.0 v known.1 known.2 known.3 known.5 new place from to result due ok err)

  pub firm_known : {X E : Type 0} (old new : Option Trace) (result : Result X E) → OnOk result (Performs real.FirmNames old new) → OnErr result (FailsAt real.FirmNames old new)
      → (v : View) (place : DiskPlace) → Knows layout low young stuck old v → IsDue v place real.FirmNames → (u : View) × (went : Went) × Knows layout low young stuck new u × Answers result went × Called place went v u
  firm_known None new result ok err v place known due = absurd known
  firm_known (Some t) new result ok err v place known due = known_comes layout low young stuck new known.0 v result (λ went u. Called place went v u) known.3 known.4 known.6 known.7
      (firm_comes layout low young stuck t known.0 v known.1 known.2 known.3 known.5 new place result due ok err)

  pub folder_known : (old new : Option Trace) → new ≡ old → (v : View) (place : DiskPlace) (name bytes : List ℕ) → Knows layout low young stuck old v → IsDue v place (real.Put name bytes) → (u : View) × Knows layout low young stuck new u × Called place Before v u
  folder_known None new same v place name bytes known due = absurd known
  folder_known (Some t) new same v place name bytes known due = known_after layout low young stuck t new known.0 v (λ u. Called place Before v u) same known.3 known.4 known.6 known.7
      (folder_fails layout low young stuck t known.0 v known.1 known.2 known.3 known.5 place name bytes due)

  pub adopt_known : {X E : Type 0} (old new : Option Trace) (name bytes : List ℕ) (result : Result X E) → OnOk result (Performs (real.Put name bytes) old new) → OnErr result (FailsToPut name bytes old new)
      → (v : View) (txn : Txn) (properties : List (List ℕ × List ℕ)) (next : Revision) → Knows layout low young stuck old v → MayAdopt v txn properties next bytes → name ≡ rev_name v (length v.seen)
      → (u : View) × (went : Went) × Knows layout low young stuck new u × Answers result went × Adopted txn properties next bytes went v u
  adopt_known None new name bytes result ok err v txn properties next known may named = absurd known
  adopt_known (Some t) new name bytes result ok err v txn properties next known may named = known_comes layout low young stuck new known.0 v result (λ went u. Adopted txn properties next bytes went v u) known.3 known.4 known.6 known.7
      (adopt_comes layout low young stuck t known.0 v known.1 known.2 known.3 known.5 txn properties next bytes may new name result named ok err)

  pub adopt_not : (old new : Option Trace) → new ≡ old → (v : View) (txn : Txn) (properties : List (List ℕ × List ℕ)) (next : Revision) (bytes : List ℕ) → Knows layout low young stuck old v → MayAdopt v txn properties next bytes
      → (u : View) × Knows layout low young stuck new u × Adopted txn properties next bytes Before v u
  adopt_not None new same v txn properties next bytes known may = absurd known
  adopt_not (Some t) new same v txn properties next bytes known may = known_after layout low young stuck t new known.0 v (λ u. Adopted txn properties next bytes Before v u) same known.3 known.4 known.6 known.7
      (adopt_fails layout low young stuck t known.0 v known.1 known.2 known.3 known.5 txn properties next bytes may)

  pub look_known : (told : Option Trace) (v : View) → Knows layout low young stuck told v → (u : View) × Knows layout low young stuck told u × Looked young v u
  look_known None v known = absurd known
  look_known (Some t) v known = looks layout low young stuck t known.0 v known.1 known.2 known.3 known.4 known.5 known.6 known.7

  pub take_known : (told : Option Trace) (v : View) → stuck ≡ None → Knows layout low young stuck told v → v.section ≡ None → (u : View) × Knows layout low young stuck told u × LockTaken v u
  take_known None v not known none = absurd known
  take_known (Some t) v not known none = takes layout low young stuck t known.0 v known.1 known.2 known.3 known.4 known.5 known.6 known.7 none not

  pub stuck_known : (told : Option Trace) (place : DiskPlace) (v : View) → stuck ≡ Some place → Knows layout low young stuck told v → (u : View) × Knows layout low young stuck told u × FoundStuck place v u
  stuck_known None place v is known = absurd known
  stuck_known (Some t) place v is known = finds_stuck layout low young stuck t known.0 v known.1 known.2 known.3 known.4 known.5 known.6 known.7 place is

  pub give_known : (told : Option Trace) (v : View) → Knows layout low young stuck told v → MayGive v → (u : View) × Knows layout low young stuck told u × LockGiven (step.GiveLock v.number) v u
  give_known None v known may = absurd known
  give_known (Some t) v known may = gives_lock layout low young stuck t known.0 v known.1 known.2 known.3 known.4 known.5 known.6 known.7 may.inside may.is may.quiet

  pub stick_known : (told : Option Trace) (place : DiskPlace) (v : View) → Knows layout low young stuck told v → MustStick place v → (u : View) × Knows layout low young (Some place) told u × LockGiven (step.StickLock v.number) v u
  stick_known None place v known must = absurd known
  stick_known (Some t) place v known must = sticks layout low young stuck t known.0 v known.1 known.2 known.3 known.4 known.5 known.6 known.7 place must

  pub reveal_known : (told : Option Trace) (rev : ℕ) (v : View) (x : Coming) → Knows layout low young stuck told v → v.section ≡ Some (CurrentFirm x) → rev ≡ length v.seen → (u : View) × Knows layout low rev stuck told u × Revealed x v u
  reveal_known None rev v x known is rev_is = absurd known
  reveal_known (Some t) rev v x known is rev_is = reveals_it layout low young stuck t known.0 v known.1 known.2 known.3 known.4 known.5 known.6 known.7 x rev is rev_is

  pub props_known : {E : Type 0} (old new : Option Trace) → new ≡ old → (offset : ℕ) (name buffer filled : List ℕ) (result : Result (Option ℕ) E) → IfSome old (λ t. IfOk result (IsRead (file_at t name) offset buffer filled))
      → (v : View) (r : ℕ) (x : Recorded) → Knows layout low young stuck old v → slice_get v.seen r ≡ Some x → r < 2 ^ 32 → name ≡ props_name v r
      → (u : View) × (went : Went) × (text : List ℕ) × Knows layout low young stuck new u × Answers result went × PropsRead r x went v u × IsDump text x.revision.properties × IfOk result (IsRead (Some text) offset buffer filled)
  props_known None new same offset name buffer filled result read v r x known there fits named = absurd known
  props_known (Some t) new same offset name buffer filled result read v r x known there fits named =
      let k = known_comes layout low young stuck new known.0 v result (λ went u. PropsRead r x went v u) known.3 known.4 known.6 known.7 (props_comes layout low young stuck t known.0 v known.1 known.2 known.3 known.5 r x there new same result) in
      let text = props_text layout low young stuck t known.0 v known.1 known.2 known.3 known.5 r x there offset fits name buffer filled named result read in
      (k.0, k.1, text.0, k.2, k.3, k.4, text.1, text.2)

  pub floor_known : {E : Type 0} (old new : Option Trace) → new ≡ old → (offset : ℕ) (name buffer filled : List ℕ) (result : Result (Option ℕ) E) → IfSome old (λ t. IfOk result (IsRead (file_at t name) offset buffer filled))
      → (v : View) → Knows layout low young stuck old v → name ≡ only_name only.MinUnpackedRev
      → (u : View) × (went : Went) × (floor : ℕ) × (text : List ℕ) × Knows layout low young stuck new u × Answers result went × FloorRead floor went v u × IsWhole v.layout floor × IsRevLine text floor × IfOk result (IsRead (Some text) offset buffer filled)
  floor_known None new same offset name buffer filled result read v known named = absurd known
  floor_known (Some t) new same offset name buffer filled result read v known named =
      let k = known_comes layout low young stuck new known.0 v result (λ went u. FloorRead (disk_floor layout low young stuck t known.0 v known.1 known.2 known.3 known.5) went v u) known.3 known.4 known.6 known.7 (floor_comes layout low young stuck t known.0 v known.1 known.2 known.3 known.5 new same result) in
      let line = floor_line layout low young stuck t known.0 v known.1 known.2 known.3 known.5 offset name buffer filled named result read in
      (k.0, k.1, disk_floor layout low young stuck t known.0 v known.1 known.2 known.3 known.5, line.0, k.2, k.3, k.4, floor_whole layout low young stuck t known.0 v known.1 known.2 known.3 known.5, line.1, line.2)

  pub counter_known : {E : Type 0} (old new : Option Trace) → new ≡ old → (name buffer filled : List ℕ) (result : Result (Option ℕ) E) → IfSome old (λ t. IfOk result (IsRead (file_at t name) 0 buffer filled))
      → name ≡ only_name only.TxnCurrent → (v : View) (base : ℕ) → Knows layout low young stuck old v → v.section ≡ Some Begun → base ≤ v.pass.least
      → ReadsCounter (Knows layout low young stuck new) (option_map files_now new) base result buffer filled v
  counter_known None new same name buffer filled result read named v base known begun at_most = absurd known
  counter_known (Some t) new same name buffer filled result read named v base known begun at_most =
      counter_reads layout low young stuck t known.0 v known.1 known.2 known.5 base begun at_most (Knows layout low young stuck new) new same name buffer filled named result read
      (λ few. known_comes layout low young stuck new known.0 v result (λ went u. CounterRead base (counter layout low young stuck t known.0 v known.1 known.2 known.5 base begun at_most).0 went v u) known.3 known.4 known.6 known.7 (counter_comes layout low young stuck t known.0 v known.1 known.2 known.5 base begun at_most new same few result))
      (λ many. subst (λ o. Knows layout low young stuck o (record v { full = true })) (sym same)
      (known.0, known.1, full_sees layout low young stuck t known.0 v known.1 known.2 known.5 base begun at_most many, known.3, known.4, known.5, known.6, known.7))

  -- what a listing comes to, however it went
  pub list_known : (old new : Option Trace) → new ≡ old → (v : View) (went : Went) → Knows layout low young stuck old v → (ls : List Label) × (option_map labels_now new ≡ Some ls) × (u : View) × Knows layout low young stuck new u × Listed ls went v u
  list_known None new same v went known = absurd known
  list_known (Some t) new same v went known =
      let c = known_after layout low young stuck t new known.0 v (λ u. Listed (labels_now t) went v u) same known.3 known.4 known.6 known.7 (list_turns layout low young stuck t known.0 v known.1 known.2 known.5 (labels_now t) went) in
      (labels_now t, ap (λ o. option_map labels_now o) same, c.0, c.1, c.2)

  pub still_known : (old new : Option Trace) → new ≡ old → (v : View) → Knows layout low young stuck old v → Knows layout low young stuck new v
  still_known old new same v known = subst (λ o. Knows layout low young stuck o v) (sym same) known

  pub make_known : {X E : Type 0} (old new : Option Trace) (l : Label) (result : Result X E) → OnOk result (Performs (KeepLabel l) old new) → OnErr result (FailsAt (KeepLabel l) old new)
      → (v : View) (x : Drawn) → Knows layout low young stuck old v → MayMake v x → (u : View) × (went : Went) × Knows layout low young stuck new u × Answers result went × BenchMade x went v u
  make_known None new l result ok err v x known may = absurd known
  make_known (Some t) new l result ok err v x known may = known_comes layout low young stuck new known.0 v result (λ went u. BenchMade x went v u) known.3 known.4 known.6 known.7
      (make_comes layout low young stuck t known.0 v known.1 known.2 known.5 x may new l result ok err)

  pub purge_known : {E : Type 0} (old new : Option Trace) (l : Label) (result : Result Bool E) → IfOk result (λ there. PerformsIfThere there (DropLabel l) old new) → OnErr result (FailsAt (DropLabel l) old new)
      → (v : View) (txn : Txn) → Knows layout low young stuck old v → MayPurge v txn → (u : View) × (went : Went) × Knows layout low young stuck new u × Answers result went × Purged txn went v u
  purge_known None new l result ok err v txn known may = absurd known
  purge_known (Some t) new l result ok err v txn known may = known_comes layout low young stuck new known.0 v result (λ went u. Purged txn went v u) known.3 known.4 known.6 known.7
      (purge_comes layout low young stuck t known.0 v known.1 known.2 known.5 new l txn may result ok err)

  pub spent_known : {E : Type 0} (old new : Option Trace) (l : Label) (result : Result Bool E) → IfOk result (λ there. PerformsIfThere there (DropLabel l) old new) → OnErr result (FailsAt (DropLabel l) old new)
      → (v : View) (name : ℕ) → Knows layout low young stuck old v → v.section ≡ None → IsIn name v.given → (u : View) × (went : Went) × Knows layout low young stuck new u × Answers result went × SpentPurged name went v u
  spent_known None new l result ok err v name known outside given = absurd known
  spent_known (Some t) new l result ok err v name known outside given = known_comes layout low young stuck new known.0 v result (λ went u. SpentPurged name went v u) known.3 known.4 known.6 known.7
      (spent_comes layout low young stuck t known.0 v known.1 known.2 known.5 new l name outside given result ok err)

  pub adopt_file_known : {X E : Type 0} (old new : Option Trace) (name bytes : List ℕ) (without : Files → Files) (held left : Option Files) (result : Result X E) → OnOk result (Performs (real.Adopt name bytes) old new)
      → OnErr result (FailsToAdopt (real.Adopt name bytes) old new without held left)
      → (v : View) (txn : Txn) (properties : List (List ℕ × List ℕ)) (next : Revision) → Knows layout low young stuck old v → MayAdopt v txn properties next bytes → name ≡ rev_name v (length v.seen)
      → (u : View) × (went : Went) × Knows layout low young stuck new u × Answers result went × Adopted txn properties next bytes went v u
  adopt_file_known None new name bytes without held left result ok err v txn properties next known may named = absurd known
  adopt_file_known (Some t) new name bytes without held left result ok err v txn properties next known may named =
      known_comes layout low young stuck new known.0 v result (λ went u. Adopted txn properties next bytes went v u) known.3 known.4 known.6 known.7
      (adopt_file_comes layout low young stuck t known.0 v known.1 known.2 known.3 known.5 txn properties next bytes may (left ≡ held) (left ≡ option_map without held) new name result named ok err)

  -- ---- packs

  pub part_known : {X E : Type 0} (old new : Option Trace) (name bytes : List ℕ) (without : Files → Files) (held left : Option Files) (result : Result X E) → OnOk result (Performs (real.Adopt name bytes) old new)
      → OnErr result (FailsToAdopt (real.Adopt name bytes) old new without held left)
      → (v : View) (place : DiskPlace) → Knows layout low young stuck old v → IsDue v place (real.Adopt name bytes) → (u : View) × (went : Went) × Knows layout low young stuck new u × Answers result went × Called place went v u
  part_known None new name bytes without held left result ok err v place known due = absurd known
  part_known (Some t) new name bytes without held left result ok err v place known due =
      known_comes layout low young stuck new known.0 v result (λ went u. Called place went v u) known.3 known.4 known.6 known.7
      (part_comes layout low young stuck t known.0 v known.1 known.2 known.3 known.5 (left ≡ held) (left ≡ option_map without held) new place name bytes result due ok err)

  pub part_not : (old new : Option Trace) → new ≡ old → (v : View) (place : DiskPlace) (name bytes : List ℕ) → Knows layout low young stuck old v → IsDue v place (real.Adopt name bytes) → (u : View) × Knows layout low young stuck new u × Called place Before v u
  part_not None new same v place name bytes known due = absurd known
  part_not (Some t) new same v place name bytes known due = known_after layout low young stuck t new known.0 v (λ u. Called place Before v u) same known.3 known.4 known.6 known.7
      (part_fails layout low young stuck t known.0 v known.1 known.2 known.3 known.5 place name bytes due)

  pub removal_known : {E : Type 0} (old new : Option Trace) (name : List ℕ) (result : Result Bool E) → IfOk result (λ there. PerformsIfThere there (real.Remove name) old new) → OnErr result (FailsAt (real.Remove name) old new)
      → (v : View) (r : ℕ) → Knows layout low young stuck old v → MayRemove v r → name ≡ rev_name v r → (u : View) × (went : Went) × Knows layout low young stuck new u × Answers result went × Removal result r went v u
  removal_known None new name result ok err v r known may named = absurd known
  removal_known (Some t) new name result ok err v r known may named = known_comes layout low young stuck new known.0 v result (λ went u. Removal result r went v u) known.3 known.4 known.6 known.7
      (removal_comes layout low young stuck t known.0 v known.1 known.2 known.5 known.3 r may new name result named ok err)

  pub keep_known : {X E : Type 0} (old new : Option Trace) (l : Label) (result : Result X E) → OnOk result (Performs (KeepLabel l) old new) → OnErr result (FailsAt (KeepLabel l) old new)
      → (v : View) → Knows layout low young stuck old v → (u : View) × (went : Went) × Knows layout low young stuck new u × Answers result went × DoneBeside disk.MakeBench went v u
  keep_known None new l result ok err v known = absurd known
  keep_known (Some t) new l result ok err v known = known_comes layout low young stuck new known.0 v result (λ went u. DoneBeside disk.MakeBench went v u) known.3 known.4 known.6 known.7
      (keep_comes layout low young stuck t known.0 v known.1 known.2 known.5 new l result ok err)

  pub drop_known : {E : Type 0} (old new : Option Trace) (l : Label) (result : Result Bool E) → IfOk result (λ there. PerformsIfThere there (DropLabel l) old new) → OnErr result (FailsAt (DropLabel l) old new)
      → (v : View) → Knows layout low young stuck old v → (u : View) × (went : Went) × Knows layout low young stuck new u × Answers result went × DoneBeside disk.Remove went v u
  drop_known None new l result ok err v known = absurd known
  drop_known (Some t) new l result ok err v known = known_comes layout low young stuck new known.0 v result (λ went u. DoneBeside disk.Remove went v u) known.3 known.4 known.6 known.7
      (drop_comes layout low young stuck t known.0 v known.1 known.2 known.5 new l result ok err)

  pub beside_known : {X E : Type 0} (at : DiskPlace) (old new : Option Trace) → new ≡ old → (result : Result X E) → (v : View) → Knows layout low young stuck old v → (u : View) × (went : Went) × Knows layout low young stuck new u × Answers result went × DoneBeside at went v u
  beside_known at None new same result v known = absurd known
  beside_known at (Some t) new same result v known = known_comes layout low young stuck new known.0 v result (λ went u. DoneBeside at went v u) known.3 known.4 known.6 known.7
      (folder_comes layout low young stuck t known.0 v known.1 known.2 known.5 at new same result)
