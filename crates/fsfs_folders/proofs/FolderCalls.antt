-- What a disk tells and knows by what calls on its folders and files answered.
use Rattle.std.proofs.Common.{◌≡◌, ◌⊎◌, ℕ, List, [], Bool, true, false, inl, inr, ⊎_elim, refl, sym, ap, subst, ◌∙◌}
use Rattle.std.specs.Prelude.{length, Option, Some, None, option_map, IfSome, Result, Ok, Err, OnOk, OnErr}
use Rattle.fsfs_disk.specs.Labels.{Label, has_label}
use Rattle.fsfs_disk.specs.Trace.{Trace, KeepLabel, DropLabel, Performs, PerformsIfThere, file_at, labels_now}
use Rattle.fsfs_folders.specs.System.Paths.{has_path, folder_of}
use Rattle.fsfs_folders.specs.System.CallRecord.{CallRecord, NameCall, MakeFolder, DropFolder, SyncFolder, Makes, MayMake, Does, names_now}
use Rattle.fsfs_folders.specs.LabelPaths.{bench_folder, IsFitting}
use Rattle.fsfs_folders.specs.Told.{is_apart, is_in_bench, shown, trace_of, bytes_after}
use Rattle.fsfs_folders.specs.Keeping.{are_names_firm, is_sound}
use Rattle.fsfs_folders.specs.Quiet.{IsQuiet}
use Rattle.fsfs_folders.specs.Writing.{bytes_there}
use Rattle.fsfs_folders.specs.Standing.{told}
use Rattle.fsfs_folders.proofs.ShownLemmas.{shown_beside, shown_plain}
use Rattle.fsfs_folders.proofs.CrashTheorem.{now_told}
use Rattle.fsfs_folders.proofs.QuietLemmas.{quiet_none, quiet_sync}
use Rattle.fsfs_folders.proofs.SoundLemmas.{sound_parts, sound_folder, sound_unsettled, sound_noted, sound_quiet, told_quiet, told_folder}
use Rattle.fsfs_folders.proofs.LabelCalls.{sound_folder_dropped, told_folder_dropped, told_kept, kept_failed, sound_kept, told_dropped_synced, told_dropped_failed, dropped_failed, sound_dropped, label_there, label_absent}

-- whatever a call answered, the change was made or it wasn't
pub made_or_not : {T E : Type 0} (result : Result T E) (change : NameCall) (old new : Option CallRecord) → OnOk result (Makes change old new) → OnErr result (MayMake change old new) → MayMake change old new
made_or_not (Ok x) change old new made may = inr made
made_or_not (Err e) change old new made may = may

-- what is told of a file by what stands under its path
pub told_there : (P : Option (List ℕ) → Type 0) (path name : List ℕ) (calls : Option CallRecord) (changed : List (List ℕ)) (settled : Bool) → is_sound calls changed settled ≡ true → is_apart name ≡ false → path ≡ name
    → IfSome calls (λ r. P (bytes_there r path)) → IfSome (told calls) (λ t. P (file_at t name))
told_there P path name None changed settled sound plain same there = tt
told_there P path name (Some r) changed settled sound plain same there =
    subst P (ap (λ p. bytes_there r p) same ∙ sym (now_told r (sound_parts r changed settled sound).0 name ∙ shown_plain (bytes_after r.first r.calls) (names_now r) name plain)) there

pub told_apart : (P : Option (List ℕ) → Type 0) (name : List ℕ) (calls : Option CallRecord) (changed : List (List ℕ)) (settled : Bool) → is_sound calls changed settled ≡ true → is_apart name ≡ true
    → P None → IfSome (told calls) (λ t. P (file_at t name))
told_apart P name None changed settled sound apart none = tt
told_apart P name (Some r) changed settled sound apart none =
    subst P (sym (now_told r (sound_parts r changed settled sound).0 name ∙ shown_beside (bytes_after r.first r.calls) (names_now r) name apart)) none

-- the folder of a bench, by what the calls on its path answered
module _ (l : Label) (path : List ℕ) (same : path ≡ bench_folder l) where
  pub sound_label_made : {T E : Type 0} (result : Result T E) (old new : Option CallRecord) (changed : List (List ℕ)) (settled : Bool) → OnOk result (Makes (MakeFolder path) old new) → OnErr result (MayMake (MakeFolder path) old new)
      → is_sound old changed settled ≡ true → is_sound new changed settled ≡ true
  sound_label_made result old new changed settled made may e = sound_kept l old new changed settled (subst (λ p. MayMake (MakeFolder p) old new) same (made_or_not result (MakeFolder path) old new made may)) e

  pub label_made : {T E : Type 0} (result : Result T E) → IsFitting l → (old new : Option CallRecord) → OnOk result (Makes (MakeFolder path) old new) → OnOk result (Performs (KeepLabel l) (told old) (told new))
  label_made (Ok x) fits old new made = told_kept l fits old new (subst (λ p. Makes (MakeFolder p) old new) same made)
  label_made (Err e) fits old new made = tt

  pub label_not_made : {T E : Type 0} (result : Result T E) → IsFitting l → (old new : Option CallRecord) → OnErr result (MayMake (MakeFolder path) old new) → OnErr result ((told new ≡ told old) ⊎ Performs (KeepLabel l) (told old) (told new))
  label_not_made (Ok x) fits old new may = tt
  label_not_made (Err e) fits old new may = kept_failed l fits old new (subst (λ p. MayMake (MakeFolder p) old new) same may)

  pub sound_label_dropped : (old new : Option CallRecord) (changed : List (List ℕ)) (settled : Bool) → MayMake (DropFolder path) old new → is_sound old changed settled ≡ true → is_sound new changed settled ≡ true
  sound_label_dropped old new changed settled may e = sound_dropped l old new changed settled (subst (λ p. MayMake (DropFolder p) old new) same may) e

  pub sound_label_synced : {T E : Type 0} (result : Result T E) (folder : List ℕ) (old mid new : Option CallRecord) (changed : List (List ℕ)) (settled : Bool) → Makes (DropFolder path) old mid
      → OnOk result (Does (SyncFolder folder) mid new) → OnErr result ((new ≡ mid) ⊎ Does (SyncFolder folder) mid new) → is_sound old changed settled ≡ true → is_sound new changed settled ≡ true
  sound_label_synced result folder old mid new changed settled makes done failed e =
      sound_quiet mid new changed settled (synced result done failed) (sound_label_dropped old mid changed settled (inr makes) e)
    where
      synced : {T E : Type 0} (result : Result T E) → OnOk result (Does (SyncFolder folder) mid new) → OnErr result ((new ≡ mid) ⊎ Does (SyncFolder folder) mid new) → IsQuiet mid new
      synced (Ok x) done failed = quiet_sync folder mid new done
      synced (Err e) done failed = ⊎_elim (λ s. subst (λ o. IsQuiet mid o) (sym s) (quiet_none mid)) (λ d. quiet_sync folder mid new d) failed

  pub label_dropped : IsFitting l → (folder : List ℕ) (old mid new : Option CallRecord) → Makes (DropFolder path) old mid → Does (SyncFolder folder) mid new → Performs (DropLabel l) (told old) (told new)
  label_dropped fits folder old mid new makes does = told_dropped_synced l fits folder old mid new (subst (λ p. Makes (DropFolder p) old mid) same makes) does

  pub label_dropped_failed : IsFitting l → (folder : List ℕ) (old mid new : Option CallRecord) → Makes (DropFolder path) old mid → (new ≡ mid) ⊎ Does (SyncFolder folder) mid new → (told new ≡ told old) ⊎ Performs (DropLabel l) (told old) (told new)
  label_dropped_failed fits folder old mid new makes failed = told_dropped_failed l fits folder old mid new (subst (λ p. Makes (DropFolder p) old mid) same makes) failed

  pub label_not_dropped : IsFitting l → (old new : Option CallRecord) → MayMake (DropFolder path) old new → (told new ≡ told old) ⊎ Performs (DropLabel l) (told old) (told new)
  label_not_dropped fits old new may = dropped_failed l fits old new (subst (λ p. MayMake (DropFolder p) old new) same may)

  pub label_was_there : IsFitting l → (old new : Option CallRecord) → Makes (DropFolder path) old new → IfSome (told old) (λ t. true ≡ has_label l (labels_now t))
  label_was_there fits old new makes = label_there l fits old new (subst (λ p. Makes (DropFolder p) old new) same makes)

  pub label_was_absent : IsFitting l → (old : Option CallRecord) → IfSome old (λ r. (names_now r).folders path ≡ false) → IfSome (told old) (λ t. false ≡ has_label l (labels_now t))
  label_was_absent fits old absent = label_absent l fits old (subst (λ p. IfSome old (λ r. (names_now r).folders p ≡ false)) same absent)
