-- What a disk knows and tells where the folder of a bench is made or dropped, or a folder of the repository.
use Rattle.std.proofs.Common.{◌≡◌, ◌⊎◌, ℕ, List, [], ◌∷◌, ◌++◌, Bool, true, false, cond, inl, inr, ⊎_elim, refl, sym, ap, subst, ◌∙◌, arith}
use Rattle.std.proofs.lemmas.Bool.{and_from, or_cases, not_from_false}
use Rattle.std.specs.Prelude.{◌||◌, ◌&&◌, not, is_some, Option, Some, None, option_map, IfSome, Result, Ok, Err, IfOk}
use Rattle.fsfs_disk.specs.Labels.{Label, Txn, Pack, HotCopy, has_label}
use Rattle.fsfs_disk.specs.Trace.{Trace, Operation, Done, NameChange, KeepLabel, DropLabel, Performs, labels_now}
use Rattle.fsfs_folders.specs.System.Paths.{has_path, folder_of, is_below}
use Rattle.fsfs_folders.specs.System.Named.{named_paths}
use Rattle.fsfs_folders.specs.System.CallRecord.{CallRecord, Named, MakeFolder, DropFolder, SyncFolder, Standing, IsEmptyAt, add_call, Makes, MayMake, Does, names_now}
use Rattle.fsfs_folders.specs.System.Remains.{of_names, of_folders, are_synced}
use Rattle.fsfs_folders.specs.LabelPaths.{bench_folder, label_at, IsFitting}
use Rattle.fsfs_folders.specs.Told.{is_in_bench, trace_of, operations_of, files_of, labels_of, on_label}
use Rattle.fsfs_folders.specs.Keeping.{keeps, may_call, are_names_firm, are_folders_firm, are_none_below, is_dropping, is_sound}
use Rattle.fsfs_folders.specs.Standing.{told}
use Rattle.fsfs_folders.proofs.LabelPathLemmas.{label_again, folder_in_bench, no_label}
use Rattle.fsfs_folders.proofs.KeptLabels.{kept_by_folder}
use Rattle.fsfs_folders.proofs.QuietLemmas.{quiet_sync}
use Rattle.fsfs_folders.proofs.SoundLemmas.{sound_parts, sound_of, sound_quiet, told_quiet, sound_bench_made, spared, noted_folder}
use Rattle.fsfs_base.specs.Files.{same_text}

abbrev told_with : CallRecord → (Label → NameChange) → Option Label → Option Trace
told_with r change l = Some (record { first = files_of r.first.files; labels = labels_of r.first.folders; operations = on_label l change (operations_of r.first r.calls) })

-- the folder of a bench is made
pub told_kept : (l : Label) → IsFitting l → (old new : Option CallRecord) → Makes (MakeFolder (bench_folder l)) old new → Performs (KeepLabel l) (told old) (told new)
told_kept l fits None new makes = ap told makes
told_kept l fits (Some r) new makes = ap told makes.1 ∙ ap (told_with r KeepLabel) (label_again l fits)

pub kept_failed : (l : Label) → IsFitting l → (old new : Option CallRecord) → MayMake (MakeFolder (bench_folder l)) old new → (told new ≡ told old) ⊎ Performs (KeepLabel l) (told old) (told new)
kept_failed l fits old new may = ⊎_elim (λ same. inl (ap told same)) (λ makes. inr (told_kept l fits old new makes)) may

pub sound_kept : (l : Label) (old new : Option CallRecord) (changed : List (List ℕ)) (settled : Bool) → MayMake (MakeFolder (bench_folder l)) old new → is_sound old changed settled ≡ true → is_sound new changed settled ≡ true
sound_kept l old new changed settled may e = sound_bench_made (bench_folder l) old new changed settled (folder_in_bench l) may e

-- the folder of a bench is dropped
pub told_dropped : (l : Label) → IsFitting l → (old new : Option CallRecord) → Makes (DropFolder (bench_folder l)) old new → Performs (DropLabel l) (told old) (told new)
told_dropped l fits None new makes = ap told makes
told_dropped l fits (Some r) new makes = ap told makes.1 ∙ ap (told_with r DropLabel) (label_again l fits)

pub dropped_failed : (l : Label) → IsFitting l → (old new : Option CallRecord) → MayMake (DropFolder (bench_folder l)) old new → (told new ≡ told old) ⊎ Performs (DropLabel l) (told old) (told new)
dropped_failed l fits old new may = ⊎_elim (λ same. inl (ap told same)) (λ makes. inr (told_dropped l fits old new makes)) may

-- and that is made firm, or isn't
pub told_dropped_synced : (l : Label) → IsFitting l → (folder : List ℕ) (old mid new : Option CallRecord) → Makes (DropFolder (bench_folder l)) old mid → Does (SyncFolder folder) mid new → Performs (DropLabel l) (told old) (told new)
told_dropped_synced l fits folder old mid new makes does = told_quiet mid new (quiet_sync folder mid new does) ∙ told_dropped l fits old mid makes

pub told_dropped_failed : (l : Label) → IsFitting l → (folder : List ℕ) (old mid new : Option CallRecord) → Makes (DropFolder (bench_folder l)) old mid → (new ≡ mid) ⊎ Does (SyncFolder folder) mid new
    → (told new ≡ told old) ⊎ Performs (DropLabel l) (told old) (told new)
told_dropped_failed l fits folder old mid new makes failed =
    ⊎_elim (λ same. inr (ap told same ∙ told_dropped l fits old mid makes)) (λ does. inr (told_dropped_synced l fits folder old mid new makes does)) failed

apart_from_root : (l : Label) → same_text [] (bench_folder l) ≡ false
apart_from_root (Txn base number) = refl
apart_from_root (Pack shard) = refl
apart_from_root HotCopy = refl

pub sound_dropped : (l : Label) (old new : Option CallRecord) (changed : List (List ℕ)) (settled : Bool) → MayMake (DropFolder (bench_folder l)) old new → is_sound old changed settled ≡ true → is_sound new changed settled ≡ true
sound_dropped l None new changed settled may e = ap (λ n. is_sound n changed settled) (⊎_elim (λ s. s) (λ m. m) may)
sound_dropped l (Some r) new changed settled may e =
    ⊎_elim (λ s. ap (λ n. is_sound n changed settled) s ∙ e) (λ m. ap (λ n. is_sound n changed settled) m.1 ∙
    (let p : (keeps r.first r.calls ≡ true) × (are_names_firm changed r.calls ≡ true) × (settled ≡ true → are_folders_firm r.calls ≡ true) = sound_parts r changed settled e in
    let path = bench_folder l in
    sound_of (add_call (Named (DropFolder path)) r) changed settled
    (and_from (keeps r.first r.calls) (is_dropping r.first r.calls path) p.0
    (and_from (not (same_text [] path)) (is_in_bench path || (are_names_firm [] r.calls && are_none_below (names_now r) path (named_paths r.first r.calls))) (not_from_false (same_text [] path) (apart_from_root l))
    (ap (λ b. b || (are_names_firm [] r.calls && are_none_below (names_now r) path (named_paths r.first r.calls))) (folder_in_bench l))))
    (and_from (not (not (is_in_bench path)) || are_synced changed (folder_of path ∷ [])) (are_names_firm changed r.calls) (spared (is_in_bench path) (are_synced changed (folder_of path ∷ [])) (folder_in_bench l)) p.1)
    (λ s. and_from (not (not (is_in_bench path)) || are_synced [] (folder_of path ∷ [])) (are_folders_firm r.calls) (spared (is_in_bench path) (are_synced [] (folder_of path ∷ [])) (folder_in_bench l)) (p.2 s)))) may

-- a label is kept where its folder is there
pub label_there : (l : Label) → IsFitting l → (old new : Option CallRecord) → Makes (DropFolder (bench_folder l)) old new → IfSome (told old) (λ t. true ≡ has_label l (labels_now t))
label_there l fits None new makes = tt
label_there l fits (Some r) new makes = sym (kept_by_folder l (label_again l fits) r.first r.calls ∙ makes.0.0)

-- whether a label is kept, by whether a folder has its path
pub label_asked : {E : Type 0} (l : Label) (path : List ℕ) → path ≡ bench_folder l → IsFitting l → (result : Result Bool E) (old : Option CallRecord) → IfSome old (λ r. IfOk result (λ is. is ≡ (names_now r).folders path))
    → IfSome (told old) (λ t. IfOk result (λ is. is ≡ has_label l (labels_now t)))
label_asked l path same fits result None found = tt
label_asked l path same fits (Err e) (Some r) found = tt
label_asked l path same fits (Ok is) (Some r) found = found ∙ ap (names_now r).folders same ∙ sym (kept_by_folder l (label_again l fits) r.first r.calls)

pub label_absent : (l : Label) → IsFitting l → (old : Option CallRecord) → IfSome old (λ r. (names_now r).folders (bench_folder l) ≡ false) → IfSome (told old) (λ t. false ≡ has_label l (labels_now t))
label_absent l fits None absent = tt
label_absent l fits (Some r) absent = sym (kept_by_folder l (label_again l fits) r.first r.calls ∙ absent)

-- a folder of the repository is dropped
bare : (names : Standing) (path : List ℕ) (paths : List (List ℕ)) → IsEmptyAt names path → are_none_below names path paths ≡ true
bare names path [] none = refl
bare names path (q ∷ qs) none = and_from (not (is_below path q && is_some (names.files q))) (are_none_below names path qs) (by_test (is_below path q) (λ below. ap is_some (none q below).1)) (bare names path qs none)
  where
    by_test : (b : Bool) → (b ≡ true → is_some (names.files q) ≡ false) → not (b && is_some (names.files q)) ≡ true
    by_test true h = ap not (h refl)
    by_test false h = refl

pub told_folder_dropped : (path : List ℕ) (old new : Option CallRecord) → is_in_bench path ≡ false → MayMake (DropFolder path) old new → told new ≡ told old
told_folder_dropped path None new outside may = ap told (⊎_elim (λ s. s) (λ m. m) may)
told_folder_dropped path (Some r) new outside may = ⊎_elim (λ s. ap told s) (λ m. ap told m.1 ∙ ap (told_with r DropLabel) (no_label path outside)) may

pub sound_folder_dropped : (path : List ℕ) (old new : Option CallRecord) (changed : List (List ℕ)) → has_path changed (folder_of path) ≡ true → same_text [] path ≡ false
    → IfSome old (λ r. are_names_firm [] r.calls ≡ true) → MayMake (DropFolder path) old new → is_sound old changed false ≡ true → is_sound new changed false ≡ true
sound_folder_dropped path None new changed has other firm may e = ap (λ n. is_sound n changed false) (⊎_elim (λ s. s) (λ m. m) may)
sound_folder_dropped path (Some r) new changed has other firm may e =
    ⊎_elim (λ s. ap (λ n. is_sound n changed false) s ∙ e) (λ m. ap (λ n. is_sound n changed false) m.1 ∙
    (let p : (keeps r.first r.calls ≡ true) × (are_names_firm changed r.calls ≡ true) × (false ≡ true → are_folders_firm r.calls ≡ true) = sound_parts r changed false e in
    sound_of (add_call (Named (DropFolder path)) r) changed false
    (and_from (keeps r.first r.calls) (is_dropping r.first r.calls path) p.0
    (and_from (not (same_text [] path)) (is_in_bench path || (are_names_firm [] r.calls && are_none_below (names_now r) path (named_paths r.first r.calls))) (not_from_false (same_text [] path) other)
    (later (is_in_bench path) (are_names_firm [] r.calls && are_none_below (names_now r) path (named_paths r.first r.calls))
    (and_from (are_names_firm [] r.calls) (are_none_below (names_now r) path (named_paths r.first r.calls)) firm (bare (names_now r) path (named_paths r.first r.calls) m.0.1)))))
    (and_from (not (not (is_in_bench path)) || are_synced changed (folder_of path ∷ [])) (are_names_firm changed r.calls)
    (noted_folder (not (is_in_bench path)) (are_synced changed (folder_of path ∷ [])) (and_from (has_path changed (folder_of path)) true has refl)) p.1)
    (λ h. cc))) may
  where
    later : (x y : Bool) → y ≡ true → (x || y) ≡ true
    later true y h = refl
    later false y h = h
