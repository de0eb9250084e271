-- What a disk knows stays true over its calls.
use Rattle.std.proofs.Common.{◌≡◌, ℕ, List, [], ◌∷◌, ◌++◌, Bool, true, false, cond, ⊎_elim, refl, sym, ap, subst, ◌∙◌}
use Rattle.std.proofs.lemmas.Bool.{and_from, and_parts, or_cases, not-true}
use Rattle.std.specs.Prelude.{◌||◌, ◌&&◌, not, Option, Some, None, IfSome}
use Rattle.fsfs_disk.specs.Trace.{Trace, Done, Remove, KeepLabel}
use Rattle.fsfs_folders.specs.System.Paths.{has_path, folder_of}
use Rattle.fsfs_folders.specs.System.CallRecord as system
use Rattle.fsfs_folders.specs.System.CallRecord.{CallRecord, Named, NameCall, MakeFolder, Create, add_call, MayMake, Allows, names_now}
use Rattle.fsfs_folders.specs.System.Remains.{of_names, are_synced, folders_of, AreWithin}
use Rattle.fsfs_folders.proofs.LeftLemmas.{firm_more, firm_folders}
use Rattle.fsfs_folders.specs.Told.{is_apart, is_in_bench, operations_of, files_of, labels_of, on_label}
use Rattle.fsfs_folders.specs.Keeping.{keeps, may_call, are_names_firm, are_folders_firm, is_naming, is_sound}
use Rattle.fsfs_folders.specs.Quiet.{IsQuiet, IsSynced}
use Rattle.fsfs_folders.specs.Standing.{told}
use Rattle.fsfs_folders.proofs.LabelPathLemmas.{no_label}

pub sound_parts : (r : CallRecord) (changed : List (List ℕ)) (settled : Bool) → is_sound (Some r) changed settled ≡ true
    → (keeps r.first r.calls ≡ true) × (are_names_firm changed r.calls ≡ true) × (settled ≡ true → are_folders_firm r.calls ≡ true)
sound_parts r changed settled e =
    let a : (keeps r.first r.calls ≡ true) × ((are_names_firm changed r.calls && (not settled || are_folders_firm r.calls)) ≡ true) =
    and_parts (keeps r.first r.calls) (are_names_firm changed r.calls && (not settled || are_folders_firm r.calls)) e in
    let b : (are_names_firm changed r.calls ≡ true) × ((not settled || are_folders_firm r.calls) ≡ true) =
    and_parts (are_names_firm changed r.calls) (not settled || are_folders_firm r.calls) a.1 in
    (a.0, b.0, λ s. ⊎_elim (λ n. let h : true ≡ false = sym s ∙ not-true settled n in cc) (λ f. f) (or_cases (not settled) (are_folders_firm r.calls) b.1))

where_settled : (settled firm : Bool) → (settled ≡ true → firm ≡ true) → (not settled || firm) ≡ true
where_settled true firm h = h refl
where_settled false firm h = refl

pub sound_of : (r : CallRecord) (changed : List (List ℕ)) (settled : Bool) → keeps r.first r.calls ≡ true → are_names_firm changed r.calls ≡ true
    → (settled ≡ true → are_folders_firm r.calls ≡ true) → is_sound (Some r) changed settled ≡ true
sound_of r changed settled k f h =
    and_from (keeps r.first r.calls) (are_names_firm changed r.calls && (not settled || are_folders_firm r.calls)) k
    (and_from (are_names_firm changed r.calls) (not settled || are_folders_firm r.calls) f (where_settled settled (are_folders_firm r.calls) h))

pub sound_quiet : (old new : Option CallRecord) (changed : List (List ℕ)) (settled : Bool) → IsQuiet old new → is_sound old changed settled ≡ true → is_sound new changed settled ≡ true
sound_quiet None new changed settled q e = ap (λ n. is_sound n changed settled) q
sound_quiet (Some r) None changed settled q e = absurd q
sound_quiet (Some r) (Some s) changed settled q e =
    let p : (keeps r.first r.calls ≡ true) × (are_names_firm changed r.calls ≡ true) × (settled ≡ true → are_folders_firm r.calls ≡ true) = sound_parts r changed settled e in
    sound_of s changed settled (q.keeping p.0) (q.firm changed p.1) (λ h. q.settled (p.2 h))

pub told_quiet : (old new : Option CallRecord) → IsQuiet old new → told new ≡ told old
told_quiet None new q = ap told q
told_quiet (Some r) None q = absurd q
told_quiet (Some r) (Some s) q = ap (λ t. Some t) q.told

concat_none : (folders : List (List ℕ)) → folders ++ [] ≡ folders
concat_none [] = refl
concat_none (folder ∷ folders) = ap (λ fs. folder ∷ fs) (concat_none folders)

-- all names are firm once each folder was synced that is noted
pub firm_synced : (old new : Option CallRecord) (changed : List (List ℕ)) (settled : Bool) → IsQuiet old new → IsSynced changed old new
    → is_sound old changed settled ≡ true → IfSome new (λ s. are_names_firm [] s.calls ≡ true)
firm_synced None new changed settled q y e = subst (λ n. IfSome n (λ s. are_names_firm [] s.calls ≡ true)) (sym q) tt
firm_synced (Some r) None changed settled q y e = absurd q
firm_synced (Some r) (Some s) changed settled q y e =
    let p : (keeps r.first r.calls ≡ true) × (are_names_firm changed r.calls ≡ true) × (settled ≡ true → are_folders_firm r.calls ≡ true) = sound_parts r changed settled e in
    y [] (ap (λ fs. are_names_firm fs r.calls) (concat_none changed) ∙ p.1)

pub sound_synced : (old new : Option CallRecord) (changed : List (List ℕ)) (settled : Bool) → IsQuiet old new → IsSynced changed old new
    → is_sound old changed settled ≡ true → is_sound new [] true ≡ true
sound_synced None new changed settled q y e = ap (λ n. is_sound n [] true) q
sound_synced (Some r) None changed settled q y e = absurd q
sound_synced (Some r) (Some s) changed settled q y e =
    let p : (keeps r.first r.calls ≡ true) × (are_names_firm changed r.calls ≡ true) × (settled ≡ true → are_folders_firm r.calls ≡ true) = sound_parts r changed settled e in
    let f : are_names_firm [] s.calls ≡ true = firm_synced (Some r) (Some s) changed settled q y e in
    sound_of s [] true (q.keeping p.0) f (λ h. firm_folders is_in_bench [] s.calls f)

pub sound_noted : (calls : Option CallRecord) (changed more : List (List ℕ)) (settled : Bool) → AreWithin changed more → is_sound calls changed settled ≡ true → is_sound calls more settled ≡ true
sound_noted None changed more settled within e = refl
sound_noted (Some r) changed more settled within e =
    let p : (keeps r.first r.calls ≡ true) × (are_names_firm changed r.calls ≡ true) × (settled ≡ true → are_folders_firm r.calls ≡ true) = sound_parts r changed settled e in
    sound_of r more settled p.0 (firm_more (of_names is_in_bench) changed more r.calls within p.1) p.2

-- a change of names in folders that are noted
sound_made : (change : NameCall) (r : CallRecord) (changed : List (List ℕ)) (settled : Bool) → (not (of_names is_in_bench change) || are_synced changed (folders_of change)) ≡ true
    → (are_folders_firm r.calls ≡ true → are_folders_firm (Named change ∷ r.calls) ≡ true)
    → may_call r.first r.calls (Named change) ≡ true → is_sound (Some r) changed settled ≡ true → is_sound (Some (add_call (Named change) r)) changed settled ≡ true
sound_made change r changed settled noted folders may e =
    let p : (keeps r.first r.calls ≡ true) × (are_names_firm changed r.calls ≡ true) × (settled ≡ true → are_folders_firm r.calls ≡ true) = sound_parts r changed settled e in
    sound_of (add_call (Named change) r) changed settled
    (and_from (keeps r.first r.calls) (may_call r.first r.calls (Named change)) p.0 may)
    (and_from (not (of_names is_in_bench change) || are_synced changed (folders_of change)) (are_names_firm changed r.calls) noted p.1)
    (λ s. folders (p.2 s))

one_noted : (changed : List (List ℕ)) (folder : List ℕ) → has_path changed folder ≡ true → are_synced changed (folder ∷ []) ≡ true
one_noted changed folder has = and_from (has_path changed folder) true has refl

pub sound_created : (path : List ℕ) (old new : Option CallRecord) (changed : List (List ℕ)) (settled : Bool) → is_apart path ≡ true → has_path changed (folder_of path) ≡ true
    → MayMake (Create path) old new → is_sound old changed settled ≡ true → is_sound new changed settled ≡ true
sound_created path None new changed settled beside has may e = ap (λ n. is_sound n changed settled) (⊎_elim (λ s. s) (λ m. m) may)
sound_created path (Some r) new changed settled beside has may e =
    ⊎_elim (λ s. ap (λ n. is_sound n changed settled) s ∙ e)
    (λ m. ap (λ n. is_sound n changed settled) m.1 ∙ sound_made (Create path) r changed settled (one_noted changed (folder_of path) has) (λ f. f) beside e) may

-- a change of a folder
pub noted_folder : (b synced : Bool) → synced ≡ true → (not b || synced) ≡ true
noted_folder true synced e = e
noted_folder false synced e = refl

pub sound_folder : (path : List ℕ) (old new : Option CallRecord) (changed : List (List ℕ)) → has_path changed (folder_of path) ≡ true
    → MayMake (MakeFolder path) old new → is_sound old changed false ≡ true → is_sound new changed false ≡ true
sound_folder path None new changed has may e = ap (λ n. is_sound n changed false) (⊎_elim (λ s. s) (λ m. m) may)
sound_folder path (Some r) new changed has may e =
    ⊎_elim (λ s. ap (λ n. is_sound n changed false) s ∙ e)
    (λ m. ap (λ n. is_sound n changed false) m.1 ∙
    (let p : (keeps r.first r.calls ≡ true) × (are_names_firm changed r.calls ≡ true) × (false ≡ true → are_folders_firm r.calls ≡ true) = sound_parts r changed false e in
    sound_of (add_call (Named (MakeFolder path)) r) changed false (and_from (keeps r.first r.calls) true p.0 refl)
    (and_from (not (not (is_in_bench path)) || are_synced changed (folder_of path ∷ [])) (are_names_firm changed r.calls) (noted_folder (not (is_in_bench path)) (are_synced changed (folder_of path ∷ [])) (one_noted changed (folder_of path) has)) p.1) (λ h. cc))) may

-- the folder of a bench is of no concern
pub spared : (b synced : Bool) → b ≡ true → (not (not b) || synced) ≡ true
spared true synced e = refl
spared false synced e = let h : false ≡ true = e in cc

pub sound_bench_made : (path : List ℕ) (old new : Option CallRecord) (changed : List (List ℕ)) (settled : Bool) → is_in_bench path ≡ true
    → MayMake (MakeFolder path) old new → is_sound old changed settled ≡ true → is_sound new changed settled ≡ true
sound_bench_made path None new changed settled bench may e = ap (λ n. is_sound n changed settled) (⊎_elim (λ s. s) (λ m. m) may)
sound_bench_made path (Some r) new changed settled bench may e =
    ⊎_elim (λ s. ap (λ n. is_sound n changed settled) s ∙ e)
    (λ m. ap (λ n. is_sound n changed settled) m.1 ∙ sound_made (MakeFolder path) r changed settled (spared (is_in_bench path) (are_synced changed (folder_of path ∷ [])) bench)
    (λ f. and_from (not (not (is_in_bench path)) || are_synced [] (folder_of path ∷ [])) (are_folders_firm r.calls) (spared (is_in_bench path) (are_synced [] (folder_of path ∷ [])) bench) f) refl e) may

-- less is known of folders
pub sound_unsettled : (calls : Option CallRecord) (changed : List (List ℕ)) (settled : Bool) → is_sound calls changed settled ≡ true → is_sound calls changed false ≡ true
sound_unsettled None changed settled e = refl
sound_unsettled (Some r) changed settled e =
    let p : (keeps r.first r.calls ≡ true) × (are_names_firm changed r.calls ≡ true) × (settled ≡ true → are_folders_firm r.calls ≡ true) = sound_parts r changed settled e in
    sound_of r changed false p.0 p.1 (λ h. cc)

pub told_created : (path : List ℕ) (old new : Option CallRecord) → MayMake (Create path) old new → told new ≡ told old
told_created path None new may = ap told (⊎_elim (λ s. s) (λ m. m) may)
told_created path (Some r) new may = ⊎_elim (λ s. ap told s) (λ m. ap told m.1) may

-- no bench stands outside their grounds
pub told_folder : (path : List ℕ) (old new : Option CallRecord) → is_in_bench path ≡ false → MayMake (MakeFolder path) old new → told new ≡ told old
told_folder path None new outside may = ap told (⊎_elim (λ s. s) (λ m. m) may)
told_folder path (Some r) new outside may =
    ⊎_elim (λ s. ap told s)
    (λ m. ap told m.1 ∙ ap {B = Option Trace} (λ l. Some (record { first = files_of r.first.files; labels = labels_of r.first.folders; operations = on_label l KeepLabel (operations_of r.first r.calls) })) (no_label path outside)) may

pub sound_keeps : (calls : Option CallRecord) (changed : List (List ℕ)) (settled : Bool) → is_sound calls changed settled ≡ true → IfSome calls (λ r. keeps r.first r.calls ≡ true)
sound_keeps None changed settled e = tt
sound_keeps (Some r) changed settled e = (sound_parts r changed settled e).0
