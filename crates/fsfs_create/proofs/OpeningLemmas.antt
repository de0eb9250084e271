-- The refusals of an opening, from what each reader says of its bytes.
use Rattle.std.proofs.Common.{◌≡◌, ◌≤◌, ◌<◌, ◌+◌, ℕ, zero, suc, List, [], ◌∷◌, ◌++◌, true, false, inl, inr, ⊎_elim, refl, sym, ap, subst, ◌∙◌, arith}
use Rattle.std.specs.Prelude.{Option, Some, None, IfSome, Result, Ok, Err, IfErr, OnOk, option_map}
use Rattle.std.specs.Result.{is_err}
use Rattle.std.proofs.lemmas.Option.{same_Some}
use Rattle.fsfs_base.specs.Files.{Files}
use Rattle.fsfs_base.specs.declared.small_fault.SmallFault.{SmallFault}
use Rattle.fsfs_disk.specs.Trace.{Trace, Performs, FailsAt, FirmNames, Done, Attempted, add_operation, files_now}
use Rattle.fsfs_layout.specs.Formats.{IsFormat}
use Rattle.fsfs_layout.specs.declared.folders.Folders.{Folders}
use Rattle.fsfs_layout.specs.declared.format.Format.{Format}
use Rattle.fsfs_layout.specs.declared.format.Format.TheVariants.{Four}
use Rattle.fsfs_layout.specs.declared.small_files.format_file.FormatFile.TheVariants.{Known}
use Rattle.fsfs_layout.specs.Small.{IsUuid, IsRevLine, IsMinUnpackedRev, IsBase36Line, IsRefusedFile, IsMinUnpackedFault}
use Rattle.fsfs_base.specs.declared.small_fault.SmallFile.TheVariants as file
use Rattle.fsfs_layout.specs.declared.layout.Layout.{Layout}
use Rattle.fsfs_layout.specs.Opening.{SmallTexts, small_texts, IsRefusedBehind, IsPastYoungest}
use Rattle.fsfs_create.specs.FirstTexts.{first_texts}
use Rattle.fsfs_create.specs.OpenFaults.{JudgedBecause, OpensBecause}
use Rattle.fsfs_create.proofs.FirstTextLemmas.{because_of_first}
use Rattle.fsfs_base.specs.declared.places.open_fault.OpenFault.{OpenFault}
use Rattle.fsfs_base.specs.declared.places.open_fault.OpenFault.TheVariants as why_not

pub refused_uuid : (n : Layout) (s : SmallTexts) (u : List ℕ) (fault : SmallFault) → u ≡ s.uuid → IsRefusedFile file.Uuid IsUuid u fault → IsRefusedBehind n s fault
refused_uuid n s u fault su iu = inl (subst (λ t. IsRefusedFile file.Uuid IsUuid t fault) su iu)

pub refused_current : (n : Layout) (s : SmallTexts) (u c uuid : List ℕ) (fault : SmallFault) → u ≡ s.uuid → IsUuid u uuid → c ≡ s.current → IsRefusedFile file.Current IsRevLine c fault → IsRefusedBehind n s fault
refused_current n s u c uuid fault su iu sc ic = inr (uuid, subst (λ t. IsUuid t uuid) su iu, inl (subst (λ t. IsRefusedFile file.Current IsRevLine t fault) sc ic))

pub refused_floor : (n : Layout) (s : SmallTexts) (u c m uuid : List ℕ) (youngest : ℕ) (fault : SmallFault) → u ≡ s.uuid → IsUuid u uuid → c ≡ s.current → IsRevLine c youngest → m ≡ s.min_unpacked_rev → IsMinUnpackedFault n m fault
    → IsRefusedBehind n s fault
refused_floor n s u c m uuid youngest fault su iu sc ic sm im =
    inr (uuid, subst (λ t. IsUuid t uuid) su iu, inr (youngest, subst (λ t. IsRevLine t youngest) sc ic, inl (subst (λ t. IsMinUnpackedFault n t fault) sm im)))

pub refused_past : (n : Layout) (s : SmallTexts) (u c m uuid : List ℕ) (youngest floor : ℕ) (fault : SmallFault) → u ≡ s.uuid → IsUuid u uuid → c ≡ s.current → IsRevLine c youngest → m ≡ s.min_unpacked_rev → IsMinUnpackedRev n m floor
    → youngest + 1 < floor → fault.file ≡ file.MinUnpackedRev → fault.at ≡ 0 → IsRefusedBehind n s fault
refused_past n s u c m uuid youngest floor fault su iu sc ic sm im past names place =
    let is : IsPastYoungest n s fault = record {
      youngest = youngest;
      min_unpacked_rev = floor;
      current_is = subst (λ t. IsRevLine t youngest) sc ic;
      floor_is = subst (λ t. IsMinUnpackedRev n t floor) sm im;
      past = past;
      names = names;
      place = place;
    } in
    inr (uuid, subst (λ t. IsUuid t uuid) su iu, inr (youngest, subst (λ t. IsRevLine t youngest) sc ic, inr (inl is)))

pub refused_txn : (n : Layout) (s : SmallTexts) (u c m x uuid : List ℕ) (youngest floor : ℕ) (fault : SmallFault) → u ≡ s.uuid → IsUuid u uuid → c ≡ s.current → IsRevLine c youngest → m ≡ s.min_unpacked_rev → IsMinUnpackedRev n m floor
    → floor ≤ youngest + 1 → x ≡ s.txn_current → IsRefusedFile file.TxnCurrent IsBase36Line x fault → IsRefusedBehind n s fault
refused_txn n s u c m x uuid youngest floor fault su iu sc ic sm im within sx ix =
    inr (
      uuid,
      subst (λ t. IsUuid t uuid) su iu,
      inr (
        youngest,
        subst (λ t. IsRevLine t youngest) sc ic,
        inr (inr (floor, subst (λ t. IsMinUnpackedRev n t floor) sm im, within, subst (λ t. IsRefusedFile file.TxnCurrent IsBase36Line t fault) sx ix)),
      ),
    )

-- what is read is format 4
pub known_four : (text : List ℕ) (layout : Layout) → IsFormat text (Known layout) → layout.format ≡ Four
known_four text layout w = ap (λ (p : Format × Folders). p.0) w.second_is.value_is

-- the cause of a refusal, in the files of the disk
pub opens_because : (rose : Type 0) (told : Option Trace) (s : SmallTexts) (why : OpenFault) → IfSome told (λ t. s ≡ first_texts (small_texts (files_now t))) → JudgedBecause s why → OpensBecause rose told why
opens_because rose None s why_not.NotRepo is h = tt
opens_because rose None s (why_not.OtherFormat number) is h = tt
opens_because rose None s why_not.Linear is h = tt
opens_because rose None s (why_not.Small fault) is h = tt
opens_because rose None s (why_not.DiskFault place) is h = absurd h
opens_because rose None s why_not.Memory is h = absurd h
opens_because rose (Some t) s why_not.NotRepo is h = because_of_first (small_texts (files_now t)) why_not.NotRepo (subst (λ x. JudgedBecause x why_not.NotRepo) is h)
opens_because rose (Some t) s (why_not.OtherFormat number) is h = because_of_first (small_texts (files_now t)) (why_not.OtherFormat number) (subst (λ x. JudgedBecause x (why_not.OtherFormat number)) is h)
opens_because rose (Some t) s why_not.Linear is h = because_of_first (small_texts (files_now t)) why_not.Linear (subst (λ x. JudgedBecause x why_not.Linear) is h)
opens_because rose (Some t) s (why_not.Small fault) is h = because_of_first (small_texts (files_now t)) (why_not.Small fault) (subst (λ x. JudgedBecause x (why_not.Small fault)) is h)
opens_because rose (Some t) s (why_not.DiskFault place) is h = absurd h
opens_because rose (Some t) s why_not.Memory is h = absurd h

pub all_because : {T : Type 0} (rose : Type 0) (told : Option Trace) (s : SmallTexts) (r : Result T OpenFault) → IfSome told (λ t. s ≡ first_texts (small_texts (files_now t))) → IfErr r (JudgedBecause s) → IfErr r (OpensBecause rose told)
all_because rose told s (Ok x) is h = tt
all_because rose told s (Err why) is h = opens_because rose told s why is h

-- firm names leave the files as they are
pub same_texts : (old new : Option Trace) (s : SmallTexts) → option_map files_now new ≡ option_map files_now old → IfSome new (λ t. s ≡ first_texts (small_texts (files_now t))) → IfSome old (λ t. s ≡ first_texts (small_texts (files_now t)))
same_texts None new s is h = tt
same_texts (Some t) None s is h = let bad : ◌≡◌ {A = Option _} None (Some (files_now t)) = is in cc
same_texts (Some t) (Some u) s is h = h ∙ ap (λ (m : Files). first_texts (small_texts m)) (same_Some (files_now u) (files_now t) is)

-- firm names are the same files, whichever way the call ended
pub firm_same : (old new : Option Trace) → FailsAt FirmNames old new → option_map files_now new ≡ option_map files_now old
firm_same old new at = ⊎_elim (λ e. ap (option_map files_now) e) (λ d. ⊎_elim (λ e. ap (option_map files_now) e ∙ unchanged old) (λ e. ap (option_map files_now) e ∙ done old) d) at where
  unchanged : (o : Option Trace) → option_map files_now (option_map (add_operation (Attempted FirmNames)) o) ≡ option_map files_now o
  unchanged None = refl
  unchanged (Some t) = refl

  done : (o : Option Trace) → option_map files_now (option_map (add_operation (Done FirmNames)) o) ≡ option_map files_now o
  done None = refl
  done (Some t) = refl

-- the names were made firm, and nothing was done to the disk after that
pub firm_then : {X E Y F : Type 0} (old firm new : Option Trace) (first : Result X E) (result : Result Y F) → is_err first ≡ false → OnOk first (Performs FirmNames old firm) → new ≡ firm → OnOk result (Performs FirmNames old new)
firm_then old firm new (Err e) result fine done same = absurd cc
firm_then old firm new (Ok x) (Ok y) fine done same = subst (λ o. Performs FirmNames old o) (sym same) done
firm_then old firm new (Ok x) (Err e) fine done same = tt
