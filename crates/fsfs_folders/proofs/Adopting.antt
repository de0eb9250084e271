-- What a disk knows and tells, and a bench, where a file goes from one to the other.
use Rattle.std.proofs.Common.{◌≡◌, ◌⊎◌, ℕ, List, [], ◌∷◌, Bool, true, false, cond, inl, inr, ⊎_elim, refl, sym, ap, subst, ◌∙◌, arith}
use Rattle.std.proofs.lemmas.Bool.{and_from, eq-eqb, le-leb, not_from_false}
use Rattle.std.proofs.lemmas.Option.{same_Some, none-some}
use Rattle.std.specs.Prelude.{◌≤◌, ◌^◌, ◌==◌, ◌&&◌, ◌||◌, not, nat_le, length, is_some, Option, Some, None, option_map, unwrap_or, IfSome, Result, Ok, Err, OnOk, OnErr}
use Rattle.std.specs.FinMap.{get}
use Rattle.fsfs_disk.specs.Benches.{bytes_on, IsFirmFile, removed}
use Rattle.fsfs_disk.specs.Trace.{Trace, Operation, Done, Adopt, Performs, FailsToAdopt, add_operation}
use Rattle.fsfs_folders.specs.System.Paths.{has_path, folder_of}
use Rattle.fsfs_folders.specs.System.Listing.{is_entry}
use Rattle.fsfs_folders.specs.System.CallRecord.{CallRecord, Named, Take, Remove, Contents, add_call, names_now, contents_now, Makes, Takes, MayTake}
use Rattle.fsfs_folders.specs.System.Remains.{are_synced}
use Rattle.fsfs_folders.specs.Told.{is_apart, trace_of, operations_of, files_of, labels_of}
use Rattle.fsfs_folders.specs.Keeping.{keeps, are_names_firm, are_folders_firm, is_place, is_whole, is_sound}
use Rattle.fsfs_folders.specs.BenchFiles.{file_held, bytes_of, files_held, bench_told, firm_part, firm_held, AreShort, Sets, SetsAny}
use Rattle.fsfs_folders.specs.Standing.{told, Adopts, FailsToTake}
use Rattle.fsfs_folders.proofs.HeldFiles.{held_at, files_told, gone}
use Rattle.fsfs_folders.specs.Quiet.{IsQuiet}
use Rattle.fsfs_folders.proofs.BenchTold.{any_none, any_others, removed_told}
use Rattle.fsfs_folders.proofs.SoundLemmas.{sound_parts, sound_of, told_quiet}
use Rattle.fsfs_folders.proofs.PutLemmas.{may_place}

module _ (file to : List ℕ) (entry : is_entry file ≡ true) where
  bytes_there : (p : CallRecord) (n : ℕ) → (names_now p).files file ≡ Some n → bytes_on (bench_told (Some p)) file ≡ (contents_now p n).bytes
  bytes_there p n has = ap (λ o. unwrap_or o []) (files_told p file ∙ ap bytes_of (held_at p file n entry has))

  pub told_taken : (old part new left : Option CallRecord) → is_some part ≡ is_some old → Takes file to old part new left → Performs (Adopt to (bytes_on (bench_told part) file)) (told old) (told new)
  told_taken None part new left tells takes = ap told takes.0
  told_taken (Some r) None new left tells takes = absurd takes
  told_taken (Some r) (Some p) new left tells takes = ap told takes.2.1
      ∙ ap {B = Option Trace} (λ b. Some (record { first = files_of r.first.files; labels = labels_of r.first.folders; operations = Done (Adopt to b) ∷ operations_of r.first r.calls })) (sym (bytes_there p takes.0 takes.1))

  pub part_taken : (old part new left : Option CallRecord) → is_some part ≡ is_some old → Takes file to old part new left → Sets file (λ r. None) part left
  part_taken None None new left tells takes = takes.1
  part_taken None (Some p) new left tells takes = let h : true ≡ false = tells in cc
  part_taken (Some r) None new left tells takes = absurd takes
  part_taken (Some r) (Some p) new left tells takes = gone file entry (Some p) left takes.3

  pub adopted : (old part new left : Option CallRecord) → is_some part ≡ is_some old → Takes file to old part new left → Adopts file to old part new left
  adopted old part new left tells takes = (told_taken old part new left tells takes, part_taken old part new left tells takes)

  pub adopt_failed : (old part new left : Option CallRecord) → is_some part ≡ is_some old → MayTake file to old part new left → FailsToTake file to old part new left
  adopt_failed old part new left tells may = ⊎_elim (λ same. inl (ap told same.0, same.1)) (λ takes. inr (adopted old part new left tells takes)) may

  whole_file : (p : CallRecord) (n : ℕ) → (names_now p).files file ≡ Some n → IsFirmFile (bench_told (Some p)) (firm_held (Some p) file) file → AreShort (Some p) → is_whole (contents_now p n) ≡ true
  whole_file p n has firm short =
      let held : file_held p file ≡ Some (contents_now p n) = held_at p file n entry has in
      let bytes : (contents_now p n).bytes ≡ firm.0 = same_Some (contents_now p n).bytes firm.0 (sym (files_told p file ∙ ap bytes_of held) ∙ firm.1) in
      and_from ((contents_now p n).firm == length (contents_now p n).bytes) (nat_le (length (contents_now p n).bytes) (2 ^ 62))
      (eq-eqb (contents_now p n).firm (length (contents_now p n).bytes) (sym (ap firm_part held) ∙ firm.2 ∙ ap (λ (b : List ℕ). length b) (sym bytes)))
      (le-leb (length (contents_now p n).bytes) (2 ^ 62) (short p refl file (contents_now p n) held))

  pub sound_taken : (old part new left : Option CallRecord) (changed : List (List ℕ)) (settled : Bool) → is_apart to ≡ false → settled ≡ true → has_path changed (folder_of to) ≡ true
      → IsFirmFile (bench_told part) (firm_held part file) file → AreShort part → MayTake file to old part new left → is_sound old changed settled ≡ true → is_sound new changed settled ≡ true
  sound_taken None part new left changed settled plain is_settled noted firm short may e = ap (λ n. is_sound n changed settled) (⊎_elim (λ s. s.0) (λ t. t.0) may)
  sound_taken (Some r) None new left changed settled plain is_settled noted firm short may e = ⊎_elim (λ s. ap (λ n. is_sound n changed settled) s.0 ∙ e) (λ t. absurd t) may
  sound_taken (Some r) (Some p) new left changed settled plain is_settled noted firm short may e =
      ⊎_elim (λ s. ap (λ n. is_sound n changed settled) s.0 ∙ e)
      (λ t. let contents : Contents = contents_now p t.0 in
      let q : (keeps r.first r.calls ≡ true) × (are_names_firm changed r.calls ≡ true) × (settled ≡ true → are_folders_firm r.calls ≡ true) = sound_parts r changed settled e in
      ap (λ n. is_sound n changed settled) t.2.1 ∙ sound_of (add_call (Named (Take to contents)) r) changed settled
      (and_from (keeps r.first r.calls) (is_place r.first r.calls to && is_whole contents) q.0
      (and_from (is_place r.first r.calls to) (is_whole contents) (may_place to r changed settled plain is_settled e t.2.0) (whole_file p t.0 t.1 firm short)))
      (and_from (are_synced changed (folder_of to ∷ [])) (are_names_firm changed r.calls) (and_from (has_path changed (folder_of to)) true noted refl) q.1)
      q.2) may

  -- the same by what a call answered on paths that are the names'
  module _ (from path : List ℕ) (from_is : from ≡ file) (to_is : path ≡ to) where
    takes_names : (old part new left : Option CallRecord) → Takes from path old part new left → Takes file to old part new left
    takes_names old part new left t = subst (λ p. Takes file p old part new left) to_is (subst (λ f. Takes f path old part new left) from_is t)

    may_names : (old part new left : Option CallRecord) → MayTake from path old part new left → MayTake file to old part new left
    may_names old part new left t = subst (λ p. MayTake file p old part new left) to_is (subst (λ f. MayTake f path old part new left) from_is t)

pub sound_taken_by : {T E : Type 0} (result : Result T E) (file to : List ℕ) (entry : is_entry file ≡ true) (from path : List ℕ) → from ≡ file → path ≡ to → (old part new left : Option CallRecord) (changed : List (List ℕ)) (settled : Bool) → is_apart to ≡ false → settled ≡ true → has_path changed (folder_of path) ≡ true
    → IsFirmFile (bench_told part) (firm_held part file) file → AreShort part → OnOk result (Takes from path old part new left) → OnErr result (MayTake from path old part new left) → is_sound old changed settled ≡ true → is_sound new changed settled ≡ true
sound_taken_by result file to entry from path from_is to_is old part new left changed settled plain is_settled noted firm short done failed e =
    sound_taken file to entry old part new left changed settled plain is_settled (subst (λ p. has_path changed (folder_of p) ≡ true) to_is noted) firm short
    (either result done failed) e
  where
    either : {T E : Type 0} (result : Result T E) → OnOk result (Takes from path old part new left) → OnErr result (MayTake from path old part new left) → MayTake file to old part new left
    either (Ok x) done failed = inr (takes_names file to entry from path from_is to_is old part new left done)
    either (Err e) done failed = may_names file to entry from path from_is to_is old part new left failed

-- over calls that told nothing before
adopts_later : (file to : List ℕ) (a b part new left : Option CallRecord) → told b ≡ told a → Adopts file to b part new left → Adopts file to a part new left
adopts_later file to a b part new left same adopts = (adopts.0 ∙ ap (λ t. option_map (add_operation (Done (Adopt to (bytes_on (bench_told part) file)))) t) same, adopts.1)

pub adopted_by : {T E : Type 0} (result : Result T E) (file to : List ℕ) (entry : is_entry file ≡ true) (from path : List ℕ) → from ≡ file → path ≡ to → (a b old part new left : Option CallRecord) → is_some part ≡ is_some old → IsQuiet a b → old ≡ b
    → OnOk result (Takes from path old part new left) → OnOk result (Adopts file to a part new left)
adopted_by (Ok x) file to entry from path from_is to_is a b old part new left tells quiet same takes =
    adopts_later file to a old part new left (ap told same ∙ told_quiet a b quiet) (adopted file to entry old part new left tells (takes_names file to entry from path from_is to_is old part new left takes))
adopted_by (Err e) file to entry from path from_is to_is a b old part new left tells quiet same takes = tt

pub adopt_failed_by : {T E : Type 0} (result : Result T E) (file to : List ℕ) (entry : is_entry file ≡ true) (from path : List ℕ) → from ≡ file → path ≡ to → (a b old part new left : Option CallRecord) → is_some part ≡ is_some old → IsQuiet a b → old ≡ b
    → OnErr result (MayTake from path old part new left) → OnErr result (FailsToTake file to a part new left)
adopt_failed_by (Ok x) file to entry from path from_is to_is a b old part new left tells quiet same may = tt
adopt_failed_by (Err e) file to entry from path from_is to_is a b old part new left tells quiet same may =
    ⊎_elim (λ s. inl (s.0 ∙ ap told same ∙ told_quiet a b quiet, s.1)) (λ adopts. inr (adopts_later file to a old part new left (ap told same ∙ told_quiet a b quiet) adopts))
    (adopt_failed file to entry old part new left tells (may_names file to entry from path from_is to_is old part new left may))

-- a bench that gave a file, or failed to
pub given_any : {T E : Type 0} (result : Result T E) (file to : List ℕ) (old part new left : Option CallRecord) → OnOk result (Adopts file to old part new left) → OnErr result (FailsToTake file to old part new left) → SetsAny file part left
given_any (Ok x) file to old part new left done failed = any_none file part left done.1
given_any (Err e) file to old part new left done failed = ⊎_elim (λ s. inl s.1) (λ a. any_none file part left a.1) failed

-- what the disk and the bench tell then
pub gives_told : (file to : List ℕ) (old part new left : Option CallRecord) → FailsToTake file to old part new left
    → FailsToAdopt (Adopt to (bytes_on (bench_told part) file)) (told old) (told new) (removed file) (bench_told part) (bench_told left)
gives_told file to old part new left failed = ⊎_elim (λ s. inl (inl s.0, ap bench_told s.1)) (λ a. inr (a.0, removed_told file part left a.1)) failed

pub given_gone : (file to : List ℕ) (old part new left : Option CallRecord) → Adopts file to old part new left → bench_told left ≡ option_map (removed file) (bench_told part)
given_gone file to old part new left adopts = removed_told file part left adopts.1

pub given_others : {T E : Type 0} (result : Result T E) (file to : List ℕ) (old part new left : Option CallRecord) → OnOk result (Adopts file to old part new left) → OnErr result (FailsToTake file to old part new left)
    → (q : List ℕ) → (q ≡ file → ⊥) → firm_held left q ≡ firm_held part q
given_others result file to old part new left done failed q other = any_others file part left (given_any result file to old part new left done failed) q other

pub gives_told_err : {T E : Type 0} (result : Result T E) (file to : List ℕ) (old part new left : Option CallRecord) → OnErr result (FailsToTake file to old part new left)
    → OnErr result (FailsToAdopt (Adopt to (bytes_on (bench_told part) file)) (told old) (told new) (removed file) (bench_told part) (bench_told left))
gives_told_err (Ok x) file to old part new left failed = tt
gives_told_err (Err e) file to old part new left failed = gives_told file to old part new left failed
