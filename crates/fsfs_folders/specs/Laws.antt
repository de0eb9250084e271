-- What a disk and its benches over the calls always keep: no file is longer than 2^62 bytes, and where a disk tells its benches do.
use Rattle.std.proofs.Common.{◌≡◌, ◌⊎◌, ℕ, List, [], ◌∷◌, Bool, true, false, cond, ⊎_elim, refl, sym, ap, subst, ◌∙◌}
use Rattle.std.proofs.lemmas.Bool.{and_parts, or_cases, not-true, leb-true}
use Rattle.std.proofs.lemmas.Option.{none-some}
use Rattle.std.specs.Prelude.{◌≤◌, ◌^◌, ◌==◌, ◌&&◌, ◌||◌, not, nat_le, length, is_some, Option, Some, None, option_map, unwrap_or, IfSome}
use Rattle.std.specs.Cmp.Lexicographic.{nat_list_cmp_total}
use Rattle.std.specs.FinMap.{get, insert, get-insert, get-remove, get-empty}
use Rattle.fsfs_base.specs.Files.{Files, NamedFile, same_text}
use Rattle.fsfs_disk.specs.Labels.{Label}
use Rattle.fsfs_disk.specs.Benches.{HasShortFiles, with_file}
use Rattle.fsfs_disk.specs.Short.{IsShortChange}
use Rattle.fsfs_disk.specs.Crash.{AllImages}
use Rattle.fsfs_disk.specs.Trace.{NameChange, Operation, Done, Put, Adopt, Rename, Remove, FirmNames, KeepLabel, DropLabel, IsImage, files_after}
use Rattle.fsfs_disk.proofs.ShortLemmas.{short_empty, short_insert, short_changed, short_image}
use Rattle.fsfs_folders.specs.System.Paths.{has_path}
use Rattle.fsfs_folders.specs.System.Named.{named_paths}
use Rattle.fsfs_folders.specs.System.CallRecord as system
use Rattle.fsfs_folders.specs.System.CallRecord.{Call, Named, MakeFolder, DropFolder, Create, Take, Append, SyncFile, FailSync, SyncFolder, Firmed, Beginning, CallRecord, Contents, Standing, is_reachable, names_after, contents_after}
use Rattle.fsfs_folders.specs.SameText.{text_cases}
use Rattle.fsfs_folders.specs.LabelPaths.{label_at}
use Rattle.fsfs_folders.specs.Told.{is_apart, files_of, on_label, bytes_at, bytes_after, operations_of}
use Rattle.fsfs_folders.specs.Keeping.{are_rooted, keeps, may_call, are_names_firm, are_folders_firm, is_place, is_whole, is_whole_file, is_sound}
use Rattle.fsfs_folders.specs.BenchFiles.{file_held, bytes_of, gathered, files_held, bench_told, AreShort}
use Rattle.fsfs_folders.specs.Standing.{told}

short_first : (folders : List (List ℕ)) (files : List NamedFile) → are_rooted folders files ≡ true → HasShortFiles (files_of files)
short_first folders [] rooted = short_empty
short_first folders (file ∷ files) rooted =
    let parts : ((is_apart file.0 || (is_reachable (has_path folders) file.0 && nat_le (length file.1) (2 ^ 62))) ≡ true) × (are_rooted folders files ≡ true) =
    and_parts (is_apart file.0 || (is_reachable (has_path folders) file.0 && nat_le (length file.1) (2 ^ 62))) (are_rooted folders files) rooted in
    by_name (is_apart file.0) (short_first folders files parts.1) parts.0
  where
    by_name : (b : Bool) → HasShortFiles (files_of files) → (b || (is_reachable (has_path folders) file.0 && nat_le (length file.1) (2 ^ 62))) ≡ true → HasShortFiles (cond b (files_of files) (insert (files_of files) file.0 file.1))
    by_name true short e = short
    by_name false short e = short_insert (files_of files) file.0 file.1 short (leb-true (length file.1) (2 ^ 62) (and_parts (is_reachable (has_path folders) file.0) (nat_le (length file.1) (2 ^ 62)) e).1)

-- each image and the files now
record AreAllShort (first : Files) (operations : List Operation) : Type 0 where
  images : (m : Files) → IsImage first operations m → HasShortFiles m
  now : HasShortFiles (files_after first operations)

one_more : (first : Files) (operations : List Operation) (change : NameChange) → IsShortChange change → AreAllShort first operations → AreAllShort first (Done change ∷ operations)
one_more first operations change short before = record {
  images = λ m image. short_image change (files_after first operations) (IsImage first operations) short before.now before.images m image;
  now = short_changed change (files_after first operations) short before.now;
}

short_whole : (file : Contents) → is_whole file ≡ true → length file.bytes ≤ 2 ^ 62
short_whole file e = leb-true (length file.bytes) (2 ^ 62) (and_parts (file.firm == length file.bytes) (nat_le (length file.bytes) (2 ^ 62)) e).1

module _ (first : Beginning) where
  abbrev start : Files
  start = files_of first.files

  labelled : (l : Option Label) (change : Label → NameChange) (operations : List Operation) → ((k : Label) → IsShortChange (change k)) → AreAllShort start operations → AreAllShort start (on_label l change operations)
  labelled None change operations short before = before
  labelled (Some l) change operations short before = one_more start operations (change l) (short l) before

  moved : (calls : List Call) (file : Option ℕ) → is_whole_file first calls file ≡ true → length (unwrap_or (option_map (bytes_after first calls) file) []) ≤ 2 ^ 62
  moved calls None whole = leb-true 0 (2 ^ 62) refl
  moved calls (Some n) whole = short_whole (contents_after first calls n) whole

  named : (calls : List Call) (from to : List ℕ) (b : Bool) → (not b || is_whole_file first calls ((names_after first calls).files from)) ≡ true → IsShortChange (cond b (Put to (bytes_at first calls from)) (Rename from to))
  named calls from to true whole = moved calls ((names_after first calls).files from) whole
  named calls from to false whole = tt

  gone : (b : Bool) (path : List ℕ) (operations : List Operation) → AreAllShort start operations → AreAllShort start (cond b operations (Done (Remove path) ∷ operations))
  gone true path operations before = before
  gone false path operations before = one_more start operations (Remove path) tt before

  step : (calls : List Call) (call : Call) → may_call first calls call ≡ true → AreAllShort start (operations_of first calls) → AreAllShort start (operations_of first (call ∷ calls))
  step calls (Named (MakeFolder path)) may before = labelled (label_at path) KeepLabel (operations_of first calls) (λ k. tt) before
  step calls (Named (DropFolder path)) may before = labelled (label_at path) DropLabel (operations_of first calls) (λ k. tt) before
  step calls (Named (Create path)) may before = before
  step calls (Named (Take path contents)) may before =
      one_more start (operations_of first calls) (Adopt path contents.bytes) (short_whole contents (and_parts (is_place first calls path) (is_whole contents) may).1) before
  step calls (Named (system.Rename from to)) may before =
      let names : Standing = names_after first calls in
      let rest : (is_some (names.files from) && (not (is_apart from) || is_whole_file first calls (names.files from))) ≡ true =
      (and_parts (is_place first calls to) (is_some (names.files from) && (not (is_apart from) || is_whole_file first calls (names.files from))) may).1 in
      one_more start (operations_of first calls) (cond (is_apart from) (Put to (bytes_at first calls from)) (Rename from to))
      (named calls from to (is_apart from) (and_parts (is_some (names.files from)) (not (is_apart from) || is_whole_file first calls (names.files from)) rest).1) before
  step calls (Named (system.Remove path)) may before = gone (is_apart path) path (operations_of first calls) before
  step calls (Append number bytes) may before = before
  step calls (SyncFile number) may before = before
  step calls (FailSync number) may before = before
  step calls (SyncFolder folder) may before = before
  step calls Firmed may before = one_more start (operations_of first calls) FirmNames tt before

  all_short : (calls : List Call) → keeps first calls ≡ true → AreAllShort start (operations_of first calls)
  all_short [] kept = record { images = λ m e. subst HasShortFiles (sym e) (short_first first.folders first.files kept); now = short_first first.folders first.files kept }
  all_short (call ∷ calls) kept =
      let parts : (keeps first calls ≡ true) × (may_call first calls call ≡ true) = and_parts (keeps first calls) (may_call first calls call) kept in
      step calls call parts.1 (all_short calls parts.0)

-- no file of an image is longer than 2^62 bytes
pub images_are_short : (calls : Option CallRecord) (changed : List (List ℕ)) (settled : Bool) → is_sound calls changed settled ≡ true → AllImages (told calls) HasShortFiles
images_are_short None changed settled sound = tt
images_are_short (Some r) changed settled sound = (all_short r.first r.calls (and_parts (keeps r.first r.calls) (are_names_firm changed r.calls && (not settled || are_folders_firm r.calls)) sound).0).images

pub get_with : (m : Files) (p : List ℕ) (file : Option (List ℕ)) (q : List ℕ) → get (with_file p file m) q ≡ cond (same_text q p) file (get m q)
get_with m p None q = get-remove nat_list_cmp_total m p q
get_with m p (Some bytes) q = get-insert nat_list_cmp_total m p bytes q

-- what is gathered is a file's
gathered_only : (names : List (List ℕ)) (file_of : List ℕ → Option (List ℕ)) (q bytes : List ℕ) → get (gathered names file_of) q ≡ Some bytes → file_of q ≡ Some bytes
gathered_only [] file_of q bytes e = absurd (none-some bytes (sym (get-empty _ q) ∙ e))
gathered_only (p ∷ ps) file_of q bytes e =
    let now : cond (same_text q p) (file_of p) (get (gathered ps file_of) q) ≡ Some bytes = sym (get_with (gathered ps file_of) p (file_of p) q) ∙ e in
    ⊎_elim (λ s. ap file_of s.0 ∙ sym (ap (λ b. cond b (file_of p) (get (gathered ps file_of) q)) s.1) ∙ now)
    (λ o. gathered_only ps file_of q bytes (sym (ap (λ b. cond b (file_of p) (get (gathered ps file_of) q)) o.1) ∙ now)) (text_cases q p)

held_short : (file : Option Contents) (bytes : List ℕ) → ((c : Contents) → file ≡ Some c → length c.bytes ≤ 2 ^ 62) → bytes_of file ≡ Some bytes → length bytes ≤ 2 ^ 62
held_short None bytes short e = absurd (none-some bytes e)
held_short (Some c) bytes short e = subst (λ (o : Option (List ℕ)). length (unwrap_or o []) ≤ 2 ^ 62) e (short c refl)

-- nor one of a bench
pub bench_is_short : (calls : Option CallRecord) → AreShort calls → IfSome (bench_told calls) HasShortFiles
bench_is_short None short = tt
bench_is_short (Some r) short = λ name bytes e. held_short (file_held r name) bytes (λ c is. short r refl name c is) (gathered_only (named_paths r.first r.calls) (λ q. bytes_of (file_held r q)) name bytes e)

-- where the disk tells, its benches do
pub both_tell : (disk bench : Option CallRecord) → is_some bench ≡ is_some disk → is_some (bench_told bench) ≡ is_some (told disk)
both_tell None None e = e
both_tell None (Some p) e = e
both_tell (Some r) None e = e
both_tell (Some r) (Some p) e = e
