-- Reads of single files.
use Rattle.std.proofs.Common.{◌≡◌, ◌≤◌, ◌<◌, ℕ, ◌-◌, List, length, take, drop, min, refl, sym, ap, subst, ◌∙◌, inl, inr, arith, nat_lt, false, true}
use Rattle.std.specs.Prelude.{Option, Some, None, Result, Ok, Err, IfSome, IfOk, IfErr, ◌⊎◌}
use Rattle.std.proofs.lemmas.Option.{same_Some}
use Rattle.std.proofs.lemmas.Grind.{common_steps}
use Rattle.std.proofs.lemmas.Bool.Decides.{nat_tests}
use Rattle.std.proofs.lemmas.List.{length-drop, take_all}
use Rattle.std.specs.FinMap as map
use Rattle.fsfs_base.specs.Files.{Files}
use Rattle.fsfs_disk.specs.Trace.{IsRead, IsSize}
use Rattle.fsfs_disk.proofs.WholeFiles.{read_bytes}
use Rattle.fsfs_revision.specs.declared.book.BookFault.{BookFault}
use Rattle.fsfs_revision.specs.declared.book.BookFault.TheVariants.{Refused, Short, DiskFault, OutOfMemory}
use Rattle.fsfs_fetch.specs.Views.{View, Later}
use Rattle.fsfs_fetch.specs.Answers.{Stays, MayGo, FromFile, size_of_file, part_of_file}
use Rattle.fsfs_fetch.specs.ViewLemmas.{later_more, told_at, stays_later, stays_now, goes_later, goes_now}

-- what one call reads of a file that stays
pub read_stays : {B : Type 0} (v w : View B) (name : List ℕ) (file : Option (List ℕ)) (P : Option (List ℕ) → Type 0) → Later v w → Stays v name file → IfSome w.files (λ m. P (map.get m name)) → P file
read_stays v w name file P e s h =
    let t = stays_later v w name file e s in
    let Q : Files → Type 0 = λ m. P (map.get m name) in
    subst P (stays_now w name file t) (told_at w.files t.now Q t.told h)

-- ---- a file that may go

-- the size of a file, or that it isn't there
found_size : (file at : Option (List ℕ)) (new : Option Files) (name : List ℕ) (m : Files) (found : Option ℕ) → new ≡ Some m → map.get m name ≡ at → (at ≡ file) ⊎ (at ≡ None) → IsSize at found → FromFile {X = ℕ} {Y = ℕ} file new name (λ n. n) size_of_file (Ok found)
found_size file None new name m None told here stands is = (m, told, here)
found_size file None new name m (Some n) told here stands is = let h : ◌≡◌ {A = Option ℕ} (Some n) None = is in cc
found_size file (Some bytes) new name m None told here stands is = let h : ◌≡◌ {A = Option ℕ} None (Some (length bytes)) = is in cc
found_size file (Some bytes) new name m (Some n) told here (inl same) is = (bytes, sym same, ap (λ (k : ℕ). Ok k) (sym (same_Some n (length bytes) is)))
found_size file (Some bytes) new name m (Some n) told here (inr none) is = cc

pub size_found : {B : Type 0} (v w : View B) (name : List ℕ) (file : Option (List ℕ)) (size : Option ℕ) → Later v w → MayGo v name file → IfSome w.files (λ m. IsSize (map.get m name) size) → FromFile {X = ℕ} {Y = ℕ} file w.files name (λ n. n) size_of_file (Ok size)
size_found v w name file size e s h =
    let t = goes_later v w name file e s in
    let Q : Files → Type 0 = λ m. IsSize (map.get m name) size in
    found_size file (map.get t.now name) w.files name t.now size t.told refl (goes_now w name file t) (told_at w.files t.now Q t.told h)

size_result : (file at : Option (List ℕ)) (new : Option Files) (name : List ℕ) (m : Files) (result : Result (Option ℕ) BookFault) → new ≡ Some m → map.get m name ≡ at → (at ≡ file) ⊎ (at ≡ None) → IfOk result (IsSize at) → IfErr result (λ e. e ≡ DiskFault)
    → FromFile {X = ℕ} {Y = ℕ} file new name (λ n. n) size_of_file result
size_result file at new name m (Err DiskFault) told here stands is failed = tt
size_result file at new name m (Err OutOfMemory) told here stands is failed = tt
size_result file at new name m (Err (Refused r)) told here stands is failed = cc
size_result file at new name m (Err (Short r o)) told here stands is failed = cc
size_result file at new name m (Ok found) told here stands is failed = found_size file at new name m found told here stands is

pub size_of_result : {B : Type 0} (v w : View B) (name : List ℕ) (file : Option (List ℕ)) (result : Result (Option ℕ) BookFault) → Later v w → MayGo v name file → IfSome w.files (λ m. IfOk result (IsSize (map.get m name))) → IfErr result (λ e. e ≡ DiskFault)
    → FromFile {X = ℕ} {Y = ℕ} file w.files name (λ n. n) size_of_file result
size_of_result v w name file result e s h failed =
    let t = goes_later v w name file e s in
    let Q : Files → Type 0 = λ m. IfOk result (IsSize (map.get m name)) in
    size_result file (map.get t.now name) w.files name t.now result t.told refl (goes_now w name file t) (told_at w.files t.now Q t.told h) failed

-- where the size of a file was found, the file stands and has that size
sized : (file at : Option (List ℕ)) (size : ℕ) → (at ≡ file) ⊎ (at ≡ None) → IsSize at (Some size) → (bytes : List ℕ) × (file ≡ Some bytes) × (size ≡ length bytes)
sized file None size stands is = let h : ◌≡◌ {A = Option ℕ} (Some size) None = is in cc
sized file (Some bytes) size (inl same) is = (bytes, sym same, same_Some size (length bytes) is)
sized file (Some bytes) size (inr none) is = let h : ◌≡◌ {A = Option (List ℕ)} (Some bytes) None = none in cc

pub has_size : {B : Type 0} (v w : View B) (name : List ℕ) (file : Option (List ℕ)) (size : ℕ) → Later v w → MayGo v name file → IfSome w.files (λ m. IsSize (map.get m name) (Some size)) → (bytes : List ℕ) × (file ≡ Some bytes) × (size ≡ length bytes)
has_size v w name file size e s h =
    let t = goes_later v w name file e s in
    let Q : Files → Type 0 = λ m. IsSize (map.get m name) (Some size) in
    sized file (map.get t.now name) size (goes_now w name file t) (told_at w.files t.now Q t.told h)

-- an offset past the end
pub past_end : {B : Type 0} (v w : View B) (name : List ℕ) (file : Option (List ℕ)) (rev offset count size : ℕ) → Later v w → MayGo v name file → IfSome w.files (λ m. IsSize (map.get m name) (Some size)) → size < offset
    → (bytes : List ℕ) × (file ≡ Some bytes) × (part_of_file rev offset count bytes ≡ Err (Short rev offset))
past_end v w name file rev offset count size e s h lt =
    let p = has_size v w name file size e s h in
    let past : nat_lt (length p.0) offset ≡ true = grind (arith, nat_tests) in
    (p.0, p.1, rw past refl)

take_lesser : (n m : ℕ) (xs : List ℕ) → length xs ≡ m → take (min n m) xs ≡ take n xs
take_lesser n m xs is = grind (arith, common_steps, take_all)

part_same : (bytes file old new : List ℕ) (rev offset n : ℕ) → file ≡ bytes → offset ≤ length bytes → IsRead (Some file) offset old new (Some n) → part_of_file rev offset (length old) bytes ≡ Ok (take n new)
part_same bytes file old new rev offset n same le read =
    let k : ℕ = min (length old) (length file - offset) in
    let n_is : n ≡ k = same_Some n k read.0 in
    let not_past : nat_lt (length bytes) offset ≡ false = grind (arith, nat_tests) in
    let got : take n new ≡ take k (drop offset file) = ap (λ j. take j new) n_is ∙ ap (take k) read.1 ∙ read_bytes file old offset k (omega arith) in
    let cut : take k (drop offset file) ≡ take (length old) (drop offset file) = take_lesser (length old) (length file - offset) (drop offset file) (length-drop offset file) in
    let whole : take (length old) (drop offset bytes) ≡ take n new = ap (λ xs. take (length old) (drop offset xs)) (sym same) ∙ sym cut ∙ sym got in
    rw not_past (ap (λ (xs : List ℕ). Ok xs) whole)

-- where a read found a file, the file stands and was read
part_there : (file at : Option (List ℕ)) (offset count : ℕ) (old new : List ℕ) → (at ≡ file) ⊎ (at ≡ None) → IsRead at offset old new (Some count) → (bytes : List ℕ) × (file ≡ Some bytes) × IsRead (Some bytes) offset old new (Some count)
part_there file None offset count old new stands read = let h : ◌≡◌ {A = Option ℕ} (Some count) None = read.0 in cc
part_there file (Some bytes) offset count old new (inl same) read = (bytes, sym same, read)
part_there file (Some bytes) offset count old new (inr none) read = let h : ◌≡◌ {A = Option (List ℕ)} (Some bytes) None = none in cc

has_part : {B : Type 0} (v w : View B) (name : List ℕ) (file : Option (List ℕ)) (offset count : ℕ) (old new : List ℕ) → Later v w → MayGo v name file → IfSome w.files (λ m. IsRead (map.get m name) offset old new (Some count))
    → (bytes : List ℕ) × (file ≡ Some bytes) × IsRead (Some bytes) offset old new (Some count)
has_part v w name file offset count old new e s h =
    let t = goes_later v w name file e s in
    let Q : Files → Type 0 = λ m. IsRead (map.get m name) offset old new (Some count) in
    part_there file (map.get t.now name) offset count old new (goes_now w name file t) (told_at w.files t.now Q t.told h)

within : (bytes old : List ℕ) (offset count : ℕ) → 0 < count → count ≡ min (length old) (length bytes - offset) → offset ≤ length bytes
within bytes old offset count some is = omega (arith, some, is)

-- a read that found bytes
pub part_found : {B : Type 0} (v w : View B) (name : List ℕ) (file : Option (List ℕ)) (rev offset count : ℕ) (old new : List ℕ) → Later v w → MayGo v name file → IfSome w.files (λ m. IsRead (map.get m name) offset old new (Some count)) → 0 < count
    → FromFile {X = ℕ} {Y = List ℕ} file w.files name (λ n. take n new) (part_of_file rev offset (length old)) (Ok (Some count))
part_found v w name file rev offset count old new e s h some =
    let p = has_part v w name file offset count old new e s h in
    let le = within p.0 old offset count some (same_Some count (min (length old) (length p.0 - offset)) p.2.0) in
    (p.0, p.1, part_same p.0 p.0 old new rev offset count refl le p.2)

-- a read that found nothing more, up to the end
pub end_found : {B : Type 0} (u v w : View B) (name : List ℕ) (file : Option (List ℕ)) (rev offset count size : ℕ) (old new : List ℕ) → Later u v → Later v w → MayGo u name file → IfSome v.files (λ m. IsRead (map.get m name) offset old new (Some count))
    → IfSome w.files (λ m. IsSize (map.get m name) (Some size)) → offset ≤ size → FromFile {X = ℕ} {Y = List ℕ} file w.files name (λ n. take n new) (part_of_file rev offset (length old)) (Ok (Some count))
end_found u v w name file rev offset count size old new e f s read h le =
    let p = has_part u v name file offset count old new e s read in
    let q = has_size u w name file size (later_more u v w e f) s h in
    let same : p.0 ≡ q.0 = same_Some p.0 q.0 (sym p.1 ∙ q.1) in
    let fits : offset ≤ length q.0 = omega (arith, le, q.2) in
    (q.0, q.1, part_same q.0 p.0 old new rev offset count same fits p.2)

none_there : (at : Option (List ℕ)) (offset : ℕ) (old new : List ℕ) → IsRead at offset old new None → at ≡ None
none_there None offset old new read = refl
none_there (Some bytes) offset old new read = let h : ◌≡◌ {A = Option ℕ} None (Some (min (length old) (length bytes - offset))) = read.0 in cc

-- a read that found no file
pub no_part : {B : Type 0} (v w : View B) (name : List ℕ) (file : Option (List ℕ)) (rev offset : ℕ) (old new : List ℕ) → Later v w → MayGo v name file → IfSome w.files (λ m. IsRead (map.get m name) offset old new None)
    → FromFile {X = ℕ} {Y = List ℕ} file w.files name (λ n. take n new) (part_of_file rev offset (length old)) (Ok None)
no_part v w name file rev offset old new e s h =
    let t = goes_later v w name file e s in
    let Q : Files → Type 0 = λ m. IsRead (map.get m name) offset old new None in
    (t.now, t.told, none_there (map.get t.now name) offset old new (told_at w.files t.now Q t.told h))
