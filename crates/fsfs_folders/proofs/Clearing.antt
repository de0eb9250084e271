-- What is left once files were taken away one after another.
use Rattle.std.proofs.Common.{◌≡◌, ◌⊎◌, ℕ, List, [], ◌∷◌, ◌++◌, Bool, true, false, cond, inl, inr, ⊎_elim, refl, sym, ap, subst, ◌∙◌, arith}
use Rattle.std.proofs.lemmas.Bool.{and_parts, leb-true}
use Rattle.std.proofs.lemmas.Option.{same_Some, none-some}
use Rattle.std.specs.Prelude.{◌≤◌, ◌^◌, ◌==◌, nat_le, length, if◌then◌else◌, ◌||◌, is_some, option_map, Option, Some, None, IfSome, Result, Ok, Err, IfOk, OnOk}
use Rattle.std.specs.FinMap.{empty, get-empty}
use Rattle.fsfs_base.specs.Files.{Files, NamedFile, same_text}
use Rattle.fsfs_base.proofs.FileLemmas.{same_files}
use Rattle.fsfs_folders.specs.System.Paths.{has_path}
use Rattle.fsfs_folders.specs.System.Listing.{is_entry, has_file, IsListOf}
use Rattle.fsfs_folders.specs.System.CallRecord.{CallRecord, Contents, Begins, are_short, first_bytes, names_now}
use Rattle.fsfs_folders.specs.SameText.{text_cases}
use Rattle.fsfs_folders.specs.BenchFiles.{file_held, bytes_of, files_held, bench_told, Sets, Clears, HoldsNothing, AreShort, AreKept}
use Rattle.fsfs_folders.specs.Standing.{told}
use Rattle.fsfs_folders.proofs.HeldFiles.{held_number, files_told}

pub cleared_none : (old : Option CallRecord) → Clears [] old old
cleared_none None = refl
cleared_none (Some r) = λ q. inr (refl, refl)

has_more : (names : List (List ℕ)) (name q : List ℕ) → has_path names q ≡ false → same_text q name ≡ false → has_path (names ++ name ∷ []) q ≡ false
has_more [] name q has other = ap (λ b. b || false) other
has_more (p ∷ ps) name q has other = by_head (same_text q p) has (λ h. has_more ps name q h other)
  where
    by_head : (b : Bool) → (b || has_path ps q) ≡ false → (has_path ps q ≡ false → has_path (ps ++ name ∷ []) q ≡ false) → (b || has_path (ps ++ name ∷ []) q) ≡ false
    by_head true h more = h
    by_head false h more = more h

-- one more
pub cleared_more : (names : List (List ℕ)) (name : List ℕ) (a b c : Option CallRecord) → Clears names a b → Sets name (λ r. None) b c → Clears (names ++ name ∷ []) a c
cleared_more names name None b c before sets = subst (λ o. Sets name (λ r. None) o c) before sets
cleared_more names name (Some r) None c before sets = absurd before
cleared_more names name (Some r) (Some s) None before sets = absurd sets
cleared_more names name (Some r) (Some s) (Some t) before sets = λ q.
    ⊎_elim (λ k. inl (sets q ∙ ap (λ b. cond b None (file_held s q)) k.1))
    (λ o. let same : file_held t q ≡ file_held s q = sets q ∙ ap (λ b. cond b None (file_held s q)) o.1 in
    ⊎_elim (λ none. inl (same ∙ none)) (λ left. inr (has_more names name q left.0 o.1, same ∙ left.1)) (before q)) (text_cases q name)

-- a bench with nothing in it tells no files
pub empty_told : (part old : Option CallRecord) → IfSome part HoldsNothing → is_some part ≡ is_some old → bench_told part ≡ option_map (λ _. empty) (told old)
empty_told None None none tells = refl
empty_told None (Some r) none tells = let h : false ≡ true = tells in cc
empty_told (Some p) None none tells = let h : true ≡ false = tells in cc
empty_told (Some p) (Some r) none tells = ap {B = Option Files} (λ m. Some m) (same_files (files_held p) empty (λ q. files_told p q ∙ ap bytes_of (none q) ∙ sym (get-empty _ q)))

-- of these names no file is there then
pub cleared_here : (names : List (List ℕ)) (name : List ℕ) (old new : Option CallRecord) → Clears names old new → has_path names name ≡ true → IfSome new (λ s. file_held s name ≡ None)
cleared_here names name None new clears has = subst (λ o. IfSome o (λ s. file_held s name ≡ None)) (sym clears) tt
cleared_here names name (Some r) None clears has = absurd clears
cleared_here names name (Some r) (Some s) clears has = ⊎_elim (λ none. none) (λ left. let h : true ≡ false = sym has ∙ left.0 in cc) (clears name)

-- and of the others what was
module _ (P : Contents → Type 0) where
  abbrev AllSuch : Option CallRecord → Type 0
  AllSuch calls = (r : CallRecord) → calls ≡ Some r → (name : List ℕ) (file : Contents) → file_held r name ≡ Some file → P file

  cleared_such : (names : List (List ℕ)) (old new : Option CallRecord) → Clears names old new → AllSuch old → AllSuch new
  cleared_such names None new clears before s is name file e = absurd (none-some s (sym clears ∙ is))
  cleared_such names (Some r) None clears before s is name file e = absurd clears
  cleared_such names (Some r) (Some t) clears before s is name file e =
      let held : file_held t name ≡ Some file = ap (λ x. file_held x name) (same_Some t s is) ∙ e in
      ⊎_elim (λ none. absurd (none-some file (sym none ∙ held))) (λ left. before r refl name file (sym left.1 ∙ held)) (clears name)

pub cleared_short : (names : List (List ℕ)) (old new : Option CallRecord) → Clears names old new → AreShort old → AreShort new
cleared_short names old new clears before = cleared_such (λ (file : Contents). length file.bytes ≤ 2 ^ 62) names old new clears before

pub cleared_kept : (names : List (List ℕ)) (old new : Option CallRecord) → Clears names old new → AreKept old → AreKept new
cleared_kept names old new clears before = cleared_such (λ (file : Contents). file.is_lost ≡ false) names old new clears before

-- what a part begins with is short, and nothing of it is lost
short_bytes : (files : List NamedFile) (n : ℕ) → are_short files ≡ true → length (first_bytes files n) ≤ 2 ^ 62
short_bytes [] n short = omega arith
short_bytes (file ∷ files) n short =
    let parts : (nat_le (length file.1) (2 ^ 62) ≡ true) × (are_short files ≡ true) = and_parts (nat_le (length file.1) (2 ^ 62)) (are_short files) short in
    by_number (n == length files) (leb-true (length file.1) (2 ^ 62) parts.0) (short_bytes files n parts.1)
  where
    by_number : (b : Bool) → length file.1 ≤ 2 ^ 62 → length (first_bytes files n) ≤ 2 ^ 62 → length (if b then file.1 else first_bytes files n) ≤ 2 ^ 62
    by_number true one rest = one
    by_number false one rest = rest

pub begun_short : (disk part : Option CallRecord) → Begins disk part → AreShort part
begun_short None part begins r is name file e = absurd (none-some r (sym begins ∙ is))
begun_short (Some d) part begins r is name file e =
    let same : record { first = begins.0; calls = [] } ≡ r = same_Some _ r (sym begins.1 ∙ is) in
    let held : file_held (record { first = begins.0; calls = [] }) name ≡ Some file = ap (λ x. file_held x name) same ∙ e in
    let n = held_number (record { first = begins.0; calls = [] }) name file held in
    subst (λ (c : Contents). length c.bytes ≤ 2 ^ 62) n.1.2 (short_bytes begins.0.files n.1.0 begins.2)

pub begun_kept : (disk part : Option CallRecord) → Begins disk part → AreKept part
begun_kept None part begins r is name file e = absurd (none-some r (sym begins ∙ is))
begun_kept (Some d) part begins r is name file e =
    let same : record { first = begins.0; calls = [] } ≡ r = same_Some _ r (sym begins.1 ∙ is) in
    let held : file_held (record { first = begins.0; calls = [] }) name ≡ Some file = ap (λ x. file_held x name) same ∙ e in
    let n = held_number (record { first = begins.0; calls = [] }) name file held in
    sym (ap (λ (c : Contents). c.is_lost) n.1.2)

-- a folder with nothing in it
pub bare_short : (calls : Option CallRecord) → IfSome calls HoldsNothing → AreShort calls
bare_short None none r is name file e = absurd (none-some r is)
bare_short (Some s) none r is name file e = absurd (none-some file (sym (none name) ∙ ap (λ x. file_held x name) (same_Some s r is) ∙ e))

pub bare_kept : (calls : Option CallRecord) → IfSome calls HoldsNothing → AreKept calls
bare_kept None none r is name file e = absurd (none-some r is)
bare_kept (Some s) none r is name file e = absurd (none-some file (sym (none name) ∙ ap (λ x. file_held x name) (same_Some s r is) ∙ e))
