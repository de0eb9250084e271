-- A list of what is found says of each path what is found there.
use Rattle.std.proofs.Common.{◌≡◌, ◌⊎◌, ◌<◌, ℕ, List, [], ◌∷◌, length, Bool, true, false, cond, inl, inr, ⊎_elim, refl, sym, ap, subst, ◌∙◌, arith}
use Rattle.std.proofs.lemmas.Bool.{and_parts, or_cases, eqb-true, eq-eqb}
use Rattle.std.proofs.lemmas.Option.{none-some}
use Rattle.std.specs.Prelude.{◌||◌, ◌==◌, if◌then◌else◌, drop, Option, Some, None, option_map}
use Rattle.fsfs_base.specs.Files.{NamedFile, same_text}
use Rattle.fsfs_base.proofs.FileLemmas.{same_is}
use Rattle.fsfs_folders.specs.System.Paths.{has_path}
use Rattle.fsfs_folders.specs.System.CallRecord.{Call, Named, Append, SyncFile, FailSync, SyncFolder, Firmed, Beginning, Standing, first_number, first_bytes, file_count, renamed_by, names_after, is_reachable}
use Rattle.fsfs_folders.proofs.PathLemmas.{or_right}
use Rattle.fsfs_folders.specs.SameText.{text_cases}
use Rattle.fsfs_folders.specs.System.Named.{file_paths}
use Rattle.fsfs_folders.proofs.NameLemmas.{first_within, comes_from}
use Rattle.fsfs_folders.proofs.NamedLemmas.{first_named}
use Rattle.fsfs_memcalls.specs.Places.{places_in, paths_of}
use Rattle.fsfs_memcalls.specs.Recorded.{of_beginning, record_at}
use Rattle.fsfs_memcalls.specs.Left.{first_pick, kept_by, left_names, picked_names, picked_bytes, bytes_of, is_found, bytes_found, IsFound, paths_such, with_file, files_such}
use Rattle.fsfs_memcalls.proofs.PlaceLemmas.{kept, came, place_made, folder_at, file_at}

-- ---- what is left stands at one of the paths

either_of : (left new old : Bool) → cond left new old ≡ true → (new ≡ true) ⊎ (old ≡ true)
either_of true new old e = inl e
either_of false new old e = inr e

either_file : (left : Bool) (new old : Option ℕ) (k : ℕ) → cond left new old ≡ Some k → (new ≡ Some k) ⊎ (old ≡ Some k)
either_file true new old k e = inl e
either_file false new old k e = inr e

folder_left : (first : Beginning) (calls : List Call) (left : List Bool) (q : List ℕ) → (left_names first calls left).folders q ≡ true → (has_path first.folders q ≡ true) ⊎ (has_path (places_in calls) q ≡ true)
folder_left first [] left q e = inl e
folder_left first (Named change ∷ calls) left q e =
    ⊎_elim
    (λ new. ⊎_elim (λ was. kept (has_path first.folders q) (Named change) calls q (folder_left first calls (drop 1 left) q was)) (λ made. inr made)
    (place_made change (file_count first calls) (names_after first calls) (left_names first calls (drop 1 left)) calls q new))
    (λ old. kept (has_path first.folders q) (Named change) calls q (folder_left first calls (drop 1 left) q old))
    (either_of (first_pick left) ((renamed_by change (file_count first calls) (names_after first calls) (left_names first calls (drop 1 left))).folders q) ((left_names first calls (drop 1 left)).folders q) e)
folder_left first (Append number bytes ∷ calls) left q e = folder_left first calls (drop 1 left) q e
folder_left first (SyncFile number ∷ calls) left q e = folder_left first calls (drop 1 left) q e
folder_left first (FailSync number ∷ calls) left q e = folder_left first calls (drop 1 left) q e
folder_left first (SyncFolder path ∷ calls) left q e = folder_left first calls (drop 1 left) q e
folder_left first (Firmed ∷ calls) left q e = folder_left first calls (drop 1 left) q e

file_left : (first : Beginning) (calls : List Call) (left : List Bool) (q : List ℕ) (k : ℕ) → (left_names first calls left).files q ≡ Some k → (has_path (file_paths first.files) q ≡ true) ⊎ (has_path (places_in calls) q ≡ true)
file_left first [] left q k e = inl (first_named first.files q k e)
file_left first (Named change ∷ calls) left q k e =
    ⊎_elim
    (λ new. ⊎_elim (λ was. kept (has_path (file_paths first.files) q) (Named change) calls q (file_left first calls (drop 1 left) q k was)) (λ comes. inr (came change first calls q k comes))
    (comes_from change (file_count first calls) (names_after first calls) (left_names first calls (drop 1 left)) q k new))
    (λ old. kept (has_path (file_paths first.files) q) (Named change) calls q (file_left first calls (drop 1 left) q k old))
    (either_file (first_pick left) ((renamed_by change (file_count first calls) (names_after first calls) (left_names first calls (drop 1 left))).files q) ((left_names first calls (drop 1 left)).files q) k e)
file_left first (Append number bytes ∷ calls) left q k e = file_left first calls (drop 1 left) q k e
file_left first (SyncFile number ∷ calls) left q k e = file_left first calls (drop 1 left) q k e
file_left first (FailSync number ∷ calls) left q k e = file_left first calls (drop 1 left) q k e
file_left first (SyncFolder path ∷ calls) left q k e = file_left first calls (drop 1 left) q k e
file_left first (Firmed ∷ calls) left q k e = file_left first calls (drop 1 left) q k e

-- ---- folders

such_only : (such : List ℕ → Bool) (paths : List (List ℕ)) (q : List ℕ) → has_path (paths_such such paths) q ≡ true → such q ≡ true
such_only such [] q e = absurd (let h : false ≡ true = e in cc)
such_only such (p ∷ ps) q e = go (such p) refl (such_only such ps q) e
  where
    go : (b : Bool) → such p ≡ b → (has_path (paths_such such ps) q ≡ true → such q ≡ true) → has_path (cond b (p ∷ paths_such such ps) (paths_such such ps)) q ≡ true → such q ≡ true
    go true is rest h = ⊎_elim (λ s. ap such (same_is q p s) ∙ is) (λ r. rest r) (or_cases (same_text q p) (has_path (paths_such such ps) q) h)
    go false is rest h = rest h

such_all : (such : List ℕ → Bool) (paths : List (List ℕ)) (q : List ℕ) → such q ≡ true → has_path paths q ≡ true → has_path (paths_such such paths) q ≡ true
such_all such [] q is e = e
such_all such (p ∷ ps) q is e = go (such p) refl (such_all such ps q is) (or_cases (same_text q p) (has_path ps q) e)
  where
    go : (b : Bool) → such p ≡ b → (has_path ps q ≡ true → has_path (paths_such such ps) q ≡ true) → (same_text q p ≡ true) ⊎ (has_path ps q ≡ true)
        → has_path (cond b (p ∷ paths_such such ps) (paths_such such ps)) q ≡ true
    go true at rest (inl s) = ap (λ t. t || has_path (paths_such such ps) q) s
    go true at rest (inr r) = or_right (same_text q p) (has_path (paths_such such ps) q) (rest r)
    go false at rest (inl s) = absurd (let h : true ≡ false = sym is ∙ ap such (same_is q p s) ∙ at in cc)
    go false at rest (inr r) = rest r

same_tests : (a b : Bool) → (a ≡ true → b ≡ true) → (b ≡ true → a ≡ true) → a ≡ b
same_tests true b to from = sym (to refl)
same_tests false true to from = from refl
same_tests false false to from = refl

pub listed_folders : (such : List ℕ → Bool) (paths : List (List ℕ)) (q : List ℕ) → (such q ≡ true → has_path paths q ≡ true) → has_path (paths_such such paths) q ≡ such q
listed_folders such paths q placed = same_tests (has_path (paths_such such paths) q) (such q) (such_only such paths q) (λ is. such_all such paths q is (placed is))

-- ---- files

-- the bytes of the first file with a path
abbrev bytes_in : List NamedFile → List ℕ → Option (List ℕ)
bytes_in [] q = None
bytes_in (file ∷ files) q = cond (same_text q file.0) (Some file.1) (bytes_in files q)

-- a number of one more file
number_apart : (b : Bool) (k n : ℕ) (one other : List ℕ) → (k == n) ≡ b → k < n → (if b then one else other) ≡ other
number_apart true k n one other e lt = absurd (let same : k ≡ n = eqb-true k n e in omega (arith, same, lt))
number_apart false k n one other e lt = refl

-- the bytes by the number are those of the first file with the path
by_number : (files : List NamedFile) (q : List ℕ) → option_map (first_bytes files) (first_number files q) ≡ bytes_in files q
by_number [] q = refl
by_number (file ∷ files) q =
    ⊎_elim
    (λ s. ap (λ b. option_map (first_bytes (file ∷ files)) (cond b (Some (length files)) (first_number files q))) s.1
    ∙ ap (λ b. Some (if b then file.1 else first_bytes files (length files))) (eq-eqb (length files) (length files) refl)
    ∙ sym (ap (λ b. cond b (Some file.1) (bytes_in files q)) s.1))
    (λ o. ap (λ b. option_map (first_bytes (file ∷ files)) (cond b (Some (length files)) (first_number files q))) o.1
    ∙ behind (first_number files q) refl ∙ by_number files q
    ∙ sym (ap (λ b. cond b (Some file.1) (bytes_in files q)) o.1)) (text_cases q file.0)
  where
    behind : (number : Option ℕ) → first_number files q ≡ number → option_map (first_bytes (file ∷ files)) number ≡ option_map (first_bytes files) number
    behind None e = refl
    behind (Some k) e = ap (λ (bytes : List ℕ). Some bytes) (number_apart (k == length files) k (length files) file.1 (first_bytes files k) refl (first_within files q k e))

cond_none : (b : Bool) (one : Option (List ℕ)) → one ≡ None → cond b one None ≡ None
cond_none true one e = e
cond_none false one e = refl

-- the list has of each path what is found there
listed_file : (found : List ℕ → Option (List ℕ)) (paths : List (List ℕ)) (q : List ℕ) → bytes_in (files_such found paths) q ≡ cond (has_path paths q) (found q) None
listed_file found [] q = refl
listed_file found (p ∷ ps) q = go (found p) refl (listed_file found ps q)
  where
    go : (one : Option (List ℕ)) → found p ≡ one → bytes_in (files_such found ps) q ≡ cond (has_path ps q) (found q) None
        → bytes_in (with_file p one (files_such found ps)) q ≡ cond (same_text q p || has_path ps q) (found q) None
    go None is rest =
        ⊎_elim
        (λ s. let none : found q ≡ None = ap found s.0 ∙ is in rest ∙ cond_none (has_path ps q) (found q) none ∙ sym (cond_none (same_text q p || has_path ps q) (found q) none))
        (λ o. rest ∙ sym (ap (λ b. cond (b || has_path ps q) (found q) None) o.1)) (text_cases q p)
    go (Some bytes) is rest =
        ⊎_elim
        (λ s. ap (λ b. cond b (Some bytes) (bytes_in (files_such found ps) q)) s.1 ∙ sym (ap found s.0 ∙ is) ∙ sym (ap (λ b. cond (b || has_path ps q) (found q) None) s.1))
        (λ o. ap (λ b. cond b (Some bytes) (bytes_in (files_such found ps) q)) o.1 ∙ rest ∙ sym (ap (λ b. cond (b || has_path ps q) (found q) None) o.1)) (text_cases q p)

listed_files : (found : List ℕ → Option (List ℕ)) (paths : List (List ℕ)) (q : List ℕ) → ((bytes : List ℕ) → found q ≡ Some bytes → has_path paths q ≡ true)
    → option_map (first_bytes (files_such found paths)) (first_number (files_such found paths) q) ≡ found q
listed_files found paths q placed = by_number (files_such found paths) q ∙ listed_file found paths q ∙ go (found q) refl
  where
    go : (one : Option (List ℕ)) → found q ≡ one → cond (has_path paths q) (found q) None ≡ found q
    go None is = cond_none (has_path paths q) (found q) is ∙ sym is
    go (Some bytes) is = ap (λ b. cond b (found q) None) (placed bytes is)

-- ---- what is found

-- a file that is found stands at one of the paths
file_has_path : (reached : Bool) (number : Option ℕ) (bytes : ℕ → List ℕ) (there : Bool) (file : List ℕ) → ((k : ℕ) → number ≡ Some k → there ≡ true) → cond reached (option_map bytes number) None ≡ Some file → there ≡ true
file_has_path true None bytes there file placed e = absurd (none-some file e)
file_has_path true (Some k) bytes there file placed e = placed k refl
file_has_path false number bytes there file placed e = absurd (none-some file e)

pub all_found : (first found : Beginning) (calls : List Call) (left : List Bool) (bytes : ℕ → List ℕ)
    → found.folders ≡ paths_such (is_found (left_names first calls left)) (paths_of first calls)
    → found.files ≡ files_such (bytes_found (left_names first calls left) bytes) (paths_of first calls)
    → IsFound (left_names first calls left) bytes (of_beginning found)
all_found first found calls left bytes folders files =
    let names : Standing = left_names first calls left in record {
      calls = refl;
      folders = λ q. ap (λ (ps : List (List ℕ)). has_path ps q) folders
          ∙ listed_folders (is_found names) (paths_of first calls) q (λ is. folder_at first calls q (folder_left first calls left q (and_parts (is_reachable names.folders q) (names.folders q) is).1));
      files = λ q. ap (λ (fs : List NamedFile). option_map (first_bytes fs) (first_number fs q)) files
          ∙ listed_files (bytes_found names bytes) (paths_of first calls) q (λ file is.
          file_has_path (is_reachable names.folders q) (names.files q) bytes (has_path (paths_of first calls) q) file (λ k e. file_at first calls q (file_left first calls left q k e)) is);
    }

-- the same, where the lists were made from the picks
pub found_by : (first found : Beginning) (calls : List Call) (pick left : List Bool) (paths : List (List ℕ)) (all : Bool) → left ≡ kept_by [] calls pick → paths ≡ paths_of first calls
    → found.folders ≡ paths_such (is_found (left_names first calls left)) paths
    → found.files ≡ files_such (bytes_found (left_names first calls left) (bytes_of all first calls)) paths
    → IsFound (picked_names pick (record_at first calls)) (picked_bytes all (record_at first calls)) (of_beginning found)
found_by first found calls pick left paths all is_left is_paths folders files =
    let P : List Bool → Type 0 = λ l. IsFound (left_names first calls l) (bytes_of all first calls) (of_beginning found) in
    subst P is_left (all_found first found calls left (bytes_of all first calls)
    (folders ∙ ap (λ (ps : List (List ℕ)). paths_such (is_found (left_names first calls left)) ps) is_paths)
    (files ∙ ap (λ (ps : List (List ℕ)). files_such (bytes_found (left_names first calls left) (bytes_of all first calls)) ps) is_paths))
