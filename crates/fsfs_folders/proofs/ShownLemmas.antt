-- What the names show of the repository's files, after a change of names or of bytes.
use Rattle.std.proofs.Common.{◌≡◌, ◌⊎◌, ℕ, List, [], ◌∷◌, Bool, true, false, cond, inl, inr, ⊎_elim, refl, sym, ap, subst, ◌∙◌, arith}
use Rattle.std.proofs.lemmas.Bool.{cases_Bool, ne_eqb, eq-eqb}
use Rattle.std.specs.Prelude.{◌<◌, length, Option, Some, None, option_map}
use Rattle.std.specs.Cmp.Lexicographic.{nat_list_cmp_total}
use Rattle.std.specs.FinMap.{get, insert, remove, empty, get-insert, get-remove, get-empty}
use Rattle.fsfs_base.specs.Files.{Files, NamedFile, same_text}
use Rattle.fsfs_base.proofs.FileLemmas.{same_files}
use Rattle.fsfs_folders.specs.System.CallRecord.{Standing, given, first_number, first_bytes}
use Rattle.fsfs_folders.specs.SameText.{text_cases}
use Rattle.fsfs_folders.proofs.NameLemmas.{given_apart, first_within}
use Rattle.fsfs_folders.specs.Told.{is_apart, shown, files_of}

pub shown_beside : (bytes : ℕ → List ℕ) (names : Standing) (q : List ℕ) → is_apart q ≡ true → shown bytes names q ≡ None
shown_beside bytes names q e = ap (λ b. cond b None (option_map bytes (names.files q))) e

pub shown_plain : (bytes : ℕ → List ℕ) (names : Standing) (q : List ℕ) → is_apart q ≡ false → shown bytes names q ≡ option_map bytes (names.files q)
shown_plain bytes names q e = ap (λ b. cond b None (option_map bytes (names.files q))) e

mapped : (bytes more : ℕ → List ℕ) (file : Option ℕ) → ((k : ℕ) → file ≡ Some k → more k ≡ bytes k) → option_map more file ≡ option_map bytes file
mapped bytes more None same = refl
mapped bytes more (Some k) same = ap (λ b. Some b) (same k refl)

-- the same is shown where the files that have names keep their bytes
pub shown_alike : (bytes more : ℕ → List ℕ) (names : Standing) (q : List ℕ)
    → ((k : ℕ) → is_apart q ≡ false → names.files q ≡ Some k → more k ≡ bytes k) → shown more names q ≡ shown bytes names q
shown_alike bytes more names q same =
    ⊎_elim (λ t. shown_beside more names q t ∙ sym (shown_beside bytes names q t))
    (λ f. shown_plain more names q f ∙ mapped bytes more (names.files q) (λ k e. same k f e) ∙ sym (shown_plain bytes names q f)) (cases_Bool (is_apart q))

-- what is shown is by the files alone
pub shown_by_files : (bytes : ℕ → List ℕ) (names more : Standing) (q : List ℕ) → names.files ≡ more.files → shown bytes names q ≡ shown bytes more q
shown_by_files bytes names more q same = ap {B = Option (List ℕ)} (λ (files : List ℕ → Option ℕ). cond (is_apart q) None (option_map bytes (files q))) same

pub apart_from_beside : (p q : List ℕ) → is_apart p ≡ true → is_apart q ≡ false → same_text q p ≡ false
apart_from_beside p q beside plain =
    ⊎_elim (λ s. let h : true ≡ false = sym (ap is_apart s.0 ∙ beside) ∙ plain in cc) (λ o. o.1) (text_cases q p)

-- a change of a name beside shows nothing
pub shown_given_beside : (bytes : ℕ → List ℕ) (p : List ℕ) (file : Option ℕ) (was : Standing) (q : List ℕ)
    → is_apart p ≡ true → shown bytes (record was { files = given p file was.files }) q ≡ shown bytes was q
shown_given_beside bytes p file was q beside =
    ⊎_elim (λ t. shown_beside bytes (record was { files = given p file was.files }) q t ∙ sym (shown_beside bytes was q t))
    (λ f. ap (λ x. cond (is_apart q) None (option_map bytes x)) (given_apart p file was.files q (apart_from_beside p q beside f))) (cases_Bool (is_apart q))

-- a change of a name of the repository shows there
pub shown_given : (bytes : ℕ → List ℕ) (p : List ℕ) (file : Option ℕ) (was : Standing) (q : List ℕ)
    → is_apart p ≡ false → shown bytes (record was { files = given p file was.files }) q ≡ cond (same_text q p) (option_map bytes file) (shown bytes was q)
shown_given bytes p file was q plain =
    ⊎_elim
    (λ s. ap (λ b. cond b None (option_map bytes (given p file was.files q))) (ap is_apart s.0 ∙ plain)
    ∙ ap (λ b. option_map bytes (cond b file (was.files q))) s.1
    ∙ sym (ap (λ b. cond b (option_map bytes file) (shown bytes was q)) s.1))
    (λ o. ap (λ x. cond (is_apart q) None (option_map bytes x)) (given_apart p file was.files q o.1)
    ∙ sym (ap (λ b. cond b (option_map bytes file) (shown bytes was q)) o.1)) (text_cases q p)

-- files with these bytes at a name, or with none
abbrev pub put_back : Files → List ℕ → Option (List ℕ) → Files
put_back m p None = remove m p
put_back m p (Some bytes) = insert m p bytes

pub get_back : (m : Files) (p : List ℕ) (file : Option (List ℕ)) (q : List ℕ) → get (put_back m p file) q ≡ cond (same_text q p) file (get m q)
get_back m p None q = get-remove nat_list_cmp_total m p q
get_back m p (Some bytes) q = get-insert nat_list_cmp_total m p bytes q

-- the files before a change at one name
pub backed : (m : Files) (p : List ℕ) (file : Option (List ℕ)) (before : List ℕ → Option (List ℕ))
    → ((q : List ℕ) → get m q ≡ cond (same_text q p) file (before q)) → (q : List ℕ) → get (put_back m p (before p)) q ≡ before q
backed m p file before shows q =
    get_back m p (before p) q
    ∙ ⊎_elim (λ s. ap (λ b. cond b (before p) (get m q)) s.1 ∙ sym (ap before s.0))
    (λ o. ap (λ b. cond b (before p) (get m q)) o.1 ∙ shows q ∙ ap (λ b. cond b file (before q)) o.1) (text_cases q p)

pub changed_again : (m : Files) (p : List ℕ) (file : Option (List ℕ)) (before : List ℕ → Option (List ℕ))
    → ((q : List ℕ) → get m q ≡ cond (same_text q p) file (before q)) → m ≡ put_back (put_back m p (before p)) p file
changed_again m p file before shows =
    same_files m (put_back (put_back m p (before p)) p file) (λ q.
    shows q ∙ ap (λ x. cond (same_text q p) file x) (sym (backed m p file before shows q)) ∙ sym (get_back (put_back m p (before p)) p file q))

module _ (file : NamedFile) (files : List NamedFile) (folders : List ℕ → Bool) (q : List ℕ) where
  abbrev behind : Standing
  behind = record { folders = folders; files = first_number files }

  abbrev bytes : ℕ → List ℕ
  bytes = first_bytes (file ∷ files)

  kept : (k : ℕ) → is_apart q ≡ false → first_number files q ≡ Some k → bytes k ≡ first_bytes files k
  kept k plain e = ap (λ b. cond b file.1 (first_bytes files k)) (ne_eqb k (length files) (λ same. let h : k < length files = first_within files q k e in omega (arith, same, h)))

  own : Some file.1 ≡ option_map bytes (Some (length files))
  own = ap (λ b. Some (cond b file.1 (first_bytes files (length files)))) (sym (eq-eqb (length files) (length files) refl))

  one_more : get (files_of files) q ≡ shown (first_bytes files) behind q → get (files_of (file ∷ files)) q ≡ shown bytes (record { folders = folders; files = first_number (file ∷ files) }) q
  one_more before =
      let rest : get (files_of files) q ≡ shown bytes behind q = before ∙ sym (shown_alike (first_bytes files) bytes behind q kept) in
      ⊎_elim (λ t. ap (λ b. get (cond b (files_of files) (insert (files_of files) file.0 file.1)) q) t ∙ rest ∙ sym (shown_given_beside bytes file.0 (Some (length files)) behind q t))
      (λ f. ap (λ b. get (cond b (files_of files) (insert (files_of files) file.0 file.1)) q) f
      ∙ get-insert nat_list_cmp_total (files_of files) file.0 file.1 q
      ∙ ap (λ x. cond (same_text q file.0) (Some file.1) x) rest
      ∙ ap (λ x. cond (same_text q file.0) x (shown bytes behind q)) own
      ∙ sym (shown_given bytes file.0 (Some (length files)) behind q f)) (cases_Bool (is_apart file.0))

-- the files at the beginning
pub first_shown : (files : List NamedFile) (folders : List ℕ → Bool) (q : List ℕ) → get (files_of files) q ≡ shown (first_bytes files) (record { folders = folders; files = first_number files }) q
first_shown [] folders q = get-empty _ q ∙ sym (none (is_apart q))
  where
    none : (b : Bool) → cond b None (option_map (first_bytes []) None) ≡ None
    none true = refl
    none false = refl
first_shown (file ∷ files) folders q = one_more file files folders q (first_shown files folders q)
