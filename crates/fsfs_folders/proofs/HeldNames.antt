-- What holds after a change of names that keeps to the rules.
use Rattle.std.proofs.Common.{◌≡◌, ℕ, List, [], ◌∷◌, Bool, true, false, cond, inl, inr, ⊎_elim, refl, sym, ap, subst, ◌∙◌, arith}
use Rattle.std.proofs.lemmas.Bool.{ne_eqb, cases_Bool, and_parts, or_cases, not-true, eqb-true}
use Rattle.std.specs.Prelude.{◌^◌, ◌||◌, ◌&&◌, ◌==◌, not, nat_le, is_some, length, Option, Some, None, option_map, unwrap_or}
use Rattle.std.specs.Cmp.Lexicographic.{nat_list_cmp_total}
use Rattle.std.specs.FinMap.{get, insert, remove, get-insert, get-remove}
use Rattle.fsfs_base.specs.Files.{Files, renamed, same_text}
use Rattle.fsfs_disk.specs.Trace.{Operation, Done, Put, Rename, Remove, files_after}
use Rattle.fsfs_folders.specs.System.CallRecord as system
use Rattle.fsfs_folders.specs.System.CallRecord.{Call, Named, MakeFolder, Create, Beginning, Standing, Contents, is_reachable, given, names_after, contents_after, no_contents, file_count}
use Rattle.fsfs_folders.specs.System.Remains.{AreNamesLeft}
use Rattle.fsfs_folders.proofs.NameLemmas.{given_apart, comes_from, reachable_with}
use Rattle.fsfs_folders.proofs.LeftLemmas.{now_is_left, number_within, folder_is_now}
use Rattle.fsfs_folders.specs.Told.{is_apart, is_in_bench, shown, bytes_after, bytes_at, files_of}
use Rattle.fsfs_folders.specs.Keeping.{are_folders_firm, is_place, is_whole, is_whole_file, is_naming}
use Rattle.fsfs_folders.proofs.ShownLemmas.{shown_alike, shown_given, shown_given_beside, shown_plain, apart_from_beside, put_back, backed, changed_again}
use Rattle.fsfs_folders.proofs.ApartLemmas.{reachable_outside}
use Rattle.fsfs_folders.proofs.Held.{Holds}

-- A file gets a name of the repository, by the parts of what is asked.
pub record IsNaming (first : Beginning) (calls : List Call) (from to : List ℕ) : Type 0 where
  pub plain : is_apart to ≡ false
  pub folders : are_folders_firm calls ≡ true
  pub above : is_reachable (names_after first calls).folders to ≡ true
  pub there : (n : ℕ) × ((names_after first calls).files from ≡ Some n)
  pub whole : (n : ℕ) → is_apart from ≡ true → (names_after first calls).files from ≡ Some n → is_whole (contents_after first calls n) ≡ true

some_file : (o : Option ℕ) → is_some o ≡ true → (n : ℕ) × (o ≡ Some n)
some_file None e = let h : false ≡ true = e in cc
some_file (Some n) e = (n, refl)

pub place_from : (first : Beginning) (calls : List Call) (path : List ℕ) → is_place first calls path ≡ true
    → (is_apart path ≡ false) × (are_folders_firm calls ≡ true) × (is_reachable (names_after first calls).folders path ≡ true)
place_from first calls path e =
    let a : (not (is_apart path) ≡ true) × ((are_folders_firm calls && is_reachable (names_after first calls).folders path) ≡ true) =
    and_parts (not (is_apart path)) (are_folders_firm calls && is_reachable (names_after first calls).folders path) e in
    let b : (are_folders_firm calls ≡ true) × (is_reachable (names_after first calls).folders path ≡ true) = and_parts (are_folders_firm calls) (is_reachable (names_after first calls).folders path) a.1 in
    (not-true (is_apart path) a.0, b.0, b.1)

pub whole_from : (file : Contents) → is_whole file ≡ true → (file.firm ≡ length file.bytes) × (nat_le (length file.bytes) (2 ^ 62) ≡ true)
whole_from file e =
    let a : ((file.firm == length file.bytes) ≡ true) × (nat_le (length file.bytes) (2 ^ 62) ≡ true) = and_parts (file.firm == length file.bytes) (nat_le (length file.bytes) (2 ^ 62)) e in
    (eqb-true file.firm (length file.bytes) a.0, a.1)

pub naming_from : (first : Beginning) (calls : List Call) (from to : List ℕ) → is_naming first calls from to ≡ true → IsNaming first calls from to
naming_from first calls from to e =
    let names : Standing = names_after first calls in
    let whole : (is_place first calls to ≡ true) × ((is_some (names.files from) && (not (is_apart from) || is_whole_file first calls (names.files from))) ≡ true) =
    and_parts (is_place first calls to) (is_some (names.files from) && (not (is_apart from) || is_whole_file first calls (names.files from))) e in
    let place : (is_apart to ≡ false) × (are_folders_firm calls ≡ true) × (is_reachable names.folders to ≡ true) = place_from first calls to whole.0 in
    let rest : (is_some (names.files from) ≡ true) × ((not (is_apart from) || is_whole_file first calls (names.files from)) ≡ true) =
    and_parts (is_some (names.files from)) (not (is_apart from) || is_whole_file first calls (names.files from)) whole.1 in
    record {
      plain = place.0;
      folders = place.1;
      above = place.2;
      there = some_file (names.files from) rest.0;
      whole = λ n beside is. ⊎_elim (λ plain. let h : true ≡ false = sym beside ∙ not-true (is_apart from) plain in cc)
          (λ firm. sym (ap (λ o. is_whole_file first calls o) is) ∙ firm)
          (or_cases (not (is_apart from)) (is_whole_file first calls (names.files from)) rest.1);
    }

pub firm_naming : (first : Beginning) (calls : List Call) (from to : List ℕ) → IsNaming first calls from to
    → (n : ℕ) → is_apart from ≡ true → (names_after first calls).files from ≡ Some n → (contents_after first calls n).firm ≡ length (contents_after first calls n).bytes
firm_naming first calls from to naming n beside is = (whole_from (contents_after first calls n) (naming.whole n beside is)).0

-- a folder more
pub held_folder : (first : Beginning) (calls : List Call) (operations : List Operation) (path : List ℕ) → Holds first calls operations → Holds first (Named (MakeFolder path) ∷ calls) operations
held_folder first calls operations path held = record {
  rooted = λ left q k are plain e. ⊎_elim (λ kept. held.rooted left q k kept.1 plain e)
      (λ done. subst (λ (n : Standing). is_reachable n.folders q ≡ true) (sym done.2) (reachable_with path done.0.folders q (held.rooted done.0 q k done.1 plain (sym (ap (λ (n : Standing). n.files q) done.2) ∙ e)))) are;
  firm = λ left q k are plain e. ⊎_elim (λ kept. held.firm left q k kept.1 plain e)
      (λ done. held.firm done.0 q k done.1 plain (sym (ap (λ (n : Standing). n.files q) done.2) ∙ e)) are;
  image = λ left m are shows. ⊎_elim (λ kept. held.image left m kept.1 shows)
      (λ done. held.image done.0 m done.1 (λ q. shows q ∙ ap (λ n. shown (bytes_after first calls) n q) done.2)) are;
  now = held.now;
}

-- a new file beside
pub held_create : (first : Beginning) (calls : List Call) (operations : List Operation) (path : List ℕ) → is_apart path ≡ true
    → Holds first calls operations → Holds first (Named (Create path) ∷ calls) operations
held_create first calls operations path beside held = record {
  rooted = λ left q k are plain e. ⊎_elim (λ kept. held.rooted left q k kept.1 plain e)
      (λ done. subst (λ (n : Standing). is_reachable n.folders q ≡ true) (sym done.2) (held.rooted done.0 q k done.1 plain (before done.0 left q k plain done.2 e))) are;
  firm = λ left q k are plain e. ⊎_elim (λ kept. firm_again left q k kept.1 plain e)
      (λ done. firm_again done.0 q k done.1 plain (before done.0 left q k plain done.2 e)) are;
  image = λ left m are shows. ⊎_elim (λ kept. held.image left m kept.1 (λ q. shows q ∙ alike left kept.1 q))
      (λ done. held.image done.0 m done.1 (λ q. shows q ∙ ap (λ n. shown (bytes_after first (Named (Create path) ∷ calls)) n q) done.2
      ∙ shown_given_beside (bytes_after first (Named (Create path) ∷ calls)) path (Some (file_count first calls)) done.0 q beside ∙ alike done.0 done.1 q)) are;
  now = λ q. held.now q ∙ sym (alike (names_after first calls) (now_is_left first [] calls) q)
      ∙ sym (shown_given_beside (bytes_after first (Named (Create path) ∷ calls)) path (Some (file_count first calls)) (names_after first calls) q beside);
}
  where
    kept_contents : (left : Standing) (q : List ℕ) (k : ℕ) → AreNamesLeft first [] calls left → left.files q ≡ Some k → contents_after first (Named (Create path) ∷ calls) k ≡ contents_after first calls k
    kept_contents left q k are e = ap (λ b. cond b no_contents (contents_after first calls k)) (ne_eqb k (file_count first calls) (λ same. omega (arith, same, number_within first [] calls left q k are e)))

    before : (was left : Standing) (q : List ℕ) (k : ℕ) → is_apart q ≡ false → left ≡ record was { files = given path (Some (file_count first calls)) was.files } → left.files q ≡ Some k → was.files q ≡ Some k
    before was left q k plain is e = sym (given_apart path (Some (file_count first calls)) was.files q (apart_from_beside path q beside plain)) ∙ sym (ap (λ (n : Standing). n.files q) is) ∙ e

    firm_again : (left : Standing) (q : List ℕ) (k : ℕ) → AreNamesLeft first [] calls left → is_apart q ≡ false → left.files q ≡ Some k
        → (contents_after first (Named (Create path) ∷ calls) k).firm ≡ length (contents_after first (Named (Create path) ∷ calls) k).bytes
    firm_again left q k are plain e = ap (λ (c : Contents). c.firm) (kept_contents left q k are e) ∙ held.firm left q k are plain e ∙ ap (λ (c : Contents). length c.bytes) (sym (kept_contents left q k are e))

    alike : (left : Standing) → AreNamesLeft first [] calls left → (q : List ℕ) → shown (bytes_after first (Named (Create path) ∷ calls)) left q ≡ shown (bytes_after first calls) left q
    alike left are q = shown_alike (bytes_after first calls) (bytes_after first (Named (Create path) ∷ calls)) left q (λ k plain e. ap (λ (c : Contents). c.bytes) (kept_contents left q k are e))

-- a name beside that is taken away
pub held_remove_beside : (first : Beginning) (calls : List Call) (operations : List Operation) (path : List ℕ) → is_apart path ≡ true
    → Holds first calls operations → Holds first (Named (system.Remove path) ∷ calls) operations
held_remove_beside first calls operations path beside held = record {
  rooted = λ left q k are plain e. ⊎_elim (λ kept. held.rooted left q k kept.1 plain e)
      (λ done. subst (λ (n : Standing). is_reachable n.folders q ≡ true) (sym done.2) (held.rooted done.0 q k done.1 plain (before done.0 left q k plain done.2 e))) are;
  firm = λ left q k are plain e. ⊎_elim (λ kept. held.firm left q k kept.1 plain e)
      (λ done. held.firm done.0 q k done.1 plain (before done.0 left q k plain done.2 e)) are;
  image = λ left m are shows. ⊎_elim (λ kept. held.image left m kept.1 shows)
      (λ done. held.image done.0 m done.1 (λ q. shows q ∙ ap (λ n. shown (bytes_after first calls) n q) done.2
      ∙ shown_given_beside (bytes_after first calls) path None done.0 q beside)) are;
  now = λ q. held.now q ∙ sym (shown_given_beside (bytes_after first calls) path None (names_after first calls) q beside);
}
  where
    before : (was left : Standing) (q : List ℕ) (k : ℕ) → is_apart q ≡ false → left ≡ record was { files = given path None was.files } → left.files q ≡ Some k → was.files q ≡ Some k
    before was left q k plain is e = sym (given_apart path None was.files q (apart_from_beside path q beside plain)) ∙ sym (ap (λ (n : Standing). n.files q) is) ∙ e

-- a name of the repository that is taken away
pub held_remove : (first : Beginning) (calls : List Call) (operations : List Operation) (path : List ℕ) → is_apart path ≡ false
    → Holds first calls operations → Holds first (Named (system.Remove path) ∷ calls) (Done (Remove path) ∷ operations)
held_remove first calls operations path at held = record {
  rooted = λ left q k are plain e. ⊎_elim (λ kept. held.rooted left q k kept.1 plain e)
      (λ done. subst (λ (n : Standing). is_reachable n.folders q ≡ true) (sym done.2) (held.rooted done.0 q k done.1 plain (before done.0 left q k done.2 e))) are;
  firm = λ left q k are plain e. ⊎_elim (λ kept. held.firm left q k kept.1 plain e)
      (λ done. held.firm done.0 q k done.1 plain (before done.0 left q k done.2 e)) are;
  image = λ left m are shows. ⊎_elim (λ kept. inl (held.image left m kept.1 shows))
      (λ done. let changes : (q : List ℕ) → get m q ≡ cond (same_text q path) None (shown (bytes_after first calls) done.0 q) =
      λ q. shows q ∙ ap (λ n. shown (bytes_after first calls) n q) done.2 ∙ shown_given (bytes_after first calls) path None done.0 q at in
      inr (
        put_back m path (shown (bytes_after first calls) done.0 path),
        held.image done.0 (put_back m path (shown (bytes_after first calls) done.0 path)) done.1 (backed m path None (shown (bytes_after first calls) done.0) changes),
        changed_again m path None (shown (bytes_after first calls) done.0) changes,
      )) are;
  now = λ q. get-remove nat_list_cmp_total (files_after (files_of first.files) operations) path q
      ∙ ap (λ x. cond (same_text q path) None x) (held.now q) ∙ sym (shown_given (bytes_after first calls) path None (names_after first calls) q at);
}
  where
    before : (was left : Standing) (q : List ℕ) (k : ℕ) → left ≡ record was { files = given path None was.files } → left.files q ≡ Some k → was.files q ≡ Some k
    before was left q k is e = ⊎_elim (λ w. w) (λ c. absurd c) (comes_from (system.Remove path) (file_count first calls) was was q k (sym (ap (λ (n : Standing). n.files q) is) ∙ e))

module _ (first : Beginning) (calls : List Call) (operations : List Operation) (from to : List ℕ) (naming : IsNaming first calls from to) (held : Holds first calls operations) where
  abbrev pub names : Standing
  names = names_after first calls

  abbrev pub bytes : ℕ → List ℕ
  bytes = bytes_after first calls

  -- the file that gets the name
  abbrev pub moved : List ℕ
  moved = bytes naming.there.0

  is_moved : option_map bytes (names.files from) ≡ Some moved
  is_moved = ap (λ f. option_map bytes f) naming.there.1

  pub moved_at : bytes_at first calls from ≡ moved
  moved_at = ap (λ o. unwrap_or o []) is_moved

  abbrev pub without_from : Standing → Standing
  without_from was = record was { files = given from None was.files }

  abbrev pub after : Standing → Standing
  after was = record was { files = given to (names.files from) (given from None was.files) }

  rooted_after : (left : Standing) (q : List ℕ) (k : ℕ) → AreNamesLeft first [] (Named (system.Rename from to) ∷ calls) left → is_apart q ≡ false → left.files q ≡ Some k → is_reachable left.folders q ≡ true
  rooted_after left q k are plain e = ⊎_elim (λ kept. held.rooted left q k kept.1 plain e)
      (λ done. subst (λ (n : Standing). is_reachable n.folders q ≡ true) (sym done.2)
      (⊎_elim (λ old. held.rooted done.0 q k done.1 plain old)
      (λ comes. reachable_outside names.folders done.0.folders q plain (λ p outside. folder_is_now is_in_bench p outside first [] calls done.0 naming.folders done.1) (subst (λ (p : List ℕ). is_reachable names.folders p ≡ true) (sym comes.0) naming.above))
      (comes_from (system.Rename from to) (file_count first calls) names done.0 q k (sym (ap (λ (n : Standing). n.files q) done.2) ∙ e)))) are

  firm_moved : (k : ℕ) → names.files from ≡ Some k → (contents_after first calls k).firm ≡ length (contents_after first calls k).bytes
  firm_moved k e = ⊎_elim (λ beside. firm_naming first calls from to naming k beside e) (λ plain. held.firm names from k (now_is_left first [] calls) plain e) (cases_Bool (is_apart from))

  firm_after : (left : Standing) (q : List ℕ) (k : ℕ) → AreNamesLeft first [] (Named (system.Rename from to) ∷ calls) left → is_apart q ≡ false → left.files q ≡ Some k
      → (contents_after first calls k).firm ≡ length (contents_after first calls k).bytes
  firm_after left q k are plain e = ⊎_elim (λ kept. held.firm left q k kept.1 plain e)
      (λ done. ⊎_elim (λ old. held.firm done.0 q k done.1 plain old) (λ comes. firm_moved k comes.1)
      (comes_from (system.Rename from to) (file_count first calls) names done.0 q k (sym (ap (λ (n : Standing). n.files q) done.2) ∙ e))) are

  -- what is shown with the new name
  shown_after : (was : Standing) (q : List ℕ) → shown bytes (after was) q ≡ cond (same_text q to) (Some moved) (shown bytes (without_from was) q)
  shown_after was q = shown_given bytes to (names.files from) (without_from was) q naming.plain ∙ ap (λ x. cond (same_text q to) x (shown bytes (without_from was) q)) is_moved

  -- a file that stood beside
  module _ (beside : is_apart from ≡ true) where
    put_shown : (was : Standing) (q : List ℕ) → shown bytes (after was) q ≡ cond (same_text q to) (Some moved) (shown bytes was q)
    put_shown was q = shown_after was q ∙ ap (λ x. cond (same_text q to) (Some moved) x) (shown_given_beside bytes from None was q beside)

    pub held_put : Holds first (Named (system.Rename from to) ∷ calls) (Done (Put to moved) ∷ operations)
    held_put = record {
      rooted = rooted_after;
      firm = firm_after;
      image = λ left m are shows. ⊎_elim (λ kept. inl (held.image left m kept.1 shows))
          (λ done. let changes : (q : List ℕ) → get m q ≡ cond (same_text q to) (Some moved) (shown bytes done.0 q) =
          λ q. shows q ∙ ap (λ n. shown bytes n q) done.2 ∙ put_shown done.0 q in
          inr (
            put_back m to (shown bytes done.0 to),
            held.image done.0 (put_back m to (shown bytes done.0 to)) done.1 (backed m to (Some moved) (shown bytes done.0) changes),
            changed_again m to (Some moved) (shown bytes done.0) changes,
          )) are;
      now = λ q. get-insert nat_list_cmp_total (files_after (files_of first.files) operations) to moved q
          ∙ ap (λ x. cond (same_text q to) (Some moved) x) (held.now q) ∙ sym (put_shown names q);
    }

  -- a file of the repository
  module _ (plain : is_apart from ≡ false) where
    rename_shown : (was : Standing) (q : List ℕ) → shown bytes (after was) q ≡ cond (same_text q to) (Some moved) (cond (same_text q from) None (shown bytes was q))
    rename_shown was q = shown_after was q ∙ ap (λ x. cond (same_text q to) (Some moved) x) (shown_given bytes from None was q plain)

    had : get (files_after (files_of first.files) operations) from ≡ Some moved
    had = held.now from ∙ shown_plain bytes names from plain ∙ is_moved

    abbrev pub lacking : Standing → List ℕ → Option (List ℕ)
    lacking was q = cond (same_text q from) None (shown bytes was q)

    pub held_rename : Holds first (Named (system.Rename from to) ∷ calls) (Done (Rename from to) ∷ operations)
    held_rename = record {
      rooted = rooted_after;
      firm = firm_after;
      image = λ left m are shows. ⊎_elim (λ kept. inl (held.image left m kept.1 shows))
          (λ done. let changes : (q : List ℕ) → get m q ≡ cond (same_text q to) (Some moved) (lacking done.0 q) =
          λ q. shows q ∙ ap (λ n. shown bytes n q) done.2 ∙ rename_shown done.0 q in
          let between : Files = put_back m to (lacking done.0 to) in
          let lacks : (q : List ℕ) → get between q ≡ lacking done.0 q = backed m to (Some moved) (lacking done.0) changes in
          inr (
            put_back between from (shown bytes done.0 from),
            held.image done.0 (put_back between from (shown bytes done.0 from)) done.1 (backed between from None (shown bytes done.0) lacks),
            changed_again m to (Some moved) (lacking done.0) changes
                ∙ ap (λ n. insert n to moved) (changed_again between from None (shown bytes done.0) lacks)
                ∙ ap (λ o. renamed (put_back between from (shown bytes done.0 from)) from to o) (sym had),
          )) are;
      now = λ q. ap (λ o. get (renamed (files_after (files_of first.files) operations) from to o) q) had
          ∙ get-insert nat_list_cmp_total (remove (files_after (files_of first.files) operations) from) to moved q
          ∙ ap (λ x. cond (same_text q to) (Some moved) x) (get-remove nat_list_cmp_total (files_after (files_of first.files) operations) from q ∙ ap (λ x. cond (same_text q from) None x) (held.now q))
          ∙ sym (rename_shown names q);
    }
