-- What holds after a folder was dropped, or a file of a part got a name.
use Rattle.std.proofs.Common.{◌≡◌, ℕ, List, [], ◌∷◌, Bool, true, false, cond, inl, inr, ⊎_elim, refl, sym, ap, subst, ◌∙◌, arith}
use Rattle.std.proofs.lemmas.Bool.{ne_eqb, eq-eqb, and_parts, or_cases, not-true}
use Rattle.std.specs.Prelude.{◌||◌, ◌&&◌, not, is_some, length, Option, Some, None, option_map}
use Rattle.std.specs.Cmp.Lexicographic.{nat_list_cmp_total}
use Rattle.std.specs.FinMap.{get, get-insert}
use Rattle.fsfs_disk.specs.Trace.{Operation, Done, Adopt, files_after}
use Rattle.fsfs_folders.specs.System.Paths.{has_path, is_below}
use Rattle.fsfs_folders.specs.System.CallRecord.{Call, Named, DropFolder, Take, Beginning, Standing, Contents, is_reachable, given, names_after, contents_after, file_count}
use Rattle.fsfs_folders.specs.System.Named.{named_paths}
use Rattle.fsfs_folders.specs.System.Remains.{AreNamesLeft}
use Rattle.fsfs_folders.specs.SameText.{text_cases}
use Rattle.fsfs_folders.proofs.NameLemmas.{comes_from, reachable_without}
use Rattle.fsfs_folders.proofs.NamedLemmas.{file_is_named}
use Rattle.fsfs_folders.proofs.LeftLemmas.{now_is_left, number_within, folder_is_now, files_are_now}
use Rattle.fsfs_folders.specs.Told.{is_apart, is_in_bench, shown, bytes_after, files_of}
use Rattle.fsfs_folders.specs.Keeping.{are_names_firm, are_folders_firm, is_place, is_whole, is_dropping, are_none_below}
use Rattle.fsfs_folders.proofs.ApartLemmas.{bench_apart, in_bench_below, reachable_outside}
use Rattle.fsfs_folders.proofs.ShownLemmas.{shown_alike, shown_given, put_back, backed, changed_again}
use Rattle.fsfs_folders.proofs.Held.{Holds}
use Rattle.fsfs_folders.proofs.HeldNames.{place_from, whole_from}
use Rattle.fsfs_base.specs.Files.{same_text}

-- of paths among which none is below a folder
none_is_below : (names : Standing) (folder : List ℕ) (paths : List (List ℕ)) → are_none_below names folder paths ≡ true
    → (q : List ℕ) (k : ℕ) → has_path paths q ≡ true → names.files q ≡ Some k → is_below folder q ≡ false
none_is_below names folder [] none q k has e = let h : false ≡ true = has in cc
none_is_below names folder (p ∷ ps) none q k has e =
    let parts : (not (is_below folder p && is_some (names.files p)) ≡ true) × (are_none_below names folder ps ≡ true) = and_parts (not (is_below folder p && is_some (names.files p))) (are_none_below names folder ps) none in
    ⊎_elim (λ s. here (is_below folder q) (ap (λ (x : List ℕ). not (is_below folder x && is_some (names.files x))) s.0 ∙ parts.0))
    (λ o. none_is_below names folder ps parts.1 q k (sym (ap (λ b. b || has_path ps q) o.1) ∙ has) e) (text_cases q p)
  where
    here : (b : Bool) → not (b && is_some (names.files q)) ≡ true → b ≡ false
    here true h = let g : false ≡ true = ap (λ o. not (is_some o)) (sym e) ∙ h in cc
    here false h = refl

module _ (first : Beginning) (calls : List Call) (operations : List Operation) (path : List ℕ) (held : Holds first calls operations) where
  -- a folder that is dropped
  module _ (dropping : is_dropping first calls path ≡ true) where
    rule : (not (same_text [] path) ≡ true) × ((is_in_bench path || (are_names_firm [] calls && are_none_below (names_after first calls) path (named_paths first calls))) ≡ true)
    rule = and_parts (not (same_text [] path)) (is_in_bench path || (are_names_firm [] calls && are_none_below (names_after first calls) path (named_paths first calls))) dropping

    not_below : (was : Standing) (q : List ℕ) (k : ℕ) → AreNamesLeft first [] calls was → is_apart q ≡ false → was.files q ≡ Some k → is_below path q ≡ false
    not_below was q k are plain e =
        ⊎_elim (λ bench. by_test (is_below path q) (λ below. let h : true ≡ false = sym (bench_apart q (in_bench_below path q bench below)) ∙ plain in cc))
        (λ bare. let parts : (are_names_firm [] calls ≡ true) × (are_none_below (names_after first calls) path (named_paths first calls) ≡ true) = and_parts (are_names_firm [] calls) (are_none_below (names_after first calls) path (named_paths first calls)) bare in
        let now : (names_after first calls).files q ≡ Some k = sym (ap {B = Option ℕ} (λ (files : List ℕ → Option ℕ). files q) (files_are_now is_in_bench first [] calls was parts.0 are)) ∙ e in
        none_is_below (names_after first calls) path (named_paths first calls) parts.1 q k (file_is_named first calls q k now) now)
        (or_cases (is_in_bench path) (are_names_firm [] calls && are_none_below (names_after first calls) path (named_paths first calls)) rule.1)
      where
        by_test : (b : Bool) → (b ≡ true → ⊥) → b ≡ false
        by_test true h = absurd (h refl)
        by_test false h = refl

    pub held_drop : Holds first (Named (DropFolder path) ∷ calls) operations
    held_drop = record {
      rooted = λ left q k are plain e. ⊎_elim (λ kept. held.rooted left q k kept.1 plain e)
          (λ done. let was : done.0.files q ≡ Some k = sym (ap (λ (n : Standing). n.files q) done.2) ∙ e in
          subst (λ (n : Standing). is_reachable n.folders q ≡ true) (sym done.2)
          (reachable_without path done.0.folders q (not-true (same_text [] path) rule.0) (not_below done.0 q k done.1 plain was) (held.rooted done.0 q k done.1 plain was))) are;
      firm = λ left q k are plain e. ⊎_elim (λ kept. held.firm left q k kept.1 plain e)
          (λ done. held.firm done.0 q k done.1 plain (sym (ap (λ (n : Standing). n.files q) done.2) ∙ e)) are;
      image = λ left m are shows. ⊎_elim (λ kept. held.image left m kept.1 shows)
          (λ done. held.image done.0 m done.1 (λ q. shows q ∙ ap (λ n. shown (bytes_after first calls) n q) done.2)) are;
      now = held.now;
    }

  -- a file of a part that gets a name
  module _ (contents : Contents) (place : is_place first calls path ≡ true) (whole : is_whole contents ≡ true) where
    abbrev names : Standing
    names = names_after first calls

    abbrev number : ℕ
    number = file_count first calls

    abbrev bytes : ℕ → List ℕ
    bytes = bytes_after first (Named (Take path contents) ∷ calls)

    abbrev after : Standing → Standing
    after was = record was { files = given path (Some number) was.files }

    parts : (is_apart path ≡ false) × (are_folders_firm calls ≡ true) × (is_reachable names.folders path ≡ true)
    parts = place_from first calls path place

    own : contents_after first (Named (Take path contents) ∷ calls) number ≡ contents
    own = ap (λ b. cond b contents (contents_after first calls number)) (eq-eqb number number refl)

    kept_contents : (left : Standing) (q : List ℕ) (k : ℕ) → AreNamesLeft first [] calls left → left.files q ≡ Some k → contents_after first (Named (Take path contents) ∷ calls) k ≡ contents_after first calls k
    kept_contents left q k are e = ap (λ b. cond b contents (contents_after first calls k)) (ne_eqb k number (λ same. omega (arith, same, number_within first [] calls left q k are e)))

    firm_again : (left : Standing) (q : List ℕ) (k : ℕ) → AreNamesLeft first [] calls left → is_apart q ≡ false → left.files q ≡ Some k
        → (contents_after first (Named (Take path contents) ∷ calls) k).firm ≡ length (contents_after first (Named (Take path contents) ∷ calls) k).bytes
    firm_again left q k are plain e = ap (λ (c : Contents). c.firm) (kept_contents left q k are e) ∙ held.firm left q k are plain e ∙ ap (λ (c : Contents). length c.bytes) (sym (kept_contents left q k are e))

    firm_own : (k : ℕ) → k ≡ number → (contents_after first (Named (Take path contents) ∷ calls) k).firm ≡ length (contents_after first (Named (Take path contents) ∷ calls) k).bytes
    firm_own k is =
        let same : contents_after first (Named (Take path contents) ∷ calls) k ≡ contents = ap (λ n. contents_after first (Named (Take path contents) ∷ calls) n) is ∙ own in
        ap (λ (c : Contents). c.firm) same ∙ (whole_from contents whole).0 ∙ ap (λ (c : Contents). length c.bytes) (sym same)

    alike : (left : Standing) → AreNamesLeft first [] calls left → (q : List ℕ) → shown bytes left q ≡ shown (bytes_after first calls) left q
    alike left are q = shown_alike (bytes_after first calls) bytes left q (λ k plain e. ap (λ (c : Contents). c.bytes) (kept_contents left q k are e))

    own_bytes : option_map bytes (Some number) ≡ Some contents.bytes
    own_bytes = ap (λ (c : Contents). Some c.bytes) own

    taken_shown : (was : Standing) → AreNamesLeft first [] calls was → (q : List ℕ) → shown bytes (after was) q ≡ cond (same_text q path) (Some contents.bytes) (shown (bytes_after first calls) was q)
    taken_shown was are q = shown_given bytes path (Some number) was q parts.0
        ∙ ap (λ x. cond (same_text q path) x (shown bytes was q)) own_bytes ∙ ap (λ x. cond (same_text q path) (Some contents.bytes) x) (alike was are q)

    pub held_take : Holds first (Named (Take path contents) ∷ calls) (Done (Adopt path contents.bytes) ∷ operations)
    held_take = record {
      rooted = λ left q k are plain e. ⊎_elim (λ kept. held.rooted left q k kept.1 plain e)
          (λ done. subst (λ (n : Standing). is_reachable n.folders q ≡ true) (sym done.2)
          (⊎_elim (λ old. held.rooted done.0 q k done.1 plain old)
          (λ comes. reachable_outside names.folders done.0.folders q plain (λ p outside. folder_is_now is_in_bench p outside first [] calls done.0 parts.1 done.1) (subst (λ (p : List ℕ). is_reachable names.folders p ≡ true) (sym comes.0) parts.2))
          (comes_from (Take path contents) number names done.0 q k (sym (ap (λ (n : Standing). n.files q) done.2) ∙ e)))) are;
      firm = λ left q k are plain e. ⊎_elim (λ kept. firm_again left q k kept.1 plain e)
          (λ done. ⊎_elim (λ old. firm_again done.0 q k done.1 plain old) (λ comes. firm_own k comes.1)
          (comes_from (Take path contents) number names done.0 q k (sym (ap (λ (n : Standing). n.files q) done.2) ∙ e))) are;
      image = λ left m are shows. ⊎_elim (λ kept. inl (held.image left m kept.1 (λ q. shows q ∙ alike left kept.1 q)))
          (λ done. let changes : (q : List ℕ) → get m q ≡ cond (same_text q path) (Some contents.bytes) (shown (bytes_after first calls) done.0 q) =
          λ q. shows q ∙ ap (λ n. shown bytes n q) done.2 ∙ taken_shown done.0 done.1 q in
          inr (
            put_back m path (shown (bytes_after first calls) done.0 path),
            held.image done.0 (put_back m path (shown (bytes_after first calls) done.0 path)) done.1 (backed m path (Some contents.bytes) (shown (bytes_after first calls) done.0) changes),
            changed_again m path (Some contents.bytes) (shown (bytes_after first calls) done.0) changes,
          )) are;
      now = λ q. get-insert nat_list_cmp_total (files_after (files_of first.files) operations) path contents.bytes q
          ∙ ap (λ x. cond (same_text q path) (Some contents.bytes) x) (held.now q) ∙ sym (taken_shown names (now_is_left first [] calls) q);
    }
