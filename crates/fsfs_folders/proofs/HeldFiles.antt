-- Which files a bench has after a call on its folder.
use Rattle.std.proofs.Common.{◌≡◌, ◌⊎◌, ℕ, List, [], ◌∷◌, ◌++◌, Bool, true, false, cond, inl, inr, ⊎_elim, refl, sym, ap, subst, ◌∙◌, arith}
use Rattle.std.proofs.lemmas.Bool.{ne_eqb, eq-eqb}
use Rattle.std.proofs.lemmas.Option.{same_Some, none-some}
use Rattle.std.specs.Prelude.{◌||◌, length, Option, Some, None, option_map, unwrap_or}
use Rattle.std.specs.FinMap.{get, get-empty}
use Rattle.fsfs_base.proofs.FileLemmas.{same_files}
use Rattle.fsfs_base.specs.Files.{same_text}
use Rattle.fsfs_folders.specs.System.Paths.{has_path}
use Rattle.fsfs_folders.specs.System.Listing.{is_entry}
use Rattle.fsfs_folders.specs.System.Named.{named_paths}
use Rattle.fsfs_folders.specs.System.CallRecord.{CallRecord, Call, Named, Create, Remove, SyncFile, FailSync, Append, Contents, Standing, no_contents, more_bytes, made_firm, made_lost, given, add_call, names_now, contents_now, new_number, Makes, Does}
use Rattle.fsfs_folders.specs.SameText.{text_cases}
use Rattle.fsfs_folders.proofs.NameLemmas.{given_at, given_apart}
use Rattle.fsfs_folders.proofs.NamedLemmas.{file_is_named}
use Rattle.fsfs_folders.proofs.LeftLemmas.{now_is_left, number_within}
use Rattle.fsfs_folders.proofs.OneName.{one_name}
use Rattle.fsfs_folders.specs.BenchFiles.{file_held, bytes_of, gathered, files_held, firm_part, firm_held, Sets}
use Rattle.fsfs_folders.specs.Writing.{joined, with_pieces, Writes}
use Rattle.fsfs_folders.specs.Laws.{get_with}
use Rattle.fsfs_folders.proofs.WritingLemmas.{pieces_names, pieces_bytes, pieces_others}

gathered_has : (names : List (List ℕ)) (file_of : List ℕ → Option (List ℕ)) (q : List ℕ) → has_path names q ≡ true → get (gathered names file_of) q ≡ file_of q
gathered_has [] file_of q has = let h : false ≡ true = has in cc
gathered_has (p ∷ ps) file_of q has =
    get_with (gathered ps file_of) p (file_of p) q
    ∙ ⊎_elim (λ s. ap (λ b. cond b (file_of p) (get (gathered ps file_of) q)) s.1 ∙ sym (ap file_of s.0))
    (λ o. ap (λ b. cond b (file_of p) (get (gathered ps file_of) q)) o.1 ∙ gathered_has ps file_of q (sym (ap (λ b. b || has_path ps q) o.1) ∙ has)) (text_cases q p)

gathered_lacks : (names : List (List ℕ)) (file_of : List ℕ → Option (List ℕ)) (q : List ℕ) → file_of q ≡ None → get (gathered names file_of) q ≡ None
gathered_lacks [] file_of q none = get-empty _ q
gathered_lacks (p ∷ ps) file_of q none =
    get_with (gathered ps file_of) p (file_of p) q
    ∙ ⊎_elim (λ s. ap (λ b. cond b (file_of p) (get (gathered ps file_of) q)) s.1 ∙ sym (ap file_of s.0) ∙ none)
    (λ o. ap (λ b. cond b (file_of p) (get (gathered ps file_of) q)) o.1 ∙ gathered_lacks ps file_of q none) (text_cases q p)

-- the number of a file that is held
pub held_number : (r : CallRecord) (name : List ℕ) (file : Contents) → file_held r name ≡ Some file → (is_entry name ≡ true) × ((n : ℕ) × ((names_now r).files name ≡ Some n) × (contents_now r n ≡ file))
held_number r name file e = parts (is_entry name) ((names_now r).files name) e
  where
    parts : (b : Bool) (o : Option ℕ) → cond b (option_map (contents_now r) o) None ≡ Some file → (b ≡ true) × ((n : ℕ) × (o ≡ Some n) × (contents_now r n ≡ file))
    parts true None h = absurd (none-some file h)
    parts true (Some n) h = (refl, (n, refl, same_Some (contents_now r n) file h))
    parts false o h = absurd (none-some file h)

pub held_at : (r : CallRecord) (name : List ℕ) (n : ℕ) → is_entry name ≡ true → (names_now r).files name ≡ Some n → file_held r name ≡ Some (contents_now r n)
held_at r name n entry has = ap (λ b. cond b (option_map (contents_now r) ((names_now r).files name)) None) entry ∙ ap (λ o. option_map (contents_now r) o) has

pub held_none : (r : CallRecord) (name : List ℕ) → (names_now r).files name ≡ None → file_held r name ≡ None
held_none r name lacks = ap (λ o. cond (is_entry name) (option_map (contents_now r) o) None) lacks ∙ none (is_entry name)
  where
    none : (b : Bool) → cond b (option_map (contents_now r) None) None ≡ None
    none true = refl
    none false = refl

pub held_outside : (r : CallRecord) (name : List ℕ) → is_entry name ≡ false → file_held r name ≡ None
held_outside r name other = ap (λ b. cond b (option_map (contents_now r) ((names_now r).files name)) None) other

-- the files are those that are held
pub files_told : (r : CallRecord) (q : List ℕ) → get (files_held r) q ≡ bytes_of (file_held r q)
files_told r q = by_file (file_held r q) refl
  where
    by_file : (o : Option Contents) → file_held r q ≡ o → get (files_held r) q ≡ bytes_of (file_held r q)
    by_file None e = gathered_lacks (named_paths r.first r.calls) (λ name. bytes_of (file_held r name)) q (ap bytes_of e) ∙ sym (ap bytes_of e)
    by_file (Some file) e =
        let n = held_number r q file e in
        gathered_has (named_paths r.first r.calls) (λ name. bytes_of (file_held r name)) q (file_is_named r.first r.calls q n.1.0 n.1.1)

mapped : (f g : ℕ → Contents) (o : Option ℕ) → ((k : ℕ) → o ≡ Some k → g k ≡ f k) → option_map g o ≡ option_map f o
mapped f g None same = refl
mapped f g (Some k) same = ap (λ c. Some c) (same k refl)

-- of another name nothing has changed
module _ (r s : CallRecord) (q : List ℕ) where
  pub other_held : (names_now s).files q ≡ (names_now r).files q → ((k : ℕ) → (names_now r).files q ≡ Some k → contents_now s k ≡ contents_now r k) → file_held s q ≡ file_held r q
  other_held names same =
      ap (λ o. cond (is_entry q) (option_map (contents_now s) o) None) names
      ∙ ap (λ x. cond (is_entry q) x None) (mapped (contents_now r) (contents_now s) ((names_now r).files q) same)

module _ (name : List ℕ) (entry : is_entry name ≡ true) where
  -- a file that was made
  pub created : (old new : Option CallRecord) → Makes (Create name) old new → Sets name (λ r. Some no_contents) old new
  created None new makes = makes
  created (Some r) new makes = subst (λ o. Sets name (λ r. Some no_contents) (Some r) o) (sym makes.1) (λ q.
      ⊎_elim
      (λ s. ap (λ x. file_held made x) s.0 ∙ held_at made name (new_number r) entry (given_at name (Some (new_number r)) (names_now r).files)
      ∙ ap (λ b. Some (cond b no_contents (contents_now r (new_number r)))) (eq-eqb (new_number r) (new_number r) refl) ∙ sym (ap (λ b. cond b (Some no_contents) (file_held r q)) s.1))
      (λ o. other_held r made q (given_apart name (Some (new_number r)) (names_now r).files q o.1)
      (λ k e. ap (λ b. cond b no_contents (contents_now r k)) (ne_eqb k (new_number r) (λ same. omega (arith, same, number_within r.first [] r.calls (names_now r) q k (now_is_left r.first [] r.calls) e))))
      ∙ sym (ap (λ b. cond b (Some no_contents) (file_held r q)) o.1)) (text_cases q name))
    where
      made : CallRecord
      made = add_call (Named (Create name)) r

  -- one that was taken away
  pub gone : (old new : Option CallRecord) → Makes (Remove name) old new → Sets name (λ r. None) old new
  gone None new makes = makes
  gone (Some r) new makes = subst (λ o. Sets name (λ r. None) (Some r) o) (sym makes.1) (λ q.
      ⊎_elim
      (λ s. ap (λ x. file_held left x) s.0 ∙ held_none left name (given_at name None (names_now r).files) ∙ sym (ap (λ b. cond b None (file_held r q)) s.1))
      (λ o. other_held r left q (given_apart name None (names_now r).files q o.1) (λ k e. refl) ∙ sym (ap (λ b. cond b None (file_held r q)) o.1)) (text_cases q name))
    where
      left : CallRecord
      left = add_call (Named (Remove name)) r

  -- the contents of one file changed
  module _ (r s : CallRecord) (n : ℕ) (has : (names_now r).files name ≡ Some n) (names : names_now s ≡ names_now r) (others : (k : ℕ) → (k ≡ n → ⊥) → contents_now s k ≡ contents_now r k) where
    touched : (q : List ℕ) → file_held s q ≡ cond (same_text q name) (Some (contents_now s n)) (file_held r q)
    touched q = ⊎_elim
        (λ t. ap (λ x. file_held s x) t.0 ∙ held_at s name n entry (ap (λ (x : Standing). x.files name) names ∙ has) ∙ sym (ap (λ b. cond b (Some (contents_now s n)) (file_held r q)) t.1))
        (λ o. other_held r s q (ap (λ (x : Standing). x.files q) names) (λ k e. others k (λ same. o.0 (one_name r.first r.calls q name n (e ∙ ap (λ x. Some x) same) has)))
        ∙ sym (ap (λ b. cond b (Some (contents_now s n)) (file_held r q)) o.1)) (text_cases q name)

  pub wrote : (n : ℕ) (bytes : List ℕ) (old new : Option CallRecord) → ((r : CallRecord) → old ≡ Some r → (names_now r).files name ≡ Some n) → Writes n bytes old new
      → Sets name (λ r. Some (more_bytes bytes (contents_now r n))) old new
  wrote n bytes None new has w = w.2
  wrote n bytes (Some r) new has w = subst (λ o. Sets name (λ r. Some (more_bytes bytes (contents_now r n))) (Some r) o) (sym w.2) (λ q.
      touched r (with_pieces n w.0 r) n (has r refl) (pieces_names n w.0 r) (pieces_others n w.0 r) q
      ∙ ap (λ c. cond (same_text q name) (Some c) (file_held r q)) (pieces_bytes n w.0 r ∙ ap (λ b. more_bytes b (contents_now r n)) w.1))

  pub synced : (n : ℕ) (old new : Option CallRecord) → ((r : CallRecord) → old ≡ Some r → (names_now r).files name ≡ Some n) → Does (SyncFile n) old new
      → Sets name (λ r. Some (made_firm (contents_now r n))) old new
  synced n None new has does = does
  synced n (Some r) new has does = subst (λ o. Sets name (λ r. Some (made_firm (contents_now r n))) (Some r) o) (sym does) (λ q.
      touched r (add_call (SyncFile n) r) n (has r refl) refl (λ k other. ap (λ b. cond b (made_firm (contents_now r k)) (contents_now r k)) (ne_eqb k n other)) q
      ∙ ap (λ b. cond (same_text q name) (Some (cond b (made_firm (contents_now r n)) (contents_now r n))) (file_held r q)) (eq-eqb n n refl))

  pub lost : (n : ℕ) (old new : Option CallRecord) → ((r : CallRecord) → old ≡ Some r → (names_now r).files name ≡ Some n) → Does (FailSync n) old new
      → Sets name (λ r. Some (made_lost (contents_now r n))) old new
  lost n None new has does = does
  lost n (Some r) new has does = subst (λ o. Sets name (λ r. Some (made_lost (contents_now r n))) (Some r) o) (sym does) (λ q.
      touched r (add_call (FailSync n) r) n (has r refl) refl (λ k other. ap (λ b. cond b (made_lost (contents_now r k)) (contents_now r k)) (ne_eqb k n other)) q
      ∙ ap (λ b. cond (same_text q name) (Some (cond b (made_lost (contents_now r n)) (contents_now r n))) (file_held r q)) (eq-eqb n n refl))
