-- No file has two names.
use Rattle.std.proofs.Common.{◌≡◌, ◌⊎◌, ℕ, List, [], ◌∷◌, Bool, true, false, cond, inl, inr, ⊎_elim, refl, sym, ap, ◌∙◌, arith}
use Rattle.std.proofs.lemmas.Option.{same_Some, none-some}
use Rattle.std.specs.Prelude.{◌<◌, length, Option, Some, None}
use Rattle.fsfs_base.specs.Files.{NamedFile, same_text}
use Rattle.fsfs_folders.specs.System.CallRecord.{MakeFolder, DropFolder, Create, Take, Rename, Remove, Call, Named, Append, SyncFile, FailSync, SyncFolder, Firmed, Beginning, Standing, given, first_number, names_after, file_count}
use Rattle.fsfs_folders.specs.SameText.{text_cases}
use Rattle.fsfs_folders.proofs.NameLemmas.{given_at, given_from, first_within}
use Rattle.fsfs_folders.proofs.LeftLemmas.{now_is_left, number_within}

first_one : (files : List NamedFile) (p q : List ℕ) (k : ℕ) → first_number files p ≡ Some k → first_number files q ≡ Some k → p ≡ q
first_one [] p q k e f = absurd (none-some k e)
first_one (file ∷ files) p q k e f =
    ⊎_elim
    (λ s. ⊎_elim (λ t. s.0 ∙ sym t.0) (λ o. absurd (apart q o.1 (own p s.1 e) f)) (text_cases q file.0))
    (λ u. ⊎_elim (λ t. absurd (apart p u.1 (own q t.1 f) e)) (λ o. first_one files p q k (behind p u.1 e) (behind q o.1 f)) (text_cases q file.0)) (text_cases p file.0)
  where
    own : (x : List ℕ) → same_text x file.0 ≡ true → first_number (file ∷ files) x ≡ Some k → length files ≡ k
    own x s h = same_Some (length files) k (sym (ap (λ b. cond b (Some (length files)) (first_number files x)) s) ∙ h)

    behind : (x : List ℕ) → same_text x file.0 ≡ false → first_number (file ∷ files) x ≡ Some k → first_number files x ≡ Some k
    behind x o h = sym (ap (λ b. cond b (Some (length files)) (first_number files x)) o) ∙ h

    apart : (x : List ℕ) → same_text x file.0 ≡ false → length files ≡ k → first_number (file ∷ files) x ≡ Some k → ⊥
    apart x o is h = omega (arith, is, first_within files x k (behind x o h))

-- one more file under a name
one_more : (path : List ℕ) (number : ℕ) (files : List ℕ → Option ℕ) (p q : List ℕ) (k : ℕ) → ((x : List ℕ) → files x ≡ Some number → ⊥) → (files p ≡ Some k → files q ≡ Some k → p ≡ q)
    → given path (Some number) files p ≡ Some k → given path (Some number) files q ≡ Some k → p ≡ q
one_more path number files p q k new before e f =
    ⊎_elim (λ s. ⊎_elim (λ t. s.0 ∙ sym t.0) (λ o. absurd (new q (o ∙ sym s.1))) (given_from path (Some number) files q k f))
    (λ u. ⊎_elim (λ t. absurd (new p (u ∙ sym t.1))) (λ o. before u o) (given_from path (Some number) files q k f)) (given_from path (Some number) files p k e)

old_file : (path : List ℕ) (files : List ℕ → Option ℕ) (q : List ℕ) (k : ℕ) → given path None files q ≡ Some k → files q ≡ Some k
old_file path files q k e = ⊎_elim (λ n. absurd (none-some k n.1)) (λ o. o) (given_from path None files q k e)

not_from : (from : List ℕ) (files : List ℕ → Option ℕ) (q : List ℕ) (k : ℕ) → given from None files q ≡ Some k → (q ≡ from → ⊥)
not_from from files q k e same = none-some k (sym (given_at from None files) ∙ ap (λ x. given from None files x) (sym same) ∙ e)

new_number_is_new : (first : Beginning) (calls : List Call) (x : List ℕ) → (names_after first calls).files x ≡ Some (file_count first calls) → ⊥
new_number_is_new first calls x e = omega (arith, number_within first [] calls (names_after first calls) x (file_count first calls) (now_is_left first [] calls) e)

pub one_name : (first : Beginning) (calls : List Call) (p q : List ℕ) (k : ℕ) → (names_after first calls).files p ≡ Some k → (names_after first calls).files q ≡ Some k → p ≡ q
one_name first [] p q k e f = first_one first.files p q k e f
one_name first (Named (MakeFolder path) ∷ calls) p q k e f = one_name first calls p q k e f
one_name first (Named (DropFolder path) ∷ calls) p q k e f = one_name first calls p q k e f
one_name first (Named (Create path) ∷ calls) p q k e f =
    one_more path (file_count first calls) (names_after first calls).files p q k (new_number_is_new first calls) (one_name first calls p q k) e f
one_name first (Named (Take path contents) ∷ calls) p q k e f =
    one_more path (file_count first calls) (names_after first calls).files p q k (new_number_is_new first calls) (one_name first calls p q k) e f
one_name first (Named (Rename from to) ∷ calls) p q k e f =
    let files : List ℕ → Option ℕ = (names_after first calls).files in
    ⊎_elim
    (λ s. ⊎_elim (λ t. s.0 ∙ sym t.0) (λ o. absurd (not_from from files q k o (one_name first calls q from k (old_file from files q k o) s.1))) (given_from to (files from) (given from None files) q k f))
    (λ u. ⊎_elim (λ t. absurd (not_from from files p k u (one_name first calls p from k (old_file from files p k u) t.1)))
    (λ o. one_name first calls p q k (old_file from files p k u) (old_file from files q k o)) (given_from to (files from) (given from None files) q k f))
    (given_from to (files from) (given from None files) p k e)
one_name first (Named (Remove path) ∷ calls) p q k e f =
    one_name first calls p q k (old_file path (names_after first calls).files p k e) (old_file path (names_after first calls).files q k f)
one_name first (Append number bytes ∷ calls) p q k e f = one_name first calls p q k e f
one_name first (SyncFile number ∷ calls) p q k e f = one_name first calls p q k e f
one_name first (FailSync number ∷ calls) p q k e f = one_name first calls p q k e f
one_name first (SyncFolder folder ∷ calls) p q k e f = one_name first calls p q k e f
one_name first (Firmed ∷ calls) p q k e f = one_name first calls p q k e f
