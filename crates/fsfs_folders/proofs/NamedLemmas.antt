-- Each path that has a file is one of those that had.
use Rattle.std.proofs.Common.{◌≡◌, ℕ, List, [], ◌∷◌, true, false, cond, ⊎_elim, sym, ap, ◌∙◌}
use Rattle.std.proofs.lemmas.Option.{none-some}
use Rattle.std.specs.Prelude.{Some, length}
use Rattle.fsfs_base.specs.Files.{NamedFile}
use Rattle.fsfs_folders.specs.System.Paths.{has_path}
use Rattle.fsfs_folders.specs.System.CallRecord.{MakeFolder, DropFolder, Create, Take, Rename, Remove, Call, Named, Append, SyncFile, FailSync, SyncFolder, Firmed, Beginning, first_number, names_after, file_count}
use Rattle.fsfs_folders.specs.System.Named.{file_paths, named_paths}
use Rattle.fsfs_folders.proofs.PathLemmas.{has_head, has_tail}
use Rattle.fsfs_folders.specs.SameText.{text_cases}
use Rattle.fsfs_folders.proofs.NameLemmas.{comes_from}

pub first_named : (files : List NamedFile) (q : List ℕ) (k : ℕ) → first_number files q ≡ Some k → has_path (file_paths files) q ≡ true
first_named [] q k e = absurd (none-some k e)
first_named (file ∷ files) q k e =
    ⊎_elim (λ s. ap (λ p. has_path (file.0 ∷ file_paths files) p) s.0 ∙ has_head file.0 (file_paths files))
    (λ o. has_tail file.0 q (file_paths files) (first_named files q k (sym (ap (λ b. cond b (Some (length files)) (first_number files q)) o.1) ∙ e))) (text_cases q file.0)

at_head : (path q : List ℕ) (paths : List (List ℕ)) → q ≡ path → has_path (path ∷ paths) q ≡ true
at_head path q paths same = ap (λ p. has_path (path ∷ paths) p) same ∙ has_head path paths

pub file_is_named : (first : Beginning) (calls : List Call) (q : List ℕ) (k : ℕ) → (names_after first calls).files q ≡ Some k → has_path (named_paths first calls) q ≡ true
file_is_named first [] q k e = first_named first.files q k e
file_is_named first (Named (MakeFolder path) ∷ calls) q k e = file_is_named first calls q k e
file_is_named first (Named (DropFolder path) ∷ calls) q k e = file_is_named first calls q k e
file_is_named first (Named (Create path) ∷ calls) q k e =
    ⊎_elim (λ old. has_tail path q (named_paths first calls) (file_is_named first calls q k old)) (λ comes. at_head path q (named_paths first calls) comes.0)
    (comes_from (Create path) (file_count first calls) (names_after first calls) (names_after first calls) q k e)
file_is_named first (Named (Take path contents) ∷ calls) q k e =
    ⊎_elim (λ old. has_tail path q (named_paths first calls) (file_is_named first calls q k old)) (λ comes. at_head path q (named_paths first calls) comes.0)
    (comes_from (Take path contents) (file_count first calls) (names_after first calls) (names_after first calls) q k e)
file_is_named first (Named (Rename from to) ∷ calls) q k e =
    ⊎_elim (λ old. has_tail to q (named_paths first calls) (file_is_named first calls q k old)) (λ comes. at_head to q (named_paths first calls) comes.0)
    (comes_from (Rename from to) (file_count first calls) (names_after first calls) (names_after first calls) q k e)
file_is_named first (Named (Remove path) ∷ calls) q k e =
    ⊎_elim (λ old. file_is_named first calls q k old) (λ comes. absurd comes)
    (comes_from (Remove path) (file_count first calls) (names_after first calls) (names_after first calls) q k e)
file_is_named first (Append number bytes ∷ calls) q k e = file_is_named first calls q k e
file_is_named first (SyncFile number ∷ calls) q k e = file_is_named first calls q k e
file_is_named first (FailSync number ∷ calls) q k e = file_is_named first calls q k e
file_is_named first (SyncFolder folder ∷ calls) q k e = file_is_named first calls q k e
file_is_named first (Firmed ∷ calls) q k e = file_is_named first calls q k e
