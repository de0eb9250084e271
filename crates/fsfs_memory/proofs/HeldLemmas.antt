-- What the entries of a bench hold after a change of one name.
use Rattle.std.proofs.Common.{◌≡◌, ◌++◌, ℕ, List, [], cond, refl, sym, ap, subst, ◌∙◌}
use Rattle.std.specs.Prelude.{Option, Some, None, option_map, unwrap_or}
use Rattle.fsfs_disk.specs.Benches.{appended, HasShortFiles}
use Rattle.fsfs_disk.proofs.ShortLemmas.{short_remove}
use Rattle.std.specs.Ordering.{nat_cmp, is_eq}
use Rattle.std.specs.Cmp.Lexicographic.{slice_cmp, nat_list_cmp_total}
use Rattle.std.specs.BTreeMap.{is_at}
use Rattle.std.specs.declared.cmp.Ordering.{Ordering}
use Rattle.std.specs.declared.cmp.Ordering.TheVariants.{Less, Equal, Greater}
use Rattle.std.specs.FinMap.{get, insert, remove, get-insert, get-remove, slice_cmp-IsAntisymmetric, nat_cmp-IsAntisymmetric}
use Rattle.fsfs_base.specs.Files.{Files}
use Rattle.fsfs_base.proofs.FileLemmas.{at_same, at_other, same_files}
use Rattle.fsfs_memory.specs.Memdisk.MemFiles.{content_at}
use Rattle.fsfs_memory.specs.Memdisk.BenchFiles.{bench_bytes, firm_of, held_files, held_firm}
use Rattle.fsfs_memory.specs.declared.memdisk.bench_files.BenchFile.{BenchFile}
use Rattle.fsfs_memory.proofs.EntryLemmas.{get-files_by, insert-remove_same}

-- the entries after a change of one name
abbrev pub Places : List (List ℕ × BenchFile) → List (List ℕ × BenchFile) → List ℕ → Option BenchFile → Type 0
Places old new name file = (q : List ℕ) → content_at new q ≡ cond (is_at (slice_cmp nat_cmp name) q) file (content_at old q)

pub firm_here : (old new : List (List ℕ × BenchFile)) (name : List ℕ) (file : Option BenchFile) → Places old new name file → held_firm new name ≡ firm_of file
firm_here old new name file places = ap firm_of (places name ∙ at_same name file (content_at old name))

pub firm_elsewhere : (old new : List (List ℕ × BenchFile)) (name : List ℕ) (file : Option BenchFile) → Places old new name file → (q : List ℕ) → (q ≡ name → ⊥) → held_firm new q ≡ held_firm old q
firm_elsewhere old new name file places q apart = ap firm_of (places q ∙ at_other name q file (content_at old q) (λ e. apart (sym e)))

pub held_found : (entries : List (List ℕ × BenchFile)) (name : List ℕ) (file : Option BenchFile) → file ≡ content_at entries name → option_map bench_bytes file ≡ get (held_files entries) name
held_found entries name file is = ap (λ f. option_map bench_bytes f) is ∙ sym (get-files_by bench_bytes name entries)

-- a file that was taken out and put back
pub insert_found : (m : Files) (k v : List ℕ) → get m k ≡ Some v → insert (remove m k) k v ≡ m
insert_found m k v at = same_files _ _ (λ q. get-insert nat_list_cmp_total (remove m k) k v q ∙ by_case q (slice_cmp nat_cmp q k) refl)
  where
    by_case : (q : List ℕ) (r : Ordering) → slice_cmp nat_cmp q k ≡ r → cond (is_eq (slice_cmp nat_cmp q k)) (Some v) (get (remove m k) q) ≡ get m q
    by_case q Less p = ap (λ r. cond (is_eq r) (Some v) (get (remove m k) q)) p ∙ (get-remove nat_list_cmp_total m k q ∙ ap (λ r. cond (is_eq r) None (get m q)) p)
    by_case q Equal p = ap (λ r. cond (is_eq r) (Some v) (get (remove m k) q)) p ∙ sym (ap (λ x. get m x) (slice_cmp-IsAntisymmetric nat_cmp-IsAntisymmetric q k p) ∙ at)
    by_case q Greater p = ap (λ r. cond (is_eq r) (Some v) (get (remove m k) q)) p ∙ (get-remove nat_list_cmp_total m k q ∙ ap (λ r. cond (is_eq r) None (get m q)) p)

-- a file that isn't there is not missed
pub remove_absent : (m : Files) (k : List ℕ) → get m k ≡ None → remove m k ≡ m
remove_absent m k at = same_files _ _ (λ q. get-remove nat_list_cmp_total m k q ∙ by_case q (slice_cmp nat_cmp q k) refl)
  where
    by_case : (q : List ℕ) (r : Ordering) → slice_cmp nat_cmp q k ≡ r → cond (is_eq (slice_cmp nat_cmp q k)) None (get m q) ≡ get m q
    by_case q Less p = ap (λ r. cond (is_eq r) None (get m q)) p
    by_case q Equal p = ap (λ r. cond (is_eq r) None (get m q)) p ∙ sym (ap (λ x. get m x) (slice_cmp-IsAntisymmetric nat_cmp-IsAntisymmetric q k p) ∙ at)
    by_case q Greater p = ap (λ r. cond (is_eq r) None (get m q)) p

-- what a file has that was taken out, made longer and put back
pub appended_by : (m mid new : Files) (name bytes longer before : List ℕ) (found : Option (List ℕ))
    → mid ≡ remove m name → found ≡ get m name → before ≡ unwrap_or found [] → longer ≡ before ++ bytes → new ≡ insert mid name longer → new ≡ appended name bytes m
appended_by m mid new name bytes longer before found gone at is more put =
    put ∙ ap (λ (z : Files). insert z name longer) gone ∙ insert-remove_same m name longer
    ∙ ap (λ (bs : List ℕ). insert m name bs) (more ∙ ap (λ (bs : List ℕ). bs ++ bytes) (is ∙ ap (λ o. unwrap_or o []) at))

-- or only put back
pub put_back_by : (m mid new : Files) (name bytes same : List ℕ) → mid ≡ remove m name → Some bytes ≡ get m name → same ≡ bytes → new ≡ insert mid name same → new ≡ m
put_back_by m mid new name bytes same gone at is put =
    put ∙ (λ i. insert (gone i) name (is i)) ∙ insert_found m name bytes (sym at)

-- nothing was there to take out
pub gone_by : (m mid : Files) (name : List ℕ) → mid ≡ remove m name → None ≡ get m name → mid ≡ m
gone_by m mid name gone at = gone ∙ remove_absent m name (sym at)

pub short_gone : (m mid : Files) (name : List ℕ) → mid ≡ remove m name → HasShortFiles m → HasShortFiles mid
short_gone m mid name gone short = subst HasShortFiles (sym gone) (short_remove m name short)
