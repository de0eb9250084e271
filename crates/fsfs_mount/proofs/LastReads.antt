-- What is told of the files that stay open.
use Rattle.std.proofs.Common.{◌≡◌, ℕ, List, true, refl, sym, ap, subst, ◌∙◌}
use Rattle.std.specs.Prelude.{Option, Some, None, IfSome}
use Rattle.fsfs_disk.specs.Trace.{Trace, IsRead, IsSize, file_at}
use Rattle.fsfs_folders.specs.System.CallRecord.{CallRecord}
use Rattle.fsfs_folders.specs.Standing.{told}
use Rattle.fsfs_folders.specs.OpenFiles.{is_file_of, is_still}

-- what is told of a file by a name that is the same
pub told_at : (P : Option (List ℕ) → Type 0) (a b : List ℕ) (calls more : Option CallRecord) → more ≡ calls → a ≡ b → IfSome (told more) (λ t. P (file_at t a)) → IfSome (told calls) (λ t. P (file_at t b))
told_at P a b calls more same named h = subst (λ q. IfSome (told calls) (λ t. P (file_at t q))) named (subst (λ m. IfSome (told m) (λ t. P (file_at t a))) same h)

pub read_none : (ts : Option Trace) (name : List ℕ) (offset : ℕ) (b : List ℕ) → IfSome ts (λ t. file_at t name ≡ None) → IfSome ts (λ t. IsRead (file_at t name) offset b b None)
read_none None name offset b e = tt
read_none (Some t) name offset b e = subst (λ f. IsRead f offset b b None) (sym e) (refl, refl)

-- a file that is made the one used last still has its name
pub still_moved : {A : Type 0} (name_of : A → List ℕ) (number_of : A → ℕ) (calls : Option CallRecord) (last kept : Option A) → last ≡ kept → IfSome kept (λ it. is_file_of calls (name_of it) (number_of it) ≡ true) → is_still last name_of number_of calls ≡ true
still_moved name_of number_of calls last None same h = ap (λ o. is_still o name_of number_of calls) same
still_moved name_of number_of calls last (Some it) same h = ap (λ o. is_still o name_of number_of calls) same ∙ h

pub still_same : {A : Type 0} (name_of : A → List ℕ) (number_of : A → ℕ) (calls : Option CallRecord) (last before : Option A) → last ≡ before → is_still before name_of number_of calls ≡ true → is_still last name_of number_of calls ≡ true
still_same name_of number_of calls last before same h = ap (λ o. is_still o name_of number_of calls) same ∙ h
