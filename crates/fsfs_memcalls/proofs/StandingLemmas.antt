-- What is asked of the newest call, and what of the calls before it.
use Rattle.std.proofs.Common.{◌≡◌, ℕ, List, [], ◌∷◌, ◌++◌, take, drop, Bool, true, false, cond, refl, sym, ap, ◌∙◌, ⊎_elim}
use Rattle.std.specs.Prelude.{◌&&◌, ◌==◌, if◌then◌else◌}
use Rattle.fsfs_folders.specs.System.CallRecord.{are_there}
use Rattle.fsfs_folders.proofs.PathLemmas.{same_itself}
use Rattle.fsfs_folders.specs.SameText.{text_cases}
use Rattle.fsfs_base.specs.Files.{same_text}

-- a test of equal texts is that of the paths
pub same_by : (r : Bool) (text path : List ℕ) → (r ≡ true → path ≡ text) → (path ≡ text → r ≡ true) → r ≡ same_text text path
same_by true text path to from = let e : path ≡ text = to refl in sym (ap (λ t. same_text text t) e ∙ same_itself text)
same_by false text path to from =
    ⊎_elim (λ s. absurd (let h : false ≡ true = from (sym s.0) in cc)) (λ o. sym o.1) (text_cases text path)
