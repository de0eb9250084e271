-- Whether nothing stands at paths below one, a path at a time.
use Rattle.std.proofs.Common.{◌≡◌, ℕ, List, [], ◌∷◌, ◌++◌, true, false, ⊎_elim, sym, ap, subst, ◌∙◌}
use Rattle.fsfs_folders.specs.System.Paths.{has_path}
use Rattle.fsfs_folders.specs.System.CallRecord.{Standing}
use Rattle.fsfs_memcalls.specs.Emptiness.{IsClearAt}
use Rattle.fsfs_memcalls.proofs.ListLemmas.{in_more}

pub clear_none : (names : Standing) (above q : List ℕ) → has_path [] q ≡ true → IsClearAt names above q
clear_none names above q e = absurd (let h : false ≡ true = e in cc)

pub clear_more : (names : Standing) (above p : List ℕ) (met more : List (List ℕ)) → IsClearAt names above p → ((q : List ℕ) → has_path met q ≡ true → IsClearAt names above q) → more ≡ met ++ p ∷ []
    → (q : List ℕ) → has_path more q ≡ true → IsClearAt names above q
clear_more names above p met more here before is q e =
    ⊎_elim (λ old. before q old) (λ new. let P : List ℕ → Type 0 = λ t. IsClearAt names above t in subst P (sym new) here)
    (in_more met p q (ap (λ (ps : List (List ℕ)). has_path ps q) (sym is) ∙ e))
