-- Which folders are noted after one more.
use Rattle.std.proofs.Common.{◌≡◌, ◌⊎◌, ℕ, zero, suc, List, [], ◌∷◌, ◌++◌, Bool, true, false, inl, inr, ⊎_elim, refl, sym, ap, length, get_or, ◌∙◌, arith}
use Rattle.std.proofs.lemmas.Bool.{or_cases}
use Rattle.std.specs.Prelude.{◌||◌, ◌<◌}
use Rattle.fsfs_folders.specs.System.Paths.{has_path}
use Rattle.fsfs_folders.specs.System.Remains.{AreWithin}
use Rattle.fsfs_folders.proofs.PathLemmas.{has_head, has_tail, or_right}
use Rattle.fsfs_base.specs.Files.{same_text}

pub has_last : (paths : List (List ℕ)) (path : List ℕ) → has_path (paths ++ path ∷ []) path ≡ true
has_last [] path = has_head path []
has_last (p ∷ paths) path = has_tail p path (paths ++ path ∷ []) (has_last paths path)

pub within_longer : (paths more : List (List ℕ)) → AreWithin paths (paths ++ more)
within_longer [] more q e = let h : false ≡ true = e in cc
within_longer (p ∷ paths) more q e =
    ⊎_elim (λ s. ap (λ b. b || has_path (paths ++ more) q) s) (λ t. has_tail p q (paths ++ more) (within_longer paths more q t)) (or_cases (same_text q p) (has_path paths q) e)

pub has_member : (paths : List (List ℕ)) (i : ℕ) (d : List ℕ) → i < length paths → has_path paths (get_or paths i d) ≡ true
has_member [] i d lt = absurd (omega (arith, lt))
has_member (p ∷ paths) zero d lt = has_head p paths
has_member (p ∷ paths) (suc i) d lt = has_tail p (get_or paths i d) paths (has_member paths i d (omega (arith, lt)))
