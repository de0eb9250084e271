-- When two paths are the same.
use Rattle.std.proofs.Common.{◌≡◌, ◌⊎◌, ℕ, List, true, false, inl, inr, ⊎_elim}
use Rattle.std.proofs.lemmas.Bool.{cases_Bool}
use Rattle.fsfs_base.proofs.FileLemmas.{apart_by, same_is}
use Rattle.fsfs_base.specs.Files.{same_text}

pub text_cases : (q p : List ℕ) → ((q ≡ p) × (same_text q p ≡ true)) ⊎ ((q ≡ p → ⊥) × (same_text q p ≡ false))
text_cases q p = ⊎_elim (λ t. inl (same_is q p t, t)) (λ f. inr (apart_by q p f, f)) (cases_Bool (same_text q p))
