-- The trailer of a revision: `\n<root offset> <changes offset>\n`.
use Rattle.std.specs.Prelude.{◌≡◌, ◌≤◌, ◌<◌, ◌+◌, ℕ, List, [], ◌∷◌, ◌++◌, length, Result, Ok}
use Rattle.fsfs_base.specs.Grammar.Relations.{Then, IsText, Mapped}
use Rattle.fsfs_base.specs.Grammar.Numeral.{IsNumber, number_at}
use Rattle.fsfs_base.specs.Grammar.Reading.{◌>>=◌, text_at, whole}
use Rattle.fsfs_revision.specs.declared.trailer.Trailer.{Trailer}

-- an offset, and the byte that ends it
abbrev pub IsOffset : ℕ → List ℕ → ℕ → Type 0
IsOffset = IsNumber 10 18446744073709551615

abbrev pub IsTrailer : List ℕ → ℕ × ℕ → Type 0
IsTrailer = Then (IsText (10 ∷ [])) (λ _. Then (IsOffset 32) (λ root. Mapped (λ changes. (root, changes)) (IsOffset 10)))

-- the bytes, which begin at this offset of a revision, end with this trailer
pub record EndsWith (begins : ℕ) (bytes : List ℕ) (t : Trailer) : Type 0 where
  pub front : List ℕ
  pub text : List ℕ
  pub text_is : IsTrailer text (t.root, t.changes)
  pub parts : bytes ≡ front ++ text
  pub within : length text ≤ 64
  -- the root is before the place where the trailer begins, and the changed paths are not past it
  pub root : t.root < begins + length front
  pub changes : t.changes ≤ begins + length front

-- reading
unfoldable pub trailer_at : List ℕ → Result (ℕ × ℕ) ℕ
trailer_at bytes = whole (text_at (10 ∷ []) bytes >>= λ a. number_at 10 18446744073709551615 32 a.1 >>= λ root. number_at 10 18446744073709551615 10 root.1 >>= λ changes. Ok ((root.0, changes.0), changes.1))
