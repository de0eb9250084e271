-- The first line of a representation.
use Rattle.std.specs.Prelude.{◌≡◌, ℕ, List, [], ◌∷◌, length, take, drop, Result, Ok, if◌then◌else◌, codes}
use Rattle.fsfs_base.specs.Grammar.Relations.{Then, IsText, Mapped, Either, begins}
use Rattle.fsfs_base.specs.Grammar.Numeral.{IsNumber, number_at}
use Rattle.fsfs_base.specs.Grammar.Reading.{◌>>=◌, text_at}
use Rattle.fsfs_base.specs.Fields.RevNums.{IsRevEnded, rev_ended_at}
use Rattle.fsfs_revision.specs.declared.rep.header.Header.{Header}
use Rattle.fsfs_revision.specs.declared.rep.header.Header.TheVariants.{Plain, Delta, Other}

-- a text stands at an offset
abbrev pub StandsAt : List ℕ → ℕ → List ℕ → Type 0
StandsAt text offset bytes = take (length text) (drop offset bytes) ≡ text

-- ` <revision> <offset> <length>` and a newline
abbrev pub IsBaseLine : List ℕ → Unit {0} → Type 0
IsBaseLine = Then (IsText (32 ∷ [])) (λ _. Then (IsRevEnded 32) (λ _. Then (IsNumber 10 18446744073709551615 32) (λ _. Mapped (λ _. tt) (IsNumber 10 18446744073709551615 10))))

-- `DELTA` and a newline, or with a base before the newline
abbrev pub IsDeltaLine : List ℕ → Unit {0} → Type 0
IsDeltaLine = Then (IsText (codes "DELTA")) (λ _. Either (IsText (10 ∷ [])) IsBaseLine)

abbrev pub plain_line : List ℕ
plain_line = codes "PLAIN\n"

-- the line of a plain representation, or of a delta, stands at an offset
abbrev pub HasPlainLine : ℕ → List ℕ → Type 0
HasPlainLine offset bytes = StandsAt plain_line offset bytes

pub record HasDeltaLine (offset : ℕ) (bytes : List ℕ) : Type 0 where
  pub line : List ℕ
  pub line_is : IsDeltaLine line tt
  pub stands : StandsAt line offset bytes

-- what stands at the beginning of some bytes
abbrev pub IsHeaderOf : List ℕ → Header → Type 0
IsHeaderOf bytes Plain = HasPlainLine 0 bytes
IsHeaderOf bytes Delta = HasDeltaLine 0 bytes
IsHeaderOf bytes Other = (¬ HasPlainLine 0 bytes) × (¬ HasDeltaLine 0 bytes)

-- reading a delta's line
abbrev pub base_line_at : List ℕ → Result (Unit {0} × List ℕ) ℕ
base_line_at bytes =
    text_at (32 ∷ []) bytes >>= λ s. rev_ended_at 32 s.1 >>= λ r. number_at 10 18446744073709551615 32 r.1 >>= λ o. number_at 10 18446744073709551615 10 o.1 >>= λ l. Ok (tt, l.1)

unfoldable pub delta_line_at : List ℕ → Result (Unit {0} × List ℕ) ℕ
delta_line_at bytes = text_at (codes "DELTA") bytes >>= λ d. if begins 10 d.1 then text_at (10 ∷ []) d.1 else base_line_at d.1
