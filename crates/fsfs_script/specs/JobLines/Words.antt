-- The words of a line, which one space separates. Each is judged from the left: that it is UTF-8, then what it stands for.
-- A word that is missing stands for nothing, as an empty one does.
use Rattle.std.specs.Prelude.{ℕ, List, [], Option, Some, None, Result, Ok, Err, nat_le, if◌then◌else◌}
use Rattle.std.specs.Str.{is_utf8}
use Rattle.fsfs_base.specs.Grammar.Cuts.{cut}
use Rattle.fsfs_base.specs.Paths.{Path}
use Rattle.fsfs_script.specs.JobLines.Judging.{◌>>=◌, or_refusal}
use Rattle.fsfs_script.specs.JobLines.Parts.{number_of, base_of, path_of, name_of, is_author}
use Rattle.fsfs_script.specs.declared.job_lines.job.Base.{Base}
use Rattle.fsfs_script.specs.declared.job_lines.refusal.Refusal.{Refusal}
use Rattle.fsfs_script.specs.declared.job_lines.refusal.Refusal.TheVariants.{Bad}
use Rattle.fsfs_script.specs.declared.job_lines.refusal.Why.TheVariants as why

abbrev pub split_on : List ℕ → Option (List ℕ × List ℕ) → List ℕ × Option (List ℕ)
split_on text None = (text, None)
split_on text (Some p) = (p.0, Some p.1)

-- the first word of a text, and what stands behind the space that ends it
abbrev pub split : List ℕ → List ℕ × Option (List ℕ)
split text = split_on text (cut 32 text)

abbrev pub text_of : Option (List ℕ) → List ℕ
text_of None = []
text_of (Some text) = text

-- a word is UTF-8
abbrev pub checked : List ℕ → Result (Unit {0}) Refusal
checked word = if is_utf8 word then Ok tt else Err (Bad why.NotUtf8)

-- no word follows
abbrev pub end_at : Option (List ℕ) → Result (Unit {0}) Refusal
end_at None = Ok tt
end_at (Some text) = checked (split text).0 >>= λ u. Err (Bad why.Word)

unfoldable pub number_at : List ℕ → Result ℕ Refusal
number_at word = checked word >>= λ u. or_refusal (Bad why.Number) (number_of word)

-- a number of bytes
unfoldable pub length_at : ℕ → Refusal → List ℕ → Result ℕ Refusal
length_at limit too_long word = number_at word >>= λ n. if nat_le n limit then Ok n else Err too_long

unfoldable pub base_at : List ℕ → Result Base Refusal
base_at word = checked word >>= λ u. or_refusal (Bad why.Number) (base_of word)

unfoldable pub path_at : List ℕ → Result Path Refusal
path_at text = checked text >>= λ u. or_refusal (Bad why.Path) (path_of text)

unfoldable pub name_at : List ℕ → Result (List ℕ) Refusal
name_at word = checked word >>= λ u. or_refusal (Bad why.Name) (name_of word)

unfoldable pub author_at : List ℕ → Result (List ℕ) Refusal
author_at text = checked text >>= λ u. if is_author text then Ok text else Err (Bad why.Name)
