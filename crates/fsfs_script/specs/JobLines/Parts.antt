-- What a word or a text stands for: a number, a base, a path, a name.
use Rattle.std.specs.Prelude.{◌≡◌, ℕ, ◌+◌, List, [], ◌∷◌, length, Option, Some, None, Bool, false, not, ◌&&◌, ◌==◌, nat_lt, nat_le, if◌then◌else◌, codes, option_map}
use Rattle.std.specs.List.{list_all, slice_split}
use Rattle.std.specs.Str.{bytes_eq}
use Rattle.fsfs_base.specs.Grammar.Numeral.{numeral_at}
use Rattle.fsfs_base.specs.Fields.PropNames.{begins_name, continues_name}
use Rattle.fsfs_base.specs.Paths.{Path, path_text}
use Rattle.fsfs_base.specs.PathTexts.{IsPath, is_control}
use Rattle.fsfs_base.specs.PathReading.{names_fault_at}
use Rattle.fsfs_base.specs.declared.paths.bad_path.BadPath.{BadPath}
use Rattle.fsfs_script.specs.declared.job_lines.job.Base.{Base}
use Rattle.fsfs_script.specs.declared.job_lines.job.Base.TheVariants.{Youngest, Number}

-- a decimal number of at most 64 bits
abbrev pub number_of : List ℕ → Option ℕ
number_of word = numeral_at 10 18446744073709551615 word

-- BASE
abbrev pub base_of : List ℕ → Option Base
base_of word = if bytes_eq word (codes "head") then Some Youngest else option_map Number (number_of word)

-- ---- paths

-- the path with this text
pub record IsPathOf (text : List ℕ) (path : Path) : Type 0 where
  pub path_is : IsPath path
  pub text_is : path_text path ≡ text

abbrev pub between_slashes : List ℕ → Path
between_slashes = slice_split (λ b. b == 47)

abbrev pub unless_fault : Path → Option BadPath → Option Path
unless_fault path None = Some path
unless_fault path (Some bad) = None

-- the names behind the first `/`
abbrev pub names_of : List ℕ → Option Path
names_of [] = Some []
names_of (c ∷ text) = if nat_lt 4096 (1 + length (c ∷ text)) then None else unless_fault (between_slashes (c ∷ text)) (names_fault_at 0 1 (between_slashes (c ∷ text)))

unfoldable pub path_of : List ℕ → Option Path
path_of [] = None
path_of (c ∷ text) = if c == 47 then names_of text else None

-- ---- names

abbrev pub is_prop_name : List ℕ → Bool
is_prop_name [] = false
is_prop_name (c ∷ cs) = begins_name c && (list_all continues_name cs && nat_lt (length cs) 255)

unfoldable pub name_of : List ℕ → Option (List ℕ)
name_of word = if is_prop_name word then Some word else None

-- the name of an author
abbrev pub is_author : List ℕ → Bool
is_author text = nat_lt 0 (length text) && (nat_le (length text) 255 && list_all (λ b. not (is_control b)) text)
