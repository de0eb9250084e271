-- Which texts are paths, and at which byte a text that is none breaks which rule.
use Rattle.std.specs.Prelude.{◌≡◌, ◌≢◌, ℕ, ◌+◌, ◌<◌, ◌≤◌, Bool, true, false, ◌||◌, ◌==◌, nat_lt, List, [], ◌∷◌, ◌++◌, length, Some, None, MatchBool, codes}
use Rattle.std.specs.List.{AllByRecursion, position}
use Rattle.fsfs_base.specs.Paths.{PathName, Path, names_text, path_text, same_name}
use Rattle.fsfs_base.specs.declared.paths.bad_path.PathError.{PathError}
use Rattle.fsfs_base.specs.declared.paths.bad_path.PathError.TheVariants.{Bad, OutOfMemory}
use Rattle.fsfs_base.specs.declared.paths.bad_path.PathFault.{PathFault}
use Rattle.fsfs_base.specs.declared.paths.bad_path.PathFault.TheVariants.{NotAbsolute, PathTooLong, TooDeep, EmptyName, Control, NameTooLong, Dot}

abbrev pub is_control : ℕ → Bool
is_control b = nat_lt b 32 || (b == 127)

-- `.` or `..`
abbrev pub is_dots : PathName → Bool
is_dots name = same_name name (codes ".") || same_name name (codes "..")

-- no byte of it is `/`
abbrev pub HasNoSlash : PathName → Type 0
HasNoSlash = AllByRecursion (λ b. b ≢ 47)

-- a name that a path may have
pub record IsName (name : PathName) : Type 0 where
  pub some : name ≢ []
  pub no_slash : HasNoSlash name
  pub no_control : position is_control name ≡ None
  pub fits : length name ≤ 255
  pub no_dots : is_dots name ≡ false

-- a path within the limits
pub record IsPath (path : Path) : Type 0 where
  pub names : AllByRecursion IsName path
  pub deep : length path ≤ 128
  pub fits : length (path_text path) ≤ 4096

-- what is wrong with a name that has `above` names above it, and at which of its bytes; the earlier rule comes first
abbrev pub IsNameFault : (above : ℕ) → PathName → (offset : ℕ) → PathFault → Type 0
IsNameFault above name offset NotAbsolute = ⊥
IsNameFault above name offset PathTooLong = ⊥
IsNameFault above name offset TooDeep = (128 ≤ above) × (offset ≡ 0)
IsNameFault above name offset EmptyName = (above < 128) × (name ≡ []) × (offset ≡ 0)
IsNameFault above name offset Control = (above < 128) × (position is_control name ≡ Some offset)
IsNameFault above name offset NameTooLong = (above < 128) × (position is_control name ≡ None) × (255 < length name) × (offset ≡ 0)
IsNameFault above name offset Dot = (above < 128) × (is_dots name ≡ true) × (offset ≡ 0)

-- of the names between the slashes of a text, which follows a path, the first that is refused, and the byte counted from the path's beginning
pub record HasBadName (above : Path) (text : List ℕ) (at : ℕ) (why : PathFault) : Type 0 where
  pub before : Path
  pub name : PathName
  pub behind : Path
  pub offset : ℕ
  pub text_is : text ≡ names_text (before ++ name ∷ behind)
  pub between : AllByRecursion HasNoSlash (before ++ name ∷ behind)
  pub good : AllByRecursion IsName before
  pub deep : before ≢ [] → length above + length before ≤ 128
  pub at_is : at ≡ length (names_text (above ++ before)) + 1 + offset
  pub fault : IsNameFault (length above + length before) name offset why

-- the text, behind a path and a `/`, is refused
abbrev pub IsBadJoin : Path → List ℕ → ℕ → PathFault → Type 0
IsBadJoin above text at why = MatchBool (nat_lt 4096 (length (names_text above) + 1 + length text)) ((why ≡ PathTooLong) × (at ≡ 4096)) (HasBadName above (47 ∷ text) at why)

-- the text is refused as a path
abbrev pub IsBadPath : List ℕ → ℕ → PathFault → Type 0
IsBadPath [] at why = (why ≡ NotAbsolute) × (at ≡ 0)
IsBadPath (c ∷ text) at why = MatchBool (c == 47) ((text ≢ []) × IsBadJoin [] text at why) ((why ≡ NotAbsolute) × (at ≡ 0))

-- the path at or below `above` whose further names are those of the text
pub record IsJoined (above : Path) (text : List ℕ) (path : Path) : Type 0 where
  pub names : Path
  pub path_is : path ≡ above ++ names
  pub text_is : names_text names ≡ 47 ∷ text
  pub good : AllByRecursion IsName names
  pub deep : length path ≤ 128
  pub fits : length (names_text path) ≤ 4096

-- a refusal names its rule and byte; want of memory says nothing
abbrev pub IsRefusal : (ℕ → PathFault → Type 0) → PathError → Type 0
IsRefusal Refused (Bad bad) = Refused bad.at bad.why
IsRefusal Refused OutOfMemory = Unit {0}
