-- Names of properties.
use Rattle.std.specs.Prelude.{◌≡◌, ℕ, ◌<◌, Bool, true, ◌&&◌, ◌||◌, ◌==◌, nat_le, List, [], ◌∷◌, length}
use Rattle.std.specs.List.{AllByRecursion}
use Rattle.fsfs_base.specs.Grammar.Relations.{IsFaultAt}
use Rattle.fsfs_base.specs.declared.fields.prop_name.PropNameError.{PropNameError}
use Rattle.fsfs_base.specs.declared.fields.prop_name.PropNameError.TheVariants.{Bad, OutOfMemory}

-- a letter, `:` or `_`
abbrev pub begins_name : ℕ → Bool
begins_name c = (nat_le 65 c && nat_le c 90) || (nat_le 97 c && nat_le c 122) || (c == 58) || (c == 95)

-- one of those, a digit, `-` or `.`
abbrev pub continues_name : ℕ → Bool
continues_name c = begins_name c || (nat_le 48 c && nat_le c 57) || (c == 45) || (c == 46)

-- at most 255 bytes
abbrev pub IsPropName : List ℕ → Type 0
IsPropName [] = ⊥
IsPropName (c ∷ cs) = (begins_name c ≡ true) × AllByRecursion (λ d. continues_name d ≡ true) cs × (length cs < 255)

-- the names as a grammar of texts that stand for themselves
abbrev pub PropNameText : List ℕ → Unit {0} → Type 0
PropNameText text _ = IsPropName text

-- a refusal is at the first byte after which no name goes on; want of memory says nothing
abbrev pub IsNameRefusal : List ℕ → PropNameError → Type 0
IsNameRefusal text (Bad bad) = IsFaultAt PropNameText text bad.at
IsNameRefusal text OutOfMemory = Unit {0}
