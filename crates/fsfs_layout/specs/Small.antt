-- The small files.
use Rattle.std.specs.Prelude.{◌≡◌, ◌≢◌, ℕ, List, [], ◌∷◌, length, ◌⊎◌}
use Rattle.fsfs_base.specs.Grammar.Relations.{Then, IsText, Mapped, IsFaultAt}
use Rattle.fsfs_base.specs.Grammar.Numeral.{IsNumber}
use Rattle.fsfs_base.specs.Fields.RevNums.{IsRevEnded}
use Rattle.fsfs_base.specs.declared.small_fault.SmallFile.{SmallFile}
use Rattle.fsfs_base.specs.declared.small_fault.SmallFile.TheVariants.{MinUnpackedRev}
use Rattle.fsfs_base.specs.declared.small_fault.SmallFault.{SmallFault}
use Rattle.fsfs_base.specs.Grammar.Cuts.{Lacks}
use Rattle.fsfs_layout.specs.Layouts.{place_in_shard}
use Rattle.fsfs_layout.specs.declared.format.Format.{Format}
use Rattle.fsfs_layout.specs.declared.format.Format.TheVariants.{Three, Four}
use Rattle.fsfs_layout.specs.declared.layout.Layout.{Layout}

-- `<revision>\n`
abbrev pub IsRevLine : List ℕ → ℕ → Type 0
IsRevLine = IsRevEnded 10

-- the oldest revision that isn't packed: in format 4 `<revision>\n` of the first one of a shard; format 3 has none that is packed, and
-- no such file
abbrev pub IsMinUnpackedRevIn : Format → Layout → List ℕ → ℕ → Type 0
IsMinUnpackedRevIn Three layout text n = n ≡ 0
IsMinUnpackedRevIn Four layout text n = IsRevLine text n × (place_in_shard layout n ≡ 0)

abbrev pub IsMinUnpackedRev : Layout → List ℕ → ℕ → Type 0
IsMinUnpackedRev layout = IsMinUnpackedRevIn layout.format layout

-- `<base36>\n`
abbrev pub IsBase36Line : List ℕ → ℕ → Type 0
IsBase36Line = IsNumber 36 170581728179578208255 10

-- `<node> <copy>\n`
abbrev pub IsNextIds : List ℕ → ℕ × ℕ → Type 0
IsNextIds = Then (IsNumber 36 170581728179578208255 32) (λ node. Mapped (λ copy. (node, copy)) (IsNumber 36 170581728179578208255 10))

-- so many bytes, none of which ends a line
abbrev pub AreLineBytes : ℕ → List ℕ → List ℕ → Type 0
AreLineBytes n text value = (text ≡ value) × (length value ≡ n) × Lacks 10 value

-- 36 bytes and the end of the line
abbrev pub IsUuid : List ℕ → List ℕ → Type 0
IsUuid = Then (AreLineBytes 36) (λ uuid. Mapped (λ _. uuid) (IsText (10 ∷ [])))

-- the fault names the file, and the first byte after which no text of its grammar goes on
pub record IsFaultOf {X : Type 0} (file : SmallFile) (G : List ℕ → X → Type 0) (bytes : List ℕ) (fault : SmallFault) : Type 0 where
  pub names : fault.file ≡ file
  pub place : IsFaultAt G bytes fault.at

-- the text is none of the grammar, and the fault is where it goes wrong
abbrev pub IsRefusedFile : {X : Type 0} → SmallFile → (List ℕ → X → Type 0) → List ℕ → SmallFault → Type 0
IsRefusedFile {X} file G text fault = ((x : X) → G text x → ⊥) × IsFaultOf file G text fault

-- a revision's line, but not of the first of a shard: the fault is at its beginning
pub record IsInsideShard (layout : Layout) (bytes : List ℕ) (fault : SmallFault) : Type 0 where
  pub number : ℕ
  pub line : IsRevLine bytes number
  pub inside : place_in_shard layout number ≢ 0
  pub names : fault.file ≡ MinUnpackedRev
  pub place : fault.at ≡ 0

-- in format 4 no revision's line, or one of a revision inside a shard
abbrev pub IsMinUnpackedFaultIn : Format → Layout → List ℕ → SmallFault → Type 0
IsMinUnpackedFaultIn Three layout bytes fault = ⊥
IsMinUnpackedFaultIn Four layout bytes fault = IsRefusedFile MinUnpackedRev IsRevLine bytes fault ⊎ IsInsideShard layout bytes fault

abbrev pub IsMinUnpackedFault : Layout → List ℕ → SmallFault → Type 0
IsMinUnpackedFault layout = IsMinUnpackedFaultIn layout.format layout
