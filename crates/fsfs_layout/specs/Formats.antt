-- What `db/format` says.
use Rattle.std.specs.Prelude.{◌≢◌, ℕ, List, [], ◌∷◌, ◌++◌, codes, decimal}
use Rattle.fsfs_base.specs.Grammar.Relations.{Then, IsText, Mapped, Either, Maybe, Except, Begins}
use Rattle.fsfs_base.specs.Grammar.Numeral.{IsNumber}
use Rattle.fsfs_layout.specs.declared.folders.Folders.{Folders}
use Rattle.fsfs_layout.specs.declared.folders.Folders.TheVariants.{Shards, OneFolder}
use Rattle.fsfs_layout.specs.declared.format.Format.{Format}
use Rattle.fsfs_layout.specs.declared.format.Format.TheVariants.{Three, Four}
use Rattle.fsfs_layout.specs.declared.layout.Layout.{Layout}
use Rattle.fsfs_layout.specs.declared.small_files.format_file.FormatFile.{FormatFile}
use Rattle.fsfs_layout.specs.declared.small_files.format_file.FormatFile.TheVariants.{Known, Other}

-- a number from 1, and the end of the line
abbrev pub IsCount : List ℕ → ℕ → Type 0
IsCount = Except 48 (IsNumber 10 2147483647 10)

-- `layout linear\n` or `layout sharded N\n`
abbrev pub AreFolders : List ℕ → Folders → Type 0
AreFolders = Then (IsText (codes "layout ")) (λ _. Either
    (Then (IsText (codes "sharded ")) (λ _. Mapped (λ n. Shards n) IsCount))
    (Then (IsText (codes "linear")) (λ _. Mapped (λ _. OneFolder) (IsText (10 ∷ [])))))

-- what stands behind the line of a format: that of the folders, or nothing, which is one folder
abbrev pub IsOf : Format → List ℕ → Format × Folders → Type 0
IsOf format = Mapped (λ folders. (format, folders)) (Maybe OneFolder AreFolders)

-- format 4
abbrev pub IsOurFormat : List ℕ → Format × Folders → Type 0
IsOurFormat = Then (IsText (codes "4\n")) (λ _. IsOf Four)

-- the line of another number, 3 among them, and anything behind it
pub record IsOtherFormat (text : List ℕ) (number : ℕ) : Type 0 where
  pub rest : List ℕ
  pub line : Begins (IsNumber 10 18446744073709551615 10) text number rest
  pub other : number ≢ 4

abbrev pub IsFormat : List ℕ → FormatFile → Type 0
IsFormat text (Known layout) = IsOurFormat text (layout.format, layout.folders)
IsFormat text (Other number) = IsOtherFormat text number

abbrev pub format_line : Format → List ℕ
format_line Three = codes "3\n"
format_line Four = codes "4\n"

abbrev pub folders_line : Folders → List ℕ
folders_line (Shards n) = codes "layout sharded " ++ (decimal n ++ codes "\n")
folders_line OneFolder = codes "layout linear\n"

-- as it is written: there is always a line for the folders
abbrev pub written_format : Layout → List ℕ
written_format layout = format_line layout.format ++ folders_line layout.folders
