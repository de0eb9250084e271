-- Reading the small files from left to right.
use Rattle.std.specs.Prelude.{ℕ, zero, suc, List, [], ◌∷◌, length, take, Result, Ok, Err, ◌==◌, if◌then◌else◌, codes}
use Rattle.fsfs_base.specs.Grammar.Relations.{begins}
use Rattle.fsfs_base.specs.Grammar.Reading.{◌>>=◌, text_at, whole}
use Rattle.fsfs_base.specs.Grammar.Numeral.{number_at}
use Rattle.fsfs_base.specs.Fields.RevNums.{rev_ended_at}
use Rattle.fsfs_layout.specs.declared.folders.Folders.{Folders}
use Rattle.fsfs_layout.specs.declared.folders.Folders.TheVariants.{Shards, OneFolder}
use Rattle.fsfs_layout.specs.declared.format.Format.{Format}
use Rattle.fsfs_layout.specs.declared.format.Format.TheVariants.{Four}
use Rattle.fsfs_layout.specs.declared.small_files.format_file.FormatFile.{FormatFile}
use Rattle.fsfs_layout.specs.declared.small_files.format_file.FormatFile.TheVariants.{Known, Other}

abbrev pub rev_line_at : List ℕ → Result ℕ ℕ
rev_line_at bytes = whole (rev_ended_at 10 bytes)

abbrev pub base36_line_at : List ℕ → Result ℕ ℕ
base36_line_at bytes = whole (number_at 36 170581728179578208255 10 bytes)

unfoldable pub next_ids_at : List ℕ → Result (ℕ × ℕ) ℕ
next_ids_at bytes = whole (number_at 36 170581728179578208255 32 bytes >>= λ n. number_at 36 170581728179578208255 10 n.1 >>= λ c. Ok ((n.0, c.0), c.1))

-- what stands behind n bytes of which none ends a line
unfoldable pub line_rest_at : ℕ → List ℕ → Result (List ℕ) ℕ
line_rest_at zero bytes = Ok bytes
line_rest_at (suc n) [] = Err 0
line_rest_at (suc n) (b ∷ bs) = if b == 10 then Err (suc (length bs)) else line_rest_at n bs

abbrev pub line_bytes_at : ℕ → List ℕ → Result (List ℕ × List ℕ) ℕ
line_bytes_at n bytes = line_rest_at n bytes >>= λ rest. Ok (take n bytes, rest)

unfoldable pub uuid_at : List ℕ → Result (List ℕ) ℕ
uuid_at bytes = whole (line_bytes_at 36 bytes >>= λ u. text_at (10 ∷ []) u.1 >>= λ e. Ok (u.0, e.1))

unfoldable pub count_at : List ℕ → Result (ℕ × List ℕ) ℕ
count_at bytes = if begins 48 bytes then Err (length bytes) else number_at 10 2147483647 10 bytes

unfoldable pub folders_at : List ℕ → Result (Folders × List ℕ) ℕ
folders_at bytes = text_at (codes "layout ") bytes >>= λ a.
    if begins 115 a.1 then (text_at (codes "sharded ") a.1 >>= λ b. count_at b.1 >>= λ n. Ok (Shards n.0, n.1))
    else (text_at (codes "linear") a.1 >>= λ b. text_at (10 ∷ []) b.1 >>= λ c. Ok (OneFolder, c.1))

-- the folders' line to the end, or nothing
unfoldable pub all_folders_at : List ℕ → Result Folders ℕ
all_folders_at bytes = if length bytes == 0 then Ok OneFolder else whole (folders_at bytes)

unfoldable pub our_format_at : List ℕ → Result (Format × Folders) ℕ
our_format_at bytes = text_at (codes "4\n") bytes >>= λ a. all_folders_at a.1 >>= λ folders. Ok (Four, folders)

-- the parts of what `db/format` says
pub data FormatParts : Type 0 where
  Laid : Format × Folders → FormatParts
  Numbered : ℕ → FormatParts

abbrev pub format_parts : FormatFile → FormatParts
format_parts (Known layout) = Laid (layout.format, layout.folders)
format_parts (Other number) = Numbered number

-- another format's number, or how many bytes are left where reading stopped
abbrev pub other_at : ℕ → Result (ℕ × List ℕ) ℕ → Result FormatParts ℕ
other_at left (Ok (n, rest)) = if n == 4 then Err left else Ok (Numbered n)
other_at left (Err e) = Err left

abbrev pub or_other : List ℕ → Result (Format × Folders) ℕ → Result FormatParts ℕ
or_other bytes (Ok parts) = Ok (Laid parts)
or_other bytes (Err left) = other_at left (number_at 10 18446744073709551615 10 bytes)

unfoldable pub format_at : List ℕ → Result FormatParts ℕ
format_at bytes = or_other bytes (our_format_at bytes)
