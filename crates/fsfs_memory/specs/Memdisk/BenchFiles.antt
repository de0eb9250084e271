-- What the data of a bench in memory tell.
use Rattle.std.specs.Prelude.{ℕ, List, Option, Some, None}
use Rattle.fsfs_base.specs.Files.{Files}
use Rattle.fsfs_memory.specs.Memdisk.MemFiles.{files_by, content_at}
use Rattle.fsfs_memory.specs.declared.memdisk.bench_files.BenchFile.{BenchFile}

abbrev pub bench_bytes : BenchFile → List ℕ
bench_bytes file = file.bytes.items

-- how far a file is firm; one that isn't there not at all
abbrev pub firm_of : Option BenchFile → ℕ
firm_of None = 0
firm_of (Some file) = file.firm

abbrev pub held_files : List (List ℕ × BenchFile) → Files
held_files entries = files_by bench_bytes entries

abbrev pub held_firm : List (List ℕ × BenchFile) → List ℕ → ℕ
held_firm entries name = firm_of (content_at entries name)
