-- What a bench in memory tells.
use Rattle.std.specs.Prelude.{ℕ, List}
use Rattle.fsfs_base.specs.Files.{Files}
use Rattle.fsfs_memory.specs.Memdisk.BenchFiles.{held_files, held_firm}
use Rattle.fsfs_memory.specs.declared.memdisk.bench.MemBench.{MemBench}

abbrev pub contents_of : MemBench → Files
contents_of bench = held_files bench.files.by_name.entries

abbrev pub firm_in : MemBench → List ℕ → ℕ
firm_in bench = λ name. held_firm bench.files.by_name.entries name
