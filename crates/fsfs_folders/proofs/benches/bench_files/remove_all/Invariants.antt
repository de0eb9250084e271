use Rattle.std.proofs.Common.{take}
use Rattle.fsfs_folders.specs.BenchFiles.{Clears}
use Rattle.fsfs_folders.proofs.benches.bench_files.remove_all.Given as goal

-- so many of the files are gone
abbrev pub invariant-loop-name : goal.invariant-loop-name
invariant-loop-name g l = Clears (take l.name-index l.names) (g.C.Calls.history l.fn.calls) (g.C.Calls.history l.calls)
