use Rattle.std.proofs.Common.{◌≡◌, ◌≤◌, ℕ, take, drop, length}
use Rattle.fsfs_folders.specs.Writing.{Writes}
use Rattle.fsfs_folders.proofs.writing.append_all.Given as goal

-- so many bytes were written, and the rest is left
abbrev pub invariant-loop-rest : goal.invariant-loop-rest
invariant-loop-rest g l = (k : ℕ) × (k ≤ length l.bytes) × (l.rest ≡ drop k l.bytes) × Writes (g.C.File.OpenFile.number l.file) (take k l.bytes) (g.C.Calls.history l.fn.calls) (g.C.Calls.history l.calls)

abbrev pub decreases-loop-rest : goal.decreases-loop-rest
decreases-loop-rest g l = length l.rest
