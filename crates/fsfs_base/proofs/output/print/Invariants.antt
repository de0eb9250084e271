use Rattle.std.proofs.Common.{◌≡◌, ◌≤◌, ℕ, take, drop, length}
use Rattle.fsfs_base.specs.Streams.{Adds}
use Rattle.fsfs_base.proofs.output.print.Given as goal

-- so many bytes of the text were written, and the rest is left
abbrev pub invariant-loop-rest : goal.invariant-loop-rest
invariant-loop-rest g l = (k : ℕ) × (l.rest ≡ drop k l.text) × Adds (g.S.Sink.written l.fn.sink) (g.S.Sink.written l.sink) (take k l.text) × (g.S.Sink.faults l.fn.sink ≤ g.S.Sink.faults l.sink)

abbrev pub decreases-loop-rest : goal.decreases-loop-rest
decreases-loop-rest g l = length l.rest
