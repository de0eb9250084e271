use Rattle.std.proofs.Common.{length}
use Rattle.fsfs_noderev.specs.Steps.{HasFront}
use Rattle.fsfs_noderev.proofs.reading.read_lines.Given as goal

abbrev pub invariant-lines : goal.invariant-lines
invariant-lines l = HasFront l.bytes l.fields l.rest

abbrev pub decreases-lines : goal.decreases-lines
decreases-lines l = length l.rest
