use Rattle.std.proofs.Common.{◌≡◌, ◌++◌, drop}
use Rattle.fsfs_machine.proofs.contents.Parts.copy.Given as goal

abbrev pub invariant-loop-part : goal.invariant-loop-part
invariant-loop-part l = l.parts.items ++ drop l.part-index l.part-items ≡ l.self
