use Rattle.std.proofs.Common.{◌≡◌, ◌-◌}
use Rattle.fsfs_machine.specs.Machine.{parts_from}
use Rattle.fsfs_machine.proofs.packs.parts_from.Given as goal

abbrev pub invariant-loop-number : goal.invariant-loop-number
invariant-loop-number l = l.parts.items ≡ parts_from (l.number - l.first) l.first l.line
