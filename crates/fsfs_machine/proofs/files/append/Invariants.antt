use Rattle.std.proofs.Common.{◌≡◌, ◌++◌, length}
use Rattle.fsfs_machine.proofs.files.append.Given as goal

abbrev pub invariant-loop-change : goal.invariant-loop-change
invariant-loop-change l = l.out.items ++ l.more.items ≡ l.fn.out.items ++ l.fn.more.items

abbrev pub decreases-loop-change : goal.decreases-loop-change
decreases-loop-change l = length l.more.items
