use Rattle.std.proofs.Common.{◌≡◌, ◌++◌, replicate}
use Rattle.fsfs_look.proofs.lines.put_spaces.Given as goal

-- so many spaces were put
abbrev pub invariant-loop : goal.invariant-loop
invariant-loop l = l.lines.items ≡ l.fn.lines.items ++ replicate l.counter 32
