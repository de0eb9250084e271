use Rattle.std.proofs.Common.{◌≡◌, ◌≤◌, ◌+◌, ◌*◌, ◌++◌, drop, length}
use Rattle.fsfs_machine.specs.Machine.{starts}
use Rattle.fsfs_machine.proofs.packs.starts_of.Given as goal

-- those to come begin at `at`, and each has less than 2^64 bytes
abbrev pub invariant-loop-part : goal.invariant-loop-part
invariant-loop-part l = (l.offsets.items ++ starts l.at (drop l.part-index l.part-items) ≡ starts 0 l.parts) × (l.at + length (drop l.part-index l.part-items) * 18446744073709551616 ≤ length l.parts * 18446744073709551616)
