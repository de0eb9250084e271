use Rattle.std.proofs.Common.{◌≡◌, ◌-◌, suc, length}
use Rattle.fsfs_layout.specs.Hash.Reading.{entries_at, views}
use Rattle.fsfs_base.proofs.Loops.{with_front}
use Rattle.fsfs_layout.proofs.hash.dump.entries.Given as goal

abbrev pub invariant-loop : goal.invariant-loop
invariant-loop l = with_front (views l.found.items) (entries_at (suc (length l.bytes) - l.counter) l.rest) ≡ entries_at (suc (length l.bytes)) l.bytes
