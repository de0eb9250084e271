use Rattle.std.proofs.Common.{◌≡◌, ◌-◌}
use Rattle.fsfs_base.proofs.Loops.{with_front}
use Rattle.fsfs_layout.specs.ManifestReading.{offsets_at, lines_at}
use Rattle.fsfs_layout.proofs.small_files.manifest_file.lines.Given as goal

abbrev pub invariant-loop : goal.invariant-loop
invariant-loop l = with_front l.found.items (offsets_at (l.shard_size - 1 - l.counter) l.low l.rest) ≡ lines_at l.shard_size l.bytes
