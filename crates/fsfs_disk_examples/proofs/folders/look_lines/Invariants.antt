use Rattle.std.proofs.Common.{◌≡◌}
use Rattle.fsfs_disk_examples.proofs.folders.look_lines.Given as goal

abbrev pub invariant-loop-line : goal.invariant-loop-line
invariant-loop-line g l = record {
  mounted : g.D.Disk.mount_path l.disk ≡ g.D.Disk.mount_path l.fn.disk;
}
