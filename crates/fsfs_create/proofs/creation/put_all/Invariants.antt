use Rattle.std.proofs.Common.{◌≡◌, ◌≤◌, map, option_map, take}
use Rattle.fsfs_create.specs.NewFiles.{named}
use Rattle.fsfs_create.specs.Creation.{after_puts}
use Rattle.fsfs_create.proofs.creation.put_all.Given as goal

-- the files so far were put
abbrev pub invariant-loop-file : goal.invariant-loop-file
invariant-loop-file g l = record {
  done : g.D.Disk.trace l.disk ≡ option_map (after_puts (map named (take l.file-index l.files))) (g.D.Disk.trace l.fn.disk);
  mounted : g.D.Disk.mount_path l.disk ≡ g.D.Disk.mount_path l.fn.disk;
  right : g.D.Disk.may_write l.disk ≡ g.D.Disk.may_write l.fn.disk;
  later : g.D.Disk.faults l.fn.disk ≤ g.D.Disk.faults l.disk;
}
