use Rattle.std.proofs.Common.{◌≡◌}
use Rattle.std.specs.Prelude.{IsTrue}
use Rattle.fsfs_txn_examples.proofs.folder.begin_all.Given as goal

abbrev pub invariant-loop-line : goal.invariant-loop-line
invariant-loop-line g l = record {
  mounted : g.D.Disk.mount_path l.left ≡ g.D.Disk.mount_path l.fn.disk;
  right : IsTrue (g.D.Disk.may_write l.left);
}
