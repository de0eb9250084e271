use Rattle.std.proofs.Common.{◌≡◌, map, take}
use Rattle.fsfs_disk.specs.Transactions.Txns.{pair_of}
use Rattle.fsfs_disk.proofs.InTurn.{AreRemoved, Stays}
use Rattle.fsfs_disk.proofs.transactions.removing.rmtxns.Given as goal

-- so many were removed, and nothing else has changed
abbrev pub invariant-loop-name : goal.invariant-loop-name
invariant-loop-name g l = record {
  removed : AreRemoved (map pair_of (take l.name-index l.names)) (g.D.Disk.trace l.fn.disk) (g.D.Disk.trace l.disk);
  stays : Stays (g.D.Disk.trace l.fn.disk) (g.D.Disk.trace l.disk);
  mounted : g.D.Disk.mount_path l.disk ≡ g.D.Disk.mount_path l.fn.disk;
  right : g.D.Disk.may_write l.disk ≡ g.D.Disk.may_write l.fn.disk;
  benches : g.D.Disk.bench_faults l.disk ≡ g.D.Disk.bench_faults l.fn.disk;
  faults : g.D.Disk.faults l.disk ≡ g.D.Disk.faults l.fn.disk;
}
