use Rattle.std.proofs.Common.{subst}
use Rattle.std.specs.Prelude.{IfSome}
use Rattle.fsfs_disk.specs.Benches.{HasShortFiles}
use Rattle.fsfs_disk.specs.Trace.{files_now}
use Rattle.fsfs_disk.specs.Seen.{DiskSeen}
use Rattle.fsfs_disk.proofs.Shortness.{short_now}
use Rattle.fsfs_disk.proofs.shared_disk.SharedDisk.files_are_short.Goals as goal

pub returns : goal.returns
returns g c = subst (λ (d : DiskSeen). IfSome d.trace (λ t. HasShortFiles (files_now t))) c.self.view_is (short_now (g.D.Disk.trace c.self.inside.disk) (g.met.D.Disk.short c.self.inside.disk))
