use Rattle.std.proofs.Common.{take, ap, refl}
use Rattle.fsfs_check.proofs.Floors.{is_floor, is_no_floor}
use Rattle.fsfs_check.proofs.floor.floor_now.Goals as goal

pub returns-in-Ok-read_min_unpacked_rev-clause-told : goal.returns-in-Ok-read_min_unpacked_rev-clause-told
returns-in-Ok-read_min_unpacked_rev-clause-told g c =
    is_floor c.args.layout c.name.result _ c.read.new.buffer _ c.in-Ok.found c.name.ensures refl (ap (λ k. take k c.read.new.buffer) c.unwrap_or-count.ensures) (g.D.Disk.trace c.args.disk.now) c.in-Ok-read_min_unpacked_rev.floor c.in-Ok.ensures.bytes c.in-Ok-read_min_unpacked_rev.ensures.found

pub returns-in-Err-read_min_unpacked_rev-clause-told : goal.returns-in-Err-read_min_unpacked_rev-clause-told
returns-in-Err-read_min_unpacked_rev-clause-told g c =
    is_no_floor c.args.layout c.name.result _ c.read.new.buffer _ c.in-Ok.found c.name.ensures refl (ap (λ k. take k c.read.new.buffer) c.unwrap_or-count.ensures) (g.D.Disk.trace c.args.disk.now) c.in-Err-read_min_unpacked_rev.fault c.in-Ok.ensures.bytes c.in-Err-read_min_unpacked_rev.ensures.fault
