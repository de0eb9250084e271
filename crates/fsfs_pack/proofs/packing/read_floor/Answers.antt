use Rattle.std.proofs.Common.{take, refl, ap, replicate}
use Rattle.fsfs_pack.proofs.Reading.{read_told, read_faultless}
use Rattle.fsfs_pack.proofs.packing.read_floor.Goals as goal

pub returns-in-Err-clause-read : goal.returns-in-Err-clause-read
returns-in-Err-clause-read g c = λ v known same. let t = c.in-Err.ensures.floor v known c.name.ensures in (t.0, t.4, (refl, t.2, t.1, t.6))

pub returns-in-Ok-read_min_unpacked_rev-clause-read : goal.returns-in-Ok-read_min_unpacked_rev-clause-read
returns-in-Ok-read_min_unpacked_rev-clause-read g c = λ v known same.
    read_told (g.T.Turns.knows c.read.new.self) (replicate 64 0) c.read.new.buffer (take c.unwrap_or.result c.read.new.buffer) c.in-Ok.found c.args.layout v c.read_min_unpacked_rev.result c.in-Ok-read_min_unpacked_rev.floor refl (ap (λ n. take n c.read.new.buffer) c.unwrap_or.ensures) same c.read_min_unpacked_rev.ensures.only c.in-Ok-read_min_unpacked_rev.is (c.in-Ok.ensures.floor v known c.name.ensures)

pub returns-in-Err-read_min_unpacked_rev-clause-read : goal.returns-in-Err-read_min_unpacked_rev-clause-read
returns-in-Err-read_min_unpacked_rev-clause-read g c = λ v known same.
    absurd (read_faultless (g.T.Turns.knows c.read.new.self) (replicate 64 0) c.read.new.buffer (take c.unwrap_or.result c.read.new.buffer) c.in-Ok.found c.args.layout v c.read_min_unpacked_rev.result c.in-Err-read_min_unpacked_rev.fault refl (ap (λ n. take n c.read.new.buffer) c.unwrap_or.ensures) same c.read_min_unpacked_rev.ensures.only c.in-Err-read_min_unpacked_rev.is (c.in-Ok.ensures.floor v known c.name.ensures))
