use Rattle.fsfs_disk.specs.Trace.{Adopt}
use Rattle.fsfs_disk.specs.Benches.{removed, bytes_on}
use Rattle.fsfs_turn.proofs.Knowing.{part_known, file_left}
use Rattle.fsfs_turn.proofs.OwnFiles.{due_spares}
use Rattle.fsfs_turn.proofs.Alone.{goes_by_adoption, call_alone}
use Rattle.fsfs_turn.proofs.KeptLabels.{keeps_at_adoption}
use Rattle.std.proofs.Common.{refl}
use Rattle.fsfs_turn.proofs.owned.OwnedTurns.adopt_part.Goals as goal

pub returns-clause-turned : goal.returns-clause-turned
returns-clause-turned g c = λ v place known due.
    call_alone c.args.self.now.layout c.args.self.now.floor c.args.self.now.young c.args.self.now.stuck (g.D.Disk.trace c.args.self.now.disk) (g.D.Disk.trace c.adopt.new.self)
    v (goes_by_adoption v.since.packs (Adopt c.args.to.now (bytes_on (g.D.Bench.Bench.contents c.args.bench.now) c.args.part.now)) (due_spares v place (Adopt c.args.to.now (bytes_on (g.D.Bench.Bench.contents c.args.bench.now) c.args.part.now)) due) (g.D.Disk.trace c.args.self.now.disk) (g.D.Disk.trace c.adopt.new.self) (removed c.args.part.now) (g.D.Bench.Bench.contents c.args.bench.now) (g.D.Bench.Bench.contents c.adopt.new.bench) c.adopt.result c.adopt.ensures.ok c.adopt.ensures.err) known place (Adopt c.args.to.now (bytes_on (g.D.Bench.Bench.contents c.args.bench.now) c.args.part.now)) c.adopt.result due
    (part_known c.args.self.now.layout c.args.self.now.floor c.args.self.now.young c.args.self.now.stuck (g.D.Disk.trace c.args.self.now.disk) (g.D.Disk.trace c.adopt.new.self) c.args.to.now (bytes_on (g.D.Bench.Bench.contents c.args.bench.now) c.args.part.now)
    (removed c.args.part.now) (g.D.Bench.Bench.contents c.args.bench.now) (g.D.Bench.Bench.contents c.adopt.new.bench) c.adopt.result c.adopt.ensures.ok c.adopt.ensures.err v place known.0 due)

pub returns-clause-left : goal.returns-clause-left
returns-clause-left g c = file_left (Adopt c.args.to.now (bytes_on (g.D.Bench.Bench.contents c.args.bench.now) c.args.part.now)) (g.D.Disk.trace c.args.self.now.disk) (g.D.Disk.trace c.adopt.new.self)
    (removed c.args.part.now) (g.D.Bench.Bench.contents c.args.bench.now) (g.D.Bench.Bench.contents c.adopt.new.bench) c.adopt.result c.adopt.ensures.err

pub returns-clause-listed : goal.returns-clause-listed
returns-clause-listed g c = keeps_at_adoption (Adopt c.args.to.now (bytes_on (g.D.Bench.Bench.contents c.args.bench.now) c.args.part.now)) (λ ls. refl) (g.D.Disk.trace c.args.self.now.disk) (g.D.Disk.trace c.adopt.new.self)
    (removed c.args.part.now) (g.D.Bench.Bench.contents c.args.bench.now) (g.D.Bench.Bench.contents c.adopt.new.bench) c.adopt.result c.adopt.ensures.ok c.adopt.ensures.err
