use Rattle.std.specs.Prelude.{codes}
use Rattle.fsfs_begin.proofs.FirstFiles.{held_told}
use Rattle.fsfs_begin.proofs.begun.Begun.hold.Goals as goal

pub begin-requires : goal.begin-requires
begin-requires g c = record { told = held_told (g.B.Bench.faults c.args.self.bench) (g.B.Bench.contents c.args.self.bench) c.args.self.root (codes "rev") c.requires }
