use Rattle.fsfs_disk.specs.Trace.{Remove}
use Rattle.fsfs_turn.proofs.Knowing.{removal_known}
use Rattle.fsfs_turn.proofs.OwnFiles.{remove_spares}
use Rattle.fsfs_turn.proofs.Alone.{goes_if_there, removal_alone}
use Rattle.fsfs_turn.proofs.KeptLabels.{keeps_if_there}
use Rattle.std.proofs.Common.{refl}
use Rattle.fsfs_turn.proofs.owned.OwnedTurns.remove.Goals as goal

pub returns-clause-turned : goal.returns-clause-turned
returns-clause-turned g c = λ v r known may named.
    removal_alone c.args.self.now.layout c.args.self.now.floor c.args.self.now.young c.args.self.now.stuck (g.D.Disk.trace c.args.self.now.disk) (g.D.Disk.trace c.remove.new.self)
    v (goes_if_there v.since.packs (Remove c.args.name.now) (remove_spares v r may.fits c.args.name.now named) (g.D.Disk.trace c.args.self.now.disk) (g.D.Disk.trace c.remove.new.self) c.remove.result c.remove.ensures.ok c.remove.ensures.err) known r c.remove.result
    (removal_known c.args.self.now.layout c.args.self.now.floor c.args.self.now.young c.args.self.now.stuck (g.D.Disk.trace c.args.self.now.disk) (g.D.Disk.trace c.remove.new.self) c.args.name.now c.remove.result c.remove.ensures.ok c.remove.ensures.err v r known.0 may named)

pub returns-clause-listed : goal.returns-clause-listed
returns-clause-listed g c = keeps_if_there (Remove c.args.name.now) (λ ls. refl) (g.D.Disk.trace c.args.self.now.disk) (g.D.Disk.trace c.remove.new.self) c.remove.result c.remove.ensures.ok c.remove.ensures.err
