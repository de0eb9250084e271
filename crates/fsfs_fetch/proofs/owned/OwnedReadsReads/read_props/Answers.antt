use Rattle.std.proofs.Common.{sym}
use Rattle.fsfs_fetch.proofs.PropsLemmas.{owned_met, owned_fewer}
use Rattle.fsfs_fetch.proofs.owned.OwnedReadsReads.read_props.Goals as goal

pub returns-clause-met : goal.returns-clause-met
returns-clause-met g c =
    owned_met (g.D.Disk.trace c.args.self.now.disk) c.args.self.now.layout c.args.rev c.name-name.result c.args.buffer.now c.read.new.buffer c.read.result c.name-name.ensures c.read.auto.buffer c.read.ensures.bound c.read.ensures.bytes

pub returns-clause-fewer : goal.returns-clause-fewer
returns-clause-fewer g c = owned_fewer (g.D.Disk.trace c.args.self.now.disk) (g.D.Disk.trace c.read.new.self) c.args.self.now.layout c.read.ensures.same
