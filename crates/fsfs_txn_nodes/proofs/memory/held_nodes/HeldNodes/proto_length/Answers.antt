use Rattle.fsfs_txn_nodes.specs.Memory.Lists.{files_of}
use Rattle.fsfs_txn_nodes.specs.Memory.Written.{filed}
use Rattle.fsfs_txn_nodes.proofs.WrittenLemmas.{read_told}
use Rattle.fsfs_txn_nodes.proofs.memory.held_nodes.HeldNodes.proto_length.Goals as goal

pub invariant_of-self : goal.invariant_of-self
invariant_of-self g c =
    let s = c.args.self.now in
    record {
      named = s.named;
      told = read_told (g.D.Bench.faults s.bench) (g.D.Bench.faults c.len.new.self) (g.D.Bench.contents s.bench) (g.D.Bench.contents c.len.new.self) (filed (files_of s.settled) s.settled_next s.items.items) c.len.result c.len.ensures.same c.len.ensures.cause s.told;
      ready = s.ready;
    }
