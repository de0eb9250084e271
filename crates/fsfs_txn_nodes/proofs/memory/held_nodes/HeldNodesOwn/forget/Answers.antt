use Rattle.fsfs_txn_nodes.specs.Memory.Lists.{files_of}
use Rattle.fsfs_txn_nodes.proofs.WrittenLemmas.{none_ready}
use Rattle.fsfs_txn_nodes.proofs.memory.held_nodes.HeldNodesOwn.forget.Goals as goal

pub invariant_of-self : goal.invariant_of-self
invariant_of-self g c =
    let s = c.args.self.now in
    record {
      named = s.named;
      told = s.told;
      ready = none_ready c.clear-2.new.self.items c.clear.new.self.list.items (files_of s.settled) s.settled_next s.items.items c.clear-2.ensures.items c.clear.ensures.items;
    }
