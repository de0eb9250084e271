use Rattle.fsfs_txn_nodes.proofs.KeySetLemmas.{keyed_push}
use Rattle.fsfs_txn_nodes.proofs.memory.edit_steps.Steps.push_reserved.Goals as goal

pub invariant_of-self : goal.invariant_of-self
invariant_of-self c =
    let s = c.args.self.now in
    record { keyed = keyed_push s.keys c.put_key.new.keys c.put_key.ensures.kept s.list.items c.push_reserved.new.self.items c.args.step c.push_reserved.ensures.items c.put_key.ensures.here s.keyed }
