use Rattle.fsfs_txn_nodes.proofs.KeySetLemmas.{keyed_kept}
use Rattle.fsfs_txn_nodes.proofs.memory.edit_steps.Steps.reserve.Goals as goal

pub invariant_of-self-2 : goal.invariant_of-self-2
invariant_of-self-2 c =
    let s = c.args.self.now in
    record { keyed = keyed_kept s.keys c.make_key_room.new.keys c.make_key_room.ensures.kept s.list.items c.reserve.new.self.items c.reserve.ensures.items s.keyed }
