use Rattle.fsfs_txn_nodes.proofs.KeySetLemmas.{keeps_same}
use Rattle.fsfs_txn_nodes.proofs.KeyTest.{key_eq, key_test}
use Rattle.fsfs_txn_nodes.proofs.memory.key_set.make_key_room.Goals as goal

pub returns-clause-kept : goal.returns-clause-kept
returns-clause-kept c = keeps_same key_eq key_test c.args.keys.now c.reserve.new.self c.reserve.ensures.keys.2
