use Rattle.fsfs_txn_nodes.proofs.KeyLemmas.{same_files}
use Rattle.fsfs_txn_nodes.proofs.KeyTest.{key_eq, key_test}
use Rattle.fsfs_txn_nodes.proofs.memory.nodes.make_room.Goals as goal

pub returns-clause-files : goal.returns-clause-files
returns-clause-files c = same_files key_eq key_test c.args.nodes.now c.reserve.new.self c.reserve.ensures.entries.2
