use Rattle.fsfs_txn_nodes.proofs.KeyLemmas.{put_files, from_ok}
use Rattle.fsfs_txn_nodes.proofs.KeyTest.{key_eq, key_test}
use Rattle.fsfs_txn_nodes.proofs.memory.nodes.put.Goals as goal

pub returns-clause-files : goal.returns-clause-files
returns-clause-files c =
    put_files key_eq key_test c.args.nodes.now c.insert-replaced.new.self c.args.step.key c.args.step.kept (from_ok c.insert-replaced.result _ (c.insert-replaced.ensures.succeeds c.requires) c.insert-replaced.ensures.updates).0
