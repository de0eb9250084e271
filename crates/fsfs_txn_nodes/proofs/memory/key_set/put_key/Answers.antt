use Rattle.std.proofs.Common.{◌∙◌}
use Rattle.fsfs_txn_nodes.proofs.KeyLemmas.{from_ok}
use Rattle.fsfs_txn_nodes.proofs.KeySetLemmas.{set_has, keeps_put}
use Rattle.fsfs_txn_nodes.proofs.KeyTest.{key_eq, key_test}
use Rattle.fsfs_txn_nodes.proofs.memory.key_set.put_key.Goals as goal

pub returns-clause-kept : goal.returns-clause-kept
returns-clause-kept c =
    let updates = from_ok c.insert-added.result _ (c.insert-added.ensures.succeeds c.requires) c.insert-added.ensures.updates in
    keeps_put key_eq key_test c.args.keys.now c.insert-added.new.self c.args.key updates.0

pub returns-clause-here : goal.returns-clause-here
returns-clause-here c =
    let updates = from_ok c.insert-added.result _ (c.insert-added.ensures.succeeds c.requires) c.insert-added.ensures.updates in
    set_has key_eq key_test c.insert-added.new.self c.args.key ∙ updates.1
