use Rattle.std.proofs.Common.{sym, ◌∙◌}
use Rattle.fsfs_txn_nodes.proofs.KeySetLemmas.{set_has}
use Rattle.fsfs_txn_nodes.proofs.KeyTest.{key_eq, key_test}
use Rattle.fsfs_txn_nodes.proofs.memory.key_set.has_key.Goals as goal

pub returns : goal.returns
returns c = c.contains.ensures ∙ sym (set_has key_eq key_test c.args.keys.now c.args.key.now)
