use Rattle.std.proofs.Common.{option_map, ap, sym, ◌∙◌}
use Rattle.std.specs.Prelude.{Option}
use Rattle.fsfs_draft.specs.declared.txn_noderevs.KeptNode.{KeptNode}
use Rattle.fsfs_draft.specs.Views.{kept_value}
use Rattle.fsfs_txn_nodes.proofs.KeyLemmas.{files_get, read_kept}
use Rattle.fsfs_txn_nodes.proofs.KeyTest.{key_eq, key_test}
use Rattle.fsfs_txn_nodes.proofs.memory.nodes.node_at.Goals as goal

pub returns : goal.returns
returns c =
    read_kept c.get.result ∙ ap (λ (o : Option KeptNode). option_map kept_value o) c.get.ensures.value ∙ sym (files_get key_eq key_test c.args.nodes.now c.args.key.now)
