use Rattle.std.proofs.Common.{◌∙◌}
use Rattle.fsfs_txn_nodes.specs.Memory.Lists.{files_of, with_steps}
use Rattle.fsfs_txn_nodes.proofs.KeyLemmas.{at_id}
use Rattle.fsfs_txn_nodes.proofs.memory.held_nodes.HeldNodesOwn.kept.Goals as goal

pub returns : goal.returns
returns g c =
    let s = c.args.self.now in
    c.found.ensures ∙ at_id c.key_of.result c.args.id.now (with_steps s.steps.list.items (files_of s.settled)) c.key_of.ensures.node c.key_of.ensures.copy
