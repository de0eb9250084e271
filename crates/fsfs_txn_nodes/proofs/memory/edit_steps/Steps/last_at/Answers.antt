use Rattle.std.proofs.Common.{sym, ◌∙◌}
use Rattle.fsfs_txn_nodes.proofs.KeySetLemmas.{unkeyed}
use Rattle.fsfs_txn_nodes.proofs.memory.edit_steps.Steps.last_at.Goals as goal

pub returns-else-has_key : goal.returns-else-has_key
returns-else-has_key c = λ files.
    let s = c.args.self.now in
    unkeyed s.keys s.list.items c.args.key.now files s.keyed (sym c.has_key.ensures ∙ c.if-has_key.false)
