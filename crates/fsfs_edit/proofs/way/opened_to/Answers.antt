use Rattle.std.proofs.Common.{subst}
use Rattle.fsfs_base.specs.declared.fields.txn_name.TxnName.{TxnName}
use Rattle.fsfs_draft.specs.Walks.{IsRootId}
use Rattle.fsfs_edit.proofs.Reaching.{root, root_here, root_same, leads, opened_leaves}
use Rattle.fsfs_edit.proofs.way.opened_to.Goals as goal

pub returns-clause-opens : goal.returns-clause-opens
returns-clause-opens g c = λ look trees top base tree marks kind knows shown le is_tree d has.
    let txn = g.N.Own.txn c.args.own.now in
    let f = g.N.Own.folder c.args.own.now in
    let id : IsRootId txn c.root_id-root.result = subst (λ (t : TxnName). IsRootId t c.root_id-root.result) c.name.ensures c.root_id-root.ensures in
    opened_leaves look trees top base shown le txn f tree marks is_tree d c.args.path.now kind (g.N.Own.folder c.bubble_up.new.own) c.bubble_up.result has
    (c.bubble_up.ensures.draft look trees top base d.0.shows.own (root look trees top base shown le txn f tree marks is_tree d) knows shown le d.0.shows.is_draft (root_here look trees top base shown le txn f tree marks is_tree d)
    (root_same look trees top base shown le txn f tree marks is_tree d c.root_id-root.result id) (leads look trees top base shown le txn f tree marks is_tree d c.args.path.now kind has))
