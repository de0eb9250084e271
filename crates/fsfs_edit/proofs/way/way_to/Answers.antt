use Rattle.std.proofs.Common.{subst}
use Rattle.fsfs_base.specs.declared.fields.txn_name.TxnName.{TxnName}
use Rattle.fsfs_draft.specs.Walks.{IsRootId}
use Rattle.fsfs_edit.proofs.Reaching.{root, root_here, root_same, root_kind, by_tree}
use Rattle.fsfs_edit.proofs.way.way_to.Goals as goal

pub returns-clause-looks : goal.returns-clause-looks
returns-clause-looks g c = λ look trees top base tree marks knows shown le is_tree d.
    let txn = g.N.Own.txn c.args.own.now in
    let f = g.N.Own.folder c.args.own.now in
    let id : IsRootId txn c.root_id-root.result = subst (λ (t : TxnName). IsRootId t c.root_id-root.result) c.name.ensures c.root_id-root.ensures in
    by_tree look trees top base shown le txn f tree marks is_tree d c.args.parent.now c.args.name.now c.target_at.result
    (c.target_at.ensures.draft look trees top base d.0.shows.own (root look trees top base shown le txn f tree marks is_tree d) knows shown le d.0.shows.is_draft (root_here look trees top base shown le txn f tree marks is_tree d)
    (root_same look trees top base shown le txn f tree marks is_tree d c.root_id-root.result id) (root_kind look trees top base shown le txn f tree marks is_tree d))
