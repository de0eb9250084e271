use Rattle.std.proofs.Common.{subst}
use Rattle.fsfs_base.specs.declared.fields.txn_name.TxnName.{TxnName}
use Rattle.fsfs_draft.specs.Walks.{IsRootId}
use Rattle.fsfs_edit.proofs.Reaching.{root, root_here, root_same, root_kind}
use Rattle.fsfs_txn.proofs.Looking.{seen_by_tree}
use Rattle.fsfs_txn.proofs.seeing.seen_on.Goals as goal

pub returns-clause-sees : goal.returns-clause-sees
returns-clause-sees g c = λ look trees top base tree marks knows shown le is_tree d.
    let txn = g.N.Own.txn c.args.own.now in
    let f = g.N.Own.folder c.args.own.now in
    let id : IsRootId txn c.root_id-root.result = subst (λ (t : TxnName). IsRootId t c.root_id-root.result) c.name.ensures c.root_id-root.ensures in
    seen_by_tree look trees top base txn f tree marks d c.args.path.now c.seen_below.result
    (c.seen_below.ensures.draft look trees top base d.0.shows.own (root look trees top base shown le txn f tree marks is_tree d) knows shown le d.0.shows.is_draft (root_here look trees top base shown le txn f tree marks is_tree d)
    (root_same look trees top base shown le txn f tree marks is_tree d c.root_id-root.result id) (root_kind look trees top base shown le txn f tree marks is_tree d))
