use Rattle.std.proofs.Common.{sym, subst, ◌∙◌}
use Rattle.fsfs_base.specs.Paths.{Path}
use Rattle.fsfs_base.specs.declared.fields.txn_name.TxnName.{TxnName}
use Rattle.fsfs_noderev.specs.declared.node_id.NodeId.{NodeId}
use Rattle.fsfs_draft.specs.Walks.{IsRootId}
use Rattle.fsfs_edit.proofs.Reaching.{root, root_here, root_same, leads}
use Rattle.fsfs_txn.specs.Opened.Leading.{LeadsDown}
use Rattle.fsfs_txn.proofs.opened.opening.way_to.Goals as goal

pub returns-clause-leads : goal.returns-clause-leads
returns-clause-leads g c = λ look trees top base tree marks kind knows shown le is_tree d has.
    let txn = g.N.Own.txn c.args.own.now in
    let f = g.N.Own.folder c.args.own.now in
    let id : IsRootId txn c.root_id-root.result = subst (λ (t : TxnName). IsRootId t c.root_id-root.result) c.name.ensures c.root_id-root.ensures in
    let at = root_same look trees top base shown le txn f tree marks is_tree d c.root_id-root.result id in
    let down = c.in_ok-known.ensures.leads look trees top base d.0.shows.own (root look trees top base shown le txn f tree marks is_tree d) knows shown le d.0.shows.is_draft (root_here look trees top base shown le txn f tree marks is_tree d) at
    (leads look trees top base shown le txn f tree marks is_tree d c.args.path.now kind has) in
    λ other is.
    subst (λ (p : Path). LeadsDown look f.nodes c.in_ok-known.known.items p other) (sym c.in_ok-path.ensures.cases)
    (subst (λ (x : NodeId). LeadsDown look f.nodes c.in_ok-known.known.items c.args.path.now x) (sym at ∙ root_same look trees top base shown le txn f tree marks is_tree d other is) down)
