use Rattle.std.proofs.Common.{List, [], sym, subst}
use Rattle.fsfs_txn.specs.declared.opened.known.Known.{Known}
use Rattle.fsfs_txn.specs.Opened.Knowing.{AreKnown}
use Rattle.fsfs_txn.specs.Opened.Leading.{LeadsDown}
use Rattle.fsfs_txn.specs.Opened.Stepping.{LeadsOn}
use Rattle.fsfs_base.specs.declared.fields.txn_name.TxnName.{TxnName}
use Rattle.fsfs_draft.specs.Walks.{IsRootId}
use Rattle.fsfs_edit.proofs.Reaching.{root, root_here, root_same}
use Rattle.fsfs_txn.proofs.ReachedLemmas.{reached_leaves}
use Rattle.fsfs_txn.proofs.opened.reached.reached.Goals as goal

pub returns-clause-opens : goal.returns-clause-opens
returns-clause-opens g c = λ look trees top base tree marks known shown le is_tree d.
    let txn = g.N.Own.txn c.args.own.now in
    let f = g.N.Own.folder c.args.own.now in
    let id : IsRootId txn c.root_id-root.result = subst (λ (t : TxnName). IsRootId t c.root_id-root.result) c.name.ensures c.root_id-root.ensures in
    reached_leaves look trees top base shown le txn f tree marks d c.args.way.now.path (g.N.Own.folder c.reach.new.own) c.reach.result
    (c.reach.ensures.draft look trees top base d.0.shows.own (root look trees top base shown le txn f tree marks is_tree d) (subst (λ (ks : List Known). AreKnown look top ks) (sym c.as_slice.ensures.value) known) shown le d.0.shows.is_draft (root_here look trees top base shown le txn f tree marks is_tree d)
    (root_same look trees top base shown le txn f tree marks is_tree d c.root_id-root.result id))

pub returns-clause-leads : goal.returns-clause-leads
returns-clause-leads g c = λ look trees top base tree marks known shown le is_tree d leads.
    let txn = g.N.Own.txn c.args.own.now in
    let f = g.N.Own.folder c.args.own.now in
    let ks = c.args.way.now.known.items in
    let id : IsRootId txn c.root_id-root.result = subst (λ (t : TxnName). IsRootId t c.root_id-root.result) c.name.ensures c.root_id-root.ensures in
    subst (λ (k : List Known). LeadsOn look (g.N.Own.folder c.reach.new.own).nodes k [] c.reach.result) c.as_slice.ensures.value
    (c.reach.ensures.leads look trees top base d.0.shows.own (root look trees top base shown le txn f tree marks is_tree d) (subst (λ (ks : List Known). AreKnown look top ks) (sym c.as_slice.ensures.value) known) shown le d.0.shows.is_draft (root_here look trees top base shown le txn f tree marks is_tree d)
    (root_same look trees top base shown le txn f tree marks is_tree d c.root_id-root.result id)
    (subst (λ (k : List Known). LeadsDown look f.nodes k c.args.way.now.path c.root_id-root.result) (sym c.as_slice.ensures.value) (leads c.root_id-root.result id)))

pub returns-clause-still : goal.returns-clause-still
returns-clause-still g c = λ look trees top base tree marks known shown le is_tree d.
    let txn = g.N.Own.txn c.args.own.now in
    let f = g.N.Own.folder c.args.own.now in
    let id : IsRootId txn c.root_id-root.result = subst (λ (t : TxnName). IsRootId t c.root_id-root.result) c.name.ensures c.root_id-root.ensures in
    c.reach.ensures.still look trees top base d.0.shows.own (root look trees top base shown le txn f tree marks is_tree d) (subst (λ (ks : List Known). AreKnown look top ks) (sym c.as_slice.ensures.value) known) shown le d.0.shows.is_draft (root_here look trees top base shown le txn f tree marks is_tree d)
    (root_same look trees top base shown le txn f tree marks is_tree d c.root_id-root.result id)
