use Rattle.std.proofs.Common.{Ok, Err, sym, subst}
use Rattle.std.proofs.lemmas.Result.{err_from_is_err_and}
use Rattle.fsfs_base.specs.declared.fields.txn_name.TxnName.{TxnName}
use Rattle.fsfs_revision.specs.Told.{Knows}
use Rattle.fsfs_revision.proofs.Keeping.{keeps_trans}
use Rattle.fsfs_draft.specs.Walks.{IsRootId, IsFound}
use Rattle.fsfs_draft.specs.declared.walk.Found.{Found}
use Rattle.fsfs_draft.specs.declared.walk.Found.TheVariants as founds
use Rattle.fsfs_edit.proofs.Reaching.{found_by_tree}
use Rattle.fsfs_draft.specs.Own.{draft_tree}
use Rattle.fsfs_txn.proofs.Viewing.{walked, seen, bare_text}
use Rattle.fsfs_txn.proofs.getting.got_at.Goals as goal

pub returns-in_err-depth-clause-gets : goal.returns-in_err-depth-clause-gets
returns-in_err-depth-clause-gets g c = λ look trees top base tree marks knows shown le is_tree d.
    let txn = g.N.Own.txn c.args.own.now in
    let f = g.N.Own.folder c.args.own.now in
    let path = c.args.path.now in
    let id : IsRootId txn c.root_id-root.result = subst (λ (t : TxnName). IsRootId t c.root_id-root.result) c.name.ensures c.root_id-root.ensures in
    let r = err_from_is_err_and c.from_residual.result c.from_residual.ensures.1 in
    rw (r.1, r.2) (walked look trees top base shown le txn f tree marks is_tree d path c.root_id-root.result (Err c.in_err-depth.field-0.0) id (λ nodes v draft here same dir. c.in_err-depth.ensures.draft look trees top base nodes v knows shown le draft here same dir))

pub returns-in-Absent-clause-gets : goal.returns-in-Absent-clause-gets
returns-in-Absent-clause-gets g c = λ look trees top base tree marks knows shown le is_tree d.
    let txn = g.N.Own.txn c.args.own.now in
    let f = g.N.Own.folder c.args.own.now in
    let path = c.args.path.now in
    let id : IsRootId txn c.root_id-root.result = subst (λ (t : TxnName). IsRootId t c.root_id-root.result) c.name.ensures c.root_id-root.ensures in
    let found = subst (λ (x : Found). IsFound look trees base d.0.shows.own path (Ok x)) c.in-Absent.is (walked look trees top base shown le txn f tree marks is_tree d path c.root_id-root.result (Ok c.in_ok-depth.field-0) id (λ nodes v draft here same dir. c.in_ok-depth.ensures.draft look trees top base nodes v knows shown le draft here same dir)) in
    found_by_tree look trees top base shown le txn f tree marks is_tree d path (Ok (founds.Absent c.in-Absent.depth)) found

pub returns-in-File-clause-gets : goal.returns-in-File-clause-gets
returns-in-File-clause-gets g c = λ look trees top base tree marks knows shown le is_tree d.
    let txn = g.N.Own.txn c.args.own.now in
    let f = g.N.Own.folder c.args.own.now in
    let path = c.args.path.now in
    let id : IsRootId txn c.root_id-root.result = subst (λ (t : TxnName). IsRootId t c.root_id-root.result) c.name.ensures c.root_id-root.ensures in
    let found = subst (λ (x : Found). IsFound look trees base d.0.shows.own path (Ok x)) c.in-File.is (walked look trees top base shown le txn f tree marks is_tree d path c.root_id-root.result (Ok c.in_ok-depth.field-0) id (λ nodes v draft here same dir. c.in_ok-depth.ensures.draft look trees top base nodes v knows shown le draft here same dir)) in
    found_by_tree look trees top base shown le txn f tree marks is_tree d path (Ok (founds.File c.in-File.depth)) found

pub returns-in_err-props-in-Node-clause-gets : goal.returns-in_err-props-in-Node-clause-gets
returns-in_err-props-in-Node-clause-gets g c = λ look trees top base tree marks knows shown le is_tree d.
    let txn = g.N.Own.txn c.args.own.now in
    let f = g.N.Own.folder c.args.own.now in
    let path = c.args.path.now in
    let id : IsRootId txn c.root_id-root.result = subst (λ (t : TxnName). IsRootId t c.root_id-root.result) c.name.ensures c.root_id-root.ensures in
    let found : IsFound look trees base d.0.shows.own path (Ok (founds.Node c.in-Node.child)) = subst (λ (x : Found). IsFound look trees base d.0.shows.own path (Ok x)) c.in-Node.is (walked look trees top base shown le txn f tree marks is_tree d path c.root_id-root.result (Ok c.in_ok-depth.field-0) id (λ nodes v draft here same dir. c.in_ok-depth.ensures.draft look trees top base nodes v knows shown le draft here same dir)) in
    let later : Knows (g.B.Book.told c.met.new.book).revs top look = λ n h. c.in_ok-depth.ensures.kept.revs n (look n) (knows n h) in
    let r = err_from_is_err_and c.from_residual-in_err-props-in-Node.result c.from_residual-in_err-props-in-Node.ensures.1 in
    rw (r.1, r.2) (c.in_err-props-in-Node.ensures.told look trees top base d.0.shows.own path later shown le d.0.shows.is_draft d.0.files found.0)

pub returns-in_err-text-in-Node-clause-gets : goal.returns-in_err-text-in-Node-clause-gets
returns-in_err-text-in-Node-clause-gets g c = λ look trees top base tree marks knows shown le is_tree d.
    let txn = g.N.Own.txn c.args.own.now in
    let f = g.N.Own.folder c.args.own.now in
    let path = c.args.path.now in
    let id : IsRootId txn c.root_id-root.result = subst (λ (t : TxnName). IsRootId t c.root_id-root.result) c.name.ensures c.root_id-root.ensures in
    let found : IsFound look trees base d.0.shows.own path (Ok (founds.Node c.in-Node.child)) = subst (λ (x : Found). IsFound look trees base d.0.shows.own path (Ok x)) c.in-Node.is (walked look trees top base shown le txn f tree marks is_tree d path c.root_id-root.result (Ok c.in_ok-depth.field-0) id (λ nodes v draft here same dir. c.in_ok-depth.ensures.draft look trees top base nodes v knows shown le draft here same dir)) in
    let r = err_from_is_err_and c.from_residual-in_err-text-in-Node.result c.from_residual-in_err-text-in-Node.ensures.1 in
    rw (r.1, r.2) (c.in_err-text-in-Node.ensures.told look trees top base d.0.shows.own path shown le d.0.shows.is_draft found.0)

pub returns-in_ok-text-in-Node-clause-gets : goal.returns-in_ok-text-in-Node-clause-gets
returns-in_ok-text-in-Node-clause-gets g c = λ look trees top base tree marks knows shown le is_tree d.
    let txn = g.N.Own.txn c.args.own.now in
    let f = g.N.Own.folder c.args.own.now in
    let path = c.args.path.now in
    let id : IsRootId txn c.root_id-root.result = subst (λ (t : TxnName). IsRootId t c.root_id-root.result) c.name.ensures c.root_id-root.ensures in
    let found : IsFound look trees base d.0.shows.own path (Ok (founds.Node c.in-Node.child)) = subst (λ (x : Found). IsFound look trees base d.0.shows.own path (Ok x)) c.in-Node.is (walked look trees top base shown le txn f tree marks is_tree d path c.root_id-root.result (Ok c.in_ok-depth.field-0) id (λ nodes v draft here same dir. c.in_ok-depth.ensures.draft look trees top base nodes v knows shown le draft here same dir)) in
    let later : Knows (g.B.Book.told c.met.new.book).revs top look = λ n h. c.in_ok-depth.ensures.kept.revs n (look n) (knows n h) in
    seen look trees top base shown le txn f tree marks is_tree d path c.in-Node.child c.in_ok-props-in-Node.props c.in_ok-text-in-Node.text found (c.in_ok-props-in-Node.ensures.told look trees top base d.0.shows.own path later shown le d.0.shows.is_draft d.0.files found.0)

pub returns-in_ok-text-in-Node-clause-text : goal.returns-in_ok-text-in-Node-clause-text
returns-in_ok-text-in-Node-clause-text g c = λ look trees top base tree marks knows shown le is_tree d.
    let txn = g.N.Own.txn c.args.own.now in
    let f = g.N.Own.folder c.args.own.now in
    let path = c.args.path.now in
    let id : IsRootId txn c.root_id-root.result = subst (λ (t : TxnName). IsRootId t c.root_id-root.result) c.name.ensures c.root_id-root.ensures in
    let found : IsFound look trees base d.0.shows.own path (Ok (founds.Node c.in-Node.child)) = subst (λ (x : Found). IsFound look trees base d.0.shows.own path (Ok x)) c.in-Node.is (walked look trees top base shown le txn f tree marks is_tree d path c.root_id-root.result (Ok c.in_ok-depth.field-0) id (λ nodes v draft here same dir. c.in_ok-depth.ensures.draft look trees top base nodes v knows shown le draft here same dir)) in
    bare_text look f.proto (draft_tree trees d.0.shows.own (trees base) path) (tree path) c.in_ok-text-in-Node.text (sym (d.0.shows.each path)) (c.in_ok-text-in-Node.ensures.told look trees top base d.0.shows.own path shown le d.0.shows.is_draft found.0)

pub returns-in_err-props-in-Node-clause-kept : goal.returns-in_err-props-in-Node-clause-kept
returns-in_err-props-in-Node-clause-kept g c = keeps_trans _ _ _ c.in_ok-depth.ensures.kept c.in_err-props-in-Node.ensures.kept

pub returns-in_err-text-in-Node-clause-kept : goal.returns-in_err-text-in-Node-clause-kept
returns-in_err-text-in-Node-clause-kept g c = keeps_trans _ _ _ c.in_ok-depth.ensures.kept c.in_ok-props-in-Node.ensures.kept

pub returns-in_ok-text-in-Node-clause-kept : goal.returns-in_ok-text-in-Node-clause-kept
returns-in_ok-text-in-Node-clause-kept g c = keeps_trans _ _ _ c.in_ok-depth.ensures.kept c.in_ok-props-in-Node.ensures.kept
