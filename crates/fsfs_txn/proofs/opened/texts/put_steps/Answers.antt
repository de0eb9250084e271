use Rattle.std.proofs.Common.{◌≡◌, true, Some, Ok, Err, sym, ap, subst, ◌∙◌}
use Rattle.std.proofs.lemmas.Result.{err_from_is_err_and}
use Rattle.std.proofs.lemmas.Option.{same_Some}
use Rattle.fsfs_base.specs.declared.kind.Kind.{Kind}
use Rattle.fsfs_base.specs.declared.kind.Kind.TheVariants.{File, Dir}
use Rattle.fsfs_base.specs.declared.fields.txn_name.TxnName.{TxnName}
use Rattle.fsfs_draft.specs.Drafts.{Folder}
use Rattle.fsfs_draft.specs.Walks.{HasKind}
use Rattle.fsfs_edit.specs.Ways.{IsOpenedAt}
use Rattle.fsfs_txn.specs.Opened.Reached.{ReachesTo}
use Rattle.fsfs_txn.specs.Opened.Texts.{PutsText}
use Rattle.fsfs_txn.proofs.Growing.{not_longer}
use Rattle.fsfs_txn.proofs.ReachedLemmas.{kind_there}
use Rattle.fsfs_txn.proofs.TextLemmas.{left_want}
use Rattle.fsfs_noderev.specs.declared.node_id.NodeId.{NodeId}
use Rattle.fsfs_txn.specs.Opened.Leading.{LeadsDown}
use Rattle.fsfs_txn.specs.Opened.Reached.{ReachesKnown, ReachesStill}
use Rattle.fsfs_txn.specs.Opened.Texts.{PutsAll, PutsStill}
use Rattle.fsfs_txn.proofs.Staying.{want_all, same_leads, text_leads, put_each}
use Rattle.fsfs_txn.proofs.opened.texts.put_steps.Goals as goal

pub returns-in_err-id-clause-meets : goal.returns-in_err-id-clause-meets
returns-in_err-id-clause-meets g c = λ look trees top base tree marks known shown le is_tree d.
    let mid = g.N.Own.folder c.reached.new.own in
    let opens : ReachesTo (g.N.Own.txn c.args.own.now) (g.N.Own.settled c.args.own.now) mid c.args.way.now.known.items c.args.way.now.path (Err c.in_err-id.field-0.0) =
    subst (λ (h : Folder). ReachesTo (g.N.Own.txn c.args.own.now) h mid c.args.way.now.known.items c.args.way.now.path (Err c.in_err-id.field-0.0)) c.requires.whole c.in_err-id.ensures.opens in
    let r = err_from_is_err_and c.from_residual.result c.from_residual.ensures.1 in
    rw (r.1, r.2) (left_want c.in_err-id.field-0.0 _ _ (opens look trees top base tree marks known shown le is_tree d) (not_longer _ _ c.in_err-id.ensures.settled))

pub returns-in-None-clause-meets : goal.returns-in-None-clause-meets
returns-in-None-clause-meets g c = λ look trees top base tree marks known shown le is_tree d. not_longer _ _ c.in_ok-id.ensures.settled

pub returns-in-Dir-clause-meets : goal.returns-in-Dir-clause-meets
returns-in-Dir-clause-meets g c = λ look trees top base tree marks known shown le is_tree d.
    let txn = g.N.Own.txn c.args.own.now in
    let first = g.N.Own.settled c.args.own.now in
    let mid = g.N.Own.folder c.reached.new.own in
    let way = c.args.way.now in
    let opens : ReachesTo txn first mid way.known.items way.path (Ok c.in_ok-id.id) = subst (λ (h : Folder). ReachesTo txn h mid way.known.items way.path (Ok c.in_ok-id.id)) c.requires.whole c.in_ok-id.ensures.opens in
    let o = opens look trees top base tree marks known shown le is_tree d in
    let there = kind_there look trees top base shown le txn first tree marks d way.path o.0 mid c.in_ok-id.id o.2 in
    let same : o.0 ≡ Dir = same_Some o.0 Dir (sym there ∙ sym c.in-Some.ensures ∙ ap (λ (k : Kind). Some k) c.in-Dir.is) in
    (subst (λ (k : Kind). HasKind (tree way.path) k) same o.1, c.in_ok-id.ensures.settled)

pub returns-in-File-clause-meets : goal.returns-in-File-clause-meets
returns-in-File-clause-meets g c = λ look trees top base tree marks known shown le is_tree d.
    let txn = g.N.Own.txn c.args.own.now in
    let first = g.N.Own.settled c.args.own.now in
    let mid = g.N.Own.folder c.reached.new.own in
    let way = c.args.way.now in
    let opens : ReachesTo txn first mid way.known.items way.path (Ok c.in_ok-id.id) = subst (λ (h : Folder). ReachesTo txn h mid way.known.items way.path (Ok c.in_ok-id.id)) c.requires.whole c.in_ok-id.ensures.opens in
    let o = opens look trees top base tree marks known shown le is_tree d in
    let there = kind_there look trees top base shown le txn first tree marks d way.path o.0 mid c.in_ok-id.id o.2 in
    let same : o.0 ≡ File = same_Some o.0 File (sym there ∙ sym c.in-Some.ensures ∙ ap (λ (k : Kind). Some k) c.in-File.is) in
    let puts : PutsText ((x : g.row.N.Denot) → g.N.OwnTexts.tells x ≡ true) txn first mid (g.N.Own.settled c.text_in.new.own) way.path c.in_ok-id.id (g.I.Source.remaining c.args.source.now) (g.I.Source.remaining c.text_in.new.source) c.args.expect c.text_in.result =
    subst (λ (t : TxnName). PutsText ((x : g.row.N.Denot) → g.N.OwnTexts.tells x ≡ true) t first mid (g.N.Own.settled c.text_in.new.own) way.path c.in_ok-id.id (g.I.Source.remaining c.args.source.now) (g.I.Source.remaining c.text_in.new.source) c.args.expect c.text_in.result) c.in_ok-id.ensures.name
    (subst (λ (h : Folder). PutsText ((x : g.row.N.Denot) → g.N.OwnTexts.tells x ≡ true) (g.N.Own.txn c.reached.new.own) h mid (g.N.Own.settled c.text_in.new.own) way.path c.in_ok-id.id (g.I.Source.remaining c.args.source.now) (g.I.Source.remaining c.text_in.new.source) c.args.expect c.text_in.result) c.in_ok-id.ensures.settled c.text_in.ensures.puts) in
    puts look trees top base tree marks shown le d
    (subst (λ (k : Kind). IsOpenedAt look trees top base txn marks tree d.0.shows.own way.path k mid c.in_ok-id.id) same o.2)
    (subst (λ (k : Kind). HasKind (tree way.path) k) same o.1)

-- ---- nothing is lacking, and what leads somewhere leads there still

pub returns-in_err-id-clause-all : goal.returns-in_err-id-clause-all
returns-in_err-id-clause-all g c = λ look trees top base tree marks known shown le is_tree d leads.
    let knows : ReachesKnown (g.N.Own.txn c.args.own.now) (g.N.Own.settled c.args.own.now) (g.N.Own.folder c.reached.new.own) c.args.way.now (Err c.in_err-id.field-0.0) =
    subst (λ (h : Folder). ReachesKnown (g.N.Own.txn c.args.own.now) h (g.N.Own.folder c.reached.new.own) c.args.way.now (Err c.in_err-id.field-0.0)) c.requires.whole c.in_err-id.ensures.leads in
    let r = err_from_is_err_and c.from_residual.result c.from_residual.ensures.1 in
    rw (r.1, r.2) (want_all c.in_err-id.field-0.0 ⊥ (knows look trees top base tree marks known shown le is_tree d leads) (λ x. x))

pub returns-in-None-clause-all : goal.returns-in-None-clause-all
returns-in-None-clause-all g c = λ look trees top base tree marks known shown le is_tree d leads.
    let txn = g.N.Own.txn c.args.own.now in
    let first = g.N.Own.settled c.args.own.now in
    let mid = g.N.Own.folder c.reached.new.own in
    let way = c.args.way.now in
    let opens : ReachesTo txn first mid way.known.items way.path (Ok c.in_ok-id.id) = subst (λ (h : Folder). ReachesTo txn h mid way.known.items way.path (Ok c.in_ok-id.id)) c.requires.whole c.in_ok-id.ensures.opens in
    let o = opens look trees top base tree marks known shown le is_tree d in
    let e = c.in-None.ensures ∙ kind_there look trees top base shown le txn first tree marks d way.path o.0 mid c.in_ok-id.id o.2 in
    absurd cc

pub returns-in-File-clause-all : goal.returns-in-File-clause-all
returns-in-File-clause-all g c = λ look trees top base tree marks known shown le is_tree d leads.
    let txn = g.N.Own.txn c.args.own.now in
    let first = g.N.Own.settled c.args.own.now in
    let mid = g.N.Own.folder c.reached.new.own in
    let way = c.args.way.now in
    let opens : ReachesTo txn first mid way.known.items way.path (Ok c.in_ok-id.id) = subst (λ (h : Folder). ReachesTo txn h mid way.known.items way.path (Ok c.in_ok-id.id)) c.requires.whole c.in_ok-id.ensures.opens in
    let o = opens look trees top base tree marks known shown le is_tree d in
    let there = kind_there look trees top base shown le txn first tree marks d way.path o.0 mid c.in_ok-id.id o.2 in
    let same : o.0 ≡ File = same_Some o.0 File (sym there ∙ sym c.in-Some.ensures ∙ ap (λ (k : Kind). Some k) c.in-File.is) in
    let all : PutsAll txn first mid way.path c.in_ok-id.id c.text_in.result =
    subst (λ (t : TxnName). PutsAll t first mid way.path c.in_ok-id.id c.text_in.result) c.in_ok-id.ensures.name
    (subst (λ (h : Folder). PutsAll (g.N.Own.txn c.reached.new.own) h mid way.path c.in_ok-id.id c.text_in.result) c.in_ok-id.ensures.settled c.text_in.ensures.all) in
    all look trees top base tree marks shown le d
    (subst (λ (k : Kind). IsOpenedAt look trees top base txn marks tree d.0.shows.own way.path k mid c.in_ok-id.id) same o.2)
    (subst (λ (k : Kind). HasKind (tree way.path) k) same o.1)

pub returns-in_err-id-clause-still : goal.returns-in_err-id-clause-still
returns-in_err-id-clause-still g c = λ look trees top base tree marks known shown le is_tree d other leads.
    let mid = g.N.Own.folder c.reached.new.own in
    let opens : ReachesTo (g.N.Own.txn c.args.own.now) (g.N.Own.settled c.args.own.now) mid c.args.way.now.known.items c.args.way.now.path (Err c.in_err-id.field-0.0) =
    subst (λ (h : Folder). ReachesTo (g.N.Own.txn c.args.own.now) h mid c.args.way.now.known.items c.args.way.now.path (Err c.in_err-id.field-0.0)) c.requires.whole c.in_err-id.ensures.opens in
    let r = err_from_is_err_and c.from_residual.result c.from_residual.ensures.1 in
    rw (r.1, r.2) (left_want c.in_err-id.field-0.0 _ _ (opens look trees top base tree marks known shown le is_tree d) (same_leads look _ _ _ other c.in_err-id.ensures.settled leads))

pub returns-in-None-clause-still : goal.returns-in-None-clause-still
returns-in-None-clause-still g c = λ look trees top base tree marks known shown le is_tree d other leads. same_leads look _ _ _ other c.in_ok-id.ensures.settled leads

pub returns-in-Dir-clause-still : goal.returns-in-Dir-clause-still
returns-in-Dir-clause-still g c = λ look trees top base tree marks known shown le is_tree d other leads. same_leads look _ _ _ other c.in_ok-id.ensures.settled leads

pub returns-in-File-clause-still : goal.returns-in-File-clause-still
returns-in-File-clause-still g c = λ look trees top base tree marks known shown le is_tree d other leads.
    let txn = g.N.Own.txn c.args.own.now in
    let first = g.N.Own.settled c.args.own.now in
    let mid = g.N.Own.folder c.reached.new.own in
    let last = g.N.Own.settled c.text_in.new.own in
    let way = c.args.way.now in
    let from = g.I.Source.remaining c.args.source.now in
    let to = g.I.Source.remaining c.text_in.new.source in
    let opens : ReachesTo txn first mid way.known.items way.path (Ok c.in_ok-id.id) = subst (λ (h : Folder). ReachesTo txn h mid way.known.items way.path (Ok c.in_ok-id.id)) c.requires.whole c.in_ok-id.ensures.opens in
    let o = opens look trees top base tree marks known shown le is_tree d in
    let there = kind_there look trees top base shown le txn first tree marks d way.path o.0 mid c.in_ok-id.id o.2 in
    let same : o.0 ≡ File = same_Some o.0 File (sym there ∙ sym c.in-Some.ensures ∙ ap (λ (k : Kind). Some k) c.in-File.is) in
    let at = subst (λ (k : Kind). IsOpenedAt look trees top base txn marks tree d.0.shows.own way.path k mid c.in_ok-id.id) same o.2 in
    let has = subst (λ (k : Kind). HasKind (tree way.path) k) same o.1 in
    let puts : PutsText ((x : g.row.N.Denot) → g.N.OwnTexts.tells x ≡ true) txn first mid last way.path c.in_ok-id.id from to c.args.expect c.text_in.result =
    subst (λ (t : TxnName). PutsText ((x : g.row.N.Denot) → g.N.OwnTexts.tells x ≡ true) t first mid last way.path c.in_ok-id.id from to c.args.expect c.text_in.result) c.in_ok-id.ensures.name
    (subst (λ (h : Folder). PutsText ((x : g.row.N.Denot) → g.N.OwnTexts.tells x ≡ true) (g.N.Own.txn c.reached.new.own) h mid last way.path c.in_ok-id.id from to c.args.expect c.text_in.result) c.in_ok-id.ensures.settled c.text_in.ensures.puts) in
    let stays : PutsStill txn first mid last way.path c.in_ok-id.id c.text_in.result =
    subst (λ (t : TxnName). PutsStill t first mid last way.path c.in_ok-id.id c.text_in.result) c.in_ok-id.ensures.name
    (subst (λ (h : Folder). PutsStill (g.N.Own.txn c.reached.new.own) h mid last way.path c.in_ok-id.id c.text_in.result) c.in_ok-id.ensures.settled c.text_in.ensures.still) in
    let reached : ReachesStill txn first mid way (Ok c.in_ok-id.id) = subst (λ (h : Folder). ReachesStill txn h mid way (Ok c.in_ok-id.id)) c.requires.whole c.in_ok-id.ensures.still in
    text_leads ((x : g.row.N.Denot) → g.N.OwnTexts.tells x ≡ true) look trees top base txn tree marks way.path from to c.args.expect first last other leads c.text_in.result
    (puts look trees top base tree marks shown le d at has)
    (put_each txn (λ (root : NodeId). LeadsDown look last.nodes other.known.items other.path root) c.text_in.result
    (λ root is. stays look trees top base tree marks shown le d at has other.known.items other.path root (reached look trees top base tree marks known shown le is_tree d other.known.items other.path root (leads root is))))
