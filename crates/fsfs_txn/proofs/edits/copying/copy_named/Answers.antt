use Rattle.std.proofs.Common.{◌≡◌, sym, subst, ◌∙◌}
use Rattle.std.specs.Prelude.{Ok}
use Rattle.std.proofs.lemmas.Result.{err_from_is_err_and}
use Rattle.fsfs_revision.specs.Told.{Knows}
use Rattle.fsfs_revision.proofs.Keeping.{keeps_trans}
use Rattle.fsfs_draft.specs.Errors as errors
use Rattle.fsfs_txn.specs.declared.edits.above.Above.{Above}
use Rattle.fsfs_txn.specs.Seeing.{IsAbove}
use Rattle.fsfs_txn.specs.declared.edits.copying.Copied.{Copied}
use Rattle.fsfs_txn.specs.Edits.Copying.{IsCopying}
use Rattle.fsfs_txn.proofs.Meeting.{stays_of, is_tree, barred_counted, same_copies}
use Rattle.fsfs_base.proofs.ResultLemmas.{none_of}
use Rattle.fsfs_txn.proofs.edits.copying.copy_named.Goals as goal

pub returns-in_err-depth-clause-copies : goal.returns-in_err-depth-clause-copies
returns-in_err-depth-clause-copies g c = λ look trees top base tree marks knows shown revs le young stands.
    let r = err_from_is_err_and c.from_residual.result c.from_residual.ensures.1 in
    let txn = g.N.Own.txn c.args.own.now in
    let f = g.N.Own.settled c.args.own.now in
    let path = c.args.path.now in
    let First = stands.shows.0.shows.own in
    let tree_is = is_tree look trees top base txn f tree marks revs stands in
    rw (r.1, r.2) (stays_of c.in_err-depth.field-0.0 (g.N.Own.settled c.look_above.new.own ≡ f) c.in_err-depth.ensures.settled (c.in_err-depth.ensures.sees look trees top base tree marks knows shown le tree_is stands.shows))

pub returns-in-NotFound-clause-copies : goal.returns-in-NotFound-clause-copies
returns-in-NotFound-clause-copies g c = λ look trees top base tree marks knows shown revs le young stands.
    let txn = g.N.Own.txn c.args.own.now in
    let f = g.N.Own.settled c.args.own.now in
    let path = c.args.path.now in
    let First = stands.shows.0.shows.own in
    let tree_is = is_tree look trees top base txn f tree marks revs stands in
    let seen = subst (λ (x : Above). IsAbove look trees base First tree path (Ok x)) c.in-NotFound.is (c.in_ok-depth.ensures.sees look trees top base tree marks knows shown le tree_is stands.shows) in
    (seen, c.in_ok-depth.ensures.settled)

pub returns-in-NotDir-clause-copies : goal.returns-in-NotDir-clause-copies
returns-in-NotDir-clause-copies g c = λ look trees top base tree marks knows shown revs le young stands.
    let txn = g.N.Own.txn c.args.own.now in
    let f = g.N.Own.settled c.args.own.now in
    let path = c.args.path.now in
    let First = stands.shows.0.shows.own in
    let tree_is = is_tree look trees top base txn f tree marks revs stands in
    let seen = subst (λ (x : Above). IsAbove look trees base First tree path (Ok x)) c.in-NotDir.is (c.in_ok-depth.ensures.sees look trees top base tree marks knows shown le tree_is stands.shows) in
    (seen, c.in_ok-depth.ensures.settled)

pub returns-then-taken-clause-copies : goal.returns-then-taken-clause-copies
returns-then-taken-clause-copies g c = λ look trees top base tree marks knows shown revs le young stands.
    let txn = g.N.Own.txn c.args.own.now in
    let f = g.N.Own.settled c.args.own.now in
    let path = c.args.path.now in
    let First = stands.shows.0.shows.own in
    let tree_is = is_tree look trees top base txn f tree marks revs stands in
    let seen = subst (λ (x : Above). IsAbove look trees base First tree path (Ok x)) c.in-Counted.is (c.in_ok-depth.ensures.sees look trees top base tree marks knows shown le tree_is stands.shows) in
    (seen.1 ∙ c.if-taken.true, c.in_ok-depth.ensures.settled)

pub returns-in_err-source-in-Counted-clause-copies : goal.returns-in_err-source-in-Counted-clause-copies
returns-in_err-source-in-Counted-clause-copies g c = λ look trees top base tree marks knows shown revs le young stands.
    let r = err_from_is_err_and c.from_residual-in_err-source-in-Counted.result c.from_residual-in_err-source-in-Counted.ensures.1 in
    let f = g.N.Own.settled c.args.own.now in
    let later : Knows (g.B.Book.told c.look_above.new.book).revs top look = λ n h. c.in_ok-depth.ensures.kept.revs n (look n) (knows n h) in
    rw (r.1, r.2) (stays_of c.in_err-source-in-Counted.field-0.0 (g.N.Own.settled c.look_above.new.own ≡ f) c.in_ok-depth.ensures.settled (c.in_err-source-in-Counted.ensures.finds look trees top later shown (c.in_ok-depth.ensures.kept.youngest top young)))

pub returns-in_ok-source-in-Counted-clause-copies : goal.returns-in_ok-source-in-Counted-clause-copies
returns-in_ok-source-in-Counted-clause-copies g c = λ look trees top base tree marks knows shown revs le young stands.
    let txn = g.N.Own.txn c.args.own.now in
    let f = g.N.Own.settled c.args.own.now in
    let path = c.args.path.now in
    let First = stands.shows.0.shows.own in
    let tree_is = is_tree look trees top base txn f tree marks revs stands in
    let seen = subst (λ (x : Above). IsAbove look trees base First tree path (Ok x)) c.in-Counted.is (c.in_ok-depth.ensures.sees look trees top base tree marks knows shown le tree_is stands.shows) in
    let later : Knows (g.B.Book.told c.look_above.new.book).revs top look = λ n h. c.in_ok-depth.ensures.kept.revs n (look n) (knows n h) in
    let source = c.in_ok-source-in-Counted.source in
    let is = c.in_ok-source-in-Counted.ensures.finds look trees top later shown (c.in_ok-depth.ensures.kept.youngest top young) in
    let after = g.N.Own.settled c.look_above.new.own in
    subst (λ (o : Copied). IsCopying errors.IfStays look trees top base txn First tree marks path c.args.from.now f after (Ok o)) (sym c.barred_by.ensures)
    (barred_counted look trees top base txn f tree marks revs stands path c.args.from.now after c.in_ok-depth.ensures.settled (seen.0, none_of (tree path) (seen.1 ∙ c.if-taken.false)) source seen.2 is)

pub returns-in-Dir-clause-copies : goal.returns-in-Dir-clause-copies
returns-in-Dir-clause-copies g c = λ look trees top base tree marks knows shown revs le young stands.
    let txn = g.N.Own.txn c.args.own.now in
    let f = g.N.Own.settled c.args.own.now in
    let path = c.args.path.now in
    let First = stands.shows.0.shows.own in
    let tree_is = is_tree look trees top base txn f tree marks revs stands in
    let seen = subst (λ (x : Above). IsAbove look trees base First tree path (Ok x)) c.in-Dir.is (c.in_ok-depth.ensures.sees look trees top base tree marks knows shown le tree_is stands.shows) in
    let later : Knows (g.B.Book.told c.look_above.new.book).revs top look = λ n h. c.in_ok-depth.ensures.kept.revs n (look n) (knows n h) in
    let copies = same_copies (g.B.Book.told c.look_above.new.book).revs (g.B.Book.told c.look_above.new.book).youngest (g.N.Own.txn c.look_above.new.own) txn (g.N.Own.settled c.look_above.new.own) f (g.N.Own.settled c.copy_in.new.own) c.in-Dir.parent c.args.name.now c.in-Dir.step c.args.from.now c.copy_in.result
    c.in_ok-depth.ensures.name c.in_ok-depth.ensures.settled c.copy_in.ensures.copies in
    copies look trees top base tree marks path later shown revs le (c.in_ok-depth.ensures.kept.youngest top young) stands seen.0 c.requires.last seen.1 seen.2 seen.3

pub returns-in-Dir-clause-kept : goal.returns-in-Dir-clause-kept
returns-in-Dir-clause-kept g c = keeps_trans _ _ _ c.in_ok-depth.ensures.kept c.copy_in.ensures.kept
