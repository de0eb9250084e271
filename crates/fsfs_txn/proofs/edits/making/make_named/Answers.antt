use Rattle.std.proofs.Common.{◌≡◌, sym, subst, ◌∙◌}
use Rattle.std.specs.Prelude.{Ok, Err}
use Rattle.std.proofs.lemmas.Result.{err_from_is_err_and}
use Rattle.fsfs_revision.specs.Told.{Knows}
use Rattle.fsfs_revision.proofs.Keeping.{keeps_trans}
use Rattle.fsfs_model.specs.Flat.Edits.{parent}
use Rattle.fsfs_draft.specs.Errors as errors
use Rattle.fsfs_txn.specs.declared.edits.above.Above.{Above}
use Rattle.fsfs_txn.specs.Seeing.{IsAbove}
use Rattle.fsfs_txn.specs.declared.edits.making.Made.{Made}
use Rattle.fsfs_txn.specs.Edits.Making.{IsMaking}
use Rattle.fsfs_txn.proofs.Meeting.{stays_of, is_tree, made, same_make}
use Rattle.fsfs_base.proofs.ResultLemmas.{none_of}
use Rattle.fsfs_txn.proofs.edits.making.make_named.Goals as goal

pub returns-in_err-depth-clause-makes : goal.returns-in_err-depth-clause-makes
returns-in_err-depth-clause-makes g c = λ look trees top base tree marks knows shown revs le stands.
    let r = err_from_is_err_and c.from_residual.result c.from_residual.ensures.1 in
    let txn = g.N.Own.txn c.args.own.now in
    let f = g.N.Own.settled c.args.own.now in
    let path = c.args.path.now in
    let First = stands.shows.0.shows.own in
    let tree_is = is_tree look trees top base txn f tree marks revs stands in
    rw (r.1, r.2) (stays_of c.in_err-depth.field-0.0 (g.N.Own.settled c.look_above.new.own ≡ f) c.in_err-depth.ensures.settled (c.in_err-depth.ensures.sees look trees top base tree marks knows shown le tree_is stands.shows))

pub returns-in-NotFound-clause-makes : goal.returns-in-NotFound-clause-makes
returns-in-NotFound-clause-makes g c = λ look trees top base tree marks knows shown revs le stands.
    let txn = g.N.Own.txn c.args.own.now in
    let f = g.N.Own.settled c.args.own.now in
    let path = c.args.path.now in
    let First = stands.shows.0.shows.own in
    let tree_is = is_tree look trees top base txn f tree marks revs stands in
    let seen = subst (λ (x : Above). IsAbove look trees base First tree path (Ok x)) c.in-NotFound.is (c.in_ok-depth.ensures.sees look trees top base tree marks knows shown le tree_is stands.shows) in
    (seen, c.in_ok-depth.ensures.settled)

pub returns-in-NotDir-clause-makes : goal.returns-in-NotDir-clause-makes
returns-in-NotDir-clause-makes g c = λ look trees top base tree marks knows shown revs le stands.
    let txn = g.N.Own.txn c.args.own.now in
    let f = g.N.Own.settled c.args.own.now in
    let path = c.args.path.now in
    let First = stands.shows.0.shows.own in
    let tree_is = is_tree look trees top base txn f tree marks revs stands in
    let seen = subst (λ (x : Above). IsAbove look trees base First tree path (Ok x)) c.in-NotDir.is (c.in_ok-depth.ensures.sees look trees top base tree marks knows shown le tree_is stands.shows) in
    (seen, c.in_ok-depth.ensures.settled)

pub returns-then-taken-clause-makes : goal.returns-then-taken-clause-makes
returns-then-taken-clause-makes g c = λ look trees top base tree marks knows shown revs le stands.
    let txn = g.N.Own.txn c.args.own.now in
    let f = g.N.Own.settled c.args.own.now in
    let path = c.args.path.now in
    let First = stands.shows.0.shows.own in
    let tree_is = is_tree look trees top base txn f tree marks revs stands in
    let seen = subst (λ (x : Above). IsAbove look trees base First tree path (Ok x)) c.in-Counted.is (c.in_ok-depth.ensures.sees look trees top base tree marks knows shown le tree_is stands.shows) in
    (seen.1 ∙ c.if-taken.true, c.in_ok-depth.ensures.settled)

pub returns-in-Counted-clause-makes : goal.returns-in-Counted-clause-makes
returns-in-Counted-clause-makes g c = λ look trees top base tree marks knows shown revs le stands.
    let txn = g.N.Own.txn c.args.own.now in
    let f = g.N.Own.settled c.args.own.now in
    let path = c.args.path.now in
    let First = stands.shows.0.shows.own in
    let tree_is = is_tree look trees top base txn f tree marks revs stands in
    let seen = subst (λ (x : Above). IsAbove look trees base First tree path (Ok x)) c.in-Counted.is (c.in_ok-depth.ensures.sees look trees top base tree marks knows shown le tree_is stands.shows) in
    ((seen.0, none_of (tree path) (seen.1 ∙ c.if-taken.false)), seen.2, c.in_ok-depth.ensures.settled)

pub returns-in_err-made-in-Dir-clause-makes : goal.returns-in_err-made-in-Dir-clause-makes
returns-in_err-made-in-Dir-clause-makes g c = λ look trees top base tree marks knows shown revs le stands.
    let r = err_from_is_err_and c.from_residual-in_err-made-in-Dir.result c.from_residual-in_err-made-in-Dir.ensures.1 in
    let txn = g.N.Own.txn c.args.own.now in
    let f = g.N.Own.settled c.args.own.now in
    let path = c.args.path.now in
    let First = stands.shows.0.shows.own in
    let tree_is = is_tree look trees top base txn f tree marks revs stands in
    let seen = subst (λ (x : Above). IsAbove look trees base First tree path (Ok x)) c.in-Dir.is (c.in_ok-depth.ensures.sees look trees top base tree marks knows shown le tree_is stands.shows) in
    let later : Knows (g.B.Book.told c.look_above.new.book).revs top look = λ n h. c.in_ok-depth.ensures.kept.revs n (look n) (knows n h) in
    let meets = same_make (g.B.Book.told c.look_above.new.book).revs (g.N.Own.txn c.look_above.new.own) txn (g.N.Own.settled c.look_above.new.own) f (g.N.Own.settled c.make_at.new.own) c.in-Dir.parent (parent path) c.args.name.now c.args.kind (Err c.in_err-made-in-Dir.field-0.0)
    c.in_ok-depth.ensures.name c.in_ok-depth.ensures.settled seen.0 c.in_err-made-in-Dir.ensures.meets in
    rw (r.1, r.2) (meets look trees top base tree marks later shown le tree_is stands.shows)

pub returns-in_err-made-in-Dir-clause-kept : goal.returns-in_err-made-in-Dir-clause-kept
returns-in_err-made-in-Dir-clause-kept g c = keeps_trans _ _ _ c.in_ok-depth.ensures.kept c.in_err-made-in-Dir.ensures.kept

pub returns-clause-makes : goal.returns-clause-makes
returns-clause-makes g c = λ look trees top base tree marks knows shown revs le stands.
    let txn = g.N.Own.txn c.args.own.now in
    let f = g.N.Own.settled c.args.own.now in
    let path = c.args.path.now in
    let First = stands.shows.0.shows.own in
    let tree_is = is_tree look trees top base txn f tree marks revs stands in
    let seen = subst (λ (x : Above). IsAbove look trees base First tree path (Ok x)) c.in-Dir.is (c.in_ok-depth.ensures.sees look trees top base tree marks knows shown le tree_is stands.shows) in
    let later : Knows (g.B.Book.told c.look_above.new.book).revs top look = λ n h. c.in_ok-depth.ensures.kept.revs n (look n) (knows n h) in
    let after = g.N.Own.settled c.make_at.new.own in
    let meets = same_make (g.B.Book.told c.look_above.new.book).revs (g.N.Own.txn c.look_above.new.own) txn (g.N.Own.settled c.look_above.new.own) f after c.in-Dir.parent (parent path) c.args.name.now c.args.kind (Ok c.in_ok-made-in-Dir.made)
    c.in_ok-depth.ensures.name c.in_ok-depth.ensures.settled seen.0 c.in_ok-made-in-Dir.ensures.meets in
    subst (λ (o : Made). IsMaking errors.IfStays look trees top base txn First tree marks path c.args.kind f after (Ok o)) (sym c.from_made.ensures)
    (made look trees top base txn f tree marks revs stands path c.args.name.now c.requires.last after c.args.kind seen.3 c.in_ok-made-in-Dir.made (meets look trees top base tree marks later shown le tree_is stands.shows))

pub returns-clause-kept : goal.returns-clause-kept
returns-clause-kept g c = keeps_trans _ _ _ c.in_ok-depth.ensures.kept c.in_ok-made-in-Dir.ensures.kept
