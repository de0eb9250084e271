use Rattle.std.proofs.Common.{◌≡◌, sym, subst, ◌∙◌}
use Rattle.std.specs.Prelude.{Ok, Err}
use Rattle.std.proofs.lemmas.Result.{err_from_is_err_and}
use Rattle.fsfs_revision.specs.Told.{Knows}
use Rattle.fsfs_revision.proofs.Keeping.{keeps_trans}
use Rattle.fsfs_model.specs.Flat.Edits.{parent}
use Rattle.fsfs_draft.specs.Errors as errors
use Rattle.fsfs_txn.specs.declared.edits.above.Above.{Above}
use Rattle.fsfs_txn.specs.Seeing.{IsAbove}
use Rattle.fsfs_txn.specs.declared.edits.deleting.Deleted.{Deleted}
use Rattle.fsfs_txn.specs.Edits.Deleting.{IsDeleting}
use Rattle.fsfs_txn.proofs.Meeting.{stays_of, is_tree, gone, same_delete}
use Rattle.fsfs_base.proofs.ResultLemmas.{none_of}
use Rattle.fsfs_txn.proofs.edits.deleting.delete_named.Goals as goal

pub returns-in_err-depth-clause-deletes : goal.returns-in_err-depth-clause-deletes
returns-in_err-depth-clause-deletes g c = λ look trees top base tree marks knows shown revs le stands.
    let r = err_from_is_err_and c.from_residual.result c.from_residual.ensures.1 in
    let txn = g.N.Own.txn c.args.own.now in
    let f = g.N.Own.settled c.args.own.now in
    let path = c.args.path.now in
    let First = stands.shows.0.shows.own in
    let tree_is = is_tree look trees top base txn f tree marks revs stands in
    rw (r.1, r.2) (stays_of c.in_err-depth.field-0.0 (g.N.Own.settled c.look_above.new.own ≡ f) c.in_err-depth.ensures.settled (c.in_err-depth.ensures.sees look trees top base tree marks knows shown le tree_is stands.shows))

pub returns-in-NotFound-clause-deletes : goal.returns-in-NotFound-clause-deletes
returns-in-NotFound-clause-deletes g c = λ look trees top base tree marks knows shown revs le stands.
    let txn = g.N.Own.txn c.args.own.now in
    let f = g.N.Own.settled c.args.own.now in
    let path = c.args.path.now in
    let First = stands.shows.0.shows.own in
    let tree_is = is_tree look trees top base txn f tree marks revs stands in
    let seen = subst (λ (x : Above). IsAbove look trees base First tree path (Ok x)) c.in-NotFound.is (c.in_ok-depth.ensures.sees look trees top base tree marks knows shown le tree_is stands.shows) in
    (seen, c.in_ok-depth.ensures.settled)

pub returns-in-NotDir-clause-deletes : goal.returns-in-NotDir-clause-deletes
returns-in-NotDir-clause-deletes g c = λ look trees top base tree marks knows shown revs le stands.
    let txn = g.N.Own.txn c.args.own.now in
    let f = g.N.Own.settled c.args.own.now in
    let path = c.args.path.now in
    let First = stands.shows.0.shows.own in
    let tree_is = is_tree look trees top base txn f tree marks revs stands in
    let seen = subst (λ (x : Above). IsAbove look trees base First tree path (Ok x)) c.in-NotDir.is (c.in_ok-depth.ensures.sees look trees top base tree marks knows shown le tree_is stands.shows) in
    (seen, c.in_ok-depth.ensures.settled)

pub returns-then-taken-clause-deletes : goal.returns-then-taken-clause-deletes
returns-then-taken-clause-deletes g c = λ look trees top base tree marks knows shown revs le stands.
    let txn = g.N.Own.txn c.args.own.now in
    let f = g.N.Own.settled c.args.own.now in
    let path = c.args.path.now in
    let First = stands.shows.0.shows.own in
    let tree_is = is_tree look trees top base txn f tree marks revs stands in
    let seen = subst (λ (x : Above). IsAbove look trees base First tree path (Ok x)) c.in-Counted.is (c.in_ok-depth.ensures.sees look trees top base tree marks knows shown le tree_is stands.shows) in
    (seen.1 ∙ c.if-taken.true, seen.2, c.in_ok-depth.ensures.settled)

pub returns-in-Counted-clause-deletes : goal.returns-in-Counted-clause-deletes
returns-in-Counted-clause-deletes g c = λ look trees top base tree marks knows shown revs le stands.
    let txn = g.N.Own.txn c.args.own.now in
    let f = g.N.Own.settled c.args.own.now in
    let path = c.args.path.now in
    let First = stands.shows.0.shows.own in
    let tree_is = is_tree look trees top base txn f tree marks revs stands in
    let seen = subst (λ (x : Above). IsAbove look trees base First tree path (Ok x)) c.in-Counted.is (c.in_ok-depth.ensures.sees look trees top base tree marks knows shown le tree_is stands.shows) in
    ((seen.0, none_of (tree path) (seen.1 ∙ c.if-taken.false)), c.in_ok-depth.ensures.settled)

pub returns-in_err-gone-in-Dir-clause-deletes : goal.returns-in_err-gone-in-Dir-clause-deletes
returns-in_err-gone-in-Dir-clause-deletes g c = λ look trees top base tree marks knows shown revs le stands.
    let r = err_from_is_err_and c.from_residual-in_err-gone-in-Dir.result c.from_residual-in_err-gone-in-Dir.ensures.1 in
    let txn = g.N.Own.txn c.args.own.now in
    let f = g.N.Own.settled c.args.own.now in
    let path = c.args.path.now in
    let First = stands.shows.0.shows.own in
    let tree_is = is_tree look trees top base txn f tree marks revs stands in
    let seen = subst (λ (x : Above). IsAbove look trees base First tree path (Ok x)) c.in-Dir.is (c.in_ok-depth.ensures.sees look trees top base tree marks knows shown le tree_is stands.shows) in
    let later : Knows (g.B.Book.told c.look_above.new.book).revs top look = λ n h. c.in_ok-depth.ensures.kept.revs n (look n) (knows n h) in
    let meets = same_delete (g.B.Book.told c.look_above.new.book).revs (g.N.Own.txn c.look_above.new.own) txn (g.N.Own.settled c.look_above.new.own) f (g.N.Own.settled c.delete_at.new.own) c.in-Dir.parent (parent path) c.args.name.now (Err c.in_err-gone-in-Dir.field-0.0)
    c.in_ok-depth.ensures.name c.in_ok-depth.ensures.settled seen.0 c.in_err-gone-in-Dir.ensures.meets in
    rw (r.1, r.2) (meets look trees top base tree marks later shown le tree_is stands.shows)

pub returns-in_err-gone-in-Dir-clause-kept : goal.returns-in_err-gone-in-Dir-clause-kept
returns-in_err-gone-in-Dir-clause-kept g c = keeps_trans _ _ _ c.in_ok-depth.ensures.kept c.in_err-gone-in-Dir.ensures.kept

pub returns-clause-deletes : goal.returns-clause-deletes
returns-clause-deletes g c = λ look trees top base tree marks knows shown revs le stands.
    let txn = g.N.Own.txn c.args.own.now in
    let f = g.N.Own.settled c.args.own.now in
    let path = c.args.path.now in
    let First = stands.shows.0.shows.own in
    let tree_is = is_tree look trees top base txn f tree marks revs stands in
    let seen = subst (λ (x : Above). IsAbove look trees base First tree path (Ok x)) c.in-Dir.is (c.in_ok-depth.ensures.sees look trees top base tree marks knows shown le tree_is stands.shows) in
    let later : Knows (g.B.Book.told c.look_above.new.book).revs top look = λ n h. c.in_ok-depth.ensures.kept.revs n (look n) (knows n h) in
    let after = g.N.Own.settled c.delete_at.new.own in
    let meets = same_delete (g.B.Book.told c.look_above.new.book).revs (g.N.Own.txn c.look_above.new.own) txn (g.N.Own.settled c.look_above.new.own) f after c.in-Dir.parent (parent path) c.args.name.now (Ok c.in_ok-gone-in-Dir.gone)
    c.in_ok-depth.ensures.name c.in_ok-depth.ensures.settled seen.0 c.in_ok-gone-in-Dir.ensures.meets in
    subst (λ (o : Deleted). IsDeleting errors.IfStays look trees top base txn First tree marks path f after (Ok o)) (sym c.from_gone.ensures)
    (gone look trees top base txn f tree marks revs stands path c.args.name.now c.requires.last after seen.3 c.in_ok-gone-in-Dir.gone (meets look trees top base tree marks later shown le tree_is stands.shows))

pub returns-clause-kept : goal.returns-clause-kept
returns-clause-kept g c = keeps_trans _ _ _ c.in_ok-depth.ensures.kept c.in_ok-gone-in-Dir.ensures.kept
