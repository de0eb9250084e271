use Rattle.std.proofs.Common.{◌≡◌, ℕ, true, false, sym, ap, subst, ◌∙◌}
use Rattle.std.specs.Prelude.{Option, ◌≢◌}
use Rattle.std.proofs.lemmas.Result.{err_from_is_err_and}
use Rattle.fsfs_noderev.specs.declared.rep.Contents.{Contents}
use Rattle.fsfs_revision.specs.Told.{Knows}
use Rattle.fsfs_verify.specs.Same.{same_contents}
use Rattle.fsfs_verify.proofs.SameLaw.{contents_true, contents_self}
use Rattle.fsfs_verify.proofs.NodeLemmas.{props_kept, props_lost, props_wrong}
use Rattle.fsfs_verify.proofs.contents.check_props.Goals as goal

pub returns-then-same_contents-clause-told : goal.returns-then-same_contents-clause-told
returns-then-same_contents-clause-told g c = λ look knows own precedes.
    let u = c.in-Some.pred.now.node in
    let pred = rw c.in-Some.is at precedes in
    props_kept look c.args.node.now.node u pred.0 (contents_true c.args.node.now.node.props u.props (sym c.same_contents.ensures ∙ c.if-same_contents.true))

pub returns-then-are_older-clause-told : goal.returns-then-are_older-clause-told
returns-then-are_older-clause-told g c = λ look knows own precedes.
    let v = c.args.node.now.node in
    let u = c.in-Some.pred.now.node in
    let pred = rw c.in-Some.is at precedes in
    let other : v.props ≢ u.props = λ same. (
    let yes = subst (λ (p : Option Contents). same_contents v.props p ≡ true) same (contents_self v.props) in
    let e : true ≡ false = sym yes ∙ sym c.same_contents.ensures ∙ c.if-same_contents.false in cc) in
    let older = rw (sym own) at (c.are_older.ensures.yes c.if-are_older.true) in
    rw c.breaks_rule.ensures (props_lost look v u pred.0 older other)

pub returns-in_err-_read-clause-told : goal.returns-in_err-_read-clause-told
returns-in_err-_read-clause-told g c = λ look knows own precedes.
    let p = err_from_is_err_and c.from_residual.result c.from_residual.ensures.1 in
    let known = subst (λ (r : ℕ). Knows (g.B.Book.told c.args.book.now).revs r look) (sym own) knows in
    rw (p.1, p.2) (props_wrong look c.args.node.now.node c.in_err-_read.field-0.0 (c.in_err-_read.ensures.told look known))
