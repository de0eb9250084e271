use Rattle.std.proofs.Common.{sym, inr, ◌∙◌}
use Rattle.fsfs_verify.proofs.SameLaw.{contents_true}
use Rattle.fsfs_verify.proofs.contents.keeps_text.Goals as goal

pub returns-in-Some : goal.returns-in-Some
returns-in-Some c = λ look precedes same.
    let u = c.in-Some.pred.now.node in
    let pred = rw c.in-Some.is at precedes in
    inr (u, pred.0, contents_true c.args.file.now.node.text u.text (sym c.same_contents.ensures ∙ same))
