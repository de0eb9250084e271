use Rattle.std.proofs.Common.{◌≤◌, ℕ, sym, subst, refl}
use Rattle.fsfs_script.specs.declared.job_lines.edit.Edit.TheVariants.{Put}
use Rattle.fsfs_jobs.specs.JobEdits.Editing.{IsTextOn}
use Rattle.fsfs_jobs.proofs.StepLemmas.{moved}
use Rattle.std.proofs.lemmas.Result.{err_from_is_err_and}
use Rattle.fsfs_jobs.specs.JobEdits.Editing.{Bars}
use Rattle.fsfs_script.specs.declared.job_lines.edit.Edit.TheVariants.{MakeFile}
use Rattle.fsfs_jobs.proofs.SetLemmas.{refused_more}
use Rattle.fsfs_jobs.proofs.TextLemmas.{not_made, put_made, made_there, made_tree, made_marks}
use Rattle.fsfs_jobs.proofs.job_edits.texts.put_new.Goals as goal

pub returns-in_err-make_file-clause-edits : goal.returns-in_err-make_file-clause-edits
returns-in_err-make_file-clause-edits g c = λ told look trees top tree marks knows youngest shown revs within stands free.
    let r = err_from_is_err_and c.from_residual.result c.from_residual.ensures.1 in
    let put = c.args.put.now in
    let base = c.args.txn.now.base in
    let txn = g.N.Own.txn c.args.txn.now.own in
    let before = g.N.Own.settled c.args.txn.now.own in
    let own = stands.shows.0.shows.own in
    let fault = c.in_err-make_file.field-0.0 in
    rw (r.1, r.2) (refused_more (Bars look trees top base txn tree marks (MakeFile put.path) fault) (Bars look trees top base txn tree marks (Put put) fault) fault (not_made look trees top base txn tree marks put free before fault)
    (c.in_err-make_file.ensures.edits look trees top tree marks knows youngest shown revs within stands))

pub returns-clause-edits : goal.returns-clause-edits
returns-clause-edits g c = λ told look trees top tree marks knows youngest shown revs within stands free.
    let put = c.args.put.now in
    let base = c.args.txn.now.base in
    let txn = g.N.Own.txn c.args.txn.now.own in
    let before = g.N.Own.settled c.args.txn.now.own in
    let own = stands.shows.0.shows.own in
    let made = c.in_ok-make_file.ensures.edits look trees top tree marks knows youngest shown revs within stands in
    let file = made_there look trees top base txn tree marks put free before in
    let here : c.make_file.new.txn.base ≤ top = subst (λ (b : ℕ). b ≤ top) (sym c.make_file.ensures.base) within in
    put_made look trees top base txn tree marks put free _ made.0 file c.put_in_made.result
    (moved look trees top base txn (g.N.Own.settled c.make_file.new.txn.own) (made_tree tree put.path) (made_marks marks put.path) made.1 (λ b t. IsTextOn put t b (g.N.Own.settled c.put_in_made.new.txn.own) c.put_in_made.result look trees top (made_tree tree put.path) (made_marks marks put.path)) _ _ _ c.make_file.ensures.base c.make_file.ensures.name refl
    (λ s. c.put_in_made.ensures.puts told look trees top (made_tree tree put.path) (made_marks marks put.path) (λ r le. c.make_file.ensures.kept.revs r (look r) (knows r le)) (c.make_file.ensures.kept.youngest top youngest) shown revs here s file))
