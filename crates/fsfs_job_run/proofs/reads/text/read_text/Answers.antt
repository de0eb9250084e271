use Rattle.std.proofs.lemmas.Result.{err_from_is_err_and}
use Rattle.fsfs_revision.proofs.Keeping.{keeps_trans}
use Rattle.fsfs_job_run.proofs.TextLemmas.{read_none, read_dir}
use Rattle.fsfs_job_run.proofs.reads.text.read_text.Goals as goal

pub returns-in_err-found-clause-told : goal.returns-in_err-found-clause-told
returns-in_err-found-clause-told g c = λ look knows.
    let e = err_from_is_err_and c.from_residual.result c.from_residual.ensures.1 in
    rw (e.1, e.2) (read_none look c.args.rev c.args.path.now c.in_err-found.field-0.0 (c.in_err-found.ensures.told look knows))

pub returns-in-Dir-clause-told : goal.returns-in-Dir-clause-told
returns-in-Dir-clause-told g c = λ look knows. read_dir look c.args.rev c.args.path.now c.in_ok-found.found.node (c.in_ok-found.ensures.told look knows) c.in-Dir.is

pub returns-clause-told : goal.returns-clause-told
returns-clause-told g c = λ look knows.
    c.text_at.ensures.told look c.args.path.now (λ r le. c.in_ok-found.ensures.kept.revs r (look r) (knows r le)) (c.in_ok-found.ensures.told look knows)

pub returns-clause-kept : goal.returns-clause-kept
returns-clause-kept g c = keeps_trans _ _ _ c.in_ok-found.ensures.kept c.text_at.ensures.kept
