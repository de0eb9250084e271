use Rattle.std.proofs.lemmas.Result.{err_from_is_err_and}
use Rattle.fsfs_noderev.specs.Limits.{IsPast, IsSourcePast, IsItemPast, Changed, Source}
use Rattle.fsfs_noderev.proofs.Weaker.{past_more}
use Rattle.fsfs_noderev.proofs.limits.texts.check_item.Goals as goal

pub returns-in_err-check_path-clause-past : goal.returns-in_err-check_path-clause-past
returns-in_err-check_path-clause-past c =
    let r = err_from_is_err_and c.from_residual.result c.from_residual.ensures.1 in
    rw (r.1, r.2) (past_more (λ limit. IsPast limit c.args.item.now.path) (λ limit. IsItemPast limit c.args.item.now) (λ limit h. Changed h) c.in_err-check_path.field-0.0 c.in_err-check_path.ensures.past)

pub returns-in_err-check_source-clause-past : goal.returns-in_err-check_source-clause-past
returns-in_err-check_source-clause-past c =
    let r = err_from_is_err_and c.from_residual-in_err-check_source.result c.from_residual-in_err-check_source.ensures.1 in
    rw (r.1, r.2) (past_more (λ limit. IsSourcePast limit c.args.item.now.source) (λ limit. IsItemPast limit c.args.item.now) (λ limit h. Source h) c.in_err-check_source.field-0.0 c.in_err-check_source.ensures.past)
