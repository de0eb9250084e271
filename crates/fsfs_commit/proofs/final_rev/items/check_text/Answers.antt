use Rattle.std.proofs.Common.{rules}
use Rattle.std.proofs.lemmas.Result.{err_from_is_err_and}
use Rattle.fsfs_noderev.specs.Limits.{IsItemPast}
use Rattle.fsfs_noderev.proofs.ItemLemmas.{told_has_text}
use Rattle.fsfs_commit.specs.FinalRev.Items.{IsUntold}
use Rattle.fsfs_commit.proofs.Refusals.{limit_refused}
use Rattle.fsfs_commit.proofs.final_rev.items.check_text.Goals as goal

pub returns-in_err-check_item-clause-refused : goal.returns-in_err-check_item-clause-refused
returns-in_err-check_item-clause-refused c =
    let r = err_from_is_err_and c.from_residual.result c.from_residual.ensures.1 in
    rw (r.1, r.2) (limit_refused (IsUntold c.args.item.now) (λ limit. IsItemPast limit c.args.item.now) (λ limit. IsItemPast limit c.args.item.now) (λ limit h. h) c.in_err-check_item.field-0.0 c.in_err-check_item.ensures.past)

pub returns-clause-text : goal.returns-clause-text
returns-clause-text c = told_has_text c.args.item.now c.in_ok-check_item.ensures.within (search rules)
