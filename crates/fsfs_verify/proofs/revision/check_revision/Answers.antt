use Rattle.std.proofs.Common.{ℕ, List, arith}
use Rattle.std.proofs.lemmas.Result.{err_from_is_err_and}
use Rattle.fsfs_revision.proofs.Keeping.{keeps_trans}
use Rattle.fsfs_verify.proofs.AllLemmas.{holds_ended, knows_upto, reads_upto}
use Rattle.fsfs_verify.proofs.revision.check_revision.Goals as goal

pub returns-in_err-root-clause-told : goal.returns-in_err-root-clause-told
returns-in_err-root-clause-told g c = λ look props knows reads sound holds last.
    let p = err_from_is_err_and c.from_residual.result c.from_residual.ensures.1 in
    rw (p.1, p.2) (c.in_err-root.ensures.told look props knows sound holds last)

pub returns-in_err-check_items-clause-told : goal.returns-in_err-check_items-clause-told
returns-in_err-check_items-clause-told g c = λ look props knows reads sound holds last.
    let p = err_from_is_err_and c.from_residual-in_err-check_items.result c.from_residual-in_err-check_items.ensures.1 in
    let tree = c.in_ok-root.ensures.told look props knows sound holds last in
    rw (p.1, p.2) (c.in_err-check_items.ensures.told look props (knows_upto _ _ look c.args.rev c.args.rev c.in_ok-root.ensures.kept (omega arith) knows) tree.1)

pub returns-in_err-check_rev_props-clause-told : goal.returns-in_err-check_rev_props-clause-told
returns-in_err-check_rev_props-clause-told g c = λ look props knows reads sound holds last.
    let p = err_from_is_err_and c.from_residual-in_err-check_rev_props.result c.from_residual-in_err-check_rev_props.ensures.1 in
    let kept = keeps_trans _ _ _ c.in_ok-root.ensures.kept c.in_ok-check_items.ensures.kept in
    rw (p.1, p.2) (c.in_err-check_rev_props.ensures.told look props (reads_upto _ _ props c.args.rev c.args.rev (λ r read may. g.met.B.StillProps.still _ _ r read kept may) (omega arith) reads))

pub returns-clause-told : goal.returns-clause-told
returns-clause-told g c = λ look props knows reads sound holds last.
    let tree = c.in_ok-root.ensures.told look props knows sound holds last in
    let items = c.in_ok-check_items.ensures.told look props (knows_upto _ _ look c.args.rev c.args.rev c.in_ok-root.ensures.kept (omega arith) knows) tree.1 in
    let kept = keeps_trans _ _ _ c.in_ok-root.ensures.kept c.in_ok-check_items.ensures.kept in
    let file = c.in_ok-check_rev_props.ensures.told look props (reads_upto _ _ props c.args.rev c.args.rev (λ r read may. g.met.B.StillProps.still _ _ r read kept may) (omega arith) reads) in
    (record { tree = tree.0; items = items; file = file }, tree.1, holds_ended look c.args.rev _ _ (c.end_revision.ensures c.args.rev) tree.2)

pub returns-in_err-check_rev_props-clause-kept : goal.returns-in_err-check_rev_props-clause-kept
returns-in_err-check_rev_props-clause-kept g c =
    keeps_trans _ _ _ c.in_ok-root.ensures.kept (keeps_trans _ _ _ c.in_ok-check_items.ensures.kept c.in_err-check_rev_props.ensures.kept)

pub returns-clause-kept : goal.returns-clause-kept
returns-clause-kept g c =
    keeps_trans _ _ _ c.in_ok-root.ensures.kept (keeps_trans _ _ _ c.in_ok-check_items.ensures.kept c.in_ok-check_rev_props.ensures.kept)
