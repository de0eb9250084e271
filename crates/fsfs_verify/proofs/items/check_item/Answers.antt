use Rattle.std.proofs.Common.{◌≡◌, ◌≤◌, ◌+◌, length, true, false, sym, ap, subst, ◌∙◌, arith}
use Rattle.std.specs.Prelude.{Err}
use Rattle.std.proofs.lemmas.Result.{err_from_is_err_and}
use Rattle.fsfs_dag.proofs.Steps.{knows_later}
use Rattle.fsfs_sound.specs.Damaged.{IsDamaged}
use Rattle.fsfs_verify.specs.ItemFaults.{IsWrongAt}
use Rattle.fsfs_verify.proofs.Findings.{wrong_from}
use Rattle.fsfs_verify.proofs.ItemChecks.{false_damaged, wrong_damaged}
use Rattle.fsfs_verify.proofs.ItemPlaces.{beginning, begins_at}
use Rattle.fsfs_verify.proofs.items.check_item.Goals as goal

pub returns-in_err-is_true-clause-told : goal.returns-in_err-is_true-clause-told
returns-in_err-is_true-clause-told g c = λ look props items wrong knows read is are.
    let p = err_from_is_err_and c.from_residual.result c.from_residual.ensures.1 in
    let item = c.args.item.now in
    let b = beginning look c.args.rev items wrong read c.args.before item is in
    let at = begins_at look c.args.rev items wrong read c.args.before item is b in
    rw (p.1, p.2) (wrong_from (IsWrongAt look c.args.rev item) (IsDamaged look props c.args.rev) c.in_err-is_true.field-0.0 (wrong_damaged look c.args.rev item props (b.data_is.0 + length b.front) at) (c.in_err-is_true.ensures.told look knows are))

pub returns-then-branch-clause-told : goal.returns-then-branch-clause-told
returns-then-branch-clause-told g c = λ look props items wrong knows read is are. rw c.if-branch.true at (c.in_ok-is_true.ensures.told look knows are)

pub returns-in_err-offset-clause-told : goal.returns-in_err-offset-clause-told
returns-in_err-offset-clause-told g c = λ look props items wrong knows read is are.
    let p = err_from_is_err_and c.from_residual-in_err-offset.result c.from_residual-in_err-offset.ensures.1 in
    rw (p.1, p.2) (wrong_from (λ w. ⊥) (IsDamaged look props c.args.rev) c.in_err-offset.field-0.0 (λ w never. absurd never) (c.in_err-offset.ensures.told look items wrong (knows_later _ _ look c.args.rev c.in_ok-is_true.ensures.kept knows) read))

pub returns-clause-told : goal.returns-clause-told
returns-clause-told g c = λ look props items wrong knows read is are.
    let item = c.args.item.now in
    let told = rw c.if-branch.false at (c.in_ok-is_true.ensures.told look knows are) in
    let begins = c.in_ok-offset.ensures.told look items wrong (knows_later _ _ look c.args.rev c.in_ok-is_true.ensures.kept knows) read item is in
    rw c.damaged.ensures (false_damaged look c.args.rev item props c.in_ok-offset.offset begins told.0)
