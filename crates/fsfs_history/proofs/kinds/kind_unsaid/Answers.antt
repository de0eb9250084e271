use Rattle.std.proofs.Common.{◌≡◌, ◌≤◌, Bool, true, false, sym, subst, ◌∙◌, arith}
use Rattle.std.proofs.lemmas.Result.{err_from_is_err_and}
use Rattle.fsfs_revision.specs.Damage.Readings.{Answers}
use Rattle.fsfs_stands.specs.ChangedTexts.{is_nameable, KindUnsaid}
use Rattle.fsfs_history.proofs.KindLemmas.{same, named_kind, named_fails, nameable_le}
use Rattle.fsfs_history.proofs.kinds.kind_unsaid.Goals as goal

pub returns-in_err-named-clause-told : goal.returns-in_err-named-clause-told
returns-in_err-named-clause-told g c = λ look knows.
    let item = c.args.item.now in
    let is : is_nameable c.args.rev item.id ≡ true = sym c.is_nameable.ensures ∙ c.if-is_nameable.true in
    let le = nameable_le c.args.rev item.id is in
    let p = err_from_is_err_and c.from_residual.result c.from_residual.ensures.1 in
    rw (p.1, p.2) (named_fails look c.args.rev item (is_nameable c.args.rev item.id) is c.in_err-named.field-0.0 (c.in_err-named.ensures.told look (λ r lower. knows r (omega (arith, lower, le)))))

pub returns-then-is_nameable-clause-told : goal.returns-then-is_nameable-clause-told
returns-then-is_nameable-clause-told g c = λ look knows.
    let item = c.args.item.now in
    let is : is_nameable c.args.rev item.id ≡ true = sym c.is_nameable.ensures ∙ c.if-is_nameable.true in
    let le = nameable_le c.args.rev item.id is in
    named_kind look c.args.rev item (is_nameable c.args.rev item.id) is c.in_ok-named.named.node (c.in_ok-named.ensures.told look (λ r lower. knows r (omega (arith, lower, le))))

pub returns-clause-told : goal.returns-clause-told
returns-clause-told g c = λ look knows.
    let item = c.args.item.now in
    let is : is_nameable c.args.rev item.id ≡ false = sym c.is_nameable.ensures ∙ c.if-is_nameable.false in
    subst (λ (b : Bool). Answers same (KindUnsaid look c.args.rev item b) c.kind_at.result) (sym is) (c.kind_at.ensures.told look knows)
