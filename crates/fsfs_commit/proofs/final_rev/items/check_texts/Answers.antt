use Rattle.std.proofs.Common.{List, sym, subst}
use Rattle.std.specs.Prelude.{All}
use Rattle.std.proofs.lemmas.List.{take_all}
use Rattle.std.proofs.lemmas.List.Elements.{All-nil, All-more}
use Rattle.std.proofs.lemmas.Result.{err_from_is_err_and}
use Rattle.fsfs_noderev.specs.Changes.Items.{HasText}
use Rattle.fsfs_noderev.specs.declared.changes.item.ChangeItem.{ChangeItem}
use Rattle.fsfs_noderev.specs.Limits.{IsItemPast}
use Rattle.fsfs_commit.specs.FinalRev.Items.{IsUntold, IsOneUntold, IsOneItemPast}
use Rattle.fsfs_commit.proofs.Refusals.{refused_more}
use Rattle.fsfs_commit.proofs.final_rev.items.check_texts.Goals as goal

pub loop-item-init : goal.loop-item-init
loop-item-init c = All-nil HasText

pub loop-item-preserved : goal.loop-item-preserved
loop-item-preserved c =
    All-more HasText c.args.items.now c.loop-item.item-index c.item-item.result c.loop-item-test.true c.loop-item.invariant (subst HasText c.item-item.is c.in_ok-check_text.ensures.text)

pub returns-in_err-check_text-clause-refused : goal.returns-in_err-check_text-clause-refused
returns-in_err-check_text-clause-refused c =
    let r = err_from_is_err_and c.from_residual.result c.from_residual.ensures.1 in
    let k = c.loop-item.item-index in
    let item = c.item-item.result in
    rw (r.1, r.2) (refused_more (IsUntold item) (IsOneUntold c.args.items.now) (λ limit. IsItemPast limit item) (λ limit. IsOneItemPast limit c.args.items.now)
    (λ h. (k, item, c.loop-item-test.true, sym c.item-item.is, h)) (λ limit h. (k, item, c.loop-item-test.true, sym c.item-item.is, h)) c.in_err-check_text.field-0.0 c.in_err-check_text.ensures.refused)

pub returns-clause-text : goal.returns-clause-text
returns-clause-text c = subst (λ (l : List ChangeItem). All HasText l) (take_all c.loop-item.item-index c.args.items.now c.loop-item-test.false) c.loop-item.invariant
