use Rattle.std.proofs.Common.{List, subst}
use Rattle.std.specs.Prelude.{All}
use Rattle.std.proofs.lemmas.List.{take_all}
use Rattle.std.proofs.lemmas.List.Elements.{All-nil, All-more}
use Rattle.fsfs_noderev.specs.Changes.Items.{HasText}
use Rattle.fsfs_noderev.specs.declared.changes.item.ChangeItem.{ChangeItem}
use Rattle.fsfs_bench.proofs.writing.have_texts.Goals as goal

pub loop-item-init : goal.loop-item-init
loop-item-init c = All-nil HasText

pub loop-item-preserved : goal.loop-item-preserved
loop-item-preserved c =
    All-more HasText c.args.items.now c.loop-item.item-index c.item-item.result c.loop-item-test.true c.loop-item.invariant (subst HasText c.item-item.is (c.has_text.ensures c.if-not-has_text.false))

pub returns : goal.returns
returns c = λ yes. subst (λ (l : List ChangeItem). All HasText l) (take_all c.loop-item.item-index c.args.items.now c.loop-item-test.false) c.loop-item.invariant
