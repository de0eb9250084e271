use Rattle.std.proofs.Common.{[], subst, List}
use Rattle.std.proofs.lemmas.List.{take_all}
use Rattle.fsfs_noderev.specs.Changes.Texts.{AreChanges}
use Rattle.fsfs_noderev.specs.declared.changes.item.ChangeItem.{ChangeItem}
use Rattle.fsfs_noderev.proofs.ItemLists.{once}
use Rattle.fsfs_noderev.proofs.ChangesWrites.{written_more}
use Rattle.fsfs_noderev.proofs.changes.writing.write_changes.Goals as goal

pub loop-item-preserved : goal.loop-item-preserved
loop-item-preserved c = written_more c.args.items.now c.loop-item.item-index c.item-item.result c.loop-item-test.true c.item-item.is c.loop-item.invariant c.in_ok-put_item.ensures

pub returns-clause-revision : goal.returns-clause-revision
returns-clause-revision c = λ w.
    let whole = subst (λ (xs : List ChangeItem). AreChanges c.loop-item.out.items xs) (take_all c.loop-item.item-index c.args.items.now c.loop-item-test.false) c.loop-item.invariant in
    once [] c.loop-item.out.items c.args.items.now whole w
