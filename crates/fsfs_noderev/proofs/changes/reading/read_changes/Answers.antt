use Rattle.std.proofs.Common.{List, [], refl, sym, subst, arith}
use Rattle.fsfs_noderev.specs.Changes.Texts.{IsAny}
use Rattle.fsfs_noderev.specs.declared.changes.item.ChangeItem.{ChangeItem}
use Rattle.fsfs_noderev.proofs.ItemTexts.{not_some}
use Rattle.fsfs_noderev.proofs.ItemLists.{HasItems, items_one, has_more, has_all, has_fault, fault_clash}
use Rattle.fsfs_noderev.proofs.changes.reading.read_changes.Goals as goal

pub returns-in-None-clause-only : goal.returns-in-None-clause-only
returns-in-None-clause-only c = λ items w. fault_clash IsAny c.args.bytes.now _ items (has_fault IsAny c.args.bytes.now c.data.items.items c.data.rest.now _ c.data.invariant (grind (arith, c.is_empty.ensures, c.data-test.true))
    (λ item behind b may. not_some c.in_ok-next_item.field-0 c.in-None.is (c.in_ok-next_item.ensures.only item behind b)) refl) w

pub returns-in-None-clause-fault : goal.returns-in-None-clause-fault
returns-in-None-clause-fault c =
    has_fault IsAny c.args.bytes.now c.data.items.items c.data.rest.now _ c.data.invariant (grind (arith, c.is_empty.ensures, c.data-test.true))
    (λ item behind b may. not_some c.in_ok-next_item.field-0 c.in-None.is (c.in_ok-next_item.ensures.only item behind b)) refl

pub data-preserved : goal.data-preserved
data-preserved c =
    let found = rw c.in-Some.is at c.in_ok-next_item.ensures.found in
    subst (λ (xs : List ChangeItem). HasItems IsAny c.args.bytes.now xs c.in-Some.field-0.rest.now) (sym c.in_ok-push-in-Some.ensures.items)
    (has_more IsAny c.args.bytes.now c.data.items.items c.data.rest.now _ c.in-Some.field-0.rest.now c.data.invariant found.0 tt)

pub returns-clause-only : goal.returns-clause-only
returns-clause-only c = λ items w.
    items_one IsAny [] c.args.bytes.now c.data.items.items items (has_all IsAny c.args.bytes.now c.data.items.items c.data.rest.now c.data.invariant (grind (arith, c.is_empty.ensures, c.data-test.false))) w
