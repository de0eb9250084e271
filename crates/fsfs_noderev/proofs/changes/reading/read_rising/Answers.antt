use Rattle.std.proofs.Common.{◌≡◌, List, [], refl, sym, subst, ◌∙◌, arith}
use Rattle.std.specs.declared.cmp.Ordering.TheVariants.{Less}
use Rattle.std.specs.Ordering.{nat_cmp}
use Rattle.std.specs.Cmp.Lexicographic.{slice_cmp}
use Rattle.fsfs_noderev.specs.Changes.Texts.{HasNewPath}
use Rattle.fsfs_noderev.specs.declared.changes.item.ChangeItem.{ChangeItem}
use Rattle.fsfs_noderev.proofs.ItemTexts.{not_some}
use Rattle.fsfs_noderev.proofs.ItemLists.{HasItems, items_one, has_more, has_all, has_fault, fault_clash}
use Rattle.fsfs_noderev.proofs.Rising.{AreUpTo, rising_new, rising_more}
use Rattle.fsfs_noderev.proofs.changes.reading.read_rising.Goals as goal

pub returns-in-None-clause-only : goal.returns-in-None-clause-only
returns-in-None-clause-only c = λ items w. fault_clash HasNewPath c.args.bytes.now _ items (has_fault HasNewPath c.args.bytes.now c.data.items.items c.data.rest.now _ c.data.invariant.0 (grind (arith, c.is_empty.ensures, c.data-test.true))
    (λ item behind b may. not_some c.in_ok-next_item.field-0 c.in-None.is (c.in_ok-next_item.ensures.only item behind b)) refl) w

pub returns-in-None-clause-fault : goal.returns-in-None-clause-fault
returns-in-None-clause-fault c =
    has_fault HasNewPath c.args.bytes.now c.data.items.items c.data.rest.now _ c.data.invariant.0 (grind (arith, c.is_empty.ensures, c.data-test.true))
    (λ item behind b may. not_some c.in_ok-next_item.field-0 c.in-None.is (c.in_ok-next_item.ensures.only item behind b)) refl

pub data-preserved : goal.data-preserved
data-preserved c =
    let found = rw c.in-Some.is at c.in_ok-next_item.ensures.found in
    let next = c.in-Some.field-0 in
    let items = c.data.items.items in
    let less : slice_cmp nat_cmp c.data.last.now next.path.now ≡ Less = sym c.cmp.ensures ∙ c.in-Less.is in
    let more = has_more HasNewPath c.args.bytes.now items c.data.rest.now next.item next.rest.now c.data.invariant.0 found.0 (rising_new items next.item next.path.now c.data.last.now found.1 c.data.invariant.1 less) in (
      subst (λ (xs : List ChangeItem). HasItems HasNewPath c.args.bytes.now xs next.rest.now) (sym c.in_ok-push-in-Some.ensures.items) more,
      subst (λ (xs : List ChangeItem). AreUpTo next.path.now xs) (sym c.in_ok-push-in-Some.ensures.items) (rising_more items next.item next.path.now c.data.last.now found.1 c.data.invariant.1 less),
    )

pub returns-clause-only : goal.returns-clause-only
returns-clause-only c = λ items w.
    items_one HasNewPath [] c.args.bytes.now c.data.items.items items (has_all HasNewPath c.args.bytes.now c.data.items.items c.data.rest.now c.data.invariant.0 (grind (arith, c.is_empty.ensures, c.data-test.false))) w
