use Rattle.std.proofs.Common.{◌≡◌, true, false, List, [], refl, sym, ap, subst, ◌∙◌, arith}
use Rattle.std.proofs.lemmas.Bool.{not-true, not-false}
use Rattle.std.specs.Ordering.{nat_cmp}
use Rattle.std.specs.Cmp.Lexicographic.{slice_cmp}
use Rattle.std.specs.BTreeSet as set
use Rattle.fsfs_noderev.specs.Changes.Texts.{HasNewPath}
use Rattle.fsfs_noderev.specs.declared.changes.item.ChangeItem.{ChangeItem}
use Rattle.fsfs_noderev.proofs.ItemTexts.{not_some}
use Rattle.fsfs_noderev.proofs.ItemLists.{HasItems, items_one, has_more, has_all, has_fault, fault_clash}
use Rattle.fsfs_noderev.proofs.PathSets.{any_has, texts_more, is_new, refused_twice}
use Rattle.fsfs_noderev.proofs.changes.reading.read_in_any_order.Goals as goal

pub returns-in-None-clause-only : goal.returns-in-None-clause-only
returns-in-None-clause-only c = λ items w. fault_clash HasNewPath c.args.bytes.now _ items (has_fault HasNewPath c.args.bytes.now c.data.items.items c.data.rest.now _ c.data.invariant.0 (grind (arith, c.is_empty.ensures, c.data-test.true))
    (λ item behind b may. not_some c.in_ok-next_item.field-0 c.in-None.is (c.in_ok-next_item.ensures.only item behind b)) refl) w

pub returns-in-None-clause-fault : goal.returns-in-None-clause-fault
returns-in-None-clause-fault c =
    has_fault HasNewPath c.args.bytes.now c.data.items.items c.data.rest.now _ c.data.invariant.0 (grind (arith, c.is_empty.ensures, c.data-test.true))
    (λ item behind b may. not_some c.in_ok-next_item.field-0 c.in-None.is (c.in_ok-next_item.ensures.only item behind b)) refl

pub returns-then-not-branch-clause-only : goal.returns-then-not-branch-clause-only
returns-then-not-branch-clause-only c = λ items w.
    let found = rw c.in-Some.is at c.in_ok-next_item.ensures.found in
    let next = c.in-Some.field-0 in
    let there : any_has next.path.now c.data.items.items ≡ true = sym (c.data.invariant.1 next.path.now) ∙ not-false _ (sym c.in_ok-insert-in-Some.ensures.added ∙ c.if-not-branch.true) in
    fault_clash HasNewPath c.args.bytes.now _ items (has_fault HasNewPath c.args.bytes.now c.data.items.items c.data.rest.now _ c.data.invariant.0 (grind (arith, c.is_empty.ensures, c.data-test.true))
    (refused_twice c.args.bytes.now c.data.items.items c.data.rest.now next.item next.rest.now next.path.now c.data.invariant.0 found.0 found.1 there) refl) w

pub returns-then-not-branch-clause-fault : goal.returns-then-not-branch-clause-fault
returns-then-not-branch-clause-fault c =
    let found = rw c.in-Some.is at c.in_ok-next_item.ensures.found in
    let next = c.in-Some.field-0 in
    let there : any_has next.path.now c.data.items.items ≡ true = sym (c.data.invariant.1 next.path.now) ∙ not-false _ (sym c.in_ok-insert-in-Some.ensures.added ∙ c.if-not-branch.true) in
    has_fault HasNewPath c.args.bytes.now c.data.items.items c.data.rest.now _ c.data.invariant.0 (grind (arith, c.is_empty.ensures, c.data-test.true))
    (refused_twice c.args.bytes.now c.data.items.items c.data.rest.now next.item next.rest.now next.path.now c.data.invariant.0 found.0 found.1 there) refl

pub data-preserved : goal.data-preserved
data-preserved c =
    let found = rw c.in-Some.is at c.in_ok-next_item.ensures.found in
    let next = c.in-Some.field-0 in
    let items = c.data.items.items in
    let none : any_has next.path.now items ≡ false = sym (c.data.invariant.1 next.path.now) ∙ not-true _ (sym c.in_ok-insert-in-Some.ensures.added ∙ c.if-not-branch.false) in
    let more = has_more HasNewPath c.args.bytes.now items c.data.rest.now next.item next.rest.now c.data.invariant.0 found.0 (is_new items next.item next.path.now found.1 none) in
    let texts = texts_more (λ q. set.contains_by (λ k. slice_cmp nat_cmp q k.now) c.data.paths) (λ q. set.contains_by (λ k. slice_cmp nat_cmp q k.now) c.insert.new.self) items next.item next.path.now found.1 c.data.invariant.1
    (λ q. c.in_ok-insert-in-Some.ensures.updates.0 (record { ref_ptr = (0, 0); now = q })) in
    (subst (λ (xs : List ChangeItem). HasItems HasNewPath c.args.bytes.now xs next.rest.now) (sym c.in_ok-push-in-Some.ensures.items) more, λ q. texts q ∙ ap (any_has q) (sym c.in_ok-push-in-Some.ensures.items))

pub returns-clause-only : goal.returns-clause-only
returns-clause-only c = λ items w.
    items_one HasNewPath [] c.args.bytes.now c.data.items.items items (has_all HasNewPath c.args.bytes.now c.data.items.items c.data.rest.now c.data.invariant.0 (grind (arith, c.is_empty.ensures, c.data-test.false))) w
