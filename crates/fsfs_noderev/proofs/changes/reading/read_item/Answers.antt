use Rattle.fsfs_noderev.proofs.ItemTexts.{item_one, not_some}
use Rattle.fsfs_noderev.proofs.changes.reading.read_item.Goals as goal

pub returns-in-None-clause-only : goal.returns-in-None-clause-only
returns-in-None-clause-only c = λ item rest w. not_some c.in_ok-next_item.field-0 c.in-None.is (c.in_ok-next_item.ensures.only item rest w)

pub returns-in-Some-clause-only : goal.returns-in-Some-clause-only
returns-in-Some-clause-only c = λ item rest w.
    let found = rw c.in-Some.is at c.in_ok-next_item.ensures.found in
    item_one c.args.bytes.now c.in-Some.field-0.item item c.in-Some.field-0.rest.now rest found.0 w
