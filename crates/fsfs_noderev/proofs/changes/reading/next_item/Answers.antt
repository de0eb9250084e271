use Rattle.std.proofs.Common.{sym, ◌∙◌}
use Rattle.fsfs_noderev.specs.Changes.Reading.{item_value}
use Rattle.fsfs_noderev.proofs.ItemTexts.{seen, unseen, begun}
use Rattle.fsfs_noderev.proofs.changes.reading.next_item.Goals as goal

pub returns-in-None-clause-only : goal.returns-in-None-clause-only
returns-in-None-clause-only c = λ item rest w. absurd (unseen c.args.bytes.now item rest c.in-None.ensures w)

pub returns-in-None-2-clause-only : goal.returns-in-None-2-clause-only
returns-in-None-2-clause-only c = λ item rest w.
    let p = seen c.args.bytes.now (item_value c.in-Some.text) item rest c.in-Some.ensures w in
    let e = sym c.in-None-2.is ∙ c.in_ok-path_of-in-Some.ensures.only item.path p.0 in
    absurd cc

pub returns-in-None-3-clause-only : goal.returns-in-None-3-clause-only
returns-in-None-3-clause-only c = λ item rest w.
    let p = seen c.args.bytes.now (item_value c.in-Some.text) item rest c.in-Some.ensures w in
    let e = sym c.in-None-3.is ∙ c.in_ok-second_line-in-Some-2.ensures.only item.source p.1 in
    absurd cc

pub returns-in-Some-3-clause-found : goal.returns-in-Some-3-clause-found
returns-in-Some-3-clause-found c =
    let text = c.in-Some.text in
    let path = rw c.in-Some-2.is at c.in_ok-path_of-in-Some.ensures.found in
    let source = rw c.in-Some-3.is at c.in_ok-second_line-in-Some-2.ensures.found in
    (begun c.args.bytes.now _ text.head.path.now text.source.now text.rest.now (sym c.in-Some.ensures) path source, path.text_is)
