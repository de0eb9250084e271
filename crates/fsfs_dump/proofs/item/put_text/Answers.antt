use Rattle.std.proofs.Common.{ℕ, List, ◌++◌, ap}
use Rattle.std.specs.Prelude.{Some}
use Rattle.fsfs_dump.specs.Records.{TextFacts, facts_of, records_head, record_end}
use Rattle.fsfs_dump.specs.Readings.{source_of}
use Rattle.fsfs_dump.specs.Views.{block_value, facts_value}
use Rattle.fsfs_dump.proofs.Appends.{then_more, put_as}
use Rattle.fsfs_dump.proofs.item.put_text.Goals as goal

pub returns : goal.returns
returns c =
    let item = c.args.item.now in
    let text = c.args.text.now in
    let old = c.args.lines.now.items in
    let a = c.put_head.new.lines.items in
    let b = c.extend_from_slice.new.self.items in
    let d = c.extend_from_slice-2.new.self.items in
    let Head : TextFacts → List ℕ = λ f. records_head item.path item.action c.args.kind (source_of item) (block_value c.args.block.now) (Some f) in
    let head = put_as old (Head (facts_value c.facts_of.result)) (Head (facts_of text)) a c.in_ok-put_head.ensures (ap Head c.facts_of.ensures) in
    let two = then_more old (Head (facts_of text)) a text b head c.in_ok-extend_from_slice.ensures.items in
    then_more old (Head (facts_of text) ++ text) b record_end d two c.in_ok-extend_from_slice-2.ensures.items
