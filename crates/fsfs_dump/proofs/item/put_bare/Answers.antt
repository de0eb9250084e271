use Rattle.std.proofs.Common.{ℕ, List, [], ◌++◌, ap, sym, append-nil}
use Rattle.std.specs.Prelude.{None}
use Rattle.fsfs_dump.specs.Records.{records_head, record_end}
use Rattle.fsfs_dump.specs.Readings.{source_of}
use Rattle.fsfs_dump.specs.Views.{block_value}
use Rattle.fsfs_dump.proofs.Appends.{then_more, put_as}
use Rattle.fsfs_dump.proofs.item.put_bare.Goals as goal

pub returns : goal.returns
returns c =
    let item = c.args.item.now in
    let old = c.args.lines.now.items in
    let a = c.put_head.new.lines.items in
    let b = c.extend_from_slice.new.self.items in
    let head = records_head item.path item.action c.args.kind (source_of item) (block_value c.args.block.now) None in
    let both = then_more old head a record_end b c.in_ok-put_head.ensures c.in_ok-extend_from_slice.ensures.items in
    put_as old (head ++ record_end) (head ++ [] ++ record_end) b both (ap (λ (h : List ℕ). h ++ record_end) (sym (append-nil head)))
