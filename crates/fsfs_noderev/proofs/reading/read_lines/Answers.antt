use Rattle.fsfs_noderev.proofs.Taking.{front_more}
use Rattle.fsfs_noderev.proofs.reading.read_lines.Goals as goal

pub lines-preserved : goal.lines-preserved
lines-preserved c =
    let step = rw c.in-Ok-More.field-0-is at c.in-Ok-More.ensures.taken in
    front_more c.args.bytes.now c.lines.fields c.take_line.new.self c.lines.rest.now c.in-Ok-More.after.now c.lines.invariant step
