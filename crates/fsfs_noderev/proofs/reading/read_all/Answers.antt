use Rattle.fsfs_noderev.proofs.Taking.{fields_read, fields_mean, fields_lack, missing_not_read, stop_not_read}
use Rattle.fsfs_noderev.proofs.reading.read_all.Goals as goal

pub returns-in-Err-At-clause-only : goal.returns-in-Err-At-clause-only
returns-in-Err-At-clause-only c = λ n w.
    let stops = rw c.in-Err-At.field-0-is at c.in-Err-At.ensures.stops in
    absurd (stop_not_read c.args.bytes.now c.in-Err-At.left c.in-Err-At.which n stops w)

pub returns-in-None-clause-found : goal.returns-in-None-clause-found
returns-in-None-clause-found c = fields_read c.args.bytes.now c.read_lines.new.fields c.in-Ok.rest.now c.in-Ok.ensures.front c.in-None.ensures

pub returns-in-None-clause-only : goal.returns-in-None-clause-only
returns-in-None-clause-only c = fields_mean c.args.bytes.now c.read_lines.new.fields c.in-Ok.rest.now c.in-Ok.ensures.front

pub returns-in-Some-clause-only : goal.returns-in-Some-clause-only
returns-in-Some-clause-only c = λ n w. absurd (missing_not_read c.args.bytes.now c.read_lines.new.fields c.in-Ok.rest.now _ n c.in-Ok.ensures.front c.in-Some.ensures w)

pub returns-in-Some-clause-fault : goal.returns-in-Some-clause-fault
returns-in-Some-clause-fault c = fields_lack c.args.bytes.now c.read_lines.new.fields c.in-Ok.rest.now c.in-Ok.ensures.front _ _ c.in-Some.ensures c.saturating_sub-in-Some.ensures
