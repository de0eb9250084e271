use Rattle.std.proofs.Common.{refl}
use Rattle.fsfs_noderev.proofs.Taking.{no_end, ended, bad_line, taken, not_taken}
use Rattle.fsfs_noderev.proofs.fields.Fields.take_line.Goals as goal

pub returns-in-None-clause-refused : goal.returns-in-None-clause-refused
returns-in-None-clause-refused c = no_end c.args.self.now c.args.bytes.now c.in-None.ensures

pub returns-in-empty-clause-taken : goal.returns-in-empty-clause-taken
returns-in-empty-clause-taken c = (ended c.args.bytes.now c.in-Some.text.now c.in-Some.rest.now c.in-Some.ensures c.in-empty.len_below, refl)

pub returns-in-None-pair_of-clause-refused : goal.returns-in-None-pair_of-clause-refused
returns-in-None-pair_of-clause-refused c = bad_line c.args.self.now c.args.bytes.now c.in-Some.text.now c.in-Some.rest.now c.in-Some.ensures c.in-len1-up.len_at_least c.in-None-pair_of.ensures

pub returns-in-Ok-clause-taken : goal.returns-in-Ok-clause-taken
returns-in-Ok-clause-taken c =
    taken c.args.self.now c.take_named.new.self c.args.bytes.now c.in-Some.text.now c.in-Some.rest.now c.in-Some-pair_of.name.now c.in-Some-pair_of.value.now c.in-Some.ensures c.in-Some-pair_of.ensures c.in-Ok.ensures.ok

pub returns-in-Err-Refused-clause-refused : goal.returns-in-Err-Refused-clause-refused
returns-in-Err-Refused-clause-refused c =
    let e = rw c.in-Err-Refused.field-0-is at c.in-Err-Refused.ensures.err in
    rw c.in-Err-Refused.field-0-is
    (not_taken c.args.self.now c.args.bytes.now c.in-Some.text.now c.in-Some.rest.now c.in-Some-pair_of.name.now c.in-Some-pair_of.value.now c.in-Err-Refused.which c.in-Some.ensures c.in-Some-pair_of.ensures e)
