use Rattle.std.proofs.Common.{◌≤◌, ◌++◌, refl, arith}
use Rattle.std.specs.Prelude.{Err}
use Rattle.fsfs_base.proofs.StreamLemmas.{adds_then}
use Rattle.fsfs_base.proofs.OutputLemmas.{printed_more, printed_less, passed_on}
use Rattle.fsfs_jobs.specs.Lines.{packed_text, sound_text, youngest_line, ending_text}
use Rattle.fsfs_job_run.proofs.serial.output.print_ending.Goals as goal

pub returns-in_err-print_packed : goal.returns-in_err-print_packed
returns-in_err-print_packed g c =
    let old = g.S.Sink.written c.args.sink.now in
    let new = g.S.Sink.written c.print_packed.new.sink in
    let before = g.S.Sink.faults c.args.sink.now in
    let now = g.S.Sink.faults c.print_packed.new.sink in
    let e = c.in_err-print_packed.field-0.0 in
    let packed = packed_text c.args.ending.packed in
    let sound = sound_text c.args.ending.sound c.args.youngest in
    let less = printed_less old new packed sound before now (Err e) refl c.in_err-print_packed.ensures.printed in
    let whole = printed_less old new (packed ++ sound) (youngest_line c.args.youngest) before now (Err e) refl less in
    record { printed = passed_on old new (ending_text c.args.ending c.args.youngest) before now (Err e) c.from_residual.result refl c.from_residual.ensures.0 whole }

pub returns-in_err-print_sound : goal.returns-in_err-print_sound
returns-in_err-print_sound g c =
    let old = g.S.Sink.written c.args.sink.now in
    let mid = g.S.Sink.written c.print_packed.new.sink in
    let new = g.S.Sink.written c.print_sound.new.sink in
    let before = g.S.Sink.faults c.args.sink.now in
    let then_ = g.S.Sink.faults c.print_packed.new.sink in
    let now = g.S.Sink.faults c.print_sound.new.sink in
    let e = c.in_err-print_sound.field-0.0 in
    let packed = packed_text c.args.ending.packed in
    let sound = sound_text c.args.ending.sound c.args.youngest in
    let both = printed_more old mid new packed sound before then_ now (Err e) c.in_ok-print_packed.ensures.printed.whole c.in_ok-print_packed.ensures.printed.later c.in_err-print_sound.ensures.printed in
    let whole = printed_less old new (packed ++ sound) (youngest_line c.args.youngest) before now (Err e) refl both in
    record { printed = passed_on old new (ending_text c.args.ending c.args.youngest) before now (Err e) c.from_residual-in_err-print_sound.result refl c.from_residual-in_err-print_sound.ensures.0 whole }

pub returns : goal.returns
returns g c =
    let old = g.S.Sink.written c.args.sink.now in
    let mid = g.S.Sink.written c.print_packed.new.sink in
    let next = g.S.Sink.written c.print_sound.new.sink in
    let new = g.S.Sink.written c.print_youngest.new.sink in
    let before = g.S.Sink.faults c.args.sink.now in
    let then_ = g.S.Sink.faults c.print_sound.new.sink in
    let now = g.S.Sink.faults c.print_youngest.new.sink in
    let packed = packed_text c.args.ending.packed in
    let sound = sound_text c.args.ending.sound c.args.youngest in
    let both = adds_then old mid next packed sound c.in_ok-print_packed.ensures.printed.whole c.in_ok-print_sound.ensures.printed.whole in
    let later : before ≤ then_ = omega (arith, c.in_ok-print_packed.ensures.printed.later, c.in_ok-print_sound.ensures.printed.later) in
    record { printed = printed_more old next new (packed ++ sound) (youngest_line c.args.youngest) before then_ now c.print_youngest.result both later c.print_youngest.ensures.printed }
