use Rattle.std.proofs.Common.{◌∷◌, refl, subst}
use Rattle.std.specs.Prelude.{codes, Err}
use Rattle.fsfs_base.specs.Output.{Prints}
use Rattle.fsfs_base.proofs.OutputLemmas.{printed_more, printed_less, passed_on}
use Rattle.fsfs_cli.proofs.faults.output.print_name.Goals as goal

pub returns-in_err-print : goal.returns-in_err-print
returns-in_err-print g c =
    let old = g.S.Sink.written c.args.sink.now in
    let new = g.S.Sink.written c.print.new.sink in
    let before = g.S.Sink.faults c.args.sink.now in
    let now = g.S.Sink.faults c.print.new.sink in
    let e = c.in_err-print.field-0.0 in
    let less = printed_less old new (codes "/") c.args.name.now before now (Err e) refl c.in_err-print.ensures.printed in
    record { printed = passed_on old new (47 ∷ c.args.name.now) before now (Err e) c.from_residual.result refl c.from_residual.ensures.0 less }

pub returns : goal.returns
returns g c =
    let old = g.S.Sink.written c.args.sink.now in
    let mid = g.S.Sink.written c.print.new.sink in
    let new = g.S.Sink.written c.print-2.new.sink in
    let before = g.S.Sink.faults c.args.sink.now in
    let then_ = g.S.Sink.faults c.print.new.sink in
    let now = g.S.Sink.faults c.print-2.new.sink in
    let second = subst (λ t. Prints mid new t then_ now c.print-2.result) c.as_bytes.ensures.value c.print-2.ensures.printed in
    record { printed = printed_more old mid new (codes "/") c.args.name.now before then_ now c.print-2.result c.in_ok-print.ensures.printed.whole c.in_ok-print.ensures.printed.later second }
