use Rattle.std.proofs.Common.{◌≡◌, ◌++◌, ℕ, List, refl, subst, ◌∙◌}
use Rattle.std.specs.Prelude.{Err}
use Rattle.fsfs_base.specs.Streams.{Adds}
use Rattle.fsfs_base.specs.Output.{Prints}
use Rattle.fsfs_base.proofs.OutputLemmas.{printed_more, printed_less, passed_on}
use Rattle.fsfs_cli.specs.Lines.{fault_words}
use Rattle.fsfs_cli.specs.Pieces.{fault_front, path_values}
use Rattle.fsfs_cli.proofs.LineLemmas.{words_in_pieces}
use Rattle.fsfs_cli.proofs.faults.output.print_words.Goals as goal

pub returns-in_err-print : goal.returns-in_err-print
returns-in_err-print g c =
    let front = fault_front c.args.fault.now in
    let path = path_values c.args.fault.now in
    let old = g.S.Sink.written c.args.sink.now in
    let new = g.S.Sink.written c.print.new.sink in
    let before = g.S.Sink.faults c.args.sink.now in
    let now = g.S.Sink.faults c.print.new.sink in
    let e = c.in_err-print.field-0.0 in
    let is : c.as_bytes.result.now ≡ front = c.as_bytes.ensures.value ∙ c.as_str.ensures.value ∙ c.fault_text.ensures in
    let first = subst (λ (t : List ℕ). Prints old new t before now (Err e)) is c.in_err-print.ensures.printed in
    let words = subst (λ (t : List ℕ). Prints old new t before now (Err e)) (words_in_pieces c.args.fault.now) (printed_less old new front path before now (Err e) refl first) in
    record { printed = passed_on old new (fault_words c.args.fault.now) before now (Err e) c.from_residual.result refl c.from_residual.ensures.0 words }

pub returns : goal.returns
returns g c =
    let front = fault_front c.args.fault.now in
    let path = path_values c.args.fault.now in
    let old = g.S.Sink.written c.args.sink.now in
    let mid = g.S.Sink.written c.print.new.sink in
    let new = g.S.Sink.written c.print_path_of.new.sink in
    let before = g.S.Sink.faults c.args.sink.now in
    let then_ = g.S.Sink.faults c.print.new.sink in
    let now = g.S.Sink.faults c.print_path_of.new.sink in
    let is : c.as_bytes.result.now ≡ front = c.as_bytes.ensures.value ∙ c.as_str.ensures.value ∙ c.fault_text.ensures in
    let first = subst (λ (t : List ℕ). Adds old mid t) is c.in_ok-print.ensures.printed.whole in
    let whole = printed_more old mid new front path before then_ now c.print_path_of.result first c.in_ok-print.ensures.printed.later c.print_path_of.ensures.printed in
    record { printed = subst (λ (t : List ℕ). Prints old new t before now c.print_path_of.result) (words_in_pieces c.args.fault.now) whole }
