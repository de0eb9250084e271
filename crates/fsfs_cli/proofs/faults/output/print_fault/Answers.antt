use Rattle.std.proofs.Common.{◌≡◌, ◌++◌, ◌≤◌, ℕ, List, refl, subst, ◌∙◌, arith}
use Rattle.std.specs.Prelude.{codes, Err}
use Rattle.fsfs_base.specs.Streams.{Adds}
use Rattle.fsfs_base.proofs.StreamLemmas.{adds_then}
use Rattle.fsfs_base.specs.Output.{Prints}
use Rattle.fsfs_base.proofs.OutputLemmas.{printed_more, printed_less, passed_on}
use Rattle.fsfs_cli.specs.Lines.{line_of}
use Rattle.fsfs_cli.specs.Pieces.{head_of, path_values}
use Rattle.fsfs_cli.proofs.LineLemmas.{line_in_pieces}
use Rattle.fsfs_cli.proofs.faults.output.print_fault.Goals as goal

pub returns-in_err-print : goal.returns-in_err-print
returns-in_err-print g c =
    let head = head_of c.args.tool c.args.fault.now in
    let path = path_values c.args.fault.now in
    let old = g.S.Sink.written c.args.sink.now in
    let new = g.S.Sink.written c.print.new.sink in
    let before = g.S.Sink.faults c.args.sink.now in
    let now = g.S.Sink.faults c.print.new.sink in
    let e = c.in_err-print.field-0.0 in
    let is : c.as_bytes.result.now ≡ head = c.as_bytes.ensures.value ∙ c.as_str.ensures.value ∙ c.head_text.ensures in
    let first = subst (λ (t : List ℕ). Prints old new t before now (Err e)) is c.in_err-print.ensures.printed in
    let less = printed_less old new (head ++ path) (codes "\n") before now (Err e) refl (printed_less old new head path before now (Err e) refl first) in
    let line = subst (λ (t : List ℕ). Prints old new t before now (Err e)) (line_in_pieces c.args.tool c.args.fault.now) less in
    record { printed = passed_on old new (line_of c.args.tool c.args.fault.now) before now (Err e) c.from_residual.result refl c.from_residual.ensures.0 line }

pub returns-in_err-print_path_of : goal.returns-in_err-print_path_of
returns-in_err-print_path_of g c =
    let head = head_of c.args.tool c.args.fault.now in
    let path = path_values c.args.fault.now in
    let old = g.S.Sink.written c.args.sink.now in
    let mid = g.S.Sink.written c.print.new.sink in
    let new = g.S.Sink.written c.print_path_of.new.sink in
    let before = g.S.Sink.faults c.args.sink.now in
    let then_ = g.S.Sink.faults c.print.new.sink in
    let now = g.S.Sink.faults c.print_path_of.new.sink in
    let e = c.in_err-print_path_of.field-0.0 in
    let is : c.as_bytes.result.now ≡ head = c.as_bytes.ensures.value ∙ c.as_str.ensures.value ∙ c.head_text.ensures in
    let first = subst (λ (t : List ℕ). Adds old mid t) is c.in_ok-print.ensures.printed.whole in
    let both = printed_more old mid new head path before then_ now (Err e) first c.in_ok-print.ensures.printed.later c.in_err-print_path_of.ensures.printed in
    let less = printed_less old new (head ++ path) (codes "\n") before now (Err e) refl both in
    let line = subst (λ (t : List ℕ). Prints old new t before now (Err e)) (line_in_pieces c.args.tool c.args.fault.now) less in
    record { printed = passed_on old new (line_of c.args.tool c.args.fault.now) before now (Err e) c.from_residual-in_err-print_path_of.result refl c.from_residual-in_err-print_path_of.ensures.0 line }

pub returns : goal.returns
returns g c =
    let head = head_of c.args.tool c.args.fault.now in
    let path = path_values c.args.fault.now in
    let old = g.S.Sink.written c.args.sink.now in
    let mid = g.S.Sink.written c.print.new.sink in
    let next = g.S.Sink.written c.print_path_of.new.sink in
    let new = g.S.Sink.written c.print-2.new.sink in
    let before = g.S.Sink.faults c.args.sink.now in
    let then_ = g.S.Sink.faults c.print_path_of.new.sink in
    let now = g.S.Sink.faults c.print-2.new.sink in
    let is : c.as_bytes.result.now ≡ head = c.as_bytes.ensures.value ∙ c.as_str.ensures.value ∙ c.head_text.ensures in
    let first = subst (λ (t : List ℕ). Adds old mid t) is c.in_ok-print.ensures.printed.whole in
    let both = adds_then old mid next head path first c.in_ok-print_path_of.ensures.printed.whole in
    let later : before ≤ then_ = omega (arith, c.in_ok-print.ensures.printed.later, c.in_ok-print_path_of.ensures.printed.later) in
    let whole = printed_more old next new (head ++ path) (codes "\n") before then_ now c.print-2.result both later c.print-2.ensures.printed in
    record { printed = subst (λ (t : List ℕ). Prints old new t before now c.print-2.result) (line_in_pieces c.args.tool c.args.fault.now) whole }
