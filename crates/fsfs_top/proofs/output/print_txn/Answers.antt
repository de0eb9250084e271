use Rattle.std.proofs.Common.{◌≡◌, ◌∙◌, ◌++◌, List, ℕ, refl, subst}
use Rattle.std.specs.Prelude.{codes, Err}
use Rattle.fsfs_base.specs.Streams.{Adds}
use Rattle.fsfs_base.specs.Output.{Prints}
use Rattle.fsfs_base.proofs.OutputLemmas.{printed_more, printed_less, passed_on}
use Rattle.fsfs_disk.specs.Transactions.Txns.{text_of}
use Rattle.fsfs_top.proofs.output.print_txn.Goals as goal

pub returns-in_err-print : goal.returns-in_err-print
returns-in_err-print g c =
    let old = g.S.Sink.written c.args.sink.now in
    let new = g.S.Sink.written c.print.new.sink in
    let before = g.S.Sink.faults c.args.sink.now in
    let now = g.S.Sink.faults c.print.new.sink in
    let e = c.in_err-print.field-0.0 in
    let is : c.as_bytes.result.now ≡ text_of c.args.txn.now = c.as_bytes.ensures.value ∙ c.as_str.ensures.text ∙ c.txn_text.ensures in
    let part = subst (λ (t : List ℕ). Prints old new t before now (Err e)) is c.in_err-print.ensures.printed in
    let line = printed_less old new (text_of c.args.txn.now) (codes "\n") before now (Err e) refl part in
    record { printed = passed_on old new (text_of c.args.txn.now ++ codes "\n") before now (Err e) c.from_residual.result refl c.from_residual.ensures.0 line }

pub returns : goal.returns
returns g c =
    let old = g.S.Sink.written c.args.sink.now in
    let mid = g.S.Sink.written c.print.new.sink in
    let new = g.S.Sink.written c.print-2.new.sink in
    let before = g.S.Sink.faults c.args.sink.now in
    let then_ = g.S.Sink.faults c.print.new.sink in
    let now = g.S.Sink.faults c.print-2.new.sink in
    let is : c.as_bytes.result.now ≡ text_of c.args.txn.now = c.as_bytes.ensures.value ∙ c.as_str.ensures.text ∙ c.txn_text.ensures in
    let first = subst (λ (t : List ℕ). Adds old mid t) is c.in_ok-print.ensures.printed.whole in
    record { printed = printed_more old mid new (text_of c.args.txn.now) (codes "\n") before then_ now c.print-2.result first c.in_ok-print.ensures.printed.later c.print-2.ensures.printed }
