use Rattle.std.proofs.Common.{◌∙◌, ◌++◌, ◌+◌, List, ℕ, refl, sym, ap, subst, map, take, drop, arith}
use Rattle.std.specs.Prelude.{codes, Err, slice_index_or}
use Rattle.fsfs_base.specs.declared.fields.txn_name.TxnName.{TxnName}
use Rattle.fsfs_base.specs.Streams.{Adds}
use Rattle.fsfs_base.specs.Output.{Prints}
use Rattle.fsfs_base.proofs.StreamLemmas.{adds_then}
use Rattle.fsfs_base.proofs.OutputLemmas.{printed_more, printed_less, passed_on}
use Rattle.fsfs_disk.specs.Transactions.Txns.{text_of}
use Rattle.fsfs_top.specs.TxnAnswers.{names_text}
use Rattle.fsfs_top.proofs.NameLines.{lines_more, lines_around}
use Rattle.fsfs_top.proofs.output.print_txns.Goals as goal

pub returns-in_err-print_txn : goal.returns-in_err-print_txn
returns-in_err-print_txn g c =
    let txns = c.args.txns.now in
    let i = c.loop-txn.txn-index in
    let txn = c.txn-item.result in
    let old = g.S.Sink.written c.args.sink.now in
    let mid = g.S.Sink.written c.loop-txn.sink in
    let new = g.S.Sink.written c.print_txn.new.sink in
    let before = g.S.Sink.faults c.args.sink.now in
    let then_ = g.S.Sink.faults c.loop-txn.sink in
    let now = g.S.Sink.faults c.print_txn.new.sink in
    let e = c.in_err-print_txn.field-0.0 in
    let front = names_text (map text_of (take i txns)) in
    let behind = names_text (map text_of (drop (i + 1) txns)) in
    let piece = subst (λ (t : TxnName). Prints mid new (text_of t ++ codes "\n") then_ now (Err e)) c.txn-item.is c.in_err-print_txn.ensures.printed in
    let more = printed_more old mid new front (text_of (slice_index_or txns i txn) ++ codes "\n") before then_ now (Err e) c.loop-txn.invariant.written c.loop-txn.invariant.later piece in
    let less = printed_less old new (front ++ (text_of (slice_index_or txns i txn) ++ codes "\n")) behind before now (Err e) refl more in
    let line = subst (λ (t : List ℕ). Prints old new t before now (Err e)) (lines_around txns i txn (omega arith)) less in
    record { printed = passed_on old new (names_text (map text_of txns)) before now (Err e) c.from_residual.result refl c.from_residual.ensures.0 line }

pub loop-txn-preserved : goal.loop-txn-preserved
loop-txn-preserved g c =
    let txns = c.args.txns.now in
    let i = c.loop-txn.txn-index in
    let txn = c.txn-item.result in
    let old = g.S.Sink.written c.args.sink.now in
    let mid = g.S.Sink.written c.loop-txn.sink in
    let new = g.S.Sink.written c.print_txn.new.sink in
    let front = names_text (map text_of (take i txns)) in
    let both = adds_then old mid new front (text_of txn ++ codes "\n") c.loop-txn.invariant.written c.in_ok-print_txn.ensures.printed.whole in
    let text = ap (λ (t : TxnName). front ++ (text_of t ++ codes "\n")) c.txn-item.is ∙ sym (lines_more txns i txn (omega arith)) in
    record {
      written = subst (λ (t : List ℕ). Adds old new t) text both;
      later = omega (arith, c.loop-txn.invariant.later, c.in_ok-print_txn.ensures.printed.later);
    }
