use Rattle.std.proofs.Common.{◌≡◌, ◌∷◌, ◌++◌, ◌+◌, List, ℕ, refl, sym, ap, subst, ◌∙◌, map, take, drop, get_or, arith, Global}
use Rattle.std.specs.Prelude.{Err}
use Rattle.std.specs.String.{string_bytes}
use Rattle.fsfs_base.specs.Paths.{names_text, path_text}
use Rattle.fsfs_base.proofs.PathTextLemmas.{text_more, shown_names}
use Rattle.fsfs_base.specs.Streams.{Adds}
use Rattle.fsfs_base.proofs.StreamLemmas.{adds_then}
use Rattle.fsfs_base.specs.Output.{Prints}
use Rattle.fsfs_base.proofs.OutputLemmas.{printed_more, printed_less, passed_on}
use Rattle.fsfs_cli.proofs.FaultsPathLemmas.{text_around}
use Rattle.fsfs_cli.proofs.faults.output.print_path.Goals as goal

pub returns-in_err-print_name : goal.returns-in_err-print_name
returns-in_err-print_name g c =
    let text_of = string_bytes {Z = Global} in
    let names = c.names-name-items.result.now in
    let i = c.loop-name.name-index in
    let name = c.name-item.result in
    let old = g.S.Sink.written c.args.sink.now in
    let mid = g.S.Sink.written c.loop-name.sink in
    let new = g.S.Sink.written c.print_name.new.sink in
    let before = g.S.Sink.faults c.args.sink.now in
    let then_ = g.S.Sink.faults c.loop-name.sink in
    let now = g.S.Sink.faults c.print_name.new.sink in
    let e = c.in_err-print_name.field-0.0 in
    let front = names_text (map text_of (take i names)) in
    let behind = names_text (map text_of (drop (i + 1) names)) in
    let is : c.deref.result.now ≡ text_of (get_or names i name) = c.deref.ensures ∙ ap text_of c.name-item.is in
    let piece = subst (λ (t : List ℕ). Prints mid new (47 ∷ t) then_ now (Err e)) is c.in_err-print_name.ensures.printed in
    let more = printed_more old mid new front (47 ∷ text_of (get_or names i name)) before then_ now (Err e) c.loop-name.invariant.written c.loop-name.invariant.later piece in
    let less = printed_less old new (front ++ 47 ∷ text_of (get_or names i name)) behind before now (Err e) refl more in
    let whole = text_around text_of names i name (omega arith) ∙ ap names_text c.names-name-items.ensures ∙ shown_names c.args.path.now (sym c.is_root.ensures ∙ c.if-is_root.false) in
    let line = subst (λ (t : List ℕ). Prints old new t before now (Err e)) whole less in
    record { printed = passed_on old new (path_text c.args.path.now) before now (Err e) c.from_residual.result refl c.from_residual.ensures.0 line }

pub loop-name-preserved : goal.loop-name-preserved
loop-name-preserved g c =
    let text_of = string_bytes {Z = Global} in
    let names = c.names-name-items.result.now in
    let i = c.loop-name.name-index in
    let name = c.name-item.result in
    let old = g.S.Sink.written c.args.sink.now in
    let mid = g.S.Sink.written c.loop-name.sink in
    let new = g.S.Sink.written c.print_name.new.sink in
    let front = names_text (map text_of (take i names)) in
    let is : c.deref.result.now ≡ text_of (get_or names i name) = c.deref.ensures ∙ ap text_of c.name-item.is in
    let both = adds_then old mid new front (47 ∷ c.deref.result.now) c.loop-name.invariant.written c.in_ok-print_name.ensures.printed.whole in
    let text = ap (λ (t : List ℕ). front ++ 47 ∷ t) is ∙ sym (text_more text_of names i name (omega arith)) in
    record {
      written = subst (λ (t : List ℕ). Adds old new t) text both;
      later = omega (arith, c.loop-name.invariant.later, c.in_ok-print_name.ensures.printed.later);
    }
