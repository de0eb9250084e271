use Rattle.std.proofs.Common.{◌≡◌, ◌≤◌, ℕ, ◌+◌, ◌-◌, List, take, drop, length, sym, ap, subst, ◌∙◌, arith}
use Rattle.std.specs.Prelude.{Option}
use Rattle.std.proofs.Math.Seq.{take-add}
use Rattle.std.proofs.lemmas.List.{drop-drop, length-drop, take_all}
use Rattle.fsfs_base.specs.Failures.{Rose}
use Rattle.fsfs_base.specs.Streams.{Adds}
use Rattle.fsfs_base.proofs.StreamLemmas.{adds_then}
use Rattle.fsfs_base.proofs.OutputLemmas.{printed_front}
use Rattle.fsfs_base.proofs.output.print.Goals as goal

went_on : (old mid new : Option (List ℕ)) (text rest : List ℕ) (k n : ℕ) → rest ≡ drop k text → Adds old mid (take k text) → Adds mid new (take n rest)
    → (j : ℕ) × (drop n rest ≡ drop j text) × Adds old new (take j text)
went_on old mid new text rest k n is a b =
    (k + n, ap (drop n) is ∙ drop-drop n k text, subst (λ z. Adds old new z) (sym (take-add k n text)) (adds_then old mid new (take k text) (take n (drop k text)) a (subst (λ r. Adds mid new (take n r)) is b)))

pub loop-rest-preserved : goal.loop-rest-preserved
loop-rest-preserved g c =
    let so = c.loop-rest.invariant in
    let next = went_on (g.S.Sink.written c.args.sink.now) (g.S.Sink.written c.loop-rest.sink) (g.S.Sink.written c.write.new.self) c.args.text.now c.loop-rest.rest.now so.0 c.in_ok-count.count so.1 so.2 c.in_ok-count.ensures.added in
    let whole : take (length c.loop-rest.rest.now - c.in_ok-count.count) (drop c.in_ok-count.count c.loop-rest.rest.now) ≡ drop c.in_ok-count.count c.loop-rest.rest.now =
    take_all (length c.loop-rest.rest.now - c.in_ok-count.count) (drop c.in_ok-count.count c.loop-rest.rest.now) (omega (arith, length-drop c.in_ok-count.count c.loop-rest.rest.now)) in
    (next.0, whole ∙ next.1, next.2, omega (arith, so.3, c.in_ok-count.ensures.cause.later))

pub returns-in_err-count : goal.returns-in_err-count
returns-in_err-count g c =
    let so = c.loop-rest.invariant in
    let told = g.S.Sink.written in
    let later : g.S.Sink.faults c.args.sink.now ≤ g.S.Sink.faults c.write.new.self = omega (arith, so.3, c.in_err-count.ensures.cause.later) in
    let rose : Rose (g.S.Sink.faults c.args.sink.now) (g.S.Sink.faults c.write.new.self) = omega (arith, so.3, c.in_err-count.ensures.cause.failed) in
    let same : Adds (told c.args.sink.now) (told c.write.new.self) (take so.0 c.args.text.now) = subst (λ w. Adds (told c.args.sink.now) w (take so.0 c.args.text.now)) (sym c.in_err-count.ensures.err) so.2 in
    record { printed = printed_front (told c.args.sink.now) (told c.write.new.self) c.args.text.now so.0 (g.S.Sink.faults c.args.sink.now) (g.S.Sink.faults c.write.new.self) c.from_residual.result c.from_residual.ensures.0 same later rose }
