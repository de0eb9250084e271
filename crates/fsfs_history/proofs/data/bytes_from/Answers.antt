use Rattle.std.proofs.Common.{◌≡◌, ◌<◌, ◌+◌, ◌^◌, ℕ, List, length, take, Result, Ok, Err, Some, refl, sym, subst, ap, ◌∙◌, arith}
use Rattle.std.specs.declared.vec.Vec.{Vec}
use Rattle.std.specs.declared.alloc.Global.{Global}
use Rattle.std.proofs.lemmas.Result.{err_from_is_err_and}
use Rattle.std.proofs.lemmas.Grind.{common_steps}
use Rattle.fsfs_revision.specs.Damage.Damages.{place_of}
use Rattle.fsfs_revision.specs.declared.wrong.Refusal.{Refusal}
use Rattle.fsfs_revision.proofs.Keeping.{keeps_refl, keeps_trans}
use Rattle.fsfs_dag.proofs.Steps.{told_later}
use Rattle.fsfs_dag.proofs.Windows.{window_read}
use Rattle.fsfs_history.specs.Ends.{RestOf}
use Rattle.fsfs_history.proofs.EndLemmas.{rest_stops, rest_further, rest_whole, none_yet}
use Rattle.fsfs_history.proofs.data.bytes_from.Goals as goal

abbrev items : Vec ℕ Global → List ℕ
items v = v.items

pub loop-init : goal.loop-init
loop-init g c = record {
  so_far = λ look told. none_yet look c.args.rev c.args.from c.new-bytes.result.items c.new-bytes.ensures.items;
  kept = keeps_refl _;
  later = omega arith;
  room = refl;
}

pub returns-in_err-count-clause-told : goal.returns-in_err-count-clause-told
returns-in_err-count-clause-told g c = λ look told.
    let p = err_from_is_err_and c.from_residual.result c.from_residual.ensures.1 in
    let later = told_later _ _ look c.args.rev c.loop.invariant.kept told in
    let e = c.in_err-count.field-0.0 in
    let at = place_of c.args.rev c.position.result in
    let ens = c.in_err-count.ensures in
    let read = window_read look at (length c.loop.piece) c.window.new.buffer (Err e) (λ bytes is. ens.bytes bytes (later ∙ ap (λ (r : Result (List ℕ) Refusal). Some r) is)) (λ why is. ens.refused why (later ∙ ap (λ (r : Result (List ℕ) Refusal). Some r) is)) in
    rw (p.1, p.2) (rest_stops (λ (n : ℕ). take n c.window.new.buffer) items look c.args.rev c.position.result (length c.loop.piece) c.args.from e read)

pub returns-in_err-count-clause-kept : goal.returns-in_err-count-clause-kept
returns-in_err-count-clause-kept g c = keeps_trans _ _ _ c.loop.invariant.kept c.in_err-count.ensures.kept

pub returns-in_err-extend_from_slice-clause-kept : goal.returns-in_err-extend_from_slice-clause-kept
returns-in_err-extend_from_slice-clause-kept g c = keeps_trans _ _ _ c.loop.invariant.kept c.in_ok-count.ensures.kept

pub returns-then-count-lt-PIECE-clause-told : goal.returns-then-count-lt-PIECE-clause-told
returns-then-count-lt-PIECE-clause-told g c = λ look told.
    let inv = c.loop.invariant in
    let later = told_later _ _ look c.args.rev inv.kept told in
    let at = place_of c.args.rev c.position.result in
    let ens = c.in_ok-count.ensures in
    let read = window_read look at (length c.loop.piece) c.window.new.buffer (Ok c.in_ok-count.count) (λ bytes is. ens.bytes bytes (later ∙ ap (λ (r : Result (List ℕ) Refusal). Some r) is)) (λ why is. ens.refused why (later ∙ ap (λ (r : Result (List ℕ) Refusal). Some r) is)) in
    let long : c.len.result ≡ length c.loop.bytes.items = grind (arith, common_steps) in
    let less : c.in_ok-count.count < length c.loop.piece = omega (arith, c.if-count-lt-PIECE.true, inv.room) in
    let whole = rest_whole look c.args.rev c.args.from c.loop.bytes.items c.loop.piece c.window.new.buffer c.position.result c.in_ok-count.count (inv.so_far look told)
    (λ bytes is. g.met.B.Book.fits c.args.book.now _ bytes (told ∙ ap (λ (r : Result (List ℕ) Refusal). Some r) is)) (λ lt. c.position.ensures (omega (arith, lt, long)) ∙ ap (λ (n : ℕ). c.args.from + n) long) read less in
    subst (λ (xs : List ℕ). RestOf look c.args.rev c.args.from (Ok xs)) (sym c.in_ok-extend_from_slice.ensures.items) whole

pub loop-preserved : goal.loop-preserved
loop-preserved g c =
    let inv = c.loop.invariant in
    let long : c.len.result ≡ length c.loop.bytes.items = grind (arith, common_steps) in
    record {
      so_far = λ look told bytes.
          let later = told_later _ _ look c.args.rev inv.kept told in
          let at = place_of c.args.rev c.position.result in
          let ens = c.in_ok-count.ensures in
          let read = window_read look at (length c.loop.piece) c.window.new.buffer (Ok c.in_ok-count.count) (λ bytes is. ens.bytes bytes (later ∙ ap (λ (r : Result (List ℕ) Refusal). Some r) is)) (λ why is. ens.refused why (later ∙ ap (λ (r : Result (List ℕ) Refusal). Some r) is)) in
          let further = rest_further look c.args.rev c.args.from c.loop.bytes.items c.loop.piece c.window.new.buffer c.position.result c.in_ok-count.count (inv.so_far look told)
          (λ bytes is. g.met.B.Book.fits c.args.book.now _ bytes (told ∙ ap (λ (r : Result (List ℕ) Refusal). Some r) is)) (λ lt. c.position.ensures (omega (arith, lt, long)) ∙ ap (λ (n : ℕ). c.args.from + n) long) read in
          rw c.in_ok-extend_from_slice.ensures.items (further bytes);
      kept = keeps_trans _ _ _ inv.kept c.in_ok-count.ensures.kept;
      later = omega (arith, inv.later, c.in_ok-count.ensures.cause.later);
      room = omega (arith, inv.room, c.window.auto.buffer);
    }
