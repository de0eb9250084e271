use Rattle.std.proofs.Common.{ℕ, List, refl, subst, arith}
use Rattle.std.proofs.lemmas.Result.{err_from_is_err_and}
use Rattle.fsfs_base.specs.Output.{AddsFront}
use Rattle.fsfs_base.specs.Streams.{Adds}
use Rattle.fsfs_commit.specs.FinalRev.Rooms.{IsWithinRoom}
use Rattle.fsfs_commit.specs.FinalRev.Texts.{IsFinalText, HasPathPast}
use Rattle.fsfs_commit.proofs.Refusals.{none_written, only_past, sink_never, unwritten_still}
use Rattle.fsfs_commit.proofs.final_rev.writing.final_bytes.Goals as goal

pub returns-in_err-text-clause-written : goal.returns-in_err-text-clause-written
returns-in_err-text-clause-written g c = λ look trees top tree marks is.
    let r = err_from_is_err_and c.from_residual.result c.from_residual.ensures.1 in
    let Final = (λ (text : List ℕ). IsFinalText look trees top (g.N.Own.folder c.args.own.now).proto tree marks c.args.items.now text × IsWithinRoom is.draft.shows.own c.args.items.now text) in
    rw (r.1, r.2) (none_written Final (g.S.Sink.written c.args.sink.now) (HasPathPast (g.N.Own.folder c.args.own.now) c.args.items.now) c.in_err-text.field-0.0 (c.in_err-text.ensures.whole look trees top tree marks is))

pub returns-in_err-print-clause-written : goal.returns-in_err-print-clause-written
returns-in_err-print-clause-written g c = λ look trees top tree marks is.
    let r = err_from_is_err_and c.from_residual-in_err-print.result c.from_residual-in_err-print.ensures.1 in
    let front = subst (λ (t : List ℕ). AddsFront (g.S.Sink.written c.args.sink.now) (g.S.Sink.written c.print.new.sink) t) c.as_slice.ensures.value c.in_err-print.ensures.printed.part in
    rw (r.1, r.2) (c.in_ok-text.text.items, (c.in_ok-text.ensures.next look trees top tree marks is, c.in_ok-text.ensures.room look trees top tree marks is), front)

pub returns-clause-written : goal.returns-clause-written
returns-clause-written g c = λ look trees top tree marks is.
    let whole = subst (λ (t : List ℕ). Adds (g.S.Sink.written c.args.sink.now) (g.S.Sink.written c.print.new.sink) t) c.as_slice.ensures.value c.in_ok-print.ensures.printed.whole in
    (c.in_ok-text.text.items, (c.in_ok-text.ensures.next look trees top tree marks is, c.in_ok-text.ensures.room look trees top tree marks is), whole)

pub returns-in_err-text-clause-unwritten : goal.returns-in_err-text-clause-unwritten
returns-in_err-text-clause-unwritten g c =
    let r = err_from_is_err_and c.from_residual.result c.from_residual.ensures.1 in
    rw (r.1, r.2) (unwritten_still c.in_err-text.field-0.0 _ refl)

pub returns-in_err-text-clause-cause : goal.returns-in_err-text-clause-cause
returns-in_err-text-clause-cause g c =
    let r = err_from_is_err_and c.from_residual.result c.from_residual.ensures.1 in
    record { later = omega arith; failed = rw (r.1, r.2) (sink_never (HasPathPast (g.N.Own.folder c.args.own.now) c.args.items.now) c.in_err-text.field-0.0 _ c.in_err-text.ensures.refused) }

pub returns-in_err-text-clause-limit : goal.returns-in_err-text-clause-limit
returns-in_err-text-clause-limit g c =
    let r = err_from_is_err_and c.from_residual.result c.from_residual.ensures.1 in
    rw (r.1, r.2) (only_past (HasPathPast (g.N.Own.folder c.args.own.now) c.args.items.now) c.in_err-text.field-0.0 c.in_err-text.ensures.refused)
