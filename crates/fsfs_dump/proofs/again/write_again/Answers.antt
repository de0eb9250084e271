use Rattle.std.proofs.Common.{◌≤◌, ◌+◌, Ok, length, take, drop, refl, subst, arith, rules}
use Rattle.std.proofs.lemmas.List.{take_all, length-take}
use Rattle.std.proofs.lemmas.Result.{err_from_is_err_and}
use Rattle.fsfs_base.specs.Streams.{Adds}
use Rattle.fsfs_base.proofs.StreamLemmas.{adds_then}
use Rattle.fsfs_revision.specs.Rep.Frames.{text_of, rev_of}
use Rattle.fsfs_revision.proofs.Keeping.{keeps_trans}
use Rattle.fsfs_revision.proofs.WholeLemmas.{bytes_more}
use Rattle.fsfs_look.proofs.FileLemmas.{whole_fails, front_of, front_more}
use Rattle.fsfs_dump.proofs.again.write_again.Goals as goal

pub returns-in-Err-clause-told : goal.returns-in-Err-clause-told
returns-in-Err-clause-told g c = λ bytes e whole.
    let inv = c.pieces.invariant in
    let rep = c.args.rep.now in
    let fault = c.in-Err.ensures.told bytes (inv.kept.revs (rev_of rep) (Ok bytes) e) whole in
    rw c.from.ensures
    (whole_fails rep bytes whole (g.S.Sink.written c.args.sink.now) (g.S.Sink.written c.pieces.sink) c.in-Err.error fault
    (front_of (text_of rep bytes) c.pieces.done (g.S.Sink.written c.args.sink.now) (g.S.Sink.written c.pieces.sink) (inv.read bytes e whole)))

pub returns-in_err-write_piece-clause-told : goal.returns-in_err-write_piece-clause-told
returns-in_err-write_piece-clause-told g c = λ bytes e whole.
    let inv = c.pieces.invariant in
    let rep = c.args.rep.now in
    let piece = c.in-Ok.ensures.told bytes (inv.kept.revs (rev_of rep) (Ok bytes) e) whole in
    let p = err_from_is_err_and c.from_residual.result c.from_residual.ensures.1 in
    rw (p.1, p.2, c.in_err-write_piece.ensures.failed)
    (front_more (text_of rep bytes) (take c.in-Ok.count c.read_piece.new.piece) c.pieces.done c.in-Ok.count (g.S.Sink.written c.args.sink.now) (g.S.Sink.written c.pieces.sink) (g.S.Sink.written c.write_piece.new.sink)
    (inv.read bytes e whole) piece c.in_err-write_piece.ensures.part)

pub pieces-preserved : goal.pieces-preserved
pieces-preserved g c =
    let inv = c.pieces.invariant in
    let rep = c.args.rep.now in
    record {
      within = omega (arith, c.in-Ok.ensures.count);
      room = search rules;
      read = λ bytes e whole.
          let next = c.in-Ok.ensures.told bytes (inv.kept.revs (rev_of rep) (Ok bytes) e) whole in
          let text = text_of rep bytes in
          subst (λ t. Adds (g.S.Sink.written c.args.sink.now) (g.S.Sink.written c.write_piece.new.sink) t) (bytes_more rep rep bytes (take c.pieces.done text) c.read_piece.new.piece c.pieces.done c.in-Ok.count (c.pieces.done + c.in-Ok.count) refl refl refl next)
          (adds_then (g.S.Sink.written c.args.sink.now) (g.S.Sink.written c.pieces.sink) (g.S.Sink.written c.write_piece.new.sink) (take c.pieces.done text) (take c.in-Ok.count c.read_piece.new.piece) (inv.read bytes e whole) c.in_ok-write_piece.ensures.added);
      kept = keeps_trans _ _ _ inv.kept c.in-Ok.ensures.kept;
      later = omega (arith, inv.later, c.in-Ok.ensures.cause.later);
      sink = omega (arith, inv.sink, c.in_ok-write_piece.ensures.sink.later);
    }

pub returns-clause-told : goal.returns-clause-told
returns-clause-told g c = λ bytes e whole.
    let inv = c.pieces.invariant in
    let rep = c.args.rep.now in
    let text = text_of rep bytes in
    let all : length text ≤ c.pieces.done = omega (arith, c.pieces-test.false, length-take rep.length (drop (rep.offset + 6) bytes)) in
    (text, (refl, refl), subst (λ t. Adds (g.S.Sink.written c.args.sink.now) (g.S.Sink.written c.pieces.sink) t) (take_all c.pieces.done text all) (inv.read bytes e whole))

pub returns-in_err-write_piece-clause-kept : goal.returns-in_err-write_piece-clause-kept
returns-in_err-write_piece-clause-kept g c = keeps_trans _ _ _ c.pieces.invariant.kept c.in-Ok.ensures.kept
