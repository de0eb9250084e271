use Rattle.std.specs.Prelude.{codes}
use Rattle.std.proofs.lemmas.Result.{err_from_is_err_and}
use Rattle.fsfs_look.proofs.LookLemmas.{front_first, second_part}
use Rattle.fsfs_look.proofs.revprops.lines.write_line.Goals as goal

pub returns-in_err-write_piece-clause-part : goal.returns-in_err-write_piece-clause-part
returns-in_err-write_piece-clause-part g c =
    let e = err_from_is_err_and c.from_residual.result c.from_residual.ensures.1 in
    rw e.1 (front_first (g.S.Sink.written c.args.sink.now) (g.S.Sink.written c.write_piece.new.sink) c.args.text.now (codes "\n") c.in_err-write_piece.ensures.part)

pub returns-clause-part : goal.returns-clause-part
returns-clause-part g c =
    second_part (g.S.Sink.written c.args.sink.now) (g.S.Sink.written c.write_piece.new.sink) (g.S.Sink.written c.write_piece-2.new.sink) c.args.text.now (codes "\n") c.in_ok-write_piece.ensures.added c.write_piece-2.result c.write_piece-2.ensures.part
