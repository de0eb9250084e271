use Rattle.std.proofs.Common.{ℕ, List}
use Rattle.std.specs.Prelude.{Result}
use Rattle.std.proofs.lemmas.Result.{err_from_is_err_and}
use Rattle.std.specs.declared.vec.Vec.{Vec}
use Rattle.std.specs.declared.alloc.Global.{Global}
use Rattle.fsfs_tree.specs.Dated.{date_name}
use Rattle.fsfs_revision.specs.declared.wrong.Wrong.{Wrong}
use Rattle.fsfs_look.specs.Revprops.Files.{Pairs}
use Rattle.fsfs_look.specs.Revprops.Texts.{value_of, DateLine}
use Rattle.fsfs_look.proofs.LookLemmas.{no_props, no_line, props_written}
use Rattle.fsfs_look.proofs.revprops.looks.date.Goals as goal

abbrev Line : ℕ → Pairs → Result (List ℕ) Wrong → Type 0
Line rev pairs = DateLine rev (value_of pairs date_name)

pub returns-in_err-pairs-clause-read : goal.returns-in_err-pairs-clause-read
returns-in_err-pairs-clause-read g c =
    let e = err_from_is_err_and c.from_residual.result c.from_residual.ensures.1 in
    rw (e.1, e.2) (no_props (Line c.args.rev) (g.B.RevProps.may_read c.args.book.now) c.args.rev (g.S.Sink.written c.args.sink.now) c.in_err-pairs.field-0.0 c.in_err-pairs.ensures.read)

pub returns-in_err-line-clause-read : goal.returns-in_err-line-clause-read
returns-in_err-line-clause-read g c =
    let e = err_from_is_err_and c.from_residual-in_err-line.result c.from_residual-in_err-line.ensures.1 in
    rw (e.1, e.2) (no_line (Line c.args.rev) (g.B.RevProps.may_read c.args.book.now) c.args.rev c.in_ok-pairs.pairs c.in_ok-pairs.ensures.read (λ (v : Vec ℕ Global). v.items) (g.S.Sink.written c.args.sink.now) c.in_err-line.field-0.0 c.in_err-line.ensures.told)

pub returns-clause-read : goal.returns-clause-read
returns-clause-read g c =
    props_written (Line c.args.rev) (g.B.RevProps.may_read c.args.book.now) c.args.rev c.in_ok-pairs.pairs c.in_ok-pairs.ensures.read c.in_ok-line.line.items c.deref.result.now (g.S.Sink.written c.args.sink.now) (g.S.Sink.written c.write_piece.new.sink) c.write_piece.result
    c.in_ok-line.ensures.told c.deref.ensures.value c.write_piece.ensures.added c.write_piece.ensures.part c.write_piece.ensures.failed
