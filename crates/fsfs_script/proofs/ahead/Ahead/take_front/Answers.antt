use Rattle.std.proofs.Common.{sym}
use Rattle.std.proofs.lemmas.Result.{err_from_is_err_and}
use Rattle.fsfs_script.proofs.FrontLemmas.{stops_in_line, stops_at_end, end_within, grows_line, ends_line}
use Rattle.fsfs_script.proofs.ahead.Ahead.take_front.Goals as goal

pub returns-in_err-grow-in-None-clause-refused : goal.returns-in_err-grow-in-None-clause-refused
returns-in_err-grow-in-None-clause-refused c =
    let p = err_from_is_err_and c.from_residual.result c.from_residual.ensures.1 in
    rw (p.1, p.2) (stops_in_line c.args.line.now.items c.as_slice-bytes.result.now c.args.self.now c.in_err-grow-in-None.field-0.0 c.as_slice-bytes.ensures (sym c.in-None.ensures) c.in_err-grow-in-None.ensures.err)

pub returns-in_err-grow-in-Some-clause-refused : goal.returns-in_err-grow-in-Some-clause-refused
returns-in_err-grow-in-Some-clause-refused c =
    let p = err_from_is_err_and c.from_residual-in_err-grow-in-Some.result c.from_residual-in_err-grow-in-Some.ensures.1 in
    rw (p.1, p.2) (stops_at_end c.args.line.now.items c.as_slice-bytes.result.now c.in-Some.end.now c.in-Some.field-0-1.now c.args.self.now c.in_err-grow-in-Some.field-0.0 c.as_slice-bytes.ensures (sym c.in-Some.ensures) c.in_err-grow-in-Some.ensures.err)

pub pass-requires-in-Some : goal.pass-requires-in-Some
pass-requires-in-Some c = end_within c.as_slice-bytes.result.now c.in-Some.end.now c.in-Some.field-0-1.now c.args.self.now.bytes c.as_slice-bytes.ensures (sym c.in-Some.ensures)

pub returns-in_ok-pass-in-None-clause-taken : goal.returns-in_ok-pass-in-None-clause-taken
returns-in_ok-pass-in-None-clause-taken c = grows_line c.args.line.now.items c.grow.new.line.items c.as_slice-bytes.result.now c.args.self.now c.pass.new.self c.as_slice-bytes.ensures (sym c.in-None.ensures) c.in_ok-grow-in-None.ensures.ok c.in_ok-pass-in-None.ensures

pub returns-in_ok-pass-in-Some-clause-taken : goal.returns-in_ok-pass-in-Some-clause-taken
returns-in_ok-pass-in-Some-clause-taken c = ends_line c.args.line.now.items c.grow-in-Some.new.line.items c.as_slice-bytes.result.now c.in-Some.end.now c.in-Some.field-0-1.now c.args.self.now c.pass-in-Some.new.self c.as_slice-bytes.ensures (sym c.in-Some.ensures) c.in_ok-grow-in-Some.ensures.ok c.in_ok-pass-in-Some.ensures
