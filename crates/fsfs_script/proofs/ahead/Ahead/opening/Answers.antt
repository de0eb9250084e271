use Rattle.std.proofs.Common.{◌≡◌, ℕ, List, Ok, subst}
use Rattle.std.proofs.lemmas.Result.{err_from_is_err_and}
use Rattle.std.specs.declared.vec.Vec.{Vec}
use Rattle.std.specs.declared.alloc.Global.{Global}
use Rattle.fsfs_script.specs.JobLines.Judging.{Fails}
use Rattle.fsfs_script.specs.JobLines.Lines.{opening_line_at}
use Rattle.fsfs_script.specs.declared.job_lines.lines.OpeningLine.{OpeningLine}
use Rattle.fsfs_script.specs.Places.{place_of}
use Rattle.fsfs_script.proofs.ReadLemmas.{judged, judged_bad, judged_stop}
use Rattle.fsfs_script.proofs.ahead.Ahead.opening.Goals as goal

abbrev items : Vec ℕ Global → List ℕ
items v = v.items

abbrev same : OpeningLine → OpeningLine
same x = x

pub returns-in_err-line-clause-given : goal.returns-in_err-line-clause-given
returns-in_err-line-clause-given g c =
    let p = err_from_is_err_and c.from_residual.result c.from_residual.ensures.1 in
    rw (p.1, p.2) (judged_stop items same (opening_line_at c.args.is_full) (place_of (g.S.Source.remaining c.args.source.now) c.args.self.now) (place_of (g.S.Source.remaining c.take_line.new.source) c.take_line.new.self) _ _ c.in_err-line.ensures.given)

pub returns-in_err-opening-clause-given : goal.returns-in_err-opening-clause-given
returns-in_err-opening-clause-given g c =
    let p = err_from_is_err_and c.from_residual-in_err-opening.result c.from_residual-in_err-opening.ensures.1 in
    rw (p.1, p.2) (judged_bad items same (opening_line_at c.args.is_full) (place_of (g.S.Source.remaining c.args.source.now) c.args.self.now) (place_of (g.S.Source.remaining c.take_line.new.source) c.take_line.new.self) _ c.in_ok-line.line _ c.in_ok-line.ensures.given (subst (λ (t : List ℕ). Fails c.in_err-opening.field-0.0 ((opening_line_at c.args.is_full) t)) c.deref.ensures.value c.in_err-opening.ensures))

pub returns-clause-given : goal.returns-clause-given
returns-clause-given g c = judged items (opening_line_at c.args.is_full) (place_of (g.S.Source.remaining c.args.source.now) c.args.self.now) (place_of (g.S.Source.remaining c.take_line.new.source) c.take_line.new.self) c.in_ok-line.line c.in_ok-opening.opening c.in_ok-line.ensures.given (subst (λ (t : List ℕ). (opening_line_at c.args.is_full) t ≡ Ok c.in_ok-opening.opening) c.deref.ensures.value c.in_ok-opening.ensures)
