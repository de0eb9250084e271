use Rattle.std.proofs.Common.{◌≡◌, ℕ, List, Ok, subst}
use Rattle.std.proofs.lemmas.Result.{err_from_is_err_and}
use Rattle.std.specs.declared.vec.Vec.{Vec}
use Rattle.std.specs.declared.alloc.Global.{Global}
use Rattle.fsfs_script.specs.JobLines.Judging.{Fails}
use Rattle.fsfs_script.specs.JobLines.Lines.{command_line_at}
use Rattle.fsfs_script.specs.declared.job_lines.lines.CommandLine.{CommandLine}
use Rattle.fsfs_script.specs.Places.{place_of}
use Rattle.fsfs_script.specs.Commands.{judged_at, rest_at}
use Rattle.fsfs_script.specs.declared.commands.Next.{Next}
use Rattle.fsfs_script.proofs.ReadLemmas.{reads_stop, reads_then, judged, judged_bad, judged_stop}
use Rattle.fsfs_script.proofs.ahead.Ahead.next.Goals as goal

abbrev items : Vec ℕ Global → List ℕ
items v = v.items

abbrev same : CommandLine → CommandLine
same x = x

abbrev last : Next → Next
last x = x

pub returns-in_err-line-clause-given : goal.returns-in_err-line-clause-given
returns-in_err-line-clause-given g c =
    let p = err_from_is_err_and c.from_residual.result c.from_residual.ensures.1 in
    rw (p.1, p.2) (reads_stop same last (judged_at (command_line_at c.args.stage)) (λ l. rest_at l.0 l.1) (place_of (g.S.Source.remaining c.args.source.now) c.args.self.now) (place_of (g.S.Source.remaining c.take_line.new.source) c.take_line.new.self) _ _ (judged_stop items same (command_line_at c.args.stage) (place_of (g.S.Source.remaining c.args.source.now) c.args.self.now) (place_of (g.S.Source.remaining c.take_line.new.source) c.take_line.new.self) (place_of (g.S.Source.remaining c.take_line.new.source) c.take_line.new.self) _ c.in_err-line.ensures.given))

pub returns-in_err-said-clause-given : goal.returns-in_err-said-clause-given
returns-in_err-said-clause-given g c =
    let p = err_from_is_err_and c.from_residual-in_err-said.result c.from_residual-in_err-said.ensures.1 in
    rw (p.1, p.2) (reads_stop same last (judged_at (command_line_at c.args.stage)) (λ l. rest_at l.0 l.1) (place_of (g.S.Source.remaining c.args.source.now) c.args.self.now) (place_of (g.S.Source.remaining c.take_line.new.source) c.take_line.new.self) _ _
    (judged_bad items same (command_line_at c.args.stage) (place_of (g.S.Source.remaining c.args.source.now) c.args.self.now) (place_of (g.S.Source.remaining c.take_line.new.source) c.take_line.new.self) (place_of (g.S.Source.remaining c.take_line.new.source) c.take_line.new.self) c.in_ok-line.line _ c.in_ok-line.ensures.given (subst (λ (t : List ℕ). Fails c.in_err-said.field-0.0 ((command_line_at c.args.stage) t)) c.deref.ensures.value c.in_err-said.ensures)))

pub returns-clause-given : goal.returns-clause-given
returns-clause-given g c =
    reads_then same last (judged_at (command_line_at c.args.stage)) (λ l. rest_at l.0 l.1) (place_of (g.S.Source.remaining c.args.source.now) c.args.self.now) (place_of (g.S.Source.remaining c.take_line.new.source) c.take_line.new.self) (place_of (g.S.Source.remaining c.rest.new.source) c.rest.new.self) c.in_ok-said.said c.rest.result
    (judged items (command_line_at c.args.stage) (place_of (g.S.Source.remaining c.args.source.now) c.args.self.now) (place_of (g.S.Source.remaining c.take_line.new.source) c.take_line.new.self) c.in_ok-line.line c.in_ok-said.said c.in_ok-line.ensures.given (subst (λ (t : List ℕ). (command_line_at c.args.stage) t ≡ Ok c.in_ok-said.said) c.deref.ensures.value c.in_ok-said.ensures)) c.rest.ensures.given
