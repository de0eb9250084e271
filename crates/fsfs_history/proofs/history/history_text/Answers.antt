use Rattle.std.proofs.Common.{List, ℕ}
use Rattle.std.proofs.lemmas.Result.{err_from_is_err_and}
use Rattle.fsfs_revision.proofs.Keeping.{keeps_trans}
use Rattle.fsfs_stands.specs.Texts.{End}
use Rattle.fsfs_stands.specs.HistoryTexts.{HistoryText}
use Rattle.fsfs_history.specs.Points.{point_value, HistoryFrom}
use Rattle.fsfs_look.proofs.NodeTexts.{ends_written, writes_as}
use Rattle.fsfs_history.proofs.HistoryTexts.{history_at, none_found}
use Rattle.fsfs_history.proofs.history.history_text.Goals as goal

pub returns-in_err-at-clause-told : goal.returns-in_err-at-clause-told
returns-in_err-at-clause-told g c = λ look knows.
    let e = err_from_is_err_and c.from_residual.result c.from_residual.ensures.1 in
    rw (e.1, e.2) (none_found look c.args.rev c.args.path.now (g.S.Sink.written c.args.sink.now) c.in_err-at.field-0.0 (c.in_err-at.ensures.told look knows))

pub returns-in_err-at-clause-sink : goal.returns-in_err-at-clause-sink
returns-in_err-at-clause-sink g c =
    let e = err_from_is_err_and c.from_residual.result c.from_residual.ensures.1 in
    let q = c.in_err-at.ensures.quiet (g.S.Sink.faults c.args.sink.now) in
    rw (e.1, e.2) (record { later = q.later; failed = q.failed })

pub returns-clause-kept : goal.returns-clause-kept
returns-clause-kept g c = keeps_trans _ _ _ c.in_ok-at.ensures.kept c.write_history-walked.ensures.kept

pub returns-clause-told : goal.returns-clause-told
returns-clause-told g c = λ look knows.
    let at = c.in_ok-at.at in
    let R : List ℕ → End → Type 0 = HistoryFrom look (point_value at) in
    let walks = c.write_history-walked.ensures.told c.args.rev look (λ r lower. c.in_ok-at.ensures.kept.revs r (look r) (knows r lower)) c.in_ok-at.ensures.within in
    writes_as R (HistoryText look c.args.rev c.args.path.now) (g.S.Sink.written c.args.sink.now) (g.S.Sink.written c.write_last.new.sink) c.write_last.result
    (history_at look at c.args.rev c.args.path.now (c.in_ok-at.ensures.told look knows))
    (ends_written R c.write_history-walked.new.lines.items (g.S.Sink.written c.args.sink.now) (g.S.Sink.written c.write_history-walked.new.sink) (g.S.Sink.written c.write_last.new.sink) c.write_history-walked.result c.write_last.result walks c.write_last.ensures.ends)
