use Rattle.std.proofs.Common.{◌++◌, ap, ◌∙◌}
use Rattle.std.proofs.lemmas.Result.{err_from_is_err_and}
use Rattle.fsfs_tree.specs.HistoryTexts.{history_head}
use Rattle.fsfs_stands.specs.HistoryTexts.{line_of}
use Rattle.fsfs_history.specs.Points.{point_value}
use Rattle.fsfs_history.proofs.HistoryTexts.{none_yet, history_goes}
use Rattle.fsfs_history.proofs.history.write_history.Goals as goal

pub returns-clause-told : goal.returns-clause-told
returns-clause-told g c = λ top look knows w.
    let is = c.in_ok-put_point.ensures ∙ ap (λ t. t ++ line_of (point_value c.args.at)) (c.in_ok-extend_from_slice.ensures.items ∙ ap (λ t. t ++ history_head) c.requires.lines) in
    history_goes look c.args.at c.put_point.new.lines.items is c.write_behind.new.lines.items (g.S.Sink.written c.args.sink.now) (g.S.Sink.written c.write_behind.new.sink) c.write_behind.result (c.write_behind.ensures.told top look knows w)

pub returns-in_err-extend_from_slice-clause-told : goal.returns-in_err-extend_from_slice-clause-told
returns-in_err-extend_from_slice-clause-told g c = λ top look knows w.
    let e = err_from_is_err_and c.from_residual.result c.from_residual.ensures.1 in
    rw (e.1, e.2) (none_yet look c.args.at c.extend_from_slice.new.self.items (g.S.Sink.written c.args.sink.now))

pub returns-in_err-put_point-clause-told : goal.returns-in_err-put_point-clause-told
returns-in_err-put_point-clause-told g c = λ top look knows w.
    let e = err_from_is_err_and c.from_residual-in_err-put_point.result c.from_residual-in_err-put_point.ensures.1 in
    rw (e.1, e.2) (none_yet look c.args.at c.put_point.new.lines.items (g.S.Sink.written c.args.sink.now))
