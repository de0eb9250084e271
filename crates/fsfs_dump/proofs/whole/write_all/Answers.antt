use Rattle.std.proofs.Common.{suc, [], ◌++◌, refl, inr}
use Rattle.std.proofs.lemmas.Result.{err_from_is_err_and}
use Rattle.fsfs_stands.specs.Texts.{Stopped}
use Rattle.fsfs_stands.specs.FileTexts.{IsWholeText}
use Rattle.fsfs_dump.specs.Records.{dump_head}
use Rattle.fsfs_dump.specs.Texts.{RevisionsText, DumpText}
use Rattle.fsfs_dump.proofs.WalkLemmas.{walks_then, walks_put, walks_starved}
use Rattle.fsfs_dump.proofs.Stops.{revisions_stop}
use Rattle.fsfs_dump.proofs.whole.write_all.Goals as goal

pub returns-in_err-put_front-clause-told : goal.returns-in_err-put_front-clause-told
returns-in_err-put_front-clause-told g c = λ look knows.
    let e = err_from_is_err_and c.from_residual.result c.from_residual.ensures.1 in
    let may = g.B.RevProps.may_read c.args.book.now in
    let head = dump_head c.args.uuid.now in
    rw (e.1, e.2)
    (walks_starved (DumpText look may c.args.uuid.now c.args.youngest) c.args.lines.now.items c.put_front.new.lines.items (head ++ []) Stopped (g.S.Sink.written c.args.sink.now)
    (inr (head, [], (refl, refl), revisions_stop look may 0 (suc c.args.youngest), refl)))

pub returns-clause-told : goal.returns-clause-told
returns-clause-told g c = λ look knows.
    let may = g.B.RevProps.may_read c.args.book.now in
    let head = dump_head c.args.uuid.now in
    let old = g.S.Sink.written c.args.sink.now in
    let new = g.S.Sink.written c.write_revisions.new.sink in
    let before = c.args.lines.now.items in
    let middle = c.put_front.new.lines.items in
    let now = c.write_revisions.new.lines.items in
    let first = walks_put head before middle old tt c.in_ok-put_front.ensures in
    walks_then (IsWholeText head) (RevisionsText look may 0 (suc c.args.youngest)) before middle now old old new tt c.write_revisions.result first (c.write_revisions.ensures.told look knows)
