use Rattle.std.proofs.Common.{ℕ, List, subst}
use Rattle.fsfs_look.specs.Walks.{Walks}
use Rattle.fsfs_look.proofs.NodeTexts.{ends_written}
use Rattle.fsfs_dump.specs.Texts.{DumpText}
use Rattle.fsfs_dump.proofs.whole.dump.Goals as goal

pub returns-clause-told : goal.returns-clause-told
returns-clause-told g c = λ look knows.
    let R = DumpText look (g.B.RevProps.may_read c.args.book.now) c.args.uuid.now c.args.youngest in
    let old = g.S.Sink.written c.args.sink.now in
    let mid = g.S.Sink.written c.write_all-walked.new.sink in
    let new = g.S.Sink.written c.write_last.new.sink in
    let now = c.write_all-walked.new.lines.items in
    let walks = subst (λ (b : List ℕ). Walks R b now old mid c.write_all-walked.result) c.new-lines.ensures.items (c.write_all-walked.ensures.told look knows) in
    ends_written R now old mid new c.write_all-walked.result c.write_last.result walks c.write_last.ensures.ends
