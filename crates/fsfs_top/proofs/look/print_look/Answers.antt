use Rattle.std.proofs.Common.{sym, subst, arith}
use Rattle.fsfs_look.specs.Written.{Writes}
use Rattle.fsfs_look.proofs.LookLemmas.{author_only, date_only, log_only, info_only}
use Rattle.fsfs_top.specs.Looks.{TextOf}
use Rattle.fsfs_cli.specs.declared.request.Printed.{Printed}
use Rattle.fsfs_top.proofs.look.print_look.Goals as goal

pub returns-in-Tree-clause-told : goal.returns-in-Tree-clause-told
returns-in-Tree-clause-told g c = λ bytes knows.
    subst (λ (p : Printed). Writes (TextOf p bytes c.args.rev) (g.O.Sink.written c.args.out.now) (g.O.Sink.written c.tree_text.new.sink) c.tree_text.result) (sym c.in-Tree.is)
    (c.tree_text.ensures.told bytes.revs knows.0)

pub returns-in-Text-clause-told : goal.returns-in-Text-clause-told
returns-in-Text-clause-told g c = λ bytes knows.
    subst (λ (p : Printed). Writes (TextOf p bytes c.args.rev) (g.O.Sink.written c.args.out.now) (g.O.Sink.written c.cat.new.sink) c.cat.result) (sym c.in-Text.is)
    (c.cat.ensures.told bytes.revs knows.0)

pub returns-in-Author-clause-told : goal.returns-in-Author-clause-told
returns-in-Author-clause-told g c = λ bytes knows.
    subst (λ (p : Printed). Writes (TextOf p bytes c.args.rev) (g.O.Sink.written c.args.out.now) (g.O.Sink.written c.author.new.sink) c.author.result) (sym c.in-Author.is)
    (author_only (g.B.RevProps.may_read c.args.book.now) bytes.props c.args.rev (knows.1 c.args.rev (omega arith)) (g.O.Sink.written c.args.out.now) (g.O.Sink.written c.author.new.sink) c.author.result c.author.ensures.read)

pub returns-in-Date-clause-told : goal.returns-in-Date-clause-told
returns-in-Date-clause-told g c = λ bytes knows.
    subst (λ (p : Printed). Writes (TextOf p bytes c.args.rev) (g.O.Sink.written c.args.out.now) (g.O.Sink.written c.date.new.sink) c.date.result) (sym c.in-Date.is)
    (date_only (g.B.RevProps.may_read c.args.book.now) bytes.props c.args.rev (knows.1 c.args.rev (omega arith)) (g.O.Sink.written c.args.out.now) (g.O.Sink.written c.date.new.sink) c.date.result c.date.ensures.read)

pub returns-in-Log-clause-told : goal.returns-in-Log-clause-told
returns-in-Log-clause-told g c = λ bytes knows.
    subst (λ (p : Printed). Writes (TextOf p bytes c.args.rev) (g.O.Sink.written c.args.out.now) (g.O.Sink.written c.log.new.sink) c.log.result) (sym c.in-Log.is)
    (log_only (g.B.RevProps.may_read c.args.book.now) bytes.props c.args.rev (knows.1 c.args.rev (omega arith)) (g.O.Sink.written c.args.out.now) (g.O.Sink.written c.log.new.sink) c.log.result c.log.ensures.read)

pub returns-in-Info-clause-told : goal.returns-in-Info-clause-told
returns-in-Info-clause-told g c = λ bytes knows.
    subst (λ (p : Printed). Writes (TextOf p bytes c.args.rev) (g.O.Sink.written c.args.out.now) (g.O.Sink.written c.info.new.sink) c.info.result) (sym c.in-Info.is)
    (info_only (g.B.RevProps.may_read c.args.book.now) bytes.props c.args.rev (knows.1 c.args.rev (omega arith)) (g.O.Sink.written c.args.out.now) (g.O.Sink.written c.info.new.sink) c.info.result c.info.ensures.read)

pub returns-in-Changed-clause-told : goal.returns-in-Changed-clause-told
returns-in-Changed-clause-told g c = λ bytes knows.
    subst (λ (p : Printed). Writes (TextOf p bytes c.args.rev) (g.O.Sink.written c.args.out.now) (g.O.Sink.written c.changed_text.new.sink) c.changed_text.result) (sym c.in-Changed.is)
    (c.changed_text.ensures.told bytes.revs knows.0)

pub returns-in-History-clause-told : goal.returns-in-History-clause-told
returns-in-History-clause-told g c = λ bytes knows.
    subst (λ (p : Printed). Writes (TextOf p bytes c.args.rev) (g.O.Sink.written c.args.out.now) (g.O.Sink.written c.history_text.new.sink) c.history_text.result) (sym c.in-History.is)
    (c.history_text.ensures.told bytes.revs knows.0)
