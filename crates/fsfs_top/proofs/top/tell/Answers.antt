use Rattle.fsfs_cli.specs.Lines.{line_of}
use Rattle.fsfs_top.proofs.CommandReplies.{told_line}
use Rattle.fsfs_top.proofs.top.tell.Goals as goal

pub returns-clause-told : goal.returns-clause-told
returns-clause-told g c =
    told_line (g.E.Sink.written c.args.err.now) (g.E.Sink.written c.print_fault.new.sink) (line_of c.args.tool c.args.fault.now) (g.E.Sink.faults c.args.err.now) (g.E.Sink.faults c.print_fault.new.sink) c.print_fault.result c.print_fault.ensures.printed
