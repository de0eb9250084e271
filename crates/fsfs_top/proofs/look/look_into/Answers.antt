use Rattle.std.proofs.Common.{sym, subst}
use Rattle.std.specs.Prelude.{option_map}
use Rattle.fsfs_base.specs.Failures.{Rose}
use Rattle.fsfs_disk.specs.Trace.{files_now}
use Rattle.fsfs_cli.specs.declared.request.Look.{Look}
use Rattle.fsfs_top.specs.Command.{fault_of}
use Rattle.fsfs_top.specs.Looks.{LooksInto, revision_line, uuid_line}
use Rattle.fsfs_top.specs.Scenes.{sink_scene}
use Rattle.fsfs_top.proofs.look.look_into.Goals as goal

pub returns-in-Youngest-clause-printed : goal.returns-in-Youngest-clause-printed
returns-in-Youngest-clause-printed g c =
    let count = g.D.Disk.faults c.args.disk in
    let old = sink_scene g.O.Sink c.args.out.now in
    let new = sink_scene g.O.Sink c.print_revision.new.sink in
    subst (λ (l : Look). LooksInto (Rose count count) l c.args.opened.now (option_map files_now (g.D.Disk.trace c.args.disk)) old new (fault_of c.line_fault.result)) (sym c.in-Youngest.is)
    (c.line_fault.ensures (revision_line c.args.opened.now.youngest) old new c.print_revision.ensures.printed)

pub returns-in-Uuid-clause-printed : goal.returns-in-Uuid-clause-printed
returns-in-Uuid-clause-printed g c =
    let count = g.D.Disk.faults c.args.disk in
    let old = sink_scene g.O.Sink c.args.out.now in
    let new = sink_scene g.O.Sink c.print_uuid.new.sink in
    subst (λ (l : Look). LooksInto (Rose count count) l c.args.opened.now (option_map files_now (g.D.Disk.trace c.args.disk)) old new (fault_of c.line_fault-in-Uuid.result)) (sym c.in-Uuid.is)
    (c.line_fault-in-Uuid.ensures (uuid_line c.args.opened.now.uuid) old new c.print_uuid.ensures.printed)

pub returns-in-Dump-clause-printed : goal.returns-in-Dump-clause-printed
returns-in-Dump-clause-printed g c =
    let old = sink_scene g.O.Sink c.args.out.now in
    let new = sink_scene g.O.Sink c.dump_into.new.out in
    subst (λ (l : Look). LooksInto (Rose (g.D.Disk.faults c.args.disk) (g.D.Disk.faults c.dump_into.result.0)) l c.args.opened.now (option_map files_now (g.D.Disk.trace c.args.disk)) old new (fault_of c.dump_into.result.1))
    (sym c.in-Dump.is) c.dump_into.ensures.printed

pub returns-in-Verify-clause-printed : goal.returns-in-Verify-clause-printed
returns-in-Verify-clause-printed g c =
    let old = sink_scene g.O.Sink c.args.out.now in
    let new = sink_scene g.O.Sink c.verify_into.new.out in
    subst (λ (l : Look). LooksInto (Rose (g.D.Disk.faults c.args.disk) (g.D.Disk.faults c.verify_into.result.0)) l c.args.opened.now (option_map files_now (g.D.Disk.trace c.args.disk)) old new (fault_of c.verify_into.result.1))
    (sym c.in-Verify.is) c.verify_into.ensures.printed

pub returns-in-AtRevision-clause-printed : goal.returns-in-AtRevision-clause-printed
returns-in-AtRevision-clause-printed g c =
    let old = sink_scene g.O.Sink c.args.out.now in
    let new = sink_scene g.O.Sink c.look_at_revision.new.out in
    subst (λ (l : Look). LooksInto (Rose (g.D.Disk.faults c.args.disk) (g.D.Disk.faults c.look_at_revision.result.0)) l c.args.opened.now (option_map files_now (g.D.Disk.trace c.args.disk)) old new (fault_of c.look_at_revision.result.1))
    (sym c.in-AtRevision.is) c.look_at_revision.ensures.printed
