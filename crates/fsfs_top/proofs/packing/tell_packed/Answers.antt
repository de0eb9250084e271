use Rattle.std.proofs.Common.{ℕ, refl, sym, subst}
use Rattle.std.specs.Prelude.{Some, Result}
use Rattle.fsfs_cli.specs.declared.faults.fault.Fault.{Fault}
use Rattle.fsfs_top.specs.Command.{fault_of}
use Rattle.fsfs_top.specs.PackAnswers.{packed_line}
use Rattle.fsfs_top.specs.Packing.{PrintsPacked}
use Rattle.fsfs_top.specs.Scenes.{sink_scene}
use Rattle.fsfs_top.proofs.packing.tell_packed.Goals as goal

pub returns-in-Ok : goal.returns-in-Ok
returns-in-Ok g c =
    let old = sink_scene g.O.Sink c.args.out.now in
    let new = sink_scene g.O.Sink c.print_packed.new.sink in
    subst (λ (r : Result ℕ Fault). PrintsPacked r old new (fault_of c.line_fault.result)) (sym c.in-Ok.is) (c.line_fault.ensures (packed_line c.in-Ok.shards) old new c.print_packed.ensures.printed)

pub returns-in-Err : goal.returns-in-Err
returns-in-Err g c =
    let out = sink_scene g.O.Sink c.args.out.now in
    subst (λ (r : Result ℕ Fault). PrintsPacked r out out (Some c.in-Err.fault)) (sym c.in-Err.is) (refl, refl)
