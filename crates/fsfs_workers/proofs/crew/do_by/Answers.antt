use Rattle.std.proofs.Common.{ℕ, sym, ap, subst}
use Rattle.std.specs.Prelude.{None}
use Rattle.fsfs_workers.specs.Beside.{HaveWorked}
use Rattle.fsfs_workers.specs.Crews.{workers_in}
use Rattle.fsfs_workers.proofs.Lone.{one_has}
use Rattle.fsfs_workers.proofs.crew.do_by.Goals as goal

pub returns-in-One-clause-done : goal.returns-in-One-clause-done
returns-in-One-clause-done g c =
    let seat = c.args.seat.me.0 in
    let then = c.work.result.0.me.0 in
    subst (λ (n : ℕ). HaveWorked c.args.micros n None c.args.jobs.now c.work.result.1.items seat then) (sym (ap workers_in c.in-One.is)) (one_has c.args.micros c.args.jobs.now c.work.result.1.items seat then c.work.ensures.worked)
