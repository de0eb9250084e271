use Rattle.std.proofs.Common.{sym, ap, subst, ◌∙◌, arith}
use Rattle.fsfs_turn.specs.Views.{View, MayPack}
use Rattle.fsfs_pack.specs.Causes.{IsEarly, IsWant}
use Rattle.fsfs_pack.specs.Sections.{IsWritten}
use Rattle.fsfs_pack.proofs.Filling.{reads_along}
use Rattle.fsfs_pack.proofs.Going.{next_stays}
use Rattle.fsfs_pack.proofs.InBench.{ahead, may_held, stopped_reading}
use Rattle.fsfs_pack.proofs.Written.{bench_later, ok_given, err_given}
use Rattle.fsfs_pack.proofs.Ending.{left_between}
use Rattle.fsfs_pack.proofs.packing.pack_by.Goals as goal

pub finish_shard-ended-requires-clause-due : goal.finish_shard-ended-requires-clause-due
finish_shard-ended-requires-clause-due g c = λ bound.
    let x = c.args.shard.now in
    let w = c.requires.due (sym c.fill-back.ensures.duty ∙ bound) in
    let f = c.fill-back.ensures.written w.0 w.1 w.2 (may_held w.0.section w.3) w.4 in (
      f.0,
      f.1,
      subst MayPack (sym (ap {A = View} (λ z. z.section) f.2.is)) w.3,
      next_stays x w.0 f.0 w.4 (reads_along w.0 f.0 f.2) (f.2.firm x.first w.4.full.firm),
      ok_given (IsWritten x f.0 (g.T.Bench.Bench.contents c.fill-back.new.bench)) c.fill-back.result.1 c.in-Ok.field-0 c.in-Ok.is f.3,
    )

pub returns-in-Ok-clause-packed : goal.returns-in-Ok-clause-packed
returns-in-Ok-clause-packed g c = λ v known sure may next.
    let x = c.args.shard.now in
    let f = c.fill-back.ensures.written v known sure (may_held v.section may) next in
    let e = c.finish_shard-ended.ensures.turned f.0 f.1 (subst MayPack (sym (ap {A = View} (λ z. z.section) f.2.is)) may) (next_stays x v f.0 next (reads_along v f.0 f.2) (f.2.firm x.first next.full.firm))
    (ok_given (IsWritten x f.0 (g.T.Bench.Bench.contents c.fill-back.new.bench)) c.fill-back.result.1 c.in-Ok.field-0 c.in-Ok.is f.3) in
    (e.0, e.1, ahead x c.finish_shard-ended.result v f.0 e.0 (reads_along v f.0 f.2) f.2.doubtless e.2)

pub returns-in-Ok-clause-bench_cause : goal.returns-in-Ok-clause-bench_cause
returns-in-Ok-clause-bench_cause g c =
    bench_later (g.T.Bench.Bench.faults c.args.bench.now) (g.T.Bench.Bench.faults c.finish_shard-ended.new.bench) c.finish_shard-ended.result (omega (arith, c.fill-back.ensures.bench_cause.later, c.finish_shard-ended.ensures.bench_same)) c.finish_shard-ended.ensures.bench_cause

pub returns-in-Err-clause-packed : goal.returns-in-Err-clause-packed
returns-in-Err-clause-packed g c = λ v known sure may next.
    let f = c.fill-back.ensures.written v known sure (may_held v.section may) next in (
      f.0,
      f.1,
      stopped_reading c.in-Err.fault v f.0 may f.2 (err_given IsEarly c.fill-back.result.1 c.in-Err.fault c.in-Err.is c.fill-back.ensures.early)
          (err_given IsWant c.fill-back.result.1 c.in-Err.fault c.in-Err.is (c.fill-back.ensures.fine v known next)),
    )

pub returns-in-Ok-clause-left : goal.returns-in-Ok-clause-left
returns-in-Ok-clause-left g c =
    left_between c.finish_shard-ended.result (g.T.Turns.faults c.args.turns) (g.T.Turns.faults c.fill-back.result.0) (g.T.Turns.faults c.finish_shard-ended.new.turns) (g.T.Turns.faults c.finish_shard-ended.new.turns) c.fill-back.ensures.disk_cause.later (omega arith) c.finish_shard-ended.ensures.left
