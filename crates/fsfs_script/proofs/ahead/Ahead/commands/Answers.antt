use Rattle.std.proofs.Common.{Ok, sym, subst, arith}
use Rattle.fsfs_script.specs.declared.job_lines.job.CommitJob.{CommitJob}
use Rattle.fsfs_script.specs.declared.job_lines.verbs.Stage.{Stage}
use Rattle.fsfs_script.specs.Places.{place_of}
use Rattle.fsfs_script.specs.Reading.{Reads}
use Rattle.fsfs_script.specs.Commands.{next_at}
use Rattle.fsfs_script.specs.Jobs.{stage_after}
use Rattle.fsfs_script.specs.declared.commands.Next.{Next}
use Rattle.fsfs_script.proofs.JobLemmas.{IsFilling, filling_more, filling_breaks}
use Rattle.fsfs_script.proofs.ahead.Ahead.commands.Goals as goal

pub returns-in-Err-clause-given : goal.returns-in-Err-clause-given
returns-in-Err-clause-given g c = rw c.stopped_at.ensures (filling_breaks (g.S.Source.remaining c.loop.source) c.loop.self c.args.job.now c.loop.stage c.loop.job (place_of (g.S.Source.remaining c.args.source.now) c.args.self.now) (place_of (g.S.Source.remaining c.next.new.source) c.next.new.self) c.line-line.result c.in-Err.stop c.loop.job c.line-line.ensures c.loop.invariant.filling c.in-Err.ensures.given)

pub loop-preserved : goal.loop-preserved
loop-preserved g c =
    let e = c.in_ok-stage-in-Ok-Command.ensures in
    let read = subst (λ (n : Next). Reads (λ (m : Next). m) (next_at c.loop.stage) (place_of (g.S.Source.remaining c.loop.source) c.loop.self) (place_of (g.S.Source.remaining c.next.new.source) c.next.new.self) (Ok n)) c.in-Ok-Command.field-0-is c.in-Ok-Command.ensures.given in
    let more = filling_more (g.S.Source.remaining c.loop.source) c.loop.self c.args.job.now c.loop.stage c.loop.job (place_of (g.S.Source.remaining c.args.source.now) c.args.self.now) (place_of (g.S.Source.remaining c.next.new.source) c.next.new.self) c.in-Ok-Command.command c.line-line.result c.line-line.ensures c.loop.invariant.filling read in
    record {
      filling = subst (λ (s : Stage). IsFilling (place_of (g.S.Source.remaining c.args.source.now) c.args.self.now) (place_of (g.S.Source.remaining c.next.new.source) c.next.new.self) c.args.job.now s c.take.new.job) (sym e.0) (subst (λ (j : CommitJob). IsFilling (place_of (g.S.Source.remaining c.args.source.now) c.args.self.now) (place_of (g.S.Source.remaining c.next.new.source) c.next.new.self) c.args.job.now (stage_after c.in-Ok-Command.command) j) (sym e.1) more);
      faults = omega (arith, c.loop.invariant.faults, c.next.ensures.cause.later);
    }
