use Rattle.std.proofs.Common.{◌≤◌, ℕ, refl, sym, subst, ◌∙◌, arith}
use Rattle.std.proofs.lemmas.List.{take_all}
use Rattle.fsfs_revision.proofs.Keeping.{keeps_trans}
use Rattle.fsfs_script.specs.declared.job_lines.job.Step.{Step}
use Rattle.std.specs.Prelude.{List, Result, Ok, Err}
use Rattle.fsfs_cli.specs.declared.faults.fault.Fault.{Fault}
use Rattle.fsfs_jobs.specs.JobEdits.Editing.{IsEditing, IsEditedWhole}
use Rattle.fsfs_jobs.proofs.StepLemmas.{moved, edited_more, stopped_here}
use Rattle.fsfs_jobs.proofs.job_edits.edits.do_edits.Goals as goal

pub loop-step-preserved : goal.loop-step-preserved
loop-step-preserved g c =
    let inv = c.loop-step.invariant in
    let done : Result (Unit {0}) Fault = Ok tt in
    record {
      edits = λ told look trees top tree marks knows youngest shown revs within stands.
          let e = inv.edits told look trees top tree marks knows youngest shown revs within stands in
          let here : c.loop-step.txn.base ≤ top = subst (λ (b : ℕ). b ≤ top) (sym inv.base) within in
          let whole = moved look trees top c.args.txn.now.base (g.N.Own.txn c.args.txn.now.own) (g.N.Own.settled c.loop-step.txn.own) e.now e.added e.stands
          (λ b t. IsEditing c.step-item.result.edit t b (g.N.Own.settled c.do_edit.new.txn.own) done look trees top e.now e.added) c.loop-step.txn.base (g.N.Own.txn c.loop-step.txn.own) (g.N.Own.settled c.loop-step.txn.own)
          inv.base inv.name refl (λ s. c.in-Ok.ensures.edits told look trees top e.now e.added (λ r le. inv.kept.revs r (look r) (knows r le)) (inv.kept.youngest top youngest) shown revs here s) in
          edited_more c.args.steps.now c.loop-step.step-index c.step-item.result c.loop-step-test.true c.step-item.is look trees top _ _ tree marks _ _ e whole;
      lasting = c.in-Ok.ensures.lasts;
      base = c.do_edit.ensures.base ∙ inv.base;
      name = c.do_edit.ensures.name ∙ inv.name;
      kept = keeps_trans _ _ _ inv.kept c.do_edit.ensures.kept;
      disk = omega (arith, inv.disk, c.do_edit.ensures.disk.later);
      bench = omega (arith, inv.bench, c.do_edit.ensures.bench.later);
    }

pub returns-in-Err-clause-edits : goal.returns-in-Err-clause-edits
returns-in-Err-clause-edits g c = λ told look trees top tree marks knows youngest shown revs within stands.
    let inv = c.loop-step.invariant in
    let failed : Result (Unit {0}) Fault = Err c.in-Err.fault in
    let e = inv.edits told look trees top tree marks knows youngest shown revs within stands in
    let here : c.loop-step.txn.base ≤ top = subst (λ (b : ℕ). b ≤ top) (sym inv.base) within in
    let refused = moved look trees top c.args.txn.now.base (g.N.Own.txn c.args.txn.now.own) (g.N.Own.settled c.loop-step.txn.own) e.now e.added e.stands
    (λ b t. IsEditing c.step-item.result.edit t b (g.N.Own.settled c.do_edit.new.txn.own) failed look trees top e.now e.added) c.loop-step.txn.base (g.N.Own.txn c.loop-step.txn.own) (g.N.Own.settled c.loop-step.txn.own)
    inv.base inv.name refl (λ s. c.in-Err.ensures.edits told look trees top e.now e.added (λ r le. inv.kept.revs r (look r) (knows r le)) (inv.kept.youngest top youngest) shown revs here s) in
    stopped_here c.args.steps.now c.loop-step.step-index c.step-item.result c.loop-step-test.true c.step-item.is look trees top c.args.txn.now.base (g.N.Own.txn c.args.txn.now.own) tree marks (g.N.Own.settled c.loop-step.txn.own) (g.N.Own.settled c.do_edit.new.txn.own) e c.in-Err.fault refused

pub returns-clause-edits : goal.returns-clause-edits
returns-clause-edits g c = λ told look trees top tree marks knows youngest shown revs within stands.
    subst (λ (l : List Step). IsEditedWhole l (g.N.Own.txn c.args.txn.now.own) c.args.txn.now.base (g.N.Own.settled c.loop-step.txn.own) look trees top tree marks) (take_all c.loop-step.step-index c.args.steps.now (omega arith))
    (c.loop-step.invariant.edits told look trees top tree marks knows youngest shown revs within stands)
