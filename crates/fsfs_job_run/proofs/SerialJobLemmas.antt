-- Jobs one after another.
use Rattle.std.proofs.Common.{◌≡◌, ◌⊎◌, ◌+◌, ℕ, suc, List, [], ◌∷◌, ◌++◌, length, refl, sym, ap, subst, ◌∙◌, append_assoc, append-nil, length-append, inl, inr, arith}
use Rattle.fsfs_machine.specs.declared.machine.Recorded.{Recorded}
use Rattle.fsfs_machine.specs.Machine.{revisions}
use Rattle.fsfs_machine.specs.Kept.{IsIn}
use Rattle.fsfs_turn.specs.Views.{View, Begins}
use Rattle.fsfs_script.specs.declared.job_lines.job.Job.{Job}
use Rattle.fsfs_jobs.specs.declared.answer.JobAnswer.{JobAnswer}
use Rattle.fsfs_jobs.specs.declared.answer.JobAnswer.TheVariants.{Committed, Read, Conflict, Stopped}
use Rattle.fsfs_job_run.specs.Serial.Jobs.{DoesJob, Fails, AddsBy, own_of, RunsJob, End, More, own_of_all}
use Rattle.fsfs_job_run.specs.Serial.Laws.{RunsAreSerial, RunsGoOn, RunsGrow}

-- ---- a serial run

did : (moment : ℕ) (job : Job) (answer : JobAnswer) (v m : View) → RunsJob moment job answer v m → (Fails job answer → ⊥) → DoesJob moment (revisions v.seen) job answer (revisions m.seen)
did moment job answer v m r never = by r.done
  where
    by : DoesJob moment (revisions v.seen) job answer (revisions m.seen) ⊎ Fails job answer → DoesJob moment (revisions v.seen) job answer (revisions m.seen)
    by (inl does) = does
    by (inr fails) = absurd (never fails)

pub runs_serial : RunsAreSerial
runs_serial moment _ _ _ _ t (End v) none room = (t, omega arith, (refl, refl))
runs_serial moment _ _ _ _ t (More job answer js answers v m u first counts rest) none room =
    let does = did moment job answer v m first none.0 in
    let one = does.2 t (omega (arith, room)) in
    let more = runs_serial moment js answers m u one.0 rest none.1 (omega (arith, room, one.1)) in
    (more.0, omega (arith, more.1, one.1), (does.0, does.1, (revisions m.seen, one.0, one.2, more.2)))

-- ---- one job more

pub go_on : RunsGoOn
go_on moment _ _ job answer _ _ u (End v) last counts = More job answer [] [] v u u last counts (End u)
go_on moment _ _ job answer _ _ u (More j a js answers v n m first counted rest) last counts =
    More j a (js ++ job ∷ []) (answers ++ answer ∷ []) v n u first counted (go_on moment js answers job answer n m u rest last counts)

-- ---- what it comes to

begins_by : (answer : JobAnswer) (h now : List Recorded) → AddsBy answer h now → Begins now h
begins_by (Committed rev) h now adds = (adds.0 ∷ [], adds.1)
begins_by (Read text) h now adds = ([], adds ∙ sym (append-nil h))
begins_by (Conflict head path) h now adds = ([], adds ∙ sym (append-nil h))
begins_by (Stopped line fault) h now adds = ([], adds ∙ sym (append-nil h))

count_by : (answer : JobAnswer) (h now : List Recorded) → AddsBy answer h now → length now ≡ length h + length (own_of answer)
count_by (Committed rev) h now adds = ap length adds.1 ∙ length-append h (adds.0 ∷ [])
count_by (Read text) h now adds = let e = ap length adds in omega (arith, e)
count_by (Conflict head path) h now adds = let e = ap length adds in omega (arith, e)
count_by (Stopped line fault) h now adds = let e = ap length adds in omega (arith, e)

pub among : (k : ℕ) (more xs : List ℕ) → IsIn k xs → IsIn k (more ++ xs)
among k [] xs there = there
among k (x ∷ more) xs there = inr (among k more xs there)

pub grow : RunsGrow
grow moment _ _ _ _ (End v) = record {
  each = refl;
  begins = ([], sym (append-nil v.seen));
  count = omega arith;
  own = sym (append-nil v.pass.mine);
  given = λ k there. there;
  since = refl;
  opened = refl;
  doubtless = λ none few. few;
}
grow moment _ _ _ _ (More job answer js answers v m u first counts rest) =
    let g = grow moment js answers m u rest in
    let one = begins_by answer v.seen m.seen first.leaves.adds in
    let counted = count_by answer v.seen m.seen first.leaves.adds in
    let both = length-append (own_of answer) (own_of_all answers) in
    record {
      each = ap suc g.each;
      begins = (one.0 ++ g.begins.0, g.begins.1 ∙ ap (λ (l : List Recorded). l ++ g.begins.0) one.1 ∙ append_assoc v.seen one.0 g.begins.0);
      count = omega (arith, g.count, counted, both);
      own = g.own ∙ ap (λ (l : List ℕ). l ++ own_of_all answers) first.leaves.own ∙ append_assoc v.pass.mine (own_of answer) (own_of_all answers);
      given = λ k there. g.given k (subst (λ (l : List ℕ). IsIn k l) (sym first.leaves.given) (among k first.leaves.more v.given there));
      since = g.since ∙ first.leaves.since;
      opened = g.opened ∙ first.leaves.opened;
      doubtless = λ none few. g.doubtless none.1 (first.leaves.doubtless none.0 few);
    }
