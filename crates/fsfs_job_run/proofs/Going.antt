-- Jobs one after another, one more.
use Rattle.std.proofs.Common.{◌≡◌, ◌<◌, ◌≤◌, ◌+◌, ◌++◌, ◌∷◌, [], List, ℕ, sym, ap, subst, ◌∙◌, take, length, true}
use Rattle.std.proofs.lemmas.List.{take_more, take_all}
use Rattle.std.specs.Prelude.{None, slice_index_or}
use Rattle.fsfs_turn.specs.Alone.{are_harmless}
use Rattle.fsfs_turn.specs.Views.{View}
use Rattle.fsfs_script.specs.declared.job_lines.job.Job.{Job}
use Rattle.fsfs_jobs.specs.declared.answer.JobAnswer.{JobAnswer}
use Rattle.fsfs_job_run.specs.Serial.Jobs.{RunJobs, End}
use Rattle.fsfs_job_run.specs.Running.{DoesSo, DoAll, IfCounted, StopsOver}
use Rattle.fsfs_job_run.proofs.SerialJobLemmas.{go_on, grow}
use Rattle.fsfs_job_run.proofs.Stuck.{none_stuck, stuck_more, not_stuck}

pub done_none : (knows : View → Type 0) (moment : ℕ) (answers : List JobAnswer) (v : View) → answers ≡ [] → knows v → v.section ≡ None → DoAll knows moment [] answers v
done_none knows moment answers v none known out = (v, known, out, subst (λ (xs : List JobAnswer). RunJobs moment [] xs v v) (sym none) (End v), λ few. none_stuck answers none)

-- one job more
pub runs_more : (knows after : View → Type 0) (rose : Type 0) (moment : ℕ) (jobs : List Job) (i : ℕ) (job : Job) → i < length jobs → job ≡ slice_index_or jobs i job
    → (answers : List JobAnswer) (answer : JobAnswer) (more : List JobAnswer) → more ≡ answers ++ answer ∷ [] → (v : View) → ((u : View) → after u → are_harmless u.pass.faults ≡ true → u.pass.stuck ≡ None) → DoAll knows moment (take i jobs) answers v
    → ((m : View) → knows m → m.section ≡ None → DoesSo after rose moment job answer m) → ((m : View) → knows m → m.section ≡ None → IfCounted job answer (StopsOver m.seen)) → DoAll after moment (take (i + 1) jobs) more v
runs_more knows after rose moment jobs i job less is answers answer more are v found so does counted =
    subst (λ (js : List Job). DoAll after moment js more v) (sym jobs_are) (subst (λ (xs : List JobAnswer). DoAll after moment (take i jobs ++ job ∷ []) xs v) (sym are) one)
  where
    jobs_are : take (i + 1) jobs ≡ take i jobs ++ job ∷ []
    jobs_are = take_more jobs i job less ∙ ap (λ (x : Job). take i jobs ++ x ∷ []) (sym is)

    one : DoAll after moment (take i jobs ++ job ∷ []) (answers ++ answer ∷ []) v
    one =
        let d = does so.0 so.1 so.2 in (
          d.0,
          d.1,
          d.2.leaves.outside,
          go_on moment (take i jobs) answers job answer v so.0 d.0 so.3 d.2 (counted so.0 so.1 so.2),
          λ few. stuck_more answers answer (so.4 few) (λ calm. not_stuck rose answer so.0 d.0 d.2.leaves d.3 (found d.0 d.1) ((grow moment (take i jobs) answers v so.0 so.3).doubtless calm few)),
        )

pub runs_all : (knows : View → Type 0) (moment : ℕ) (jobs : List Job) (i : ℕ) (answers : List JobAnswer) (v : View) → length jobs ≤ i → DoAll knows moment (take i jobs) answers v → DoAll knows moment jobs answers v
runs_all knows moment jobs i answers v all d = subst (λ (js : List Job). DoAll knows moment js answers v) (take_all i jobs all) d
