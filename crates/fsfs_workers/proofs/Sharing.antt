-- The jobs of a share, one more by one more.
use Rattle.std.proofs.Common.{◌≡◌, ◌<◌, ◌+◌, ◌-◌, ℕ, List, [], ◌∷◌, ◌++◌, length, take, sym, ap, subst, ◌∙◌, length-append, arith}
use Rattle.std.proofs.lemmas.List.{take_more}
use Rattle.std.specs.Prelude.{None, slice_index_or}
use Rattle.fsfs_turn.specs.Views.{View}
use Rattle.fsfs_script.specs.declared.job_lines.job.Job.{Job}
use Rattle.fsfs_jobs.specs.declared.answer.JobAnswer.{JobAnswer}
use Rattle.fsfs_job_run.specs.Workers.Lines.{dealt}
use Rattle.fsfs_job_run.specs.Workers.Passes.{WorksJob, WorkJobs, End, WorkedSo}
use Rattle.fsfs_job_run.proofs.BesideLemmas.{one_more}
use Rattle.fsfs_workers.specs.InTurn.{turn_after}
use Rattle.fsfs_workers.proofs.InTurnLemmas.{dealt_mine, dealt_others, turn_mine, turn_others}

-- a worker does one job more
works_more : (knows after : View → Type 0) (moment : ℕ) (js : List Job) (answers : List JobAnswer) (job : Job) (answer : JobAnswer) (v : View)
    → ((m : View) → knows m → m.section ≡ None → (u : View) × after u × WorksJob moment job answer m u) → WorkedSo knows moment js answers v → WorkedSo after moment (js ++ job ∷ []) (answers ++ answer ∷ []) v
works_more knows after moment js answers job answer v does w =
    let one = does w.0 w.1 w.2 in (one.0, one.1, one.2.outside, one_more moment js answers job answer v w.0 one.0 w.3 one.2)

jobs_taken : (jobs : List Job) (i : ℕ) (job : Job) → i < length jobs → job ≡ slice_index_or jobs i job → take (i + 1) jobs ≡ take i jobs ++ job ∷ []
jobs_taken jobs i job less is = take_more jobs i job less ∙ ap (λ (x : Job). take i jobs ++ x ∷ []) (sym is)

-- none was done
pub none_worked : (knows : View → Type 0) (moment : ℕ) (answers : List JobAnswer) (v : View) → answers ≡ [] → knows v → v.section ≡ None → WorkedSo knows moment [] answers v
none_worked knows moment answers v are known outside = (v, known, outside, subst (λ (l : List JobAnswer). WorkJobs moment [] l v v) (sym are) (End v))

module _ (n w : ℕ) (jobs : List Job) (i : ℕ) (job : Job) (less : i < length jobs) (is : job ≡ slice_index_or jobs i job) where
  -- the next is the worker's
  module _ (mine : turn_after n w (take i jobs) ≡ 0) where
    pub share_mine : dealt n w (take (i + 1) jobs) ≡ dealt n w (take i jobs) ++ job ∷ []
    share_mine = ap (λ (l : List Job). dealt n w l) (jobs_taken jobs i job less is) ∙ dealt_mine n w (take i jobs) job mine

    pub turn_is_mine : turn_after n w (take (i + 1) jobs) ≡ n - 1
    turn_is_mine = ap (λ (l : List Job). turn_after n w l) (jobs_taken jobs i job less is) ∙ turn_mine n w (take i jobs) job mine

    pub each_mine : (answers now : List JobAnswer) (answer : JobAnswer) → now ≡ answers ++ answer ∷ [] → length answers ≡ length (dealt n w (take i jobs)) → length now ≡ length (dealt n w (take (i + 1) jobs))
    each_mine answers now answer are each =
        let a : length now ≡ length answers + 1 = ap (λ (l : List JobAnswer). length l) are ∙ length-append answers (answer ∷ []) in
        let b : length (dealt n w (take (i + 1) jobs)) ≡ length (dealt n w (take i jobs)) + 1 = ap (λ (l : List Job). length l) share_mine ∙ length-append (dealt n w (take i jobs)) (job ∷ []) in
        omega (arith, a, b, each)

    pub worked_mine : (knows after : View → Type 0) (moment : ℕ) (answers now : List JobAnswer) (answer : JobAnswer) (v : View) → now ≡ answers ++ answer ∷ []
        → ((m : View) → knows m → m.section ≡ None → (u : View) × after u × WorksJob moment job answer m u) → WorkedSo knows moment (dealt n w (take i jobs)) answers v → WorkedSo after moment (dealt n w (take (i + 1) jobs)) now v
    worked_mine knows after moment answers now answer v are does so_far =
        subst (λ (x : List Job × List JobAnswer). WorkedSo after moment x.0 x.1 v) (λ k. (sym share_mine k, sym are k)) (works_more knows after moment (dealt n w (take i jobs)) answers job answer v does so_far)

  -- it is another's
  module _ (theirs : 0 < turn_after n w (take i jobs)) where
    pub share_others : dealt n w (take (i + 1) jobs) ≡ dealt n w (take i jobs)
    share_others = ap (λ (l : List Job). dealt n w l) (jobs_taken jobs i job less is) ∙ dealt_others n w (take i jobs) job theirs

    pub turn_is_others : turn_after n w (take (i + 1) jobs) + 1 ≡ turn_after n w (take i jobs)
    turn_is_others = ap (λ (l : List Job). turn_after n w l + 1) (jobs_taken jobs i job less is) ∙ turn_others n w (take i jobs) job theirs
