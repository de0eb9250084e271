-- A commit that added nothing, of a transaction that was handed back.
use Rattle.std.proofs.Common.{◌≡◌, ◌⊎◌, ◌≤◌, ◌<◌, ℕ, List, length, sym, subst, ◌∙◌, inl, inr, arith}
use Rattle.fsfs_tree.specs.Dated.{last_of}
use Rattle.fsfs_tree.specs.Histories.{IsHistory}
use Rattle.fsfs_revision.specs.declared.wrong.Wrong.{Wrong}
use Rattle.fsfs_revision.specs.declared.wrong.Wrong.TheVariants as wrongs
use Rattle.fsfs_revision.specs.declared.wrong.Refusal.TheVariants as refusals
use Rattle.fsfs_machine.specs.declared.machine.Recorded.{Recorded}
use Rattle.fsfs_machine.specs.declared.machine.Txn.{Txn}
use Rattle.fsfs_machine.specs.Machine.{revisions}
use Rattle.fsfs_machine.proofs.Growing.{revisions_length}
use Rattle.fsfs_turn.specs.Views.{View, IsTxnOver}
use Rattle.fsfs_repo.specs.Works.{Landings}
use Rattle.fsfs_repo.specs.Refusals.{IsClashAt}
use Rattle.fsfs_repo.specs.Txns.Commits.{Bars}
use Rattle.fsfs_repo.specs.declared.txns.answers.CommitBar.{CommitBar}
use Rattle.fsfs_repo.specs.declared.txns.answers.CommitBar.TheVariants as bars
use Rattle.fsfs_script.specs.declared.job_lines.job.CommitJob.{CommitJob}
use Rattle.fsfs_script.specs.declared.job_lines.job.Job.TheVariants as jobs
use Rattle.fsfs_jobs.specs.declared.answer.JobAnswer.TheVariants.{Conflict, Stopped}
use Rattle.fsfs_job_run.specs.Serial.Jobs.{Fails, ByStuck, ByMemory}
use Rattle.fsfs_job_run.specs.Faults.{fault_of_merge, answer_of_bar}
use Rattle.fsfs_job_run.specs.Running.{HasOutsideCause, IsNoRequest}
use Rattle.fsfs_job_run.specs.Ending.{CommitsTxn, ByRevs}
use Rattle.fsfs_job_run.proofs.Ended.{commits_clash}
use Rattle.fsfs_job_run.proofs.Staying.{IsBare}

wrong_none : (line : ℕ) (wrong : Wrong) → IsNoRequest (Stopped line (fault_of_merge wrong))
wrong_none line (wrongs.Refused (refusals.NoRev asked youngest)) = tt
wrong_none line (wrongs.Refused (refusals.Missing rev)) = tt
wrong_none line (wrongs.Refused (refusals.Small fault)) = tt
wrong_none line (wrongs.Damaged damage) = tt
wrong_none line (wrongs.Delta at) = tt

-- it tells no revision, and no request
pub bar_bare : (line : ℕ) (bar : CommitBar) → IsBare (answer_of_bar line bar)
bar_bare line (bars.Conflict path head) = tt
bar_bare line bars.RevsFull = tt
bar_bare line (bars.Stuck at) = tt
bar_bare line (bars.Wrong wrong) = tt
bar_bare line (bars.PastLimit limit) = tt
bar_bare line bars.Lacking = tt
bar_bare line bars.Memory = tt

pub bar_none : (line : ℕ) (bar : CommitBar) → IsNoRequest (answer_of_bar line bar)
bar_none line (bars.Conflict path head) = tt
bar_none line bars.RevsFull = tt
bar_none line (bars.Stuck at) = tt
bar_none line (bars.Wrong wrong) = wrong_none line wrong
bar_none line (bars.PastLimit limit) = tt
bar_none line bars.Lacking = tt
bar_none line bars.Memory = tt

-- over a history to which nothing was added, all of which the pass has seen, and whose last revision it was told
module _ (moment pass : ℕ) (job : CommitJob) (h : List Recorded) (u : View) (x y : Txn) (hist : IsHistory (revisions h)) (over : IsTxnOver h x) (landings : Landings h x y) (same : u.seen ≡ h) (some : 0 < length h) (told : u.pass.least ≡ last_of (revisions h)) where
  pub bar_done : (bar : CommitBar) → Bars bar u y → CommitsTxn moment pass job (revisions h) x (answer_of_bar job.line bar) (revisions h) ⊎ Fails (jobs.Commit job) (answer_of_bar job.line bar)
  bar_done (bars.Conflict path head) b =
      let head_is : head ≡ last_of (revisions h) = b.0 ∙ told in
      let at : IsClashAt path (last_of (revisions h)) h y = subst (λ (n : ℕ). IsClashAt path n h y) head_is (subst (λ (k : List Recorded). IsClashAt path head k y) same b.2) in
      inl (subst (λ (n : ℕ). CommitsTxn moment pass job (revisions h) x (Conflict n path) (revisions h)) (sym head_is) (commits_clash moment pass job h x y path hist over landings some at.later (omega (arith, b.1, head_is)) at.first))
  bar_done bars.RevsFull b = inl (ByRevs (let full : 2147483647 ≤ u.pass.least = b in omega (arith, full, told, some, revisions_length h)))
  bar_done (bars.Stuck at) b = inr (ByStuck (jobs.Commit job) job.line at)
  bar_done (bars.Wrong wrong) b = absurd b
  bar_done (bars.PastLimit limit) b = inr (ByMemory (jobs.Commit job) job.line)
  bar_done bars.Lacking b = absurd b
  bar_done bars.Memory b = inr (ByMemory (jobs.Commit job) job.line)

-- why the outside is told to have failed, behind the purge too
pub bar_outside : (rose : Type 0) (line : ℕ) (u m : View) (y : Txn) (bar : CommitBar) → Bars bar u y → m.pass.stuck ≡ u.pass.stuck → HasOutsideCause rose m (answer_of_bar line bar)
bar_outside rose line u m y (bars.Conflict path head) b same = tt
bar_outside rose line u m y bars.RevsFull b same = tt
bar_outside rose line u m y (bars.Stuck at) b same = same ∙ b
bar_outside rose line u m y (bars.Wrong wrong) b same = absurd b
bar_outside rose line u m y (bars.PastLimit limit) b same = tt
bar_outside rose line u m y bars.Lacking b same = absurd b
bar_outside rose line u m y bars.Memory b same = tt
