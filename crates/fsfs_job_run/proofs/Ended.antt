-- What a commit of a transaction answers, by the flat model.
use Rattle.std.proofs.Common.{◌≡◌, ◌≤◌, ◌<◌, ◌+◌, ℕ, List, [], ◌∷◌, ◌++◌, length, refl, sym, ap, subst, ◌∙◌, arith}
use Rattle.std.specs.FinMap.{get}
use Rattle.fsfs_base.specs.Paths.{Path}
use Rattle.fsfs_base.specs.Fields.Dates.{IsDateAt}
use Rattle.fsfs_base.specs.Fields.RevNums.{last_rev}
use Rattle.fsfs_tree.specs.Histories.{IsHistory}
use Rattle.fsfs_tree.specs.Revisions.{Revision}
use Rattle.fsfs_tree.specs.Dated.{last_of}
use Rattle.fsfs_model.specs.Flat.Transactions.{IsNext}
use Rattle.fsfs_machine.specs.declared.machine.Coming.{Coming}
use Rattle.fsfs_machine.specs.declared.machine.Recorded.{Recorded}
use Rattle.fsfs_machine.specs.declared.machine.Txn.{Txn}
use Rattle.fsfs_machine.specs.Machine.{revisions, entry_of}
use Rattle.fsfs_machine.proofs.Growing.{revisions_length}
use Rattle.fsfs_turn.specs.Views.{View, IsTxnOver}
use Rattle.fsfs_turn.proofs.Reading.{begins_on}
use Rattle.fsfs_repo.specs.Works.{Landings}
use Rattle.fsfs_repo.specs.Replies.{Committed, Wrote}
use Rattle.fsfs_script.specs.declared.job_lines.job.CommitJob.{CommitJob}
use Rattle.fsfs_script.specs.declared.job_lines.job.Job.TheVariants as jobs
use Rattle.fsfs_jobs.specs.Properties.{job_properties}
use Rattle.fsfs_jobs.specs.Serial.{Begins, Done, Full, Adds, Clashes, base_of}
use Rattle.fsfs_jobs.specs.declared.answer.JobAnswer.{JobAnswer}
use Rattle.fsfs_jobs.specs.declared.answer.JobAnswer.TheVariants as answers
use Rattle.fsfs_job_run.specs.Serial.Jobs.{DoesJob}
use Rattle.fsfs_job_run.specs.Serial.Clashes.{ClashesFirst}
use Rattle.fsfs_job_run.proofs.Clashing.{clash_back}
use Rattle.fsfs_job_run.specs.Ending.{CommitsTxn, ByCommit, ByRevs, IsEdited, WasToCommit}

-- it was added
pub commits_added : (moment rev : ℕ) (job : CommitJob) (date : List ℕ) (properties : List (List ℕ × List ℕ)) (v u : View) (x y : Txn) (c : Committed rev properties v u x y) → c.before ≡ v.seen
    → IsDateAt moment date → properties ≡ job_properties date job → CommitsTxn moment v.number job (revisions v.seen) x (answers.Committed rev) (revisions u.seen)
commits_added moment rev job date properties v u x y c same dated are =
    subst (λ (now : List Revision). CommitsTxn moment v.number job (revisions v.seen) x (answers.Committed rev) now) (sym now_is)
    (subst (λ (n : ℕ). CommitsTxn moment v.number job (revisions v.seen) x (answers.Committed n) (revisions v.seen ++ c.next.revision ∷ [])) (sym number)
    (ByCommit date (answers.Committed (length (revisions v.seen))) (revisions v.seen ++ c.next.revision ∷ []) dated (Adds c.next.revision next)))
  where
    number : rev ≡ length (revisions v.seen)
    number = c.number ∙ ap (λ (h : List Recorded). length h) same ∙ sym (revisions_length v.seen)

    revisions_append : (h : List Recorded) (z : Recorded) → revisions (h ++ z ∷ []) ≡ revisions h ++ z.revision ∷ []
    revisions_append [] z = refl
    revisions_append (a ∷ h) z = ap (λ (l : List Revision). a.revision ∷ l) (revisions_append h z)

    now_is : revisions u.seen ≡ revisions v.seen ++ c.next.revision ∷ []
    now_is = ap revisions c.is ∙ revisions_append c.before c.next ∙ ap (λ (h : List Recorded). revisions h ++ c.next.revision ∷ []) same

    next : IsNext (revisions v.seen) (entry_of v.number x (job_properties date job)) c.next.revision
    next = subst (λ (h : List Recorded). IsNext (revisions h) (entry_of v.number x (job_properties date job)) c.next.revision) same
        (subst (λ (p : List (List ℕ × List ℕ)). IsNext (revisions c.before) (entry_of v.number x p) c.next.revision) are c.handed_in)

-- it was to be added, and is left in doubt
pub wrote_commits : (moment : ℕ) (job : CommitJob) (date : List ℕ) (properties : List (List ℕ × List ℕ)) (v u : View) (x : Txn) (c : Coming) → Wrote properties v u x c
    → IsDateAt moment date → properties ≡ job_properties date job → WasToCommit moment v.number job x u.seen c
wrote_commits moment job date properties v u x c w dated are = record {
  date = date;
  dated = dated;
  lands = λ g later hist follows. subst (λ (p : List (List ℕ × List ℕ)). IsNext (revisions g) (entry_of v.number x p) c.revision) are (w.lands g (begins_on w.before u.seen g w.seen later) hist follows.1);
}

-- it clashes with the last revision, where the history is not full
pub commits_clash : (moment pass : ℕ) (job : CommitJob) (h : List Recorded) (x y : Txn) (path : Path) → IsHistory (revisions h) → IsTxnOver h x → Landings h x y → 0 < length h → y.base ≤ last_of (revisions h) → last_of (revisions h) < last_rev
    → ClashesFirst h y (last_of (revisions h)) path → CommitsTxn moment pass job (revisions h) x (answers.Conflict (last_of (revisions h)) path) (revisions h)
commits_clash moment pass job h x y path hist over landings some up room first =
    ByCommit [] (answers.Conflict (last_of (revisions h)) path) (revisions h) tt
    (Clashes path (omega (arith, revisions_length h, some, room)) (clash_back h x y (last_of (revisions h)) path hist over landings up (omega (arith, revisions_length h, some)) first))

-- ---- the whole job

-- a job whose edits were done in the transaction is done as that is committed
pub edited_does : (moment pass : ℕ) (job : CommitJob) (answer : JobAnswer) (h now : List Revision) (x : Txn) → base_of job.base (last_of h) ≤ last_of h → IsEdited job (base_of job.base (last_of h)) h x → CommitsTxn moment pass job h x answer now
    → DoesJob moment h (jobs.Commit job) answer now
edited_does moment pass job answer h now x within e (ByCommit date _ _ dated commits) = (date, dated, λ t less. (t + 1, omega arith, Begins job answer now within less (Done (entry_of pass x (job_properties date job)) answer now e.takes e.on refl commits)))
edited_does moment pass job _ h _ x within e (ByRevs full) = ([], tt, λ t less. (t + 1, omega arith, Begins job _ h within less (Full (get x.tree) x.marks e.takes full)))
