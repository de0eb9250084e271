-- What a commit answered, as the end of a job's transaction beside others.
use Rattle.std.proofs.Common.{◌≡◌, ◌<◌, ◌≤◌, ℕ, Bool, List, sym, subst, ◌∙◌, length, arith}
use Rattle.std.specs.Prelude.{None}
use Rattle.fsfs_base.specs.declared.fields.txn_name.TxnName.{TxnName}
use Rattle.fsfs_base.specs.declared.places.place.DiskPlace.{DiskPlace}
use Rattle.fsfs_tree.specs.Histories.{IsHistory}
use Rattle.fsfs_draft.specs.Drafts.{Folder}
use Rattle.fsfs_machine.specs.declared.machine.Recorded.{Recorded}
use Rattle.fsfs_machine.specs.declared.machine.Txn.{Txn}
use Rattle.fsfs_machine.specs.Kept.{IsIn}
use Rattle.fsfs_machine.specs.Machine.{revisions}
use Rattle.fsfs_turn.specs.Views.{View}
use Rattle.fsfs_turn.proofs.Alone.{no_shorter}
use Rattle.fsfs_job_run.specs.TxnCommits.{IfFailed, Meets}
use Rattle.fsfs_job_run.specs.CommitAnswer.{CommitAnswer}
use Rattle.fsfs_job_run.specs.CommitAnswer.TheVariants as replies
use Rattle.fsfs_job_run.specs.CommitBar.{CommitBar}
use Rattle.fsfs_cli.specs.declared.faults.fault.Fault.TheVariants.{Outside}
use Rattle.fsfs_cli.specs.declared.faults.outside_fault.OutsideFault.TheVariants as outside
use Rattle.fsfs_script.specs.declared.job_lines.job.CommitJob.{CommitJob}
use Rattle.fsfs_script.specs.declared.job_lines.job.Job.TheVariants as jobs
use Rattle.fsfs_jobs.specs.Properties.{undated_properties}
use Rattle.fsfs_jobs.specs.Serial.{base_of}
use Rattle.fsfs_jobs.specs.declared.answer.JobAnswer.{JobAnswer}
use Rattle.fsfs_jobs.specs.declared.answer.JobAnswer.TheVariants as answers
use Rattle.fsfs_job_run.specs.Faults.{answer_of_bar}
use Rattle.fsfs_job_run.proofs.Answered.{given_back}
use Rattle.fsfs_workers.specs.Working.{EndsFrom, GoesOnKnown, IsEditedTxn}
use Rattle.fsfs_workers.proofs.JobEnding.{committed_ends, barred_ends, disk_ends, bench_ends}

module _ {X : Type 0} (back : List Recorded → Txn → X → Type 0) (r : CommitAnswer X) (rose : Type 0) (moment k last : ℕ) (job : CommitJob) (properties : List (List ℕ × List ℕ)) (name : TxnName) (base : ℕ) (settled : Folder) (v : View) (x : Txn) (e : IsEditedTxn job last name base settled v x) (few : k ≤ last) (on : base ≡ base_of job.base last) (within : base ≤ last) (none : v.section ≡ None) where
  pub committed_by : (knows : View → Type 0) (rev : ℕ) (gone : Bool) → properties ≡ undated_properties job → r ≡ replies.Committed rev gone → Meets knows back moment properties v x r → EndsFrom knows rose moment k (jobs.Commit job) (answers.Committed rev) v
  committed_by knows rev gone undated is meets =
      let m = subst (λ (a : CommitAnswer X). Meets knows back moment properties v x a) is meets in
      committed_ends knows rose moment k last job name base settled v x e few on within none rev properties m.0 gone m.2.0 m.2.1 undated m.1 m.2.2 m.2.3

  pub barred_by : (before after : View → Type 0) (bar : CommitBar) (t : X) (n : ℕ) (answer : JobAnswer) → ((u : View) → before u → 0 < length u.seen → IsHistory (revisions u.seen)) → ((h : List Recorded) (y : Txn) → back h y t → y.name ≡ n)
      → answer ≡ answer_of_bar job.line bar → r ≡ replies.Barred bar t → Meets before back moment properties v x r
      → ((u : View) → before u → u.section ≡ None → IsIn n u.given → 0 < length u.seen → GoesOnKnown after u) → EndsFrom after rose moment k (jobs.Commit job) answer v
  barred_by before after bar t n answer hist named answer_is is meets left =
      let m = subst (λ (a : CommitAnswer X). Meets before back moment properties v x a) is meets in
      let some : 0 < length m.0.seen = omega (arith, e.seen, no_shorter v.seen m.0.seen m.3.moved.drifted.grows) in
      let there = given_back v m.0 x m.1 n m.3.moved.drifted.given e.given m.3.name (named m.0.seen m.1 m.3.stands) in
      subst (λ (a : JobAnswer). EndsFrom after rose moment k (jobs.Commit job) a v) (sym answer_is)
      (barred_ends after rose moment k last job name base settled v x e few on within none m.0 m.1 m.3.moved m.3.doubtless m.3.left m.3.landings (hist m.0 m.2 some) (left m.0 m.2 (m.3.moved.section ∙ none) there some) bar m.4)

  pub disk_by : (knows : View → Type 0) (at : DiskPlace) (answer : JobAnswer) → answer ≡ answers.Stopped job.line (Outside (outside.Disk at)) → properties ≡ undated_properties job → r ≡ replies.DiskFault at → IfFailed r rose → Meets knows back moment properties v x r → EndsFrom knows rose moment k (jobs.Commit job) answer v
  disk_by knows at answer answer_is undated is failed meets =
      let m = subst (λ (a : CommitAnswer X). Meets knows back moment properties v x a) is meets in
      subst (λ (a : JobAnswer). EndsFrom knows rose moment k (jobs.Commit job) a v) (sym answer_is)
      (disk_ends knows rose moment k last job name base settled v x e few on within none at properties m.0 m.2.0 m.2.4.1.0 undated m.1 (subst (λ (a : CommitAnswer X). IfFailed a rose) is failed) m.2.2 m.2.3 m.2.4.0 m.2.4.1.1)

  pub bench_by : (knows : View → Type 0) (answer : JobAnswer) → answer ≡ answers.Stopped job.line (Outside outside.Bench) → r ≡ replies.BenchFault → Meets knows back moment properties v x r → EndsFrom knows rose moment k (jobs.Commit job) answer v
  bench_by knows answer answer_is is meets =
      let m = subst (λ (a : CommitAnswer X). Meets knows back moment properties v x a) is meets in
      subst (λ (a : JobAnswer). EndsFrom knows rose moment k (jobs.Commit job) a v) (sym answer_is)
      (bench_ends knows rose moment k last job name base settled v x e few on within none m.0 m.3.1.0 m.1 m.2 m.3.0 m.3.1.1)

-- where it was handed back, the pass is in no section, and knows its name to be given
pub back_due : {X : Type 0} (back : List Recorded → Txn → X → Type 0) (r : CommitAnswer X) (moment : ℕ) (properties : List (List ℕ × List ℕ)) (v : View) (x : Txn) (knows : View → Type 0) (bar : CommitBar) (t : X) (n : ℕ) → v.section ≡ None → IsIn x.name v.given
    → ((h : List Recorded) (y : Txn) → back h y t → y.name ≡ n) → r ≡ replies.Barred bar t → Meets knows back moment properties v x r → (u : View) × knows u × (u.section ≡ None) × IsIn n u.given
back_due {X} back r moment properties v x knows bar t n none given named is meets =
    let m = subst (λ (a : CommitAnswer X). Meets knows back moment properties v x a) is meets in
    (m.0, m.2, m.3.moved.section ∙ none, given_back v m.0 x m.1 n m.3.moved.drifted.given given m.3.name (named m.0.seen m.1 m.3.stands))
