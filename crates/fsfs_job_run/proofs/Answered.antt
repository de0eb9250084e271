-- What a commit answered, as the end of a job's transaction.
use Rattle.std.proofs.Common.{◌≡◌, ◌⊎◌, ◌<◌, ℕ, List, Bool, length, false, inl, inr, ⊎_elim, sym, ap, subst, ◌∙◌, arith}
use Rattle.std.specs.BTreeMap.{insert_entry}
use Rattle.std.specs.Cmp.Lexicographic.{slice_cmp}
use Rattle.std.specs.Ordering.{nat_cmp}
use Rattle.std.specs.Prelude.{Option, Some, None}
use Rattle.fsfs_tree.specs.Dated.{date_name, last_of}
use Rattle.fsfs_tree.specs.Histories.{IsHistory}
use Rattle.fsfs_base.specs.declared.places.place.DiskPlace.{DiskPlace}
use Rattle.fsfs_machine.specs.declared.machine.Coming.{Coming}
use Rattle.fsfs_machine.specs.declared.machine.Recorded.{Recorded}
use Rattle.fsfs_machine.specs.declared.machine.Txn.{Txn}
use Rattle.fsfs_machine.specs.Kept.{IsIn}
use Rattle.fsfs_machine.specs.Machine.{revisions}
use Rattle.fsfs_machine.proofs.Growing.{revisions_length}
use Rattle.fsfs_turn.specs.Alone.{BringsNoDoubt}
use Rattle.fsfs_turn.specs.Views.{View, IsTxnOver}
use Rattle.fsfs_repo.specs.Replies.{Committed, LeavesDoubt, Moved, Wrote, brings_doubt}
use Rattle.fsfs_repo.specs.Works.{Landings}
use Rattle.fsfs_repo.specs.Dating.{IsDatedAt}
use Rattle.fsfs_repo.specs.Txns.Commits.{Bars, IfFailed, IsDropped, Meets}
use Rattle.fsfs_repo.specs.declared.txns.answers.CommitAnswer.{CommitAnswer}
use Rattle.fsfs_repo.specs.declared.txns.answers.CommitAnswer.TheVariants as replies
use Rattle.fsfs_base.specs.declared.failed.Failed.{Failed}
use Rattle.fsfs_base.specs.declared.fields.txn_name.TxnName.{TxnName}
use Rattle.fsfs_draft.specs.Drafts.{Folder}
use Rattle.fsfs_repo.specs.Meaning.{IsTxnOf}
use Rattle.fsfs_repo.specs.declared.txns.answers.CommitBar.{CommitBar}
use Rattle.fsfs_script.specs.declared.job_lines.job.CommitJob.{CommitJob}
use Rattle.fsfs_script.specs.declared.job_lines.job.Job.TheVariants as jobs
use Rattle.fsfs_cli.specs.declared.faults.fault.Fault.TheVariants.{Outside}
use Rattle.fsfs_cli.specs.declared.faults.outside_fault.OutsideFault.TheVariants as outside
use Rattle.fsfs_jobs.specs.Properties.{job_properties, undated_properties}
use Rattle.fsfs_jobs.specs.declared.answer.JobAnswer.{JobAnswer}
use Rattle.fsfs_jobs.specs.declared.answer.JobAnswer.TheVariants as answers
use Rattle.fsfs_job_run.specs.Serial.Jobs.{ByDisk, ByBench}
use Rattle.fsfs_job_run.specs.Faults.{answer_of_bar}
use Rattle.fsfs_job_run.specs.Running.{Stays}
use Rattle.fsfs_job_run.specs.Ending.{EndsSo, TxnLeft}
use Rattle.fsfs_job_run.proofs.Ended.{wrote_commits}
use Rattle.fsfs_job_run.proofs.PropertyLemmas.{job_dated}
use Rattle.fsfs_job_run.proofs.Bars.{bar_bare, bar_done, bar_outside}
use Rattle.fsfs_job_run.proofs.Ends.{IsLone, StaysKnown, back_stays, ends_committed, ends_failed, ends_purged}
use Rattle.fsfs_job_run.proofs.Staying.{IsCounted}

pub committed_ends : (knows : View → Type 0) → IsLone knows → (rose : Type 0) (moment rev : ℕ) (job : CommitJob) (properties : List (List ℕ × List ℕ)) (gone : Bool) (v : View) (x : Txn) → v.number ≡ 0 → IsCounted v → properties ≡ undated_properties job
    → (dated : List (List ℕ × List ℕ)) → IsDatedAt moment properties dated → (m : View) (y : Txn) → Committed rev dated v m x y → IsDropped knows gone x.name m → EndsSo knows rose moment job (answers.Committed rev) x v
committed_ends knows lone rose moment rev job properties gone v x at_first all undated dated date m y c dropped = ends_committed knows lone rose moment rev job properties dated gone x.name v m x y at_first all c.opened undated date c dropped

pub barred_ends : (before after : View → Type 0) → IsLone before → IsLone after → (rose : Type 0) (moment : ℕ) (job : CommitJob) (bar : CommitBar) (answer : JobAnswer) (v u : View) (x y : Txn) → IsHistory (revisions v.seen) → IsTxnOver v.seen x
    → IsCounted v → v.section ≡ None → v.pass.least ≡ last_of (revisions v.seen) → 0 < length v.seen → before u → Moved v u → BringsNoDoubt v u → u.left ≡ v.left → Landings u.seen x y → Bars bar u y → answer ≡ answer_of_bar job.line bar → StaysKnown after u → EndsSo after rose moment job answer x v
barred_ends before after lone alone rose moment job bar answer v u x y hist over all none told some known moved brings kept landings bars is left =
    subst (λ (a : JobAnswer). EndsSo after rose moment job a x v) (sym is)
    (ends_purged after alone rose moment job (answer_of_bar job.line bar) x v u stays brings kept (bar_bare job.line bar)
    (bar_done moment v.number job v.seen u x y hist over (subst (λ (h : List Recorded). Landings h x y) stays.seen landings) stays.seen some still bar bars) (λ m same. bar_outside rose job.line u m y bar bars same) left)
  where
    stays : Stays v u
    stays = back_stays before lone v u all none moved known

    still : u.pass.least ≡ last_of (revisions v.seen)
    still =
        let long : length u.seen ≡ length v.seen = ap (λ (h : List Recorded). length h) stays.seen in
        omega (arith, revisions_length v.seen, long, moved.drifted.least, lone.told u known, told)

-- the properties of the revision, with the moment as the date
dated_so : (moment : ℕ) (job : CommitJob) (properties dated : List (List ℕ × List ℕ)) → properties ≡ undated_properties job → (date : IsDatedAt moment properties dated) → dated ≡ job_properties date.0 job
dated_so moment job properties dated undated date = date.2 ∙ ap (λ (p : List (List ℕ × List ℕ)). insert_entry (slice_cmp nat_cmp) p date_name date.0) undated ∙ job_dated date.0 job

pub disk_ends : (knows : View → Type 0) → IsLone knows → (rose : Type 0) (moment : ℕ) (job : CommitJob) (at : DiskPlace) (answer : JobAnswer) (v : View) (x : Txn) → IsCounted v → v.section ≡ None → rose → answer ≡ answers.Stopped job.line (Outside (outside.Disk at))
    → (properties dated : List (List ℕ × List ℕ)) → properties ≡ undated_properties job → IsDatedAt moment properties dated → (u : View) → (brings_doubt at ≡ false → BringsNoDoubt v u) → LeavesDoubt (Wrote dated v u x) v u → Moved v u → (gone : Bool) → IsDropped knows gone x.name u
    → EndsSo knows rose moment job answer x v
disk_ends knows lone rose moment job at answer v x all none up is properties dated undated date u brings doubt moved gone dropped =
    subst (λ (a : JobAnswer). EndsSo knows rose moment job a x v) (sym is)
    (ends_failed knows lone rose moment job (answers.Stopped job.line (Outside (outside.Disk at))) x gone x.name v u all none tt (ByDisk (jobs.Commit job) job.line at) (λ m same. up) brings left_by moved dropped)
  where
    left_by : TxnLeft moment job x v u
    left_by = ⊎_elim (λ kept. inl kept) (λ (w : (c : Coming) × (u.left ≡ Some c) × Wrote dated v u x c). inr (w.0, w.1, wrote_commits moment job date.0 dated v u x w.0 w.2 date.1 (dated_so moment job properties dated undated date))) doubt

pub bench_ends : (knows : View → Type 0) → IsLone knows → (rose : Type 0) (moment : ℕ) (job : CommitJob) (answer : JobAnswer) (v : View) (x : Txn) → IsCounted v → v.section ≡ None → answer ≡ answers.Stopped job.line (Outside outside.Bench)
    → (u : View) → BringsNoDoubt v u → u.left ≡ v.left → Moved v u → (gone : Bool) → IsDropped knows gone x.name u → EndsSo knows rose moment job answer x v
bench_ends knows lone rose moment job answer v x all none is u brings kept moved gone dropped =
    subst (λ (a : JobAnswer). EndsSo knows rose moment job a x v) (sym is)
    (ends_failed knows lone rose moment job (answers.Stopped job.line (Outside outside.Bench)) x gone x.name v u all none tt (ByBench (jobs.Commit job) job.line) (λ m same. tt) (λ calm. brings) (inl kept) moved dropped)

-- the name of one that is handed back is known to be given still
pub given_back : (v u : View) (x y : Txn) (n : ℕ) → u.given ≡ v.given → IsIn x.name v.given → y.name ≡ x.name → y.name ≡ n → IsIn n u.given
given_back v u x y n same given name numbered = subst (λ (k : ℕ). IsIn k u.given) (sym name ∙ numbered) (subst (λ (g : List ℕ). IsIn x.name g) (sym same) given)

-- ---- by the answer

module _ {X : Type 0} (spent : X → Option Failed) (name : X → TxnName) (base : X → ℕ) (settled : X → Folder) (r : CommitAnswer X) (rose : Type 0) (moment : ℕ) (job : CommitJob) (properties : List (List ℕ × List ℕ)) (v : View) (x : Txn) where
  pub committed_by : (knows : View → Type 0) → IsLone knows → (rev : ℕ) (gone : Bool) → v.number ≡ 0 → IsCounted v → properties ≡ undated_properties job → r ≡ replies.Committed rev gone
      → Meets knows (λ h y t. (spent t ≡ None) × IsTxnOf h (name t) (base t) (settled t) y) moment properties v x r → EndsSo knows rose moment job (answers.Committed rev) x v
  committed_by knows lone rev gone at_first all undated is meets =
      let m = subst (λ (a : CommitAnswer X). Meets knows (λ h y t. (spent t ≡ None) × IsTxnOf h (name t) (base t) (settled t) y) moment properties v x a) is meets in
      committed_ends knows lone rose moment rev job properties gone v x at_first all undated m.0 m.1 m.2.0 m.2.1 m.2.2 m.2.3

  pub barred_by : (before after : View → Type 0) → IsLone before → IsLone after → (bar : CommitBar) (t : X) (answer : JobAnswer) → IsHistory (revisions v.seen) → IsTxnOver v.seen x → IsCounted v → v.section ≡ None → v.pass.least ≡ last_of (revisions v.seen)
      → 0 < length v.seen → IsIn x.name v.given → answer ≡ answer_of_bar job.line bar → r ≡ replies.Barred bar t → Meets before (λ h y t. (spent t ≡ None) × IsTxnOf h (name t) (base t) (settled t) y) moment properties v x r
      → ((u : View) → before u → u.section ≡ None → IsIn (name t).number.number u.given → StaysKnown after u) → EndsSo after rose moment job answer x v
  barred_by before after lone alone bar t answer hist over all none told some given answer_is is meets left =
      let m = subst (λ (a : CommitAnswer X). Meets before (λ h y t. (spent t ≡ None) × IsTxnOf h (name t) (base t) (settled t) y) moment properties v x a) is meets in
      let stays = back_stays before lone v m.0 all none m.3.moved m.2 in
      barred_ends before after lone alone rose moment job bar answer v m.0 x m.1 hist over all none told some m.2 m.3.moved m.3.doubtless m.3.left m.3.landings m.4 answer_is
      (left m.0 m.2 stays.outside (given_back v m.0 x m.1 (name t).number.number m.3.moved.drifted.given given m.3.name m.3.stands.1.numbered))

  pub disk_by : (knows : View → Type 0) → IsLone knows → (at : DiskPlace) (answer : JobAnswer) → IsCounted v → v.section ≡ None → answer ≡ answers.Stopped job.line (Outside (outside.Disk at)) → properties ≡ undated_properties job → r ≡ replies.DiskFault at → IfFailed r rose
      → Meets knows (λ h y t. (spent t ≡ None) × IsTxnOf h (name t) (base t) (settled t) y) moment properties v x r → EndsSo knows rose moment job answer x v
  disk_by knows lone at answer all none answer_is undated is failed meets =
      let m = subst (λ (a : CommitAnswer X). Meets knows (λ h y t. (spent t ≡ None) × IsTxnOf h (name t) (base t) (settled t) y) moment properties v x a) is meets in
      disk_ends knows lone rose moment job at answer v x all none (subst (λ (a : CommitAnswer X). IfFailed a rose) is failed) answer_is properties m.0 undated m.1 m.2.0 m.2.2 m.2.3 m.2.4.0 m.2.4.1.0 m.2.4.1.1

  pub bench_by : (knows : View → Type 0) → IsLone knows → (answer : JobAnswer) → IsCounted v → v.section ≡ None → answer ≡ answers.Stopped job.line (Outside outside.Bench) → r ≡ replies.BenchFault
      → Meets knows (λ h y t. (spent t ≡ None) × IsTxnOf h (name t) (base t) (settled t) y) moment properties v x r → EndsSo knows rose moment job answer x v
  bench_by knows lone answer all none answer_is is meets =
      let m = subst (λ (a : CommitAnswer X). Meets knows (λ h y t. (spent t ≡ None) × IsTxnOf h (name t) (base t) (settled t) y) moment properties v x a) is meets in
      bench_ends knows lone rose moment job answer v x all none answer_is m.0 m.1 m.2 m.3.0 m.3.1.0 m.3.1.1
