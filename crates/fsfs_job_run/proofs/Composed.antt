-- A job over what the pass has seen, of its parts.
use Rattle.std.proofs.Common.{◌≡◌, ◌⊎◌, ◌≤◌, ◌<◌, ◌∷◌, ℕ, List, [], length, refl, sym, ap, subst, ◌∙◌, inl, inr}
use Rattle.std.specs.Prelude.{Result, Ok, Err, None, IfErr}
use Rattle.std.specs.FinMap.{get}
use Rattle.fsfs_base.specs.Paths.{Path}
use Rattle.fsfs_base.specs.declared.fields.txn_name.TxnName.{TxnName}
use Rattle.fsfs_tree.specs.Nodes.{TreeFunction}
use Rattle.fsfs_tree.specs.Revisions.{Revision, tree_of}
use Rattle.fsfs_revision.specs.Told.{RevisionBytes}
use Rattle.fsfs_machine.specs.declared.machine.Recorded.{Recorded}
use Rattle.fsfs_cli.specs.declared.faults.request_fault.RequestFault.TheVariants.{Mergeinfo}
use Rattle.fsfs_tree.specs.Dated.{last_of}
use Rattle.fsfs_model.specs.declared.flat.mark.Mark.{Mark}
use Rattle.fsfs_draft.specs.Drafts.{Folder}
use Rattle.fsfs_machine.specs.declared.machine.Txn.{Txn}
use Rattle.fsfs_machine.specs.Machine.{revisions}
use Rattle.fsfs_turn.specs.Bytes.{bytes_of}
use Rattle.fsfs_turn.specs.Views.{View}
use Rattle.fsfs_repo.specs.TxnStanding.{Stands}
use Rattle.fsfs_turn.specs.Alone.{BringsNoDoubt}
use Rattle.fsfs_turn.proofs.Doubts.{same_faults}
use Rattle.fsfs_repo.specs.Meaning.{IsTxnOf}
use Rattle.fsfs_machine.specs.Kept.{IsIn}
use Rattle.fsfs_repo.specs.Txns.Begun.{BeginsTxn}
use Rattle.fsfs_repo.specs.Txns.Purged.{PurgesAny}
use Rattle.fsfs_repo.specs.PurgeFault.{PurgeFault}
use Rattle.fsfs_machine.specs.declared.machine.Step.TheVariants.{Purge}
use Rattle.fsfs_turn.specs.Views.{with_txns}
use Rattle.fsfs_script.specs.declared.job_lines.edit.Edit.{Edit}
use Rattle.fsfs_script.specs.declared.job_lines.job.CommitJob.{CommitJob}
use Rattle.fsfs_script.specs.declared.job_lines.job.Job.TheVariants as jobs
use Rattle.fsfs_cli.specs.declared.faults.fault.Fault.{Fault}
use Rattle.fsfs_cli.specs.declared.faults.fault.Fault.TheVariants.{Words, Request, Repository, Outside, Memory, Limit}
use Rattle.fsfs_cli.specs.declared.faults.outside_fault.OutsideFault.{OutsideFault}
use Rattle.fsfs_cli.specs.declared.faults.outside_fault.OutsideFault.TheVariants as outside
use Rattle.fsfs_jobs.specs.Edits.{StopsAt, TakesSteps}
use Rattle.fsfs_jobs.specs.Serial.{base_of}
use Rattle.fsfs_jobs.specs.declared.answer.JobAnswer.{JobAnswer}
use Rattle.fsfs_jobs.specs.declared.answer.JobAnswer.TheVariants.{Stopped}
use Rattle.fsfs_jobs.specs.JobEdits.Editing.{Bars, IfRefused, IfDisk, IfDiskIn, IsCounted as HasCounts, AreEditing, IsEditedWhole, path_of}
use Rattle.fsfs_jobs.specs.declared.job_edits.edits.Stopped.{Stopped as Halted}
use Rattle.fsfs_script.specs.declared.job_lines.job.Step.{Step}
use Rattle.fsfs_base.specs.Counts.{Rose}
use Rattle.fsfs_job_run.specs.Serial.Jobs.{DoesJob, Fails, ByDisk, ByBench, ByMemory}
use Rattle.fsfs_job_run.specs.Running.{Stays, HasOutsideCause, DoesSo, CommitsSo, IfCounted, IsNoRequest, StopsOver}
use Rattle.fsfs_job_run.specs.Ending.{EndsSo, IsEdited}
use Rattle.fsfs_job_run.proofs.Staying.{IsCounted, bare_leaves}
use Rattle.fsfs_job_run.proofs.Begun.{begun_stays, begun_told}
use Rattle.fsfs_job_run.proofs.Counted.{does_on, none_counted, refused_counted, edits_outside}
use Rattle.fsfs_job_run.proofs.Full.{edits_unfull}
use Rattle.fsfs_job_run.proofs.Refused.{stopped_does, edited_txn, ends_job, runs_behind}
use Rattle.fsfs_job_run.proofs.Ends.{IsLone, StaysKnown, purges_stay}

-- ---- a purge

pub purged_stays : (knows : View → Type 0) → IsLone knows → (name : ℕ) (result : Result (Unit {0}) PurgeFault) (v : View) → IsCounted v → v.section ≡ None → PurgesAny knows name result v → StaysKnown knows v
purged_stays knows lone name result v all none p = purges_stay knows lone (with_txns (p.0 ∷ [])) (λ went. Purge v.number 0 went) result v all none p.3

-- ---- the edits were done

-- the transaction of the machine that it stands for then
pub stands_for : (v : View) (name : TxnName) (base : ℕ) (settled : Folder) (job : CommitJob) → base < length v.seen
    → IsEditedWhole job.steps name base settled (bytes_of v.seen) (tree_of (revisions v.seen)) (last_of (revisions v.seen)) (tree_of (revisions v.seen) base) []
    → (x : Txn) × IsTxnOf v.seen name base settled x × IsEdited job base (revisions v.seen) x
stands_for v name base settled job based e =
    let t = edited_txn (revisions v.seen) (last_of (revisions v.seen)) name.number.number base job e.now e.added e.takes in
    let x = t.0 in (
      x,
      record {
        numbered = t.1;
        on = t.2;
        based = based;
        stands = subst (λ (f : TreeFunction). Stands (bytes_of v.seen) (tree_of (revisions v.seen)) (last_of (revisions v.seen)) base name settled f x.marks) (sym t.3)
            (subst (λ (ms : List Mark). Stands (bytes_of v.seen) (tree_of (revisions v.seen)) (last_of (revisions v.seen)) base name settled e.now ms) (sym t.4) e.stands);
      },
      record {
        on = t.2;
        takes = subst (λ (ms : List Mark). TakesSteps (tree_of (revisions v.seen)) (last_of (revisions v.seen)) (tree_of (revisions v.seen) base) [] job.steps (get x.tree) ms) (sym t.4)
            (subst (λ (f : TreeFunction). TakesSteps (tree_of (revisions v.seen)) (last_of (revisions v.seen)) (tree_of (revisions v.seen) base) [] job.steps f e.added) (sym t.3) e.takes);
      },
    )

-- the job ends as its transaction does
pub done_job : (knows : View → Type 0) (rose : Type 0) (moment base : ℕ) (job : CommitJob) (answer : JobAnswer) (x : Txn) (v : View) → base ≡ base_of job.base (last_of (revisions v.seen)) → base ≤ last_of (revisions v.seen) → IsEdited job base (revisions v.seen) x
    → EndsSo knows rose moment job answer x v → DoesSo knows rose moment (jobs.Commit job) answer v
done_job knows rose moment base job answer x v on within e ends =
    let there : base_of job.base (last_of (revisions v.seen)) ≤ last_of (revisions v.seen) = subst (λ (b : ℕ). b ≤ last_of (revisions v.seen)) on within in
    let edited = subst (λ (b : ℕ). IsEdited job b (revisions v.seen) x) on e in
    (ends.0, ends.1, ends_job moment job answer x v ends.0 there edited ends.2, ends.3)

-- ---- an edit was refused

-- counts of mergeinfo are told as such
pub told_so : (look : RevisionBytes) (trees : ℕ → TreeFunction) (top base : ℕ) (name : TxnName) (t : TreeFunction) (marks : List Mark) (edit : Edit) (fault : Fault) → HasCounts look trees top base name t marks edit fault
    → (path : Path) × (fault ≡ Request (Mergeinfo path))
told_so look trees top base name t marks edit fault c = (path_of edit, c.fault_is)

-- of the outside only the disk or a bench fails in an edit
pub outside_so : (P : Type 0) (job : CommitJob) (line : ℕ) (why : OutsideFault) → IfDiskIn why P → Fails (jobs.Commit job) (Stopped line (Outside why))
outside_so P job line outside.Mount failed = absurd failed
outside_so P job line (outside.Disk at) failed = ByDisk (jobs.Commit job) line at
outside_so P job line outside.Read failed = absurd failed
outside_so P job line outside.Write failed = absurd failed
outside_so P job line outside.Bench failed = ByBench (jobs.Commit job) line
outside_so P job line (outside.Stuck at) failed = absurd failed

-- by the flat model, for counts, or since the outside failed or memory was wanting
pub refused_so : (P : Type 0) (moment base : ℕ) (name : TxnName) (job : CommitJob) (line : ℕ) (fault : Fault) (h : List Recorded) → base ≡ base_of job.base (last_of (revisions h)) → base ≤ last_of (revisions h)
    → IfRefused fault (StopsAt (Bars (bytes_of h) (tree_of (revisions h)) (last_of (revisions h)) base name) (tree_of (revisions h)) (last_of (revisions h)) (tree_of (revisions h) base) [] job.steps line fault)
    → IfDisk fault P → DoesJob moment (revisions h) (jobs.Commit job) (Stopped line fault) (revisions h) ⊎ Fails (jobs.Commit job) (Stopped line fault)
refused_so P moment base name job line fault h on within = by fault
  where
    there : base_of job.base (last_of (revisions h)) ≤ last_of (revisions h)
    there = subst (λ (b : ℕ). b ≤ last_of (revisions h)) on within

    stopped : (f : Fault) → StopsAt (Bars (bytes_of h) (tree_of (revisions h)) (last_of (revisions h)) base name) (tree_of (revisions h)) (last_of (revisions h)) (tree_of (revisions h) base) [] job.steps line f
        → DoesJob moment (revisions h) (jobs.Commit job) (Stopped line f) (revisions h) ⊎ Fails (jobs.Commit job) (Stopped line f)
    stopped f s = stopped_does moment job (revisions h) line f (HasCounts (bytes_of h) (tree_of (revisions h)) (last_of (revisions h)) base name) (λ t marks edit c. told_so (bytes_of h) (tree_of (revisions h)) (last_of (revisions h)) base name t marks edit f c) there
        (subst (λ (b : ℕ). StopsAt (Bars (bytes_of h) (tree_of (revisions h)) (last_of (revisions h)) base name) (tree_of (revisions h)) (last_of (revisions h)) (tree_of (revisions h) b) [] job.steps line f) on s)

    by : (f : Fault) → IfRefused f (StopsAt (Bars (bytes_of h) (tree_of (revisions h)) (last_of (revisions h)) base name) (tree_of (revisions h)) (last_of (revisions h)) (tree_of (revisions h) base) [] job.steps line f)
        → IfDisk f P → DoesJob moment (revisions h) (jobs.Commit job) (Stopped line f) (revisions h) ⊎ Fails (jobs.Commit job) (Stopped line f)
    by (Words why) s failed = absurd s
    by (Request why) s failed = stopped (Request why) s
    by (Repository why) s failed = absurd s
    by (Outside why) s failed = inr (outside_so P job line why failed)
    by Memory s failed = inr (ByMemory (jobs.Commit job) line)
    by (Limit why) s failed = stopped (Limit why) s

-- and it is purged behind that
pub refused_job : (knows : View → Type 0) (rose : Type 0) (moment : ℕ) (job : CommitJob) (line : ℕ) (fault : Fault) (v : View) → DoesJob moment (revisions v.seen) (jobs.Commit job) (Stopped line fault) (revisions v.seen) ⊎ Fails (jobs.Commit job) (Stopped line fault)
    → ((u : View) → u.pass.stuck ≡ v.pass.stuck → HasOutsideCause rose u (Stopped line fault)) → StaysKnown knows v → DoesSo knows rose moment (jobs.Commit job) (Stopped line fault) v
refused_job knows rose moment job line fault v done cause left = (
  left.0,
  left.1,
  record {
    done = subst (λ (now : List Revision). DoesJob moment (revisions v.seen) (jobs.Commit job) (Stopped line fault) now ⊎ Fails (jobs.Commit job) (Stopped line fault)) (sym (ap revisions left.2.seen)) done;
    leaves = bare_leaves (Stopped line fault) v left.0 tt left.2 (λ calm. left.3);
    left = inl left.5;
  },
  cause left.0 left.4,
)

-- ---- what came before it added nothing

pub behind : (knows : View → Type 0) (rose : Type 0) (moment : ℕ) (job : CommitJob) (answer : JobAnswer) (v m : View) → Stays v m → BringsNoDoubt v m → m.left ≡ v.left → DoesSo knows rose moment (jobs.Commit job) answer m → DoesSo knows rose moment (jobs.Commit job) answer v
behind knows rose moment job answer v m stays brings kept d = (d.0, d.1, runs_behind moment job answer v m d.0 stays brings kept d.2, d.3)

pub commits_behind : (knows : View → Type 0) (P Q : Type 0) (moment : ℕ) (job : CommitJob) (answer : JobAnswer) (v m : View) → (P → Q) → Stays v m → BringsNoDoubt v m → m.left ≡ v.left → CommitsSo knows P moment job answer m → CommitsSo knows Q moment job answer v
commits_behind knows P Q moment job answer v m f stays brings kept c =
    (does_on knows P Q moment (jobs.Commit job) answer v f (behind knows P moment job answer v m stays brings kept c.0), subst (λ (h : List Recorded). IfCounted (jobs.Commit job) answer (StopsOver h)) stays.seen c.1)

-- ---- the whole, behind the edits

-- they were done
pub edited_so : (knows : View → Type 0) (P Q : Type 0) (moment base : ℕ) (job : CommitJob) (answer : JobAnswer) (x : Txn) (v : View) → (P → Q) → base ≡ base_of job.base (last_of (revisions v.seen)) → base ≤ last_of (revisions v.seen) → IsEdited job base (revisions v.seen) x
    → IsNoRequest answer → EndsSo knows P moment job answer x v → CommitsSo knows Q moment job answer v
edited_so knows P Q moment base job answer x v f on within e none ends =
    (does_on knows P Q moment (jobs.Commit job) answer v f (done_job knows P moment base job answer x v on within e ends), none_counted (jobs.Commit job) answer (StopsOver v.seen) none)

-- one was refused, or failed
pub stopped_so : (knows : View → Type 0) (P Q : Type 0) (moment base : ℕ) (name : TxnName) (job : CommitJob) (line : ℕ) (fault : Fault) (v : View) → (P → Q) → base ≡ base_of job.base (last_of (revisions v.seen)) → base ≤ last_of (revisions v.seen)
    → IfRefused fault (StopsAt (Bars (bytes_of v.seen) (tree_of (revisions v.seen)) (last_of (revisions v.seen)) base name) (tree_of (revisions v.seen)) (last_of (revisions v.seen)) (tree_of (revisions v.seen) base) [] job.steps line fault)
    → IfDisk fault P → StaysKnown knows v → CommitsSo knows Q moment job (Stopped line fault) v
stopped_so knows P Q moment base name job line fault v f on within refused failed left = (
  refused_job knows Q moment job line fault v (refused_so P moment base name job line fault v.seen on within refused failed) (λ u same. edits_outside P Q line u fault f failed (edits_unfull line (tree_of (revisions v.seen)) (last_of (revisions v.seen)) (bytes_of v.seen) base name line (tree_of (revisions v.seen) base) [] job.steps fault refused)) left,
  refused_counted base name job line fault v.seen on refused,
)

-- ---- the whole, behind the beginning

pub begun_so : (knows : View → Type 0) (P Q : Type 0) (moment base on_base : ℕ) (name : TxnName) (settled : Folder) (job : CommitJob) (answer : JobAnswer) (v u : View) → (P → Q) → IsCounted v → IsCounted u → v.pass.least ≡ last_of (revisions v.seen)
    → base ≡ base_of job.base (last_of (revisions v.seen)) → on_base ≡ base → BeginsTxn name base settled v u
    → (u.section ≡ None → u.pass.least ≡ last_of (revisions u.seen) → IsIn name.number.number u.given → on_base < length u.seen → on_base ≡ base_of job.base (last_of (revisions u.seen))
    → Stands (bytes_of u.seen) (tree_of (revisions u.seen)) (last_of (revisions u.seen)) on_base name settled (tree_of (revisions u.seen) on_base) [] → CommitsSo knows P moment job answer u)
    → CommitsSo knows Q moment job answer v
begun_so knows P Q moment base on_base name settled job answer v u f all after told on same b does =
    commits_behind knows P Q moment job answer v u f stays (same_faults v u (ap {A = View} (λ z. z.pass.faults) b.is)) (ap {A = View} (λ z. z.left) b.is)
    (does stays.outside (begun_told name base settled v u b stays.seen told) (subst (λ (xs : List ℕ). IsIn name.number.number xs) (sym (ap {A = View} (λ z. z.given) b.is)) (inl refl)) (subst (λ (n : ℕ). n < length u.seen) (sym same) b.based)
    (same ∙ on ∙ ap (λ (h : List Recorded). base_of job.base (last_of (revisions h))) (sym stays.seen))
    (subst (λ (n : ℕ). Stands (bytes_of u.seen) (tree_of (revisions u.seen)) (last_of (revisions u.seen)) n name settled (tree_of (revisions u.seen) n) []) (sym same) b.stands))
  where
    stays : Stays v u
    stays = begun_stays name base settled v u b all after

-- ---- by results

pub edits_as : (now steps : List Step) (name : TxnName) (base : ℕ) (settled : Folder) (r : Result (Unit {0}) Halted) (look : RevisionBytes) (trees : ℕ → TreeFunction) (top : ℕ) (tree : TreeFunction) → now ≡ steps
    → AreEditing now name base settled r look trees top tree [] → AreEditing steps name base settled r look trees top tree []
edits_as now steps name base settled r look trees top tree same e = subst (λ (l : List Step). AreEditing l name base settled r look trees top tree []) same e

pub edits_done : (steps : List Step) (name : TxnName) (base : ℕ) (settled : Folder) (r : Result (Unit {0}) Halted) (done : Unit {0}) (look : RevisionBytes) (trees : ℕ → TreeFunction) (top : ℕ) (tree : TreeFunction) → r ≡ Ok done
    → AreEditing steps name base settled r look trees top tree [] → IsEditedWhole steps name base settled look trees top tree []
edits_done steps name base settled r done look trees top tree is e = subst (λ (q : Result (Unit {0}) Halted). AreEditing steps name base settled q look trees top tree []) is e

pub edits_stopped : (steps : List Step) (name : TxnName) (base : ℕ) (settled : Folder) (r : Result (Unit {0}) Halted) (s : Halted) (line : ℕ) (fault : Fault) (look : RevisionBytes) (trees : ℕ → TreeFunction) (top : ℕ) (tree : TreeFunction) → r ≡ Err s → s.line ≡ line → s.fault ≡ fault
    → AreEditing steps name base settled r look trees top tree [] → IfRefused fault (StopsAt (Bars look trees top base name) trees top tree [] steps line fault)
edits_stopped steps name base settled r s line fault look trees top tree is at why e =
    subst (λ (f : Fault). IfRefused f (StopsAt (Bars look trees top base name) trees top tree [] steps line f)) why
    (subst (λ (n : ℕ). IfRefused s.fault (StopsAt (Bars look trees top base name) trees top tree [] steps n s.fault)) at
    (subst (λ (q : Result (Unit {0}) Halted). AreEditing steps name base settled q look trees top tree []) is e))

pub edits_failed : (r : Result (Unit {0}) Halted) (s : Halted) (fault : Fault) (P : Type 0) → r ≡ Err s → s.fault ≡ fault → IfErr r (λ e. IfDisk e.fault P) → IfDisk fault P
edits_failed r s fault P is why failed = subst (λ (f : Fault). IfDisk f P) why (subst (λ (q : Result (Unit {0}) Halted). IfErr q (λ e. IfDisk e.fault P)) is failed)

-- the counts, seen from outside
pub failed_as : (r : Result (Unit {0}) Halted) (a b c d : ℕ) → a ≡ c → b ≡ d → IfErr r (λ e. IfDisk e.fault (Rose a b)) → IfErr r (λ e. IfDisk e.fault (Rose c d))
failed_as r a b c d first second failed = subst (λ (n : ℕ). IfErr r (λ e. IfDisk e.fault (Rose c n))) second (subst (λ (n : ℕ). IfErr r (λ e. IfDisk e.fault (Rose n b))) first failed)

pub txn_as : (h : List Recorded) (n m : TxnName) (a b : ℕ) (settled : Folder) (x : Txn) → n ≡ m → a ≡ b → IsTxnOf h m b settled x → IsTxnOf h n a settled x
txn_as h n m a b settled x named based is = subst (λ (k : TxnName). IsTxnOf h k a settled x) (sym named) (subst (λ (k : ℕ). IsTxnOf h m k settled x) (sym based) is)

pub given_as : (n m : TxnName) (given : List ℕ) → n ≡ m → IsIn m.number.number given → IsIn n.number.number given
given_as n m given named is = subst (λ (k : TxnName). IsIn k.number.number given) (sym named) is
