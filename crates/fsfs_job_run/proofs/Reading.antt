-- A job that reads, done over a revision that there is.
use Rattle.std.proofs.Common.{◌≡◌, ◌⊎◌, ◌≤◌, ℕ, List, [], sym, ap, subst, inl, inr, arith}
use Rattle.fsfs_base.specs.declared.kind.Kind.{Kind}
use Rattle.fsfs_base.specs.declared.kind.Kind.TheVariants.{File, Dir}
use Rattle.fsfs_base.specs.Fields.Dates.{IsDateAt}
use Rattle.fsfs_tree.specs.Nodes.{Content, Bytes, Closed}
use Rattle.fsfs_tree.specs.Revisions.{Revision, tree_of}
use Rattle.fsfs_tree.specs.Dated.{last_of}
use Rattle.fsfs_tree.specs.Answers.{Found, Stands, Lacking, Blocked, found_at}
use Rattle.fsfs_base.specs.Counts.{Rose}
use Rattle.fsfs_machine.specs.declared.machine.Recorded.{Recorded}
use Rattle.fsfs_machine.specs.Machine.{revisions}
use Rattle.fsfs_turn.specs.Views.{View}
use Rattle.fsfs_base.specs.declared.places.place.DiskPlace.TheVariants as places
use Rattle.fsfs_script.specs.declared.job_lines.job.ReadJob.{ReadJob}
use Rattle.fsfs_script.specs.declared.job_lines.job.Job.TheVariants as jobs
use Rattle.fsfs_jobs.specs.Serial.{ReadsText, IsReadOf, read_kind, base_of}
use Rattle.fsfs_jobs.specs.declared.answer.JobAnswer.{JobAnswer}
use Rattle.fsfs_jobs.specs.declared.answer.JobAnswer.TheVariants as answers
use Rattle.fsfs_job_run.specs.TextReads.{ReadsSo, ByTree, DiskFails, Wants, IfAnswerFails}
use Rattle.fsfs_job_run.specs.Serial.Jobs.{IfAdded, DoesJob, Fails, ByDisk, ByMemory, RunsJob}
use Rattle.fsfs_job_run.specs.Running.{HasLooked, HasOutsideCause, DoesSo}
use Rattle.fsfs_job_run.proofs.Staying.{IsBare, bare_leaves}

-- ---- a reading tells no revision that was added

kind_bare : (job : ReadJob) (rev : ℕ) (kind : Kind) (text : Content) (answer : JobAnswer) → read_kind job rev kind text answer → IfAdded answer ⊥
kind_bare job rev Dir text answer is = subst (λ (a : JobAnswer). IfAdded a ⊥) (sym is) tt
kind_bare job rev File (Closed at offset) answer is = subst (λ (a : JobAnswer). IfAdded a ⊥) (sym is) tt
kind_bare job rev File (Bytes bytes) (answers.Committed r) is = is
kind_bare job rev File (Bytes bytes) (answers.Read read) is = tt
kind_bare job rev File (Bytes bytes) (answers.Conflict head path) is = tt
kind_bare job rev File (Bytes bytes) (answers.Stopped line fault) is = tt

pub found_bare : (job : ReadJob) (rev : ℕ) (found : Found) (answer : JobAnswer) → IsReadOf job rev found answer → IfAdded answer ⊥
found_bare job rev (Stands node) answer is = kind_bare job rev node.kind node.text answer is
found_bare job rev (Lacking at) answer is = subst (λ (a : JobAnswer). IfAdded a ⊥) (sym is) tt
found_bare job rev (Blocked at) answer is = subst (λ (a : JobAnswer). IfAdded a ⊥) (sym is) tt

pub reads_bare : (job : ReadJob) (rev : ℕ) (found : Found) (answer : JobAnswer) → ReadsSo job rev found answer → IfAdded answer ⊥
reads_bare job rev found answer (ByTree _ is) = found_bare job rev found answer is
reads_bare job rev found _ DiskFails = tt
reads_bare job rev found _ Wants = tt

pub none_added : (P : Type 0) (answer : JobAnswer) → IfAdded answer ⊥ → IfAdded answer P
none_added P (answers.Committed r) none = absurd none
none_added P (answers.Read text) none = tt
none_added P (answers.Conflict head path) none = tt
none_added P (answers.Stopped line fault) none = tt

pub is_bare : (answer : JobAnswer) → IfAdded answer ⊥ → IsBare answer
is_bare (answers.Committed r) none = none
is_bare (answers.Read text) none = tt
is_bare (answers.Conflict head path) none = tt
is_bare (answers.Stopped line fault) none = tt

-- ---- nor that the outside failed, but where the disk did

kind_outside : (rose : Type 0) (u : View) (job : ReadJob) (rev : ℕ) (kind : Kind) (text : Content) (answer : JobAnswer) → read_kind job rev kind text answer → HasOutsideCause rose u answer
kind_outside rose u job rev Dir text answer is = subst (λ (a : JobAnswer). HasOutsideCause rose u a) (sym is) tt
kind_outside rose u job rev File (Closed at offset) answer is = subst (λ (a : JobAnswer). HasOutsideCause rose u a) (sym is) tt
kind_outside rose u job rev File (Bytes bytes) (answers.Committed r) is = tt
kind_outside rose u job rev File (Bytes bytes) (answers.Read read) is = tt
kind_outside rose u job rev File (Bytes bytes) (answers.Conflict head path) is = tt
kind_outside rose u job rev File (Bytes bytes) (answers.Stopped line fault) is = absurd is

found_outside : (rose : Type 0) (u : View) (job : ReadJob) (rev : ℕ) (found : Found) (answer : JobAnswer) → IsReadOf job rev found answer → HasOutsideCause rose u answer
found_outside rose u job rev (Stands node) answer is = kind_outside rose u job rev node.kind node.text answer is
found_outside rose u job rev (Lacking at) answer is = subst (λ (a : JobAnswer). HasOutsideCause rose u a) (sym is) tt
found_outside rose u job rev (Blocked at) answer is = subst (λ (a : JobAnswer). HasOutsideCause rose u a) (sym is) tt

pub reads_outside : (rose : Type 0) (u : View) (job : ReadJob) (rev : ℕ) (found : Found) (answer : JobAnswer) → ReadsSo job rev found answer → IfAnswerFails answer rose → HasOutsideCause rose u answer
reads_outside rose u job rev found answer (ByTree _ is) failed = found_outside rose u job rev found answer is
reads_outside rose u job rev found _ DiskFails failed = failed
reads_outside rose u job rev found _ Wants failed = tt

-- ---- what stands at the path, in the revision that the job is about

pub reads_does : (moment : ℕ) (job : ReadJob) (h : List Revision) (answer : JobAnswer) → base_of job.base (last_of h) ≤ last_of h
    → ReadsSo job (base_of job.base (last_of h)) (found_at (tree_of h (base_of job.base (last_of h))) job.path) answer → DoesJob moment h (jobs.Read job) answer h ⊎ Fails (jobs.Read job) answer
reads_does moment job h answer within (ByTree _ is) =
    inl ([], none_added (IsDateAt moment []) answer (found_bare job (base_of job.base (last_of h)) (found_at (tree_of h (base_of job.base (last_of h))) job.path) answer is), λ t less. (t, omega arith, ReadsText job answer within is))
reads_does moment job h _ within DiskFails = inr (ByDisk (jobs.Read job) job.line places.Read)
reads_does moment job h _ within Wants = inr (ByMemory (jobs.Read job) job.line)

-- the whole job, over what the pass has seen
pub reads_job : (moment : ℕ) (job : ReadJob) (answer : JobAnswer) (v u : View) → base_of job.base (last_of (revisions v.seen)) ≤ last_of (revisions v.seen) → HasLooked v u
    → ReadsSo job (base_of job.base (last_of (revisions v.seen))) (found_at (tree_of (revisions v.seen) (base_of job.base (last_of (revisions v.seen)))) job.path) answer → RunsJob moment (jobs.Read job) answer v u
reads_job moment job answer v u within looked reads = record {
  done = subst (λ (now : List Revision). DoesJob moment (revisions v.seen) (jobs.Read job) answer now ⊎ Fails (jobs.Read job) answer) (sym (ap revisions looked.stays.seen)) (reads_does moment job (revisions v.seen) answer within reads);
  leaves = bare_leaves answer v u (is_bare answer (reads_bare job _ _ answer reads)) looked.stays (λ calm. looked.doubtless);
  left = inl looked.left;
}

-- and what is known behind it
pub read_so : (knows : View → Type 0) (rose : Type 0) (moment base : ℕ) (job : ReadJob) (answer : JobAnswer) (v u : View) → knows u → HasLooked v u → base ≡ base_of job.base (last_of (revisions v.seen)) → base ≤ last_of (revisions v.seen)
    → ReadsSo job base (found_at (tree_of (revisions u.seen) base) job.path) answer → IfAnswerFails answer rose → DoesSo knows rose moment (jobs.Read job) answer v
read_so knows rose moment base job answer v u known looked on within reads failed =
    (u, known, reads_job moment job answer v u (subst (λ (b : ℕ). b ≤ last_of (revisions v.seen)) on within) looked here, reads_outside rose u job base (found_at (tree_of (revisions u.seen) base) job.path) answer reads failed)
  where
    here : ReadsSo job (base_of job.base (last_of (revisions v.seen))) (found_at (tree_of (revisions v.seen) (base_of job.base (last_of (revisions v.seen)))) job.path) answer
    here = subst (λ (b : ℕ). ReadsSo job b (found_at (tree_of (revisions v.seen) b) job.path) answer) on (subst (λ (h : List Recorded). ReadsSo job base (found_at (tree_of (revisions h) base) job.path) answer) looked.stays.seen reads)

-- the counts, seen from outside
pub fails_as : (answer : JobAnswer) (a b c d : ℕ) → a ≡ c → b ≡ d → IfAnswerFails answer (Rose a b) → IfAnswerFails answer (Rose c d)
fails_as answer a b c d first second failed = subst (λ (n : ℕ). IfAnswerFails answer (Rose c n)) second (subst (λ (n : ℕ). IfAnswerFails answer (Rose n b)) first failed)
