-- What a job of a script does to a history.
use Rattle.std.specs.Prelude.{◌≡◌, ℕ, ◌+◌, ◌-◌, ◌^◌, ◌<◌, ◌≤◌, List, [], ◌∷◌, ◌++◌, length, Option, Some, None}
use Rattle.std.specs.FinMap.{get}
use Rattle.md5.specs.Md5.{md5}
use Rattle.fsfs_base.specs.Paths.{Path}
use Rattle.fsfs_base.specs.declared.kind.Kind.{Kind}
use Rattle.fsfs_base.specs.declared.kind.Kind.TheVariants.{File, Dir}
use Rattle.fsfs_base.specs.Fields.RevNums.{last_rev}
use Rattle.fsfs_tree.specs.Nodes.{Content, Bytes, Closed, TreeFunction}
use Rattle.fsfs_tree.specs.Revisions.{Revision, tree_of}
use Rattle.fsfs_tree.specs.Dated.{last_of}
use Rattle.fsfs_model.specs.Flat.Landing.{IsFirstClash}
use Rattle.fsfs_model.specs.Flat.Transactions.{Entry, IsNext}
use Rattle.fsfs_model.specs.declared.flat.mark.Mark.{Mark}
use Rattle.fsfs_tree.specs.Answers.{Found, Stands, Lacking, Blocked, found_at}
use Rattle.fsfs_revision.specs.Damage.Damages.{place_of}
use Rattle.fsfs_script.specs.declared.job_lines.job.Base.{Base}
use Rattle.fsfs_script.specs.declared.job_lines.job.Base.TheVariants.{Youngest, Number}
use Rattle.fsfs_script.specs.declared.job_lines.job.CommitJob.{CommitJob}
use Rattle.fsfs_script.specs.declared.job_lines.job.ReadJob.{ReadJob}
use Rattle.fsfs_script.specs.declared.job_lines.job.Job.{Job}
use Rattle.fsfs_script.specs.declared.job_lines.job.Job.TheVariants as jobs
use Rattle.fsfs_cli.specs.declared.faults.fault.Fault.{Fault}
use Rattle.fsfs_cli.specs.declared.faults.fault.Fault.TheVariants.{Request, Repository, Limit}
use Rattle.fsfs_cli.specs.declared.faults.request_fault.RequestFault.TheVariants.{NotFound, NotDir, NotFile, NoRev}
use Rattle.fsfs_cli.specs.declared.faults.repository_fault.RepositoryFault.TheVariants.{Delta}
use Rattle.fsfs_cli.specs.declared.faults.limit_fault.LimitFault.TheVariants.{NamesFull, RevsFull}
use Rattle.fsfs_jobs.specs.Edits.{Refuses, TakesSteps, StopsAt}
use Rattle.fsfs_jobs.specs.Properties.{job_properties}
use Rattle.fsfs_jobs.specs.declared.answer.JobAnswer.{JobAnswer}
use Rattle.fsfs_jobs.specs.declared.answer.JobAnswer.TheVariants.{Committed, Read, Conflict, Stopped}

-- the revision that a job is about, over a history whose last is the youngest
abbrev pub base_of : Base → ℕ → ℕ
base_of Youngest last = last
base_of (Number n) last = n

-- ---- a text that is read

abbrev pub read_kind : ReadJob → ℕ → Kind → Content → JobAnswer → Type 0
read_kind job rev Dir text answer = answer ≡ Stopped job.line (Request (NotFile job.path))
read_kind job rev File (Closed at offset) answer = answer ≡ Stopped job.line (Repository (Delta (place_of at offset)))
read_kind job rev File (Bytes bytes) (Read read) = (read.rev ≡ rev) × (read.size ≡ length bytes) × (read.md5.bytes ≡ md5 bytes)
read_kind job rev File (Bytes bytes) answer = ⊥

-- what stands at its path in the revision
abbrev pub IsReadOf : ReadJob → ℕ → Found → JobAnswer → Type 0
IsReadOf job rev (Stands node) answer = read_kind job rev node.kind node.text answer
IsReadOf job rev (Lacking at) answer = answer ≡ Stopped job.line (Request (NotFound at))
IsReadOf job rev (Blocked at) answer = answer ≡ Stopped job.line (Request (NotDir at))

-- ---- a transaction that is committed

-- a commit of this entry over a history
pub data Commits (h : List Revision) (e : Entry) : JobAnswer → List Revision → Type 0 where
  Adds : (next : Revision) → IsNext h e next → Commits h e (Committed (length h)) (h ++ next ∷ [])
  Clashes : (path : Path) → length h ≤ last_rev → IsFirstClash e.base (tree_of h e.base) (tree_of h (last_of h)) (get e.tree) e.marks path → Commits h e (Conflict (last_of h) path) h

-- a transaction on a base that the history has: its name is given, and its edits are done one by one
pub data Transacts (h : List Revision) (date : List ℕ) (job : CommitJob) (base : ℕ) : JobAnswer → List Revision → Type 0 where
  Refused : (line : ℕ) (fault : Fault) → StopsAt (λ t marks edit f. Refuses (tree_of h) (last_of h) t edit f) (tree_of h) (last_of h) (tree_of h base) [] job.steps line fault
      → Transacts h date job base (Stopped line fault) h
  Full : (t : TreeFunction) (marks : List Mark) → TakesSteps (tree_of h) (last_of h) (tree_of h base) [] job.steps t marks → last_rev < length h
      → Transacts h date job base (Stopped job.line (Limit RevsFull)) h
  Done : (e : Entry) (answer : JobAnswer) (now : List Revision) → TakesSteps (tree_of h) (last_of h) (tree_of h base) [] job.steps (get e.tree) e.marks → e.base ≡ base → e.properties ≡ job_properties date job
      → Commits h e answer now → Transacts h date job base answer now

-- ---- a job

-- the last number that a transaction's name can have
abbrev pub last_name : ℕ
last_name = 36 ^ 13 - 1

-- The answer of a job over a history and the number that is in `txn-current`, and both behind it.
pub data Runs (h : List Revision) (date : List ℕ) (t : ℕ) : Job → JobAnswer → List Revision → ℕ → Type 0 where
  ReadsText : (job : ReadJob) (answer : JobAnswer) → base_of job.base (last_of h) ≤ last_of h
      → IsReadOf job (base_of job.base (last_of h)) (found_at (tree_of h (base_of job.base (last_of h))) job.path) answer → Runs h date t (jobs.Read job) answer h t
  LacksRead : (job : ReadJob) (n : ℕ) → job.base ≡ Number n → last_of h < n → Runs h date t (jobs.Read job) (Stopped job.line (Request (NoRev n (last_of h)))) h t
  LacksBase : (job : CommitJob) (n : ℕ) → job.base ≡ Number n → last_of h < n → Runs h date t (jobs.Commit job) (Stopped job.line (Request (NoRev n (last_of h)))) h t
  LacksName : (job : CommitJob) → base_of job.base (last_of h) ≤ last_of h → last_name ≤ t → Runs h date t (jobs.Commit job) (Stopped job.line (Limit NamesFull)) h t
  Begins : (job : CommitJob) (answer : JobAnswer) (now : List Revision) → base_of job.base (last_of h) ≤ last_of h → t < last_name
      → Transacts h date job (base_of job.base (last_of h)) answer now → Runs h date t (jobs.Commit job) answer now (t + 1)
