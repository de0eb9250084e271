-- What the line of a job says of each history that goes on from what the pass knows behind it.
use Rattle.std.proofs.Common.{◌≡◌, ◌<◌, ◌≤◌, ◌+◌, ℕ, List, [], ◌∷◌, ◌++◌, length, take, refl, sym, ap, subst, ◌∙◌, arith}
use Rattle.std.specs.FinMap.{get}
use Rattle.fsfs_base.specs.Paths.{Path}
use Rattle.fsfs_base.specs.Fields.Dates.{IsDateAt}
use Rattle.fsfs_base.specs.Fields.RevNums.{last_rev}
use Rattle.fsfs_tree.specs.Nodes.{TreeFunction}
use Rattle.fsfs_tree.specs.Dated.{last_of}
use Rattle.fsfs_tree.specs.Histories.{IsHistory}
use Rattle.fsfs_tree.specs.Revisions.{Revision, tree_of}
use Rattle.fsfs_tree.specs.Answers.{found_at}
use Rattle.fsfs_model.specs.Flat.Landing.{IsFirstClash}
use Rattle.fsfs_model.specs.Flat.Transactions.{IsNext}
use Rattle.fsfs_machine.specs.declared.machine.Coming.{Coming}
use Rattle.fsfs_machine.specs.declared.machine.Recorded.{Recorded}
use Rattle.fsfs_machine.specs.declared.machine.Txn.{Txn}
use Rattle.fsfs_machine.specs.Kept.{Follows}
use Rattle.fsfs_machine.specs.Machine.{revisions, entry_of}
use Rattle.fsfs_machine.proofs.Growing.{revisions_length}
use Rattle.fsfs_turn.specs.Views.{View, Begins, IsTxnOver}
use Rattle.fsfs_turn.proofs.Longer.{tree_first}
use Rattle.fsfs_turn.proofs.Reading.{begins_on}
use Rattle.fsfs_turn.proofs.Moments.{begins_take}
use Rattle.fsfs_turn.proofs.Alone.{no_shorter}
use Rattle.fsfs_job_run.specs.Replies.{Committed, Wrote}
use Rattle.fsfs_job_run.specs.Works.{Landings}
use Rattle.fsfs_job_run.specs.Refusals.{IsClashAt}
use Rattle.fsfs_cli.specs.declared.faults.fault.Fault.{Fault}
use Rattle.fsfs_cli.specs.declared.faults.fault.Fault.TheVariants.{Request, Limit}
use Rattle.fsfs_cli.specs.declared.faults.limit_fault.LimitFault.TheVariants.{RevsFull}
use Rattle.fsfs_cli.specs.declared.faults.request_fault.RequestFault.TheVariants.{NoRev}
use Rattle.fsfs_script.specs.declared.job_lines.job.Base.{Base}
use Rattle.fsfs_script.specs.declared.job_lines.job.Base.TheVariants.{Youngest, Number}
use Rattle.fsfs_script.specs.declared.job_lines.job.CommitJob.{CommitJob}
use Rattle.fsfs_script.specs.declared.job_lines.job.ReadJob.{ReadJob}
use Rattle.fsfs_script.specs.declared.job_lines.job.Job.TheVariants as jobs
use Rattle.fsfs_jobs.specs.Edits.{Refuses, StopsAt}
use Rattle.fsfs_jobs.specs.Properties.{job_properties}
use Rattle.fsfs_jobs.specs.Serial.{base_of, Adds, Clashes, Commits, Done, Full, Refused, IsReadOf}
use Rattle.fsfs_jobs.specs.declared.answer.JobAnswer.{JobAnswer}
use Rattle.fsfs_jobs.specs.declared.answer.JobAnswer.TheVariants as answers
use Rattle.fsfs_job_run.specs.Serial.Jobs.{IfAdded}
use Rattle.fsfs_job_run.proofs.Clashing.{clash_back}
use Rattle.fsfs_job_run.specs.Workers.Beside.{IsBase, RunsBeside, ReadsText, LacksRead, LacksBase, DoesEdits, GoesOnFrom, IsDone, WasToAddTo}
use Rattle.fsfs_workers.specs.Working.{IsEditedOver}
use Rattle.fsfs_workers.proofs.Parts.{part_length, goes_on_from, revisions_more}
use Rattle.fsfs_workers.proofs.Steps.{takes_later}

-- ---- the revision that it is about

pub is_base : (base : Base) (k last at : ℕ) → k ≤ last → at ≡ base_of base last → at ≤ last → IsBase base k last at
is_base Youngest k last at few is within = (omega (arith, few, is), within)
is_base (Number n) k last at few is within = (is, omega (arith, is, within))

pub base_later : (base : Base) (k last more at : ℕ) → last ≤ more → IsBase base k last at → IsBase base k more at
base_later Youngest k last more at le b = (b.0, omega (arith, b.1, le))
base_later (Number n) k last more at le b = (b.0, omega (arith, b.1, le))

pub last_is : (g : List Recorded) (n : ℕ) → length g ≡ n + 1 → last_of (revisions g) ≡ n
last_is g n long = omega (arith, long, revisions_length g)

-- ---- over g, a first part of h that has revision k: nothing was added

module _ (moment k : ℕ) (job : CommitJob) (h g : List Recorded) (base : ℕ) (begins : Begins h g) (known : k < length g) (on : IsBase job.base k (last_of (revisions g)) base) where
  -- as it was before, and is behind
  same_done : (answer : JobAnswer) → RunsBeside (revisions g) [] k (jobs.Commit job) answer (revisions g) → ((P : Type 0) → IfAdded answer P) → IsDone moment (revisions h) k (jobs.Commit job) answer
  same_done answer runs none = record { before = revisions g; behind = revisions g; known = omega (arith, known, revisions_length g); date = []; dated = none (IsDateAt moment []); runs = runs; part = goes_on_from h g begins }

  pub refused_line : (line : ℕ) (fault : Fault) → StopsAt (λ t marks edit f. Refuses (tree_of (revisions g)) (last_of (revisions g)) t edit f) (tree_of (revisions g)) (last_of (revisions g)) (tree_of (revisions g) base) [] job.steps line fault
      → IsDone moment (revisions h) k (jobs.Commit job) (answers.Stopped line fault)
  refused_line line fault stops = same_done (answers.Stopped line fault) (DoesEdits job (answers.Stopped line fault) (revisions g) base on (Refused line fault stops)) (λ P. tt)

  pub full_line : (x : Txn) → IsEditedOver job g base x → last_rev < length g → IsDone moment (revisions h) k (jobs.Commit job) (answers.Stopped job.line (Limit RevsFull))
  full_line x e full =
      same_done (answers.Stopped job.line (Limit RevsFull)) (DoesEdits job (answers.Stopped job.line (Limit RevsFull)) (revisions g) base on (Full (get x.tree) x.marks e.takes (omega (arith, full, revisions_length g)))) (λ P. tt)

  pub clash_line : (pass : ℕ) (x : Txn) (head : ℕ) (path : Path) → IsEditedOver job g base x → length g ≡ head + 1 → head < last_rev
      → IsFirstClash x.base (tree_of (revisions g) x.base) (tree_of (revisions g) head) (get x.tree) x.marks path → IsDone moment (revisions h) k (jobs.Commit job) (answers.Conflict head path)
  clash_line pass x head path e long room first =
      same_done (answers.Conflict head path)
      (subst (λ (n : ℕ). RunsBeside (revisions g) [] k (jobs.Commit job) (answers.Conflict n path) (revisions g)) last
      (DoesEdits job (answers.Conflict (last_of (revisions g)) path) (revisions g) base on (Done (entry_of pass x (job_properties [] job)) (answers.Conflict (last_of (revisions g)) path) (revisions g) e.takes e.on refl commits))) (λ P. tt)
    where
      last : last_of (revisions g) ≡ head
      last = last_is g head long

      commits : Commits (revisions g) (entry_of pass x (job_properties [] job)) (answers.Conflict (last_of (revisions g)) path) (revisions g)
      commits =
          Clashes path (omega (arith, long, room, revisions_length g))
          (subst (λ (n : ℕ). IsFirstClash x.base (tree_of (revisions g) x.base) (tree_of (revisions g) n) (get x.tree) x.marks path) (sym last) first)

-- there is no such revision
pub lacks_line : (moment k n young : ℕ) (job : CommitJob) (h g : List Recorded) → Begins h g → k < length g → length g ≡ young + 1 → job.base ≡ Number n → young < n
    → IsDone moment (revisions h) k (jobs.Commit job) (answers.Stopped job.line (Request (NoRev n young)))
lacks_line moment k n young job h g begins known long is above = record {
  before = revisions g;
  behind = revisions g;
  known = omega (arith, known, revisions_length g);
  date = [];
  dated = tt;
  runs = subst (λ (y : ℕ). RunsBeside (revisions g) [] k (jobs.Commit job) (answers.Stopped job.line (Request (NoRev n y))) (revisions g)) (last_is g young long)
      (LacksBase job n is (let last = last_is g young long in omega (arith, last, above)));
  part = goes_on_from h g begins;
}

pub lacks_read_line : (moment k n young : ℕ) (job : ReadJob) (h g : List Recorded) → Begins h g → k < length g → length g ≡ young + 1 → job.base ≡ Number n → young < n
    → IsDone moment (revisions h) k (jobs.Read job) (answers.Stopped job.line (Request (NoRev n young)))
lacks_read_line moment k n young job h g begins known long is above = record {
  before = revisions g;
  behind = revisions g;
  known = omega (arith, known, revisions_length g);
  date = [];
  dated = tt;
  runs = subst (λ (y : ℕ). RunsBeside (revisions g) [] k (jobs.Read job) (answers.Stopped job.line (Request (NoRev n y))) (revisions g)) (last_is g young long)
      (LacksRead job n is (let last = last_is g young long in omega (arith, last, above)));
  part = goes_on_from h g begins;
}

-- a text was read, or there is none
pub read_line : (moment k base : ℕ) (job : ReadJob) (answer : JobAnswer) (h g : List Recorded) → Begins h g → k < length g → IsBase job.base k (last_of (revisions g)) base → ((P : Type 0) → IfAdded answer P)
    → IsReadOf job base (found_at (tree_of (revisions g) base) job.path) answer → IsDone moment (revisions h) k (jobs.Read job) answer
read_line moment k base job answer h g begins known on none reads =
    record { before = revisions g; behind = revisions g; known = omega (arith, known, revisions_length g); date = []; dated = none (IsDateAt moment []); runs = ReadsText job answer base on reads; part = goes_on_from h g begins }

-- ---- one was added

module _ (moment k rev : ℕ) (job : CommitJob) (date : List ℕ) (properties : List (List ℕ × List ℕ)) (w m : View) (x y : Txn) (c : Committed rev properties w m x y) (part : List Recorded) (base : ℕ) where
  pub committed_line : (h : List Recorded) → Begins h m.seen → Begins w.seen part → k < length part → IsBase job.base k (last_of (revisions part)) base → IsEditedOver job part base x
      → IsDateAt moment date → properties ≡ job_properties date job → IsDone moment (revisions h) k (jobs.Commit job) (answers.Committed rev)
  committed_line h onward first known on e dated are = record {
    before = revisions c.before;
    behind = revisions c.before ++ c.next.revision ∷ [];
    known = omega (arith, known, longer, revisions_length c.before);
    date = date;
    dated = dated;
    runs = subst (λ (n : ℕ). RunsBeside (revisions c.before) date k (jobs.Commit job) (answers.Committed n) (revisions c.before ++ c.next.revision ∷ [])) (revisions_length c.before ∙ sym c.number)
        (DoesEdits job (answers.Committed (length (revisions c.before))) (revisions c.before ++ c.next.revision ∷ []) base
        (base_later job.base k (last_of (revisions part)) (last_of (revisions c.before)) base (omega (arith, longer, revisions_length part, revisions_length c.before)) on)
        (Done (entry_of w.number x (job_properties date job)) (answers.Committed (length (revisions c.before))) (revisions c.before ++ c.next.revision ∷ [])
        (takes_later part c.before base job.steps (get x.tree) x.marks begins e.there e.takes) e.on refl (Adds c.next.revision next)));
    part = subst (λ (l : List Revision). GoesOnFrom l (revisions h)) (ap revisions c.is ∙ revisions_more c.before c.next) (goes_on_from h m.seen onward);
  }
    where
      begins : Begins c.before part
      begins = begins_on part w.seen c.before first c.begins

      longer : length part ≤ length c.before
      longer = no_shorter part c.before begins

      next : IsNext (revisions c.before) (entry_of w.number x (job_properties date job)) c.next.revision
      next = subst (λ (p : List (List ℕ × List ℕ)). IsNext (revisions c.before) (entry_of w.number x p) c.next.revision) are c.handed_in

-- ---- one was to be added, and is left in doubt

module _ (moment k : ℕ) (job : CommitJob) (date : List ℕ) (properties : List (List ℕ × List ℕ)) (v u : View) (x : Txn) (c : Coming) (w : Wrote properties v u x c) (part : List Recorded) (base : ℕ) where
  pub wrote_line : (h : List Recorded) → Begins h u.seen → IsHistory (revisions h) → Follows h c → Begins v.seen part → k < length part → IsBase job.base k (last_of (revisions part)) base → IsEditedOver job part base x
      → IsDateAt moment date → properties ≡ job_properties date job → WasToAddTo moment (revisions h) k (jobs.Commit job) c.revision
  wrote_line h onward hist follows first known on e dated are = record {
    known = omega (arith, known, longer, revisions_length h);
    date = date;
    dated = dated;
    runs = DoesEdits job (answers.Committed (length (revisions h))) (revisions h ++ c.revision ∷ []) base
        (base_later job.base k (last_of (revisions part)) (last_of (revisions h)) base (omega (arith, longer, revisions_length part, revisions_length h)) on)
        (Done (entry_of v.number x (job_properties date job)) (answers.Committed (length (revisions h))) (revisions h ++ c.revision ∷ [])
        (takes_later part h base job.steps (get x.tree) x.marks begins e.there e.takes) e.on refl (Adds c.revision next));
  }
    where
      later : Begins h w.before
      later = begins_on w.before u.seen h w.seen onward

      begins : Begins h part
      begins = begins_on part w.before h (begins_on part v.seen w.before first w.begins) later

      longer : length part ≤ length h
      longer = no_shorter part h begins

      next : IsNext (revisions h) (entry_of v.number x (job_properties date job)) c.revision
      next = subst (λ (p : List (List ℕ × List ℕ)). IsNext (revisions h) (entry_of v.number x p) c.revision) are (w.lands h later hist follows.1)

-- ---- of a clash with a revision that was seen

-- it is one over the first part that ends with that revision
pub clash_over : (seen : List Recorded) (x y : Txn) (head : ℕ) (path : Path) → IsHistory (revisions seen) → IsTxnOver seen x → Landings seen x y → IsClashAt path head seen y → x.base ≤ head
    → IsFirstClash x.base (tree_of (revisions (take (head + 1) seen)) x.base) (tree_of (revisions (take (head + 1) seen)) head) (get x.tree) x.marks path
clash_over seen x y head path hist over landings at low =
    subst (λ (t : TreeFunction). IsFirstClash x.base t (tree_of (revisions (take (head + 1) seen)) head) (get x.tree) x.marks path) (sym (tree_first (take (head + 1) seen) seen x.base begins (omega (arith, long, low))))
    (subst (λ (t : TreeFunction). IsFirstClash x.base (tree_of (revisions seen) x.base) t (get x.tree) x.marks path) (sym (tree_first (take (head + 1) seen) seen head begins (omega (arith, long))))
    (clash_back seen x y head path hist over landings at.later at.there at.first))
  where
    begins : Begins seen (take (head + 1) seen)
    begins = begins_take (head + 1) seen

    long : length (take (head + 1) seen) ≡ head + 1
    long = part_length head seen at.there

-- the edits were done over a longer first part too
pub edited_later : (job : CommitJob) (part g : List Recorded) (base : ℕ) (x : Txn) → Begins g part → IsEditedOver job part base x → IsEditedOver job g base x
edited_later job part g base x begins e =
    record { on = e.on; there = omega (arith, e.there, no_shorter part g begins); takes = takes_later part g base job.steps (get x.tree) x.marks begins e.there e.takes }
