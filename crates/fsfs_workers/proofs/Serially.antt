-- Jobs that one pass does at the table, where nobody else adds a revision: they are done one after another, as by one owner.
use Rattle.std.proofs.Common.{◌≡◌, ◌⊎◌, ◌<◌, ◌≤◌, ◌+◌, ◌++◌, ℕ, List, [], ◌∷◌, length, take, refl, sym, ap, subst, ◌∙◌, inl, inr, ⊎_elim, append_assoc, append-nil, length-append, arith}
use Rattle.std.proofs.lemmas.Bool.{cases_lt}
use Rattle.std.proofs.lemmas.List.{take_all, take_at, take-take}
use Rattle.fsfs_base.specs.declared.fields.txn_name.TxnName.{TxnName}
use Rattle.fsfs_base.specs.declared.kind.Kind.{Kind}
use Rattle.fsfs_base.specs.declared.kind.Kind.TheVariants.{File, Dir}
use Rattle.fsfs_tree.specs.Answers.{Found, Stands, Lacking, Blocked, found_at}
use Rattle.fsfs_tree.specs.Dated.{last_of}
use Rattle.fsfs_tree.specs.Nodes.{Content, Bytes, Closed, TreeFunction}
use Rattle.fsfs_tree.specs.Revisions.{Revision, tree_of}
use Rattle.fsfs_model.specs.Flat.Transactions.{Entry}
use Rattle.fsfs_model.specs.declared.flat.mark.Mark.{Mark}
use Rattle.fsfs_machine.specs.declared.machine.Recorded.{Recorded}
use Rattle.fsfs_machine.specs.Kept.{IsIn}
use Rattle.fsfs_machine.specs.Machine.{revisions}
use Rattle.fsfs_machine.proofs.Growing.{revisions_length}
use Rattle.fsfs_turn.specs.Bytes.{bytes_of}
use Rattle.fsfs_turn.specs.Views.{View, Begins}
use Rattle.fsfs_turn.proofs.Moments.{begins_take}
use Rattle.fsfs_script.specs.declared.job_lines.edit.Edit.{Edit}
use Rattle.fsfs_script.specs.declared.job_lines.job.Base.{Base}
use Rattle.fsfs_script.specs.declared.job_lines.job.Base.TheVariants.{Youngest, Number}
use Rattle.fsfs_script.specs.declared.job_lines.job.CommitJob.{CommitJob}
use Rattle.fsfs_script.specs.declared.job_lines.job.Job.{Job}
use Rattle.fsfs_script.specs.declared.job_lines.job.Job.TheVariants as jobs
use Rattle.fsfs_script.specs.declared.job_lines.job.ReadJob.{ReadJob}
use Rattle.fsfs_script.specs.declared.job_lines.job.Step.{Step}
use Rattle.fsfs_cli.specs.declared.faults.fault.Fault.{Fault}
use Rattle.fsfs_cli.specs.declared.faults.fault.Fault.TheVariants.{Words, Request, Repository, Outside, Memory, Limit}
use Rattle.fsfs_cli.specs.declared.faults.request_fault.RequestFault.{RequestFault}
use Rattle.fsfs_cli.specs.declared.faults.request_fault.RequestFault.TheVariants as requests
use Rattle.fsfs_jobs.specs.Edits.{Refuses, StopsAt, edited, marks_of}
use Rattle.fsfs_jobs.specs.JobEdits.Editing.{Bars}
use Rattle.fsfs_jobs.specs.Serial.{Commits, Adds, Clashes, IsReadOf, Transacts, Refused, Full, Done, Runs, ReadsText as AloneReads, LacksRead as AloneLacksRead, LacksBase as AloneLacksBase, Begins as AloneBegins, base_of, last_name, read_kind}
use Rattle.fsfs_jobs.specs.declared.answer.JobAnswer.{JobAnswer}
use Rattle.fsfs_jobs.specs.declared.answer.JobAnswer.TheVariants.{Committed, Read, Conflict, Stopped}
use Rattle.fsfs_job_run.specs.Histories.{DidScript, EndJobs, EndsJob}
use Rattle.fsfs_job_run.specs.Serial.Counts.{IfCounted, StopsOver}
use Rattle.fsfs_job_run.specs.Serial.Jobs.{DoesJob, Fails, ByDisk, ByBench, ByStuck, ByMemory, ByNames, ByCounts, IsSerialAt, NoneFails, own_of, own_of_all}
use Rattle.fsfs_job_run.specs.Workers.Beside.{CountsIn, DoesEdits, GoesOnFrom, IsBase, IsDone, LacksBase, LacksRead, LineHolds, ReadsText, RunsBeside, shown_in}
use Rattle.fsfs_job_run.specs.Workers.Passes.{End, IsOnward, More, WorkJobs, WorksJob, last_known}
use Rattle.fsfs_job_run.proofs.BesideLemmas.{onward, worked}
use Rattle.fsfs_job_run.proofs.Counted.{counted_on}
use Rattle.fsfs_workers.proofs.Parts.{goes_on_from, part_length, parts_of}

-- ---- what an answer tells is what was added

-- it tells no revision, and none was added; or it tells the one that was
abbrev AddsTold : List Revision → JobAnswer → List Revision → Type 0
AddsTold g answer now = ((own_of answer ≡ []) × (now ≡ g)) ⊎ ((next : Revision) × (own_of answer ≡ length g ∷ []) × (now ≡ g ++ next ∷ []))

kind_tells_none : (job : ReadJob) (rev : ℕ) (kind : Kind) (text : Content) (answer : JobAnswer) → read_kind job rev kind text answer → own_of answer ≡ []
kind_tells_none job rev Dir text answer reads = ap own_of reads
kind_tells_none job rev File (Closed at offset) answer reads = ap own_of reads
kind_tells_none job rev File (Bytes bytes) (Committed r) reads = absurd reads
kind_tells_none job rev File (Bytes bytes) (Read text) reads = refl
kind_tells_none job rev File (Bytes bytes) (Conflict head path) reads = absurd reads
kind_tells_none job rev File (Bytes bytes) (Stopped line fault) reads = absurd reads

read_tells_none : (job : ReadJob) (rev : ℕ) (found : Found) (answer : JobAnswer) → IsReadOf job rev found answer → own_of answer ≡ []
read_tells_none job rev (Stands node) answer reads = kind_tells_none job rev node.kind node.text answer reads
read_tells_none job rev (Lacking at) answer reads = ap own_of reads
read_tells_none job rev (Blocked at) answer reads = ap own_of reads

commits_adds : (h : List Revision) (e : Entry) (answer : JobAnswer) (now : List Revision) → Commits h e answer now → AddsTold h answer now
commits_adds h e _ _ (Adds next is) = inr (next, refl, refl)
commits_adds h e _ _ (Clashes path room first) = inl (refl, refl)

transacts_adds : (h : List Revision) (date : List ℕ) (job : CommitJob) (base : ℕ) (answer : JobAnswer) (now : List Revision) → Transacts h date job base answer now → AddsTold h answer now
transacts_adds h date job base _ _ (Refused line fault stops) = inl (refl, refl)
transacts_adds h date job base _ _ (Full t marks takes full) = inl (refl, refl)
transacts_adds h date job base _ _ (Done e answer now takes on are commits) = commits_adds h e answer now commits

runs_adds : (g : List Revision) (date : List ℕ) (k : ℕ) (job : Job) (answer : JobAnswer) (now : List Revision) → RunsBeside g date k job answer now → AddsTold g answer now
runs_adds g date k _ _ _ (ReadsText job answer base on reads) = inl (read_tells_none job base (found_at (tree_of g base) job.path) answer reads, refl)
runs_adds g date k _ _ _ (LacksRead job n is above) = inl (refl, refl)
runs_adds g date k _ _ _ (LacksBase job n is above) = inl (refl, refl)
runs_adds g date k _ _ _ (DoesEdits job answer now base on does) = transacts_adds g date job base answer now does

fails_tell_none : (job : Job) (answer : JobAnswer) → Fails job answer → own_of answer ≡ []
fails_tell_none _ _ (ByDisk job line at) = refl
fails_tell_none _ _ (ByBench job line) = refl
fails_tell_none _ _ (ByStuck job line at) = refl
fails_tell_none _ _ (ByMemory job line) = refl
fails_tell_none _ _ (ByNames job line) = refl
fails_tell_none _ _ (ByCounts job line path) = refl

-- it is the one that the line shows
own_shown : (answer : JobAnswer) (r : ℕ) → IsIn r (own_of answer) → r ≡ shown_in answer
own_shown (Committed rev) r (inl same) = sym same
own_shown (Committed rev) r (inr none) = absurd none
own_shown (Read text) r there = absurd there
own_shown (Conflict head path) r there = absurd there
own_shown (Stopped line fault) r there = absurd there

-- of these and later ones
one_or_later : (answer : JobAnswer) (later : List ℕ) (r : ℕ) → IsIn r (own_of answer ++ later) → IsIn r (own_of answer) ⊎ IsIn r later
one_or_later (Committed rev) later r (inl same) = inl (inl same)
one_or_later (Committed rev) later r (inr there) = inr there
one_or_later (Read text) later r there = inr there
one_or_later (Conflict head path) later r there = inr there
one_or_later (Stopped line fault) later r there = inr there

in_none : (r : ℕ) (xs : List ℕ) → xs ≡ [] → IsIn r xs → ⊥
in_none r xs none there = subst (λ (l : List ℕ). IsIn r l) none there

in_one : (r x : ℕ) (xs : List ℕ) → xs ≡ x ∷ [] → IsIn r xs → x ≡ r
in_one r x xs one there = by (subst (λ (l : List ℕ). IsIn r l) one there)
  where
    by : IsIn r (x ∷ []) → x ≡ r
    by (inl same) = same
    by (inr none) = absurd none

-- it is above all that the worker knew as the job began
above_first : (moment : ℕ) (h : List Recorded) (k : ℕ) (job : Job) (answer : JobAnswer) → LineHolds moment h k job answer → (r : ℕ) → IsIn r (own_of answer) → k < r
above_first moment h k job answer (inl d) r there = by (runs_adds d.before d.date k job answer d.behind d.runs)
  where
    by : AddsTold d.before answer d.behind → k < r
    by (inl (none, same)) = absurd (in_none r (own_of answer) none there)
    by (inr (next, one, is)) = let e = in_one r (length d.before) (own_of answer) one there in omega (arith, e, d.known)
above_first moment h k job answer (inr fails) r there = absurd (in_none r (own_of answer) (fails_tell_none job answer fails.0) there)

above_all : (moment : ℕ) (h : List Recorded) (js : List Job) (answers : List JobAnswer) (v u : View) → WorkJobs moment js answers v u → IsOnward u h → (r : ℕ) → IsIn r (own_of_all answers) → last_known v < r
above_all moment h _ _ _ _ (End v) on r there = absurd there
above_all moment h _ _ _ _ (More job answer js answers v m u first rest) on r there =
    let w = worked moment js answers m u rest in
    ⊎_elim (λ here. above_first moment h (last_known v) job answer (first.line h (onward h m u w.begins w.later on)) r here)
    (λ later. let more = above_all moment h js answers m u rest on r later in omega (arith, more, first.later)) (one_or_later answer (own_of_all answers) r there)

-- ---- a job on the last revision is done as alone

base_is : (base : Base) (k last at : ℕ) → last ≤ k → IsBase base k last at → (at ≡ base_of base last) × (base_of base last ≤ last)
base_is Youngest k last at few on = (omega (arith, few, on.0, on.1), omega arith)
base_is (Number n) k last at few on = on

does : (h : List Revision) (date : List ℕ) (k : ℕ) (job : Job) (answer : JobAnswer) (now : List Revision) → last_of h ≤ k → RunsBeside h date k job answer now → (t : ℕ) → t < last_name → (named : ℕ) × (named ≤ t + 1) × Runs h date t job answer now named
does h date k _ _ _ few (ReadsText job answer at on reads) t less =
    let same = base_is job.base k (last_of h) at few on in
    (t, omega arith, AloneReads job answer same.1 (subst (λ (b : ℕ). IsReadOf job b (found_at (tree_of h b) job.path) answer) same.0 reads))
does h date k _ _ _ few (LacksRead job n is above) t less = (t, omega arith, AloneLacksRead job n is above)
does h date k _ _ _ few (LacksBase job n is above) t less = (t, omega arith, AloneLacksBase job n is above)
does h date k _ _ _ few (DoesEdits job answer now at on edits) t less =
    let same = base_is job.base k (last_of h) at few on in
    (t + 1, omega arith, AloneBegins job answer now same.1 less (subst (λ (b : ℕ). Transacts h date job b answer now) same.0 edits))

-- ---- what refuses it by the flat model refuses it

stops_on : (trees : ℕ → TreeFunction) (last : ℕ) (P Q : TreeFunction → List Mark → Edit → Fault → Type 0) → ((t : TreeFunction) (marks : List Mark) (edit : Edit) (fault : Fault) → P t marks edit fault → Q t marks edit fault)
    → (t : TreeFunction) (marks : List Mark) (steps : List Step) (line : ℕ) (fault : Fault) → StopsAt P trees last t marks steps line fault → StopsAt Q trees last t marks steps line fault
stops_on trees last P Q f t marks [] line fault s = s
stops_on trees last P Q f t marks (step ∷ steps) line fault (inl (here, p)) = inl (here, f t marks step.edit fault p)
stops_on trees last P Q f t marks (step ∷ steps) line fault (inr (allowed, more)) = inr (allowed, stops_on trees last P Q f (edited step.edit trees t) (marks ++ marks_of step.edit trees t) steps line fault more)

asked_counted : (job : CommitJob) (line : ℕ) (why : RequestFault) (P : CommitJob → ℕ → Fault → Type 0) → P job line (Request why) → IfCounted (jobs.Commit job) (Stopped line (Request why)) P
asked_counted job line (requests.NotFound path) P p = tt
asked_counted job line (requests.NotDir path) P p = tt
asked_counted job line (requests.NotFile path) P p = tt
asked_counted job line (requests.NoRev n youngest) P p = tt
asked_counted job line (requests.NoTxn txn) P p = tt
asked_counted job line requests.AlreadyRepo P p = tt
asked_counted job line requests.NotRepo P p = tt
asked_counted job line (requests.Exists path) P p = tt
asked_counted job line requests.RootFixed P p = tt
asked_counted job line (requests.Mergeinfo path) P p = p
asked_counted job line (requests.BadScript bad) P p = tt

stopped_counted : (job : CommitJob) (line : ℕ) (fault : Fault) (P : CommitJob → ℕ → Fault → Type 0) → P job line fault → IfCounted (jobs.Commit job) (Stopped line fault) P
stopped_counted job line (Words why) P p = tt
stopped_counted job line (Request why) P p = asked_counted job line why P p
stopped_counted job line (Repository why) P p = tt
stopped_counted job line (Outside why) P p = tt
stopped_counted job line Memory P p = tt
stopped_counted job line (Limit why) P p = tt

-- of no name in particular
any_name : TxnName
any_name = record { base = 0; number = record { number = 0; small = omega arith } }

commits_counted : (h : List Revision) (e : Entry) (job : CommitJob) (answer : JobAnswer) (now : List Revision) (P : CommitJob → ℕ → Fault → Type 0) → Commits h e answer now → IfCounted (jobs.Commit job) answer P
commits_counted h e job _ _ P (Adds next is) = tt
commits_counted h e job _ _ P (Clashes path room first) = tt

transacts_counted : (g : List Recorded) (date : List ℕ) (job : CommitJob) (answer : JobAnswer) (now : List Revision) → Transacts (revisions g) date job (base_of job.base (last_of (revisions g))) answer now → IfCounted (jobs.Commit job) answer (StopsOver g)
transacts_counted g date job _ _ (Refused line fault stops) =
    stopped_counted job line fault (StopsOver g) (
      any_name,
      stops_on (tree_of (revisions g)) (last_of (revisions g)) (λ t marks edit f. Refuses (tree_of (revisions g)) (last_of (revisions g)) t edit f)
          (Bars (bytes_of g) (tree_of (revisions g)) (last_of (revisions g)) (base_of job.base (last_of (revisions g))) any_name) (λ t marks edit f refuses. inl refuses)
          (tree_of (revisions g) (base_of job.base (last_of (revisions g)))) [] job.steps line fault stops,
    )
transacts_counted g date job _ _ (Full t marks takes full) = tt
transacts_counted g date job _ _ (Done e answer now takes on are commits) = commits_counted (revisions g) e job answer now (StopsOver g) commits

counted : (g : List Recorded) (date : List ℕ) (k : ℕ) (job : Job) (answer : JobAnswer) (now : List Revision) → last_of (revisions g) ≤ k → RunsBeside (revisions g) date k job answer now → IfCounted job answer (StopsOver g)
counted g date k _ _ _ few (ReadsText job answer at on reads) = tt
counted g date k _ _ _ few (LacksRead job n is above) = tt
counted g date k _ _ _ few (LacksBase job n is above) = tt
counted g date k _ _ _ few (DoesEdits job answer now at on edits) =
    transacts_counted g date job answer now (subst (λ (b : ℕ). Transacts (revisions g) date job b answer now) (base_is job.base k (last_of (revisions g)) at few on).0 edits)

-- ---- first parts of a history

-- two that have the same length are the same
same_first : (a b h : List Revision) → GoesOnFrom a h → GoesOnFrom b h → length a ≡ length b → a ≡ b
same_first a b h p q e =
    sym (take_at a p.0 (length a) refl)
    ∙ ap (λ (l : List Revision). take (length a) l) (sym p.1 ∙ q.1)
    ∙ take_at b q.0 (length a) (sym e)

part_no_longer : (a h : List Revision) → GoesOnFrom a h → length a ≤ length h
part_no_longer a h p = let long = ap (λ (l : List Revision). length l) p.1 ∙ length-append a p.0 in omega (arith, long)

-- what the pass knows of a history that goes on from that
abbrev known_of : View → List Recorded → List Recorded
known_of v h = take (last_known v + 1) h

known_long : (v : View) (h : List Recorded) → IsOnward v h → length (known_of v h) ≡ last_known v + 1
known_long v h on = part_length (last_known v) h on.has

known_onward : (v : View) (h : List Recorded) → IsOnward v h → IsOnward v (known_of v h)
known_onward v h on =
    let long = known_long v h on in
    record { begins = parts_of h v.seen (known_of v h) on.begins (begins_take (last_known v + 1) h) (omega (arith, long)); has = omega (arith, long) }

-- ---- one job

-- v is what the pass knew as the job began, m what it knew behind it, which this history goes on from; the revisions of the history that the pass
-- didn't know as the job began are those that this line and later ones tell, of which the latter are above all that it knew behind the job
module _ (moment : ℕ) (h : List Recorded) (job : Job) (answer : JobAnswer) (v m : View) (later : List ℕ) (first : WorksJob moment job answer v m) (before : IsOnward v h) (behind : IsOnward m h)
    (told : (r : ℕ) → last_known v < r → r < length h → IsIn r (own_of answer ++ later)) (above : (r : ℕ) → IsIn r later → last_known m < r) where
  -- what it came to know meanwhile is what the line tells
  within : (r : ℕ) → last_known v < r → r ≤ last_known m → IsIn r (own_of answer)
  within r more few = ⊎_elim (λ here. here) (λ there. let less = above r there in absurd (omega (arith, few, less))) (one_or_later answer later r (told r more (omega (arith, few, behind.has))))

  long_before : length (known_of v h) ≡ last_known v + 1
  long_before = known_long v h before

  long_behind : length (known_of m h) ≡ last_known m + 1
  long_behind = known_long m h behind

  last_before : last_of (revisions (known_of v h)) ≤ last_known v
  last_before = let e = revisions_length (known_of v h) in omega (arith, e, long_before)

  whole_before : take (length (revisions (known_of v h))) h ≡ known_of v h
  whole_before = ap (λ (n : ℕ). take n h) (revisions_length (known_of v h) ∙ long_before)

  -- behind it the pass knew so much more
  abbrev Grew : Type 0
  Grew = last_known m ≡ last_known v + length (own_of answer)

  -- it told none, so that nothing came
  none_came : own_of answer ≡ [] → last_known m ≡ last_known v
  none_came none = ⊎_elim (λ more. absurd (in_none (last_known m) (own_of answer) none (within (last_known m) more (omega arith)))) (λ few. omega (arith, few, first.later)) (cases_lt (last_known v) (last_known m))

  -- it told one, above what the pass had known and no later than what it knew then: so that one came
  one_came : (r : ℕ) → own_of answer ≡ r ∷ [] → last_known v < r → r ≤ last_known m → (last_known m ≡ r) × (r ≡ last_known v + 1)
  one_came r one more few =
      let next : r ≡ last_known v + 1 = in_one (last_known v + 1) r (own_of answer) one (within (last_known v + 1) (omega arith) (omega (arith, more, few))) in
      let last : r ≡ last_known m = in_one (last_known m) r (own_of answer) one (within (last_known m) (omega (arith, more, few)) (omega arith)) in
      (sym last, next)

  abbrev Ends : Type 0
  Ends = Grew × EndsJob moment (revisions (known_of v h)) job answer (revisions (known_of m h)) × IfCounted job answer (StopsOver (take (length (revisions (known_of v h))) h))

  -- ---- it was done

  module _ (d : IsDone moment (revisions (known_of m h)) (last_known v) job answer) where
    -- the parts that it was done over and that it made, by their lengths
    done_over : Grew → length d.before ≡ last_known v + 1 → length d.behind ≡ last_known m + 1 → GoesOnFrom d.before (revisions (known_of m h)) → Ends
    done_over grew short long part = (
      grew,
      inl (d.date, d.dated, does (revisions (known_of v h)) d.date (last_known v) job answer (revisions (known_of m h)) last_before runs),
      subst (λ (g : List Recorded). IfCounted job answer (StopsOver g)) (sym whole_before) (counted (known_of v h) d.date (last_known v) job answer (revisions (known_of m h)) last_before runs),
    )
      where
        known_part : Begins (known_of m h) (known_of v h)
        known_part = parts_of h (known_of v h) (known_of m h) (begins_take (last_known v + 1) h) (begins_take (last_known m + 1) h) (omega (arith, long_before, long_behind, first.later))

        before_is : d.before ≡ revisions (known_of v h)
        before_is = same_first d.before (revisions (known_of v h)) (revisions (known_of m h)) part (goes_on_from (known_of m h) (known_of v h) known_part) (short ∙ sym (revisions_length (known_of v h) ∙ long_before))

        behind_is : d.behind ≡ revisions (known_of m h)
        behind_is = same_first d.behind (revisions (known_of m h)) (revisions (known_of m h)) d.part ([], sym (append-nil (revisions (known_of m h)))) (long ∙ sym (revisions_length (known_of m h) ∙ long_behind))

        runs : RunsBeside (revisions (known_of v h)) d.date (last_known v) job answer (revisions (known_of m h))
        runs = subst (λ (p : List Revision × List Revision). RunsBeside p.0 d.date (last_known v) job answer p.1) (λ i. (before_is i, behind_is i)) d.runs

    no_longer : length d.behind ≤ last_known m + 1
    no_longer = let few = part_no_longer d.behind (revisions (known_of m h)) d.part in let e = revisions_length (known_of m h) in omega (arith, few, e, long_behind)

    done_so : AddsTold d.before answer d.behind → Ends
    done_so (inl (none, same)) =
        let known = none_came none in
        let told_none : length (own_of answer) ≡ 0 = ap (λ (l : List ℕ). length l) none in
        let e : length d.behind ≡ length d.before = ap (λ (l : List Revision). length l) same in
        done_over (omega (arith, known, told_none)) (omega (arith, known, e, no_longer, d.known)) (omega (arith, known, e, no_longer, d.known)) (subst (λ (l : List Revision). GoesOnFrom l (revisions (known_of m h))) same d.part)
    done_so (inr (next, one, is)) =
        let told_one : length (own_of answer) ≡ 1 = ap (λ (l : List ℕ). length l) one in
        let e : length d.behind ≡ length d.before + 1 = ap (λ (l : List Revision). length l) is ∙ length-append d.before (next ∷ []) in
        let came = one_came (length d.before) one d.known (omega (arith, e, no_longer)) in
        done_over (omega (arith, told_one, came.0, came.1)) came.1 (omega (arith, e, came.0))
        (next ∷ d.part.0, d.part.1 ∙ ap (λ (l : List Revision). l ++ d.part.0) is ∙ append_assoc d.before (next ∷ []) d.part.0)

  -- ---- or it failed

  failed_so : Fails job answer → IfCounted job answer (CountsIn (known_of m h) (last_known v)) → Ends
  failed_so fails counts = (
    omega (arith, known, told_none),
    inr (fails, ap (λ (n : ℕ). revisions (take (n + 1) h)) known),
    counted_on job answer (CountsIn (known_of m h) (last_known v)) (StopsOver (take (length (revisions (known_of v h))) h)) over counts,
  )
    where
      known : last_known m ≡ last_known v
      known = none_came (fails_tell_none job answer fails)

      told_none : length (own_of answer) ≡ 0
      told_none = ap (λ (l : List ℕ). length l) (fails_tell_none job answer fails)

      over : (j : CommitJob) (line : ℕ) (fault : Fault) → CountsIn (known_of m h) (last_known v) j line fault → StopsOver (take (length (revisions (known_of v h))) h) j line fault
      over j line fault c =
          let last : c.0 + 1 ≡ last_known v + 1 = omega (arith, c.1, c.2, known, long_behind) in
          let same : take (c.0 + 1) (known_of m h) ≡ known_of v h = ap (λ (n : ℕ). take n (known_of m h)) last ∙ take-take (last_known v + 1) (last_known m + 1) h (omega (arith, first.later)) in
          subst (λ (g : List Recorded). StopsOver g j line fault) (same ∙ sym whole_before) c.3

  ends_so : LineHolds moment (known_of m h) (last_known v) job answer → Ends
  ends_so (inl d) = done_so d (runs_adds d.before d.date (last_known v) job answer d.behind d.runs)
  ends_so (inr fails) = failed_so fails.0 fails.1

  ends : Ends
  ends = ends_so (first.line (known_of m h) (known_onward m h behind))

-- ---- its jobs

-- over what the pass knew, where the lines tell all that it didn't; and the history has as many revisions more
ends_all : (moment : ℕ) (h : List Recorded) (js : List Job) (answers : List JobAnswer) (v u : View) → WorkJobs moment js answers v u → IsOnward u h → ((r : ℕ) → last_known v < r → r < length h → IsIn r (own_of_all answers))
    → EndJobs moment h (revisions (known_of v h)) js answers (revisions h) × (length h ≡ last_known v + 1 + length (own_of_all answers))
ends_all moment h _ _ _ _ (End v) on told =
    let all : length h ≤ last_known v + 1 = ⊎_elim (λ more. absurd (told (last_known v + 1) (omega arith) more)) (λ few. few) (cases_lt (last_known v + 1) (length h)) in
    (ap revisions (sym (take_all (last_known v + 1) h all)), omega (arith, all, on.has))
ends_all moment h _ _ _ _ (More job answer js answers v m u first rest) on told =
    let w = worked moment js answers m u rest in
    let behind = onward h m u w.begins w.later on in
    let above = above_all moment h js answers m u rest on in
    let one = ends moment h job answer v m (own_of_all answers) first (onward h v m first.grows first.later behind) behind told above in
    let more = ends_all moment h js answers m u rest on later in
    let both = length-append (own_of answer) (own_of_all answers) in (
      (revisions (known_of m h), one.1, one.2, more.0),
      omega (arith, one.0, more.1, both),
    )
  where
    later : (r : ℕ) → last_known m < r → r < length h → IsIn r (own_of_all answers)
    later r less within =
        ⊎_elim (λ here. let is = own_shown answer r here in absurd (omega (arith, is, less, first.shown))) (λ there. there)
        (one_or_later answer (own_of_all answers) r (told r (omega (arith, less, first.later)) within))

-- where none failed, and there were names for all, they are the serial run
serial_of : (moment : ℕ) (seen : List Recorded) (h : List Revision) (js : List Job) (answers : List JobAnswer) (now : List Revision) (t : ℕ) → EndJobs moment seen h js answers now → NoneFails js answers → t + length js ≤ last_name
    → (named : ℕ) × IsSerialAt moment h t js answers now named
serial_of moment seen h [] [] now t ended none room = (t, (ended, refl))
serial_of moment seen h [] (answer ∷ answers) now t ended none room = absurd ended
serial_of moment seen h (job ∷ js) [] now t ended none room = absurd ended
serial_of moment seen h (job ∷ js) (answer ∷ answers) now t ended none room =
    let did : DoesJob moment h job answer ended.0 = ⊎_elim (λ did. did) (λ fails. absurd (none.0 fails.0)) ended.1 in
    let one = did.2 t (omega (arith, room)) in
    let more = serial_of moment seen ended.0 js answers now one.0 ended.3 none.1 (omega (arith, room, one.1)) in
    (more.0, (did.0, did.1, (ended.0, one.0, one.2, more.1)))

-- WHAT ONE PASS DID WHERE NOBODY ELSE ADDED A REVISION: v is what it knew before its jobs, u what it knew behind them; h is any history that goes
-- on from that, and each of its revisions that v had not seen is one that a line tells. So the script was done as by one owner.
pub did_serially : (moment : ℕ) (js : List Job) (answers : List JobAnswer) (v u : View) (h : List Recorded) → WorkJobs moment js answers v u → IsOnward u h → ((r : ℕ) → length v.seen ≤ r → r < length h → IsIn r (own_of_all answers))
    → DidScript moment h js answers (revisions v.seen) (revisions h)
did_serially moment js answers v u h works on told = record {
  jobs = one_by_one;
  more = grown.0;
  grew = grown.1;
  by =
      let long : length (revisions h) ≡ length (revisions v.seen) + length grown.0 = ap (λ (l : List Revision). length l) grown.1 ∙ length-append (revisions v.seen) grown.0 in
      let now = revisions_length h in
      let was = revisions_length v.seen in
      omega (arith, long, now, was, all.1, knew);
  serial = λ none t room. serial_of moment h (revisions v.seen) js answers (revisions h) t one_by_one none room;
}
  where
    begun : IsOnward v h
    begun = let w = worked moment js answers v u works in onward h v u w.begins w.later on

    grown : GoesOnFrom (revisions v.seen) (revisions h)
    grown = goes_on_from h v.seen begun.begins

    -- it knew of no more than it had seen
    knew : last_known v + 1 ≡ length v.seen
    knew =
        let few : last_known v < length v.seen = ⊎_elim (λ less. less)
        (λ more. let above = above_all moment h js answers v u works on (last_known v) (told (last_known v) more begun.has) in absurd (omega (arith, above))) (cases_lt (last_known v) (length v.seen)) in
        omega (arith, few)

    all : EndJobs moment h (revisions (known_of v h)) js answers (revisions h) × (length h ≡ last_known v + 1 + length (own_of_all answers))
    all = ends_all moment h js answers v u works on (λ r less within. told r (omega (arith, knew, less)) within)

    seen : known_of v h ≡ v.seen
    seen = ap (λ (l : List Recorded). take (last_known v + 1) l) begun.begins.1 ∙ take_at v.seen begun.begins.0 (last_known v + 1) (sym knew)

    one_by_one : EndJobs moment h (revisions v.seen) js answers (revisions h)
    one_by_one = subst (λ (g : List Recorded). EndJobs moment h (revisions g) js answers (revisions h)) seen all.0
