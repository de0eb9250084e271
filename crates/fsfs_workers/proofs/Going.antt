-- What a pass knows behind calls by which it added nothing.
use Rattle.std.proofs.Common.{◌≡◌, ◌<◌, ◌≤◌, ℕ, List, [], ◌∷◌, ◌++◌, length, Bool, true, false, refl, sym, ap, subst, ◌∙◌, inl, inr, arith, append-nil}
use Rattle.std.specs.Prelude.{None, Result, Ok, Err, is_some}
use Rattle.fsfs_base.specs.declared.fields.txn_name.TxnName.{TxnName}
use Rattle.fsfs_base.specs.declared.places.place.DiskPlace.{DiskPlace}
use Rattle.fsfs_draft.specs.Drafts.{Folder}
use Rattle.fsfs_machine.specs.declared.machine.Recorded.{Recorded}
use Rattle.fsfs_machine.specs.declared.machine.Step.{Step}
use Rattle.fsfs_machine.specs.declared.machine.Step.TheVariants.{PurgeSpent}
use Rattle.fsfs_machine.specs.declared.machine.Went.{Went}
use Rattle.fsfs_machine.specs.declared.machine.Went.TheVariants.{Fine, Before, After, Torn}
use Rattle.fsfs_machine.specs.Kept.{IsIn}
use Rattle.fsfs_machine.specs.Machine.{World, either}
use Rattle.fsfs_turn.specs.Alone.{BringsNoDoubt, are_harmless, leaves_stuck}
use Rattle.fsfs_turn.specs.Courses.{ReadOnly}
use Rattle.fsfs_turn.specs.Learning.{FloorRead, with_spent}
use Rattle.fsfs_turn.specs.Views.{View, Looked}
use Rattle.fsfs_turn.proofs.Doubts.{same_faults, fault_more, harmless_more}
use Rattle.fsfs_turn.proofs.Reading.{begins_on}
use Rattle.fsfs_turn.proofs.Alone.{no_shorter}
use Rattle.fsfs_job_run.specs.BeginSteps.{Moved}
use Rattle.fsfs_job_run.specs.BeginPurged.{HasPurged, HasNotPurged, Purges}
use Rattle.fsfs_job_run.specs.PurgeFault.{PurgeFault}
use Rattle.fsfs_job_run.specs.PurgeFault.TheVariants.{DiskFault}
use Rattle.fsfs_base.specs.declared.places.place.DiskPlace.TheVariants.{Read, Remove}
use Rattle.fsfs_job_run.specs.Replies.{Moved as CommitMoved}
use Rattle.fsfs_job_run.specs.TxnBegun.{BeginsTxnAmong}
use Rattle.fsfs_job_run.specs.TxnCommits.{IsDropped}
use Rattle.fsfs_script.specs.declared.job_lines.job.CommitJob.{CommitJob}
use Rattle.fsfs_script.specs.declared.job_lines.job.Job.{Job}
use Rattle.fsfs_jobs.specs.declared.answer.JobAnswer.{JobAnswer}
use Rattle.fsfs_jobs.specs.declared.answer.JobAnswer.TheVariants as answers
use Rattle.fsfs_cli.specs.declared.faults.fault.Fault.{Fault}
use Rattle.fsfs_cli.specs.declared.faults.fault.Fault.TheVariants.{Words, Request, Repository, Outside, Memory, Limit}
use Rattle.fsfs_cli.specs.declared.faults.outside_fault.OutsideFault.TheVariants as outside
use Rattle.fsfs_cli.specs.declared.faults.limit_fault.LimitFault.{LimitFault}
use Rattle.fsfs_cli.specs.declared.faults.limit_fault.LimitFault.TheVariants as limits
use Rattle.fsfs_job_run.specs.Serial.Jobs.{own_of, tells_doubt, tells_full, tells_stuck, Fails}
use Rattle.fsfs_job_run.specs.Serial.Counts.{IfCounted}
use Rattle.fsfs_job_run.specs.Running.{HasOutsideCause}
use Rattle.fsfs_job_run.specs.Workers.Beside.{CountsIn, LineHolds, shown_in}
use Rattle.fsfs_job_run.specs.Workers.Passes.{IsOnward, LeftBeside, WorksJob, last_known}
use Rattle.fsfs_workers.specs.Working.{GoesOn, GoesOnKnown, WorksFrom}

-- ---- one after another

pub goes_on : (v m u : View) → GoesOn v m → GoesOn m u → GoesOn v u
goes_on v m u a b = record {
  number = b.number ∙ a.number;
  since = b.since ∙ a.since;
  opened = b.opened ∙ a.opened;
  own = b.own ∙ a.own;
  least = omega (arith, a.least, b.least);
  grows = begins_on v.seen m.seen u.seen a.grows b.grows;
  given = λ k there. b.given k (a.given k there);
  outside = b.outside;
  doubtless = λ few. b.doubtless (a.doubtless few);
  left = b.left ∙ a.left;
  still = λ found. b.still (a.still found);
  full = λ full. b.full (a.full full);
}

-- the last revision that it knows is as young as before or younger
pub knows_later : (v u : View) → GoesOn v u → last_known v ≤ last_known u
knows_later v u g = omega (arith, g.least, no_shorter v.seen u.seen g.grows)

same_names : (v u : View) → u.given ≡ v.given → (k : ℕ) → IsIn k v.given → IsIn k u.given
same_names v u same k there = subst (λ (xs : List ℕ). IsIn k xs) (sym same) there

still_found : (v u : View) → u.pass.stuck ≡ v.pass.stuck → is_some v.pass.stuck ≡ true → is_some u.pass.stuck ≡ true
still_found v u same found = ap (λ o. is_some o) same ∙ found

-- ---- by each call

pub by_look : (young : ℕ) (v u : View) → v.section ≡ None → Looked young v u → GoesOn v u
by_look young v u none l = record {
  number = ap {A = View} (λ z. z.number) l.is;
  since = ap {A = View} (λ z. z.since) l.is;
  opened = ap {A = View} (λ z. z.opened) l.is;
  own = ap {A = View} (λ z. z.pass.mine) l.is;
  least = let e : u.pass.least ≡ young = ap {A = View} (λ z. z.pass.least) l.is in omega (arith, e, l.least);
  grows = ([], ap {A = View} (λ z. z.seen) l.is ∙ sym (append-nil v.seen));
  given = same_names v u (ap {A = View} (λ z. z.given) l.is);
  outside = ap {A = View} (λ z. z.section) l.is ∙ none;
  doubtless = same_faults v u (ap {A = View} (λ z. z.pass.faults) l.is);
  left = ap {A = View} (λ z. z.left) l.is;
  still = still_found v u (ap {A = View} (λ z. z.pass.stuck) l.is);
  full = λ full. ap {A = View} (λ z. z.full) l.is ∙ full;
}

pub by_reading : (v u : View) → v.section ≡ None → ReadOnly v u → GoesOn v u
by_reading v u none r = record {
  number = ap {A = View} (λ z. z.number) r.is;
  since = ap {A = View} (λ z. z.since) r.is;
  opened = ap {A = View} (λ z. z.opened) r.is;
  own = ap {A = View} (λ z. z.pass.mine) r.is;
  least = let e : u.pass.least ≡ v.pass.least = ap {A = View} (λ z. z.pass.least) r.is in omega (arith, e);
  grows = r.grows;
  given = same_names v u (ap {A = View} (λ z. z.given) r.is);
  outside = ap {A = View} (λ z. z.section) r.is ∙ none;
  doubtless = r.doubtless;
  left = ap {A = View} (λ z. z.left) r.is;
  still = still_found v u (ap {A = View} (λ z. z.pass.stuck) r.is);
  full = λ full. ap {A = View} (λ z. z.full) r.is ∙ full;
}

-- the floor was read: the pass has seen what it was told of
floor_harmless : (went : Went) (places : List DiskPlace) → are_harmless places ≡ true → are_harmless (either went places (places ++ Read ∷ [])) ≡ true
floor_harmless Fine places few = few
floor_harmless Before places few = harmless_more places Read few refl
floor_harmless After places few = harmless_more places Read few refl
floor_harmless (Torn any) places few = harmless_more places Read few refl

pub by_floor : (floor : ℕ) (went : Went) (v u : View) → v.section ≡ None → FloorRead floor went v u → GoesOn v u × (u.pass.stuck ≡ v.pass.stuck) × (u.pass.least ≡ v.pass.least) × (v.pass.least < length u.seen)
by_floor floor went v u none f = (
  record {
    number = ap {A = View} (λ z. z.number) f.is;
    since = ap {A = View} (λ z. z.since) f.is;
    opened = ap {A = View} (λ z. z.opened) f.is;
    own = ap {A = View} (λ z. z.pass.mine) f.is;
    least = omega (arith, least);
    grows = f.grows;
    given = same_names v u (ap {A = View} (λ z. z.given) f.is);
    outside = ap {A = View} (λ z. z.section) f.is ∙ none;
    doubtless = λ few. ap {A = View} (λ z. are_harmless z.pass.faults) f.is ∙ floor_harmless went v.pass.faults few;
    left = ap {A = View} (λ z. z.left) f.is;
    still = still_found v u (ap {A = View} (λ z. z.pass.stuck) f.is);
    full = λ full. ap {A = View} (λ z. z.full) f.is ∙ full;
  },
  ap {A = View} (λ z. z.pass.stuck) f.is,
  least,
  f.all,
)
  where
    least : u.pass.least ≡ v.pass.least
    least = ap {A = View} (λ z. z.pass.least) f.is

-- a begin that failed
among_more : (k : ℕ) (more xs : List ℕ) → IsIn k xs → IsIn k (more ++ xs)
among_more k [] xs there = there
among_more k (x ∷ more) xs there = inr (among_more k more xs there)

pub by_moving : (v u : View) → Moved v u → GoesOn v u
by_moving v u m = record {
  number = m.number;
  since = m.since;
  opened = m.opened;
  own = m.mine;
  least = m.least;
  grows = m.grows;
  given = λ k there. subst (λ (xs : List ℕ). IsIn k xs) (sym m.given) (among_more k m.more v.given there);
  outside = m.outside;
  doubtless = m.doubtless;
  left = m.left;
  still = m.still;
  full = m.full;
}

-- one that was done
pub by_beginning : (name : TxnName) (base : ℕ) (settled : Folder) (v u : View) → BeginsTxnAmong name base settled v u → GoesOn v u
by_beginning name base settled v u b = record {
  number = ap {A = View} (λ z. z.number) b.is;
  since = ap {A = View} (λ z. z.since) b.is;
  opened = ap {A = View} (λ z. z.opened) b.is;
  own = ap {A = View} (λ z. z.pass.mine) b.is;
  least = b.least;
  grows = b.grows;
  given = λ k there. subst (λ (xs : List ℕ). IsIn k xs) (sym (ap {A = View} (λ z. z.given) b.is)) (inr there);
  outside = ap {A = View} (λ z. z.section) b.is;
  doubtless = b.doubtless;
  left = ap {A = View} (λ z. z.left) b.is;
  still = still_found v u (ap {A = View} (λ z. z.pass.stuck) b.is);
  full = λ full. ap {A = View} (λ z. z.full) b.is ∙ full;
}

-- a commit that added nothing
pub by_falling : (v u : View) → v.section ≡ None → CommitMoved v u → BringsNoDoubt v u → u.left ≡ v.left → GoesOn v u
by_falling v u none m brings kept = record {
  number = m.drifted.number;
  since = m.drifted.since;
  opened = m.drifted.opened;
  own = m.drifted.mine;
  least = m.drifted.least;
  grows = m.drifted.grows;
  given = same_names v u m.drifted.given;
  outside = m.section ∙ none;
  doubtless = brings;
  left = kept;
  still = m.drifted.still;
  full = m.drifted.full;
}

-- a purge
by_purge : (lay : World → World) (step : Step) (v u : View) → v.section ≡ None → HasPurged lay step v u → GoesOn v u
by_purge lay step v u none p = record {
  number = ap {A = View} (λ z. z.number) p.is;
  since = ap {A = View} (λ z. z.since) p.is;
  opened = ap {A = View} (λ z. z.opened) p.is;
  own = ap {A = View} (λ z. z.pass.mine) p.is;
  least = let e : u.pass.least ≡ v.pass.least = ap {A = View} (λ z. z.pass.least) p.is in omega (arith, e);
  grows = p.grows;
  given = same_names v u (ap {A = View} (λ z. z.given) p.is);
  outside = ap {A = View} (λ z. z.section) p.is ∙ none;
  doubtless = same_faults v u (ap {A = View} (λ z. z.pass.faults) p.is);
  left = ap {A = View} (λ z. z.left) p.is;
  still = still_found v u (ap {A = View} (λ z. z.pass.stuck) p.is);
  full = λ full. ap {A = View} (λ z. z.full) p.is ∙ full;
}

by_no_purge : (place : DiskPlace) (lay : World → World) (step : Step) (v u : View) → leaves_stuck place ≡ false → v.section ≡ None → HasNotPurged place lay step v u → GoesOn v u
by_no_purge place lay step v u harmless none p = record {
  number = ap {A = View} (λ z. z.number) p.is;
  since = ap {A = View} (λ z. z.since) p.is;
  opened = ap {A = View} (λ z. z.opened) p.is;
  own = ap {A = View} (λ z. z.pass.mine) p.is;
  least = let e : u.pass.least ≡ v.pass.least = ap {A = View} (λ z. z.pass.least) p.is in omega (arith, e);
  grows = p.grows;
  given = same_names v u (ap {A = View} (λ z. z.given) p.is);
  outside = ap {A = View} (λ z. z.section) p.is ∙ none;
  doubtless = fault_more place v u (ap {A = View} (λ z. z.pass.faults) p.is) harmless;
  left = ap {A = View} (λ z. z.left) p.is;
  still = still_found v u (ap {A = View} (λ z. z.pass.stuck) p.is);
  full = λ full. ap {A = View} (λ z. z.full) p.is ∙ full;
}

pub by_purging : (knows : View → Type 0) (lay : World → World) (step : Went → Step) (result : Result (Unit {0}) PurgeFault) (v : View) → v.section ≡ None → Purges knows lay step result v → GoesOnKnown knows v
by_purging knows lay step (Ok done) v none p = (p.0, p.1, by_purge lay (step Fine) v p.0 none p.2, ap {A = View} (λ z. z.pass.stuck) p.2.is)
by_purging knows lay step (Err (DiskFault place)) v none p =
    (p.1, p.3, by_no_purge place lay (step p.2) v p.1 (ap leaves_stuck p.0) none p.5, ap {A = View} (λ z. z.pass.stuck) p.5.is)

pub by_dropping : (knows : View → Type 0) (gone : Bool) (name : ℕ) (m : View) → m.section ≡ None → IsDropped knows gone name m → GoesOnKnown knows m
by_dropping knows true name m none d = (d.0, d.1, by_purge (with_spent name) (PurgeSpent m.number 0 Fine) m d.0 none d.2, ap {A = View} (λ z. z.pass.stuck) d.2.is)
by_dropping knows false name m none d = (d.0, d.2, by_no_purge Remove (with_spent name) (PurgeSpent m.number 0 d.1) m d.0 refl none d.4, ap {A = View} (λ z. z.pass.stuck) d.4.is)

-- ---- the job

-- it added nothing, and its line holds
pub ends_so : (moment k : ℕ) (job : Job) (answer : JobAnswer) (v u : View) → GoesOn v u → own_of answer ≡ [] → shown_in answer ≤ last_known u
    → ((h : List Recorded) → IsOnward u h → LineHolds moment h k job answer) → WorksFrom moment k job answer v u
ends_so moment k job answer v u g none shown line = record {
  line = line;
  grows = g.grows;
  later = knows_later v u g;
  shown = shown;
  since = g.since;
  opened = g.opened;
  own = g.own ∙ sym (append-nil v.pass.mine) ∙ ap (λ (l : List ℕ). v.pass.mine ++ l) (sym none);
  outside = g.outside;
  doubtless = λ calm. g.doubtless;
  left = inl g.left;
  still = g.still;
  full = g.full;
}

-- or it failed, so that a revision may be in doubt
pub fails_so : (moment k : ℕ) (job : Job) (answer : JobAnswer) (v m u : View) → CommitMoved v m → v.section ≡ None → GoesOn m u → (tells_doubt answer ≡ false → BringsNoDoubt v m) → LeftBeside moment k job v u → own_of answer ≡ [] → shown_in answer ≡ 0 → Fails job answer
    → ((P : CommitJob → ℕ → Fault → Type 0) → IfCounted job answer P) → WorksFrom moment k job answer v u
fails_so moment k job answer v m u moved none g brings left bare shows fails counts = record {
  line = λ h on. inr (fails, counts (CountsIn h k));
  grows = begins_on v.seen m.seen u.seen moved.drifted.grows g.grows;
  later = omega (arith, moved.drifted.least, g.least, no_shorter v.seen m.seen moved.drifted.grows, no_shorter m.seen u.seen g.grows);
  shown = omega (arith, shows);
  since = g.since ∙ moved.drifted.since;
  opened = g.opened ∙ moved.drifted.opened;
  own = g.own ∙ moved.drifted.mine ∙ sym (append-nil v.pass.mine) ∙ ap (λ (l : List ℕ). v.pass.mine ++ l) (sym bare);
  outside = g.outside;
  doubtless = λ calm few. g.doubtless (brings calm few);
  left = left;
  still = λ found. g.still (moved.drifted.still found);
  full = λ full. g.full (moved.drifted.full full);
}

-- the same, of a job that added nothing
pub fails_behind : (moment k : ℕ) (job : Job) (answer : JobAnswer) (v u : View) → GoesOn v u → own_of answer ≡ [] → shown_in answer ≡ 0 → Fails job answer → ((P : CommitJob → ℕ → Fault → Type 0) → IfCounted job answer P) → WorksFrom moment k job answer v u
fails_behind moment k job answer v u g bare shows fails counts = ends_so moment k job answer v u g bare (omega (arith, shows)) (λ h on. inr (fails, counts (CountsIn h k)))

-- what came before it added nothing
pub ends_behind : (moment k : ℕ) (job : Job) (answer : JobAnswer) (v m u : View) → GoesOn v m → WorksFrom moment k job answer m u → WorksFrom moment k job answer v u
ends_behind moment k job answer v m u g w = record {
  line = w.line;
  grows = begins_on v.seen m.seen u.seen g.grows w.grows;
  later = omega (arith, knows_later v m g, w.later);
  shown = w.shown;
  since = w.since ∙ g.since;
  opened = w.opened ∙ g.opened;
  own = w.own ∙ ap (λ (l : List ℕ). l ++ own_of answer) g.own;
  outside = w.outside;
  doubtless = λ calm few. w.doubtless calm (g.doubtless few);
  left = left_behind w.left;
  still = λ found. w.still (g.still found);
  full = λ full. w.full (g.full full);
}
  where
    left_behind : LeftBeside moment k job m u → LeftBeside moment k job v u
    left_behind (inl same) = inl (same ∙ g.left)
    left_behind (inr d) = inr d

-- it tells that the lock is stuck only where it was found so
told_stuck : (rose : Type 0) (u : View) (answer : JobAnswer) → HasOutsideCause rose u answer → tells_stuck answer ≡ true → is_some u.pass.stuck ≡ true
told_stuck rose u (answers.Committed rev) cause told = absurd cc
told_stuck rose u (answers.Read text) cause told = absurd cc
told_stuck rose u (answers.Conflict head path) cause told = absurd cc
told_stuck rose u (answers.Stopped line (Words why)) cause told = absurd cc
told_stuck rose u (answers.Stopped line (Request why)) cause told = absurd cc
told_stuck rose u (answers.Stopped line (Repository why)) cause told = absurd cc
told_stuck rose u (answers.Stopped line (Outside outside.Mount)) cause told = absurd cc
told_stuck rose u (answers.Stopped line (Outside (outside.Disk at))) cause told = absurd cc
told_stuck rose u (answers.Stopped line (Outside outside.Read)) cause told = absurd cc
told_stuck rose u (answers.Stopped line (Outside outside.Write)) cause told = absurd cc
told_stuck rose u (answers.Stopped line (Outside outside.Bench)) cause told = absurd cc
told_stuck rose u (answers.Stopped line (Outside (outside.Stuck at))) cause told = ap (λ o. is_some o) cause
told_stuck rose u (answers.Stopped line Memory) cause told = absurd cc
told_stuck rose u (answers.Stopped line (Limit why)) cause told = absurd cc

-- nor that no name is left, but where it has met the last number of a name
limit_full : (rose : Type 0) (u : View) (line : ℕ) (why : LimitFault) → HasOutsideCause rose u (answers.Stopped line (Limit why)) → tells_full (answers.Stopped line (Limit why)) ≡ true → u.full ≡ true
limit_full rose u line limits.TextTooLong cause told = absurd cc
limit_full rose u line limits.PropTooLong cause told = absurd cc
limit_full rose u line limits.TooManyEntries cause told = absurd cc
limit_full rose u line limits.TooManyJobs cause told = absurd cc
limit_full rose u line limits.NamesFull cause told = cause
limit_full rose u line limits.RevsFull cause told = absurd cc

told_full : (rose : Type 0) (u : View) (answer : JobAnswer) → HasOutsideCause rose u answer → tells_full answer ≡ true → u.full ≡ true
told_full rose u (answers.Committed rev) cause told = absurd cc
told_full rose u (answers.Read text) cause told = absurd cc
told_full rose u (answers.Conflict head path) cause told = absurd cc
told_full rose u (answers.Stopped line (Words why)) cause told = absurd cc
told_full rose u (answers.Stopped line (Request why)) cause told = absurd cc
told_full rose u (answers.Stopped line (Repository why)) cause told = absurd cc
told_full rose u (answers.Stopped line (Outside why)) cause told = absurd cc
told_full rose u (answers.Stopped line Memory) cause told = absurd cc
told_full rose u (answers.Stopped line (Limit why)) cause told = limit_full rose u line why cause told

-- the whole, of a worker that knew what the pass knew
pub works_all : (rose : Type 0) (moment : ℕ) (job : Job) (answer : JobAnswer) (v u : View) → HasOutsideCause rose u answer → WorksFrom moment (last_known v) job answer v u → WorksJob moment job answer v u
works_all rose moment job answer v u cause w = record {
  line = w.line;
  grows = w.grows;
  later = w.later;
  shown = w.shown;
  since = w.since;
  opened = w.opened;
  own = w.own;
  outside = w.outside;
  doubtless = w.doubtless;
  left = w.left;
  stuck = told_stuck rose u answer cause;
  names = told_full rose u answer cause;
  still = w.still;
  full = w.full;
}
