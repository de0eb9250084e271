-- The lines of jobs that are done beside each other hold of the history, however it goes on.
use Rattle.std.proofs.Common.{◌≡◌, ◌⊎◌, ◌≤◌, ◌<◌, ◌+◌, ℕ, max, take, length, subst, length-append, List, [], ◌∷◌, ◌++◌, suc, Bool, true, false, refl, sym, ap, ◌∙◌, append_assoc, append-nil, inl, inr, ⊎_elim, arith}
use Rattle.std.proofs.lemmas.List.{map-append, take-append-le}
use Rattle.std.specs.Prelude.{Option, Some, is_some}
use Rattle.fsfs_tree.specs.Revisions.{Revision}
use Rattle.fsfs_tree.specs.Dated.{last_of}
use Rattle.fsfs_machine.specs.declared.machine.Coming.{Coming}
use Rattle.fsfs_machine.specs.declared.machine.Recorded.{Recorded}
use Rattle.fsfs_machine.specs.Machine.{revisions}
use Rattle.fsfs_turn.specs.Views.{View, Begins}
use Rattle.fsfs_script.specs.declared.job_lines.job.Base.{Base}
use Rattle.fsfs_script.specs.declared.job_lines.job.Base.TheVariants.{Youngest, Number}
use Rattle.fsfs_script.specs.declared.job_lines.job.CommitJob.{CommitJob}
use Rattle.fsfs_script.specs.declared.job_lines.job.Job.{Job}
use Rattle.fsfs_cli.specs.declared.faults.fault.Fault.{Fault}
use Rattle.fsfs_jobs.specs.Serial.{base_of, ReadsText as AloneReads, LacksRead as AloneLacksRead, LacksBase as AloneLacksBase, LacksName, Begins as AloneBegins}
use Rattle.fsfs_jobs.specs.declared.answer.JobAnswer.{JobAnswer}
use Rattle.fsfs_jobs.specs.declared.answer.JobAnswer.TheVariants.{Committed}
use Rattle.fsfs_job_run.proofs.Full.{one_true}
use Rattle.fsfs_job_run.specs.Serial.Jobs.{own_of, own_of_all, tell_full, tells_full, tells_stuck}
use Rattle.fsfs_job_run.specs.Serial.Counts.{StopsOver}
use Rattle.fsfs_job_run.specs.Workers.Beside.{CountsIn, IsBase, IsOfOne, RunsBeside, ReadsText, LacksRead, LacksBase, DoesEdits, GoesOnFrom, WasToAddTo, shown_in}
use Rattle.fsfs_job_run.proofs.Counted.{counted_on}
use Rattle.fsfs_job_run.specs.Workers.Passes.{last_known, IsOnward, LeftBeside, OfFollowed, End, More}
use Rattle.fsfs_job_run.specs.Workers.Laws.{LinesStay, WorkersLinesStay, AloneIsBeside, WorkGoesOn, WorkersWorked}

-- ---- of a later history, and a worker that knew less

goes_on : (part h later : List Revision) → GoesOnFrom part h → GoesOnFrom h later → GoesOnFrom part later
goes_on part h later a b = (a.0 ++ b.0, b.1 ∙ ap (λ (l : List Revision). l ++ b.0) a.1 ∙ append_assoc part a.0 b.0)

based : (base : Base) (k less last at : ℕ) → less ≤ k → IsBase base k last at → IsBase base less last at
based Youngest k less last at few b = (omega (arith, few, b.0), b.1)
based (Number n) k less last at few b = b

runs_less : (g : List Revision) (date : List ℕ) (k less : ℕ) (job : Job) (answer : JobAnswer) (now : List Revision) → less ≤ k → RunsBeside g date k job answer now → RunsBeside g date less job answer now
runs_less g date k less _ _ _ few (ReadsText job answer at b reads) = ReadsText job answer at (based job.base k less (last_of g) at few b) reads
runs_less g date k less _ _ _ few (LacksRead job n is above) = LacksRead job n is above
runs_less g date k less _ _ _ few (LacksBase job n is above) = LacksBase job n is above
runs_less g date k less _ _ _ few (DoesEdits job answer now at b does) = DoesEdits job answer now at (based job.base k less (last_of g) at few b) does

pub parts : (h later : List Recorded) → Begins later h → GoesOnFrom (revisions h) (revisions later)
parts h later b = (revisions b.0, ap revisions b.1 ∙ map-append (λ (x : Recorded). x.revision) h b.0)

counts_stay : (h later : List Recorded) (k less : ℕ) (job : CommitJob) (line : ℕ) (fault : Fault) → Begins later h → less ≤ k → CountsIn h k job line fault → CountsIn later less job line fault
counts_stay h later k less job line fault on few c =
    let short : c.0 + 1 ≤ length h = omega (arith, c.2) in
    let same : take (c.0 + 1) later ≡ take (c.0 + 1) h = ap (λ (l : List Recorded). take (c.0 + 1) l) on.1 ∙ take-append-le (c.0 + 1) h on.0 short in
    let long : length later ≡ length h + length on.0 = ap (λ (l : List Recorded). length l) on.1 ∙ length-append h on.0 in
    (c.0, omega (arith, few, c.1), omega (arith, long, c.2), subst (λ (l : List Recorded). StopsOver l job line fault) (sym same) c.3)

pub stay : LinesStay
stay moment h later k less job answer on few (inl d) = inl (record {
  before = d.before;
  behind = d.behind;
  known = omega (arith, few, d.known);
  date = d.date;
  dated = d.dated;
  runs = runs_less d.before d.date k less job answer d.behind few d.runs;
  part = goes_on d.behind (revisions h) (revisions later) d.part (parts h later on);
})
stay moment h later k less job answer on few (inr fails) = inr (fails.0, counted_on job answer (CountsIn h k) (CountsIn later less) (λ j line fault. counts_stay h later k less j line fault on few) fails.1)

pub all_stay : WorkersLinesStay
all_stay moment h later k less [] [] on few l = tt
all_stay moment h later k less [] (answer ∷ answers) on few l = absurd l
all_stay moment h later k less (job ∷ js) [] on few l = absurd l
all_stay moment h later k less (job ∷ js) (answer ∷ answers) on few l =
    (stay moment h later k less job answer on few l.0, all_stay moment h later (max k (shown_in answer)) (max less (shown_in answer)) js answers on (omega (arith, few)) l.1)

-- ---- alone

base_alone : (base : Base) (k last : ℕ) → k ≤ last → base_of base last ≤ last → IsBase base k last (base_of base last)
base_alone Youngest k last few within = (few, within)
base_alone (Number n) k last few within = (refl, within)

pub alone : AloneIsBeside
alone h date t k _ _ _ _ room few (AloneReads job answer within reads) = ReadsText job answer (base_of job.base (last_of h)) (base_alone job.base k (last_of h) few within) reads
alone h date t k _ _ _ _ room few (AloneLacksRead job n is above) = LacksRead job n is above
alone h date t k _ _ _ _ room few (AloneLacksBase job n is above) = LacksBase job n is above
alone h date t k _ _ _ _ room few (LacksName job within full) = absurd (omega (arith, room, full))
alone h date t k _ _ _ _ room few (AloneBegins job answer now within less does) = DoesEdits job answer now (base_of job.base (last_of h)) (base_alone job.base k (last_of h) few within) does

-- ---- a worker's jobs

pub one_more : WorkGoesOn
one_more moment _ _ job answer _ _ u (End v) last = More job answer [] [] v u u last (End u)
one_more moment _ _ job answer _ _ u (More j a js answers v n m first rest) last =
    More j a (js ++ job ∷ []) (answers ++ answer ∷ []) v n u first (one_more moment js answers job answer n m u rest last)

pub begins_on : (h m v : List Recorded) → Begins h m → Begins m v → Begins h v
begins_on h m v a b = (b.0 ++ a.0, a.1 ∙ ap (λ (l : List Recorded). l ++ a.0) b.1 ∙ append_assoc v b.0 a.0)

-- a history that goes on from what the pass knows behind its jobs goes on from what it knew before them
pub onward : (h : List Recorded) (m u : View) → Begins u.seen m.seen → last_known m ≤ last_known u → IsOnward u h → IsOnward m h
onward h m u begins later on = record { begins = begins_on h u.seen m.seen on.begins begins; has = omega (arith, later, on.has) }

pub begins_itself : (h : List Recorded) → Begins h h
begins_itself h = ([], sym (append-nil h))

-- ---- what is left in doubt

pub less_known : (moment : ℕ) (h : List Revision) (k less : ℕ) (job : Job) (next : Revision) → less ≤ k → WasToAddTo moment h k job next → WasToAddTo moment h less job next
less_known moment h k less job next few w = record { known = omega (arith, few, w.known); date = w.date; dated = w.dated; runs = runs_less h w.date k less job (Committed (length h)) (h ++ next ∷ []) few w.runs }

later_one : (moment : ℕ) (h : List Revision) (k less : ℕ) (job : Job) (js : List Job) (next : Revision) → less ≤ k → IsOfOne moment h k js next → IsOfOne moment h less (job ∷ js) next
later_one moment h k less job js next few o = record { at = suc o.at; job = o.job; is = o.is; was = less_known moment h k less o.job next few o.was }

-- of one of the first, or of a later one
jobs_left : (moment : ℕ) (job : Job) (js : List Job) (v m u : View) → Begins u.seen m.seen → last_known m ≤ last_known u → last_known v ≤ last_known m → LeftBeside moment (last_known v) job v m
    → (u.left ≡ m.left) ⊎ ((c : Coming) × (u.left ≡ Some c) × OfFollowed u c (λ h. IsOfOne moment h (last_known m) js c.revision))
    → (u.left ≡ v.left) ⊎ ((c : Coming) × (u.left ≡ Some c) × OfFollowed u c (λ h. IsOfOne moment h (last_known v) (job ∷ js) c.revision))
jobs_left moment job js v m u begins later first one (inr (c, is, of)) = inr (c, is, λ h on hist follows. later_one moment (revisions h) (last_known m) (last_known v) job js c.revision first (of h on hist follows))
jobs_left moment job js v m u begins later first (inl kept) (inl same) = inl (same ∙ kept)
jobs_left moment job js v m u begins later first (inr (c, is, was)) (inl same) = inr (c, same ∙ is, λ h on hist follows. record { at = 0; job = job; is = refl; was = was h (onward h m u begins later on) hist follows })

not_so : (a b : Bool) → (a ≡ true → b ≡ true) → b ≡ false → a ≡ false
not_so true b so none = let e : b ≡ true = so refl in absurd cc
not_so false b so none = refl

pub worked : WorkersWorked
worked moment _ _ _ _ (End v) = record {
  each = refl;
  lines = λ h on. tt;
  begins = ([], sym (append-nil v.seen));
  later = omega arith;
  own = sym (append-nil v.pass.mine);
  left = inl refl;
  stuck = λ free. tt;
  names = λ told. absurd cc;
  still = λ found. found;
  full = λ full. full;
}
worked moment _ _ _ _ (More job answer js answers v m u first rest) =
    let w = worked moment js answers m u rest in
    record {
      each = ap suc w.each;
      lines = λ h on. (
        first.line h (onward h m u w.begins w.later on),
        all_stay moment h h (last_known m) (max (last_known v) (shown_in answer)) js answers (begins_itself h) (omega (arith, first.later, first.shown)) (w.lines h on),
      );
      begins = begins_on u.seen m.seen v.seen w.begins first.grows;
      later = omega (arith, first.later, w.later);
      own = w.own ∙ ap (λ (l : List ℕ). l ++ own_of_all answers) first.own ∙ append_assoc v.pass.mine (own_of answer) (own_of_all answers);
      left = jobs_left moment job js v m u w.begins w.later first.later first.left w.left;
      stuck = λ free. (not_so (tells_stuck answer) (is_some u.pass.stuck) (λ told. w.still (first.stuck told)) free, w.stuck free);
      names = λ told. ⊎_elim (λ one. w.full (first.names one)) (λ more. w.names more) (one_true (tells_full answer) (tell_full answers) told);
      still = λ found. w.still (first.still found);
      full = λ full. w.full (first.full full);
    }
