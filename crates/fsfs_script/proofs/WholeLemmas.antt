-- A whole script, read job by job.
use Rattle.std.proofs.Common.{◌≡◌, ◌+◌, ◌-◌, ℕ, true, false, List, [], ◌∷◌, ◌++◌, length, Option, Some, None, refl, ap, subst, ◌∙◌, arith}
use Rattle.std.proofs.lemmas.List.{length-append}
use Rattle.std.specs.Prelude.{Ok, Err, ◌==◌}
use Rattle.fsfs_script.specs.declared.job_lines.job.Job.{Job}
use Rattle.fsfs_script.specs.Places.{Place, behind_empty_lines, place_of}
use Rattle.fsfs_script.specs.Jobs.{HasJob, IsRefusedNext, ReadsNext}
use Rattle.fsfs_script.specs.Scripts.{HasJobs, BreaksBehind, beginning}
use Rattle.fsfs_script.specs.Laws.{IsOutcome}
use Rattle.fsfs_script.specs.Whole.{ReadsScript, EndsSource}
use Rattle.fsfs_script.specs.declared.script_error.ScriptError.{ScriptError}
use Rattle.fsfs_script.specs.declared.script_error.ScriptError.TheVariants as errors
use Rattle.fsfs_script.proofs.PlaceLemmas.{told_parts}
use Rattle.fsfs_script.proofs.JobLemmas.{is_error_more}
use Rattle.fsfs_script.proofs.JobsFound.{jobs_found}

-- ---- jobs one after another, from a place to another, where so many may come

abbrev pub TakesJobs : ℕ → Place → List Job → Place → Type 0
TakesJobs room p [] q = q ≡ p
TakesJobs room p (job ∷ jobs) q = (after : Place) × HasJob (room == 0) (behind_empty_lines p) job after × TakesJobs (room - 1) after jobs q

all_left : (room : ℕ) → room - 0 ≡ room
all_left room = omega arith

one_less : (room : ℕ) (job : Job) (jobs : List Job) → room - length (job ∷ jobs) ≡ (room - 1) - length jobs
one_less room job jobs = omega arith

taken_more : (room : ℕ) (p : Place) (jobs : List Job) (q : Place) (job : Job) (after : Place) → TakesJobs room p jobs q → HasJob ((room - length jobs) == 0) (behind_empty_lines q) job after → TakesJobs room p (jobs ++ job ∷ []) after
taken_more room p [] q job after here h =
    let h' = subst (λ (n : ℕ). HasJob (n == 0) (behind_empty_lines q) job after) (all_left room) h in
    (after, subst (λ (x : Place). HasJob (room == 0) (behind_empty_lines x) job after) here h', refl)
taken_more room p (j ∷ js) q job after w h =
    (w.0, w.1, taken_more (room - 1) w.0 js q job after w.2 (subst (λ (n : ℕ). HasJob (n == 0) (behind_empty_lines q) job after) (one_less room j js) h))

taken_ends : (room : ℕ) (p : Place) (jobs : List Job) (q : Place) → TakesJobs room p jobs q → (behind_empty_lines q).bytes ≡ [] → HasJobs room p jobs
taken_ends room p [] q here none = subst (λ (x : Place). (behind_empty_lines x).bytes ≡ []) here none
taken_ends room p (j ∷ js) q w none = (w.0, w.1, taken_ends (room - 1) w.0 js q w.2 none)

taken_breaks : (room : ℕ) (p : Place) (jobs : List Job) (q : Place) (error : ScriptError) → TakesJobs room p jobs q → IsRefusedNext ((room - length jobs) == 0) q error → BreaksBehind room p jobs error
taken_breaks room p [] q error here r =
    let r' = subst (λ (n : ℕ). IsRefusedNext (n == 0) q error) (all_left room) r in
    subst (λ (x : Place). IsRefusedNext (room == 0) x error) here r'
taken_breaks room p (j ∷ js) q error w r =
    (w.0, w.1, taken_breaks (room - 1) w.0 js q error w.2 (subst (λ (n : ℕ). IsRefusedNext (n == 0) q error) (one_less room j js) r))

-- ---- a script of which so much was read

abbrev pub IsWhole : Option (List ℕ) → Option Place → ℕ → List Job → Type 0
IsWhole None now room jobs = Unit {0}
IsWhole (Some text) now room jobs = (p : Place) × (now ≡ Some p) × (room + length jobs ≡ 4096) × TakesJobs 4096 (beginning text) jobs p

-- the room that is left is that of the jobs that were read
room_left : (room count : ℕ) → room + count ≡ 4096 → room ≡ 4096 - count
room_left room count e = omega (arith, e)

pub whole_more : (now new : Option Place) (text : Option (List ℕ)) (room left : ℕ) (jobs : List Job) (job : Job) → room ≡ left + 1 → IsWhole text now room jobs → ReadsNext (room == 0) now new (Ok (Some job)) → IsWhole text new left (jobs ++ job ∷ [])
whole_more now new None room left jobs job less w r = tt
whole_more now new (Some text) room left jobs job less w r =
    let r' = subst (λ (o : Option Place). ReadsNext (room == 0) o new (Ok (Some job))) w.1 r in
    let here = subst (λ (n : ℕ). HasJob (n == 0) (behind_empty_lines w.0) job r'.0) (room_left room (length jobs) w.2) r'.1 in
    (r'.0, r'.2, omega (arith, less, w.2, length-append jobs (job ∷ [])), taken_more 4096 (beginning text) jobs w.0 job r'.0 w.3 here)

pub whole_ends : (now new : Option Place) (text : Option (List ℕ)) (room : ℕ) (jobs : List Job) → IsWhole text now room jobs → ReadsNext (room == 0) now new (Ok None) → ReadsScript text (Ok jobs)
whole_ends now new None room jobs w r = tt
whole_ends now new (Some text) room jobs w r =
    let r' = subst (λ (o : Option Place). ReadsNext (room == 0) o new (Ok None)) w.1 r in
    taken_ends 4096 (beginning text) jobs w.0 w.3 r'.0

nothing_behind : (s t : List ℕ) → s ++ t ≡ [] → t ≡ []
nothing_behind [] t e = e
nothing_behind (x ∷ s) t e = absurd cc

pub whole_read : (now : Option Place) (text rem : Option (List ℕ)) (a : Place) (room : ℕ) (jobs : List Job) → IsWhole text now room jobs → ReadsNext (room == 0) now (place_of rem a) (Ok None) → EndsSource text rem
whole_read now None rem a room jobs w r = tt
whole_read now (Some text) rem a room jobs w r =
    let r' = subst (λ (o : Option Place). ReadsNext (room == 0) o (place_of rem a) (Ok None)) w.1 r in
    let t = told_parts rem a (behind_empty_lines w.0) r'.1 in
    t.1 ∙ ap (λ (s : List ℕ). Some s) (nothing_behind a.bytes t.0 (t.3 ∙ r'.0))

pub whole_breaks : (now new : Option Place) (text : Option (List ℕ)) (room : ℕ) (jobs : List Job) (error : ScriptError) → IsWhole text now room jobs → ReadsNext (room == 0) now new (Err error) → ReadsScript text (Err error)
whole_breaks now new None room jobs error w r = tt
whole_breaks now new (Some text) room jobs error w r =
    let r' = subst (λ (o : Option Place). ReadsNext (room == 0) o new (Err error)) w.1 r in
    is_error_more (IsRefusedNext (room == 0) w.0) (λ e. IsOutcome text (Err e)) error
    (λ e n. (jobs, taken_breaks 4096 (beginning text) jobs w.0 e w.3 (subst (λ (k : ℕ). IsRefusedNext (k == 0) w.0 e) (room_left room (length jobs) w.2) n))) r'

-- where no job may come, none does
pub whole_full : (now new : Option Place) (text : Option (List ℕ)) (jobs : List Job) (job : Job) → IsWhole text now 0 jobs → ReadsNext true now new (Ok (Some job)) → ReadsScript text (Err errors.TooManyJobs)
whole_full now new None jobs job w r = tt
whole_full now new (Some text) jobs job w r =
    let r' = subst (λ (o : Option Place). ReadsNext true o new (Ok (Some job))) w.1 r in
    let f = jobs_found true (behind_empty_lines w.0) job r'.0 r'.1 in
    let no : true ≡ false = f.0 in
    absurd cc
