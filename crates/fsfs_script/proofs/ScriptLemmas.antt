-- Whole scripts: one outcome at most, and read just where they are written.
use Rattle.std.proofs.Common.{◌≡◌, ◌≤◌, ◌+◌, ◌-◌, ℕ, Bool, true, false, eqb, List, [], ◌∷◌, ◌++◌, length, refl, sym, ap, subst, ◌∙◌, arith}
use Rattle.std.proofs.lemmas.Bool.{eqb-true, eqb-false, ne_eqb}
use Rattle.std.specs.Prelude.{Ok, Err, ◌==◌}
use Rattle.fsfs_script.specs.declared.job_lines.job.Job.{Job}
use Rattle.fsfs_script.specs.declared.job_lines.job.Job.TheVariants as jobs
use Rattle.fsfs_script.specs.Places.{Place, newlines, behind_newlines, behind_empty_lines}
use Rattle.fsfs_script.specs.Jobs.{HasJob}
use Rattle.fsfs_script.specs.JobTexts.{job_text, Stands}
use Rattle.fsfs_script.specs.Scripts.{HasJobs, BreaksBehind, beginning, IsBlank, Spaced, WritesJobs}
use Rattle.fsfs_script.specs.Laws.{ScriptsAreDecided, ScriptsAsWritten}
use Rattle.fsfs_script.specs.declared.script_error.ScriptError.{ScriptError}
use Rattle.fsfs_script.proofs.PlaceLemmas.{newlines-append}
use Rattle.fsfs_script.proofs.Decided.{nothing_here, job_same, job_not_refused, refused_same}
use Rattle.fsfs_script.proofs.JobsFound.{jobs_found}
use Rattle.fsfs_script.proofs.JobsAgain.{jobs_again}

-- ---- one outcome

jobs_same : (room : ℕ) (p : Place) (js ks : List Job) → HasJobs room p js → HasJobs room p ks → js ≡ ks
jobs_same room p [] [] v w = refl
jobs_same room p [] (k ∷ ks) v w = absurd (nothing_here (room == 0) (behind_empty_lines p) k w.0 v w.1)
jobs_same room p (j ∷ js) [] v w = absurd (nothing_here (room == 0) (behind_empty_lines p) j v.0 w v.1)
jobs_same room p (j ∷ js) (k ∷ ks) v w =
    let s = job_same (room == 0) (behind_empty_lines p) j k v.0 w.0 v.1 w.1 in
    let rest = jobs_same (room - 1) w.0 js ks (subst (λ (q : Place). HasJobs (room - 1) q js) s.1 v.2) w.2 in
    λ i. s.0 i ∷ rest i

jobs_not_refused : (room : ℕ) (p : Place) (js ks : List Job) (e : ScriptError) → HasJobs room p js → BreaksBehind room p ks e → ⊥
jobs_not_refused room p [] [] e v w = omega (arith, ap length v, w.some)
jobs_not_refused room p [] (k ∷ ks) e v w = nothing_here (room == 0) (behind_empty_lines p) k w.0 v w.1
jobs_not_refused room p (j ∷ js) [] e v w = job_not_refused (room == 0) (behind_empty_lines p) j v.0 e v.1 w.refused
jobs_not_refused room p (j ∷ js) (k ∷ ks) e v w =
    let s = job_same (room == 0) (behind_empty_lines p) j k v.0 w.0 v.1 w.1 in
    jobs_not_refused (room - 1) w.0 js ks e (subst (λ (q : Place). HasJobs (room - 1) q js) s.1 v.2) w.2

refusals_same : (room : ℕ) (p : Place) (js ks : List Job) (e f : ScriptError) → BreaksBehind room p js e → BreaksBehind room p ks f → e ≡ f
refusals_same room p [] [] e f v w = refused_same (room == 0) (behind_empty_lines p) e f v.refused w.refused
refusals_same room p [] (k ∷ ks) e f v w = absurd (job_not_refused (room == 0) (behind_empty_lines p) k w.0 e w.1 v.refused)
refusals_same room p (j ∷ js) [] e f v w = absurd (job_not_refused (room == 0) (behind_empty_lines p) j v.0 f v.1 w.refused)
refusals_same room p (j ∷ js) (k ∷ ks) e f v w =
    let s = job_same (room == 0) (behind_empty_lines p) j k v.0 w.0 v.1 w.1 in
    refusals_same (room - 1) w.0 js ks e f (subst (λ (q : Place). BreaksBehind (room - 1) q js e) s.1 v.2) w.2

pub scripts_decided : ScriptsAreDecided
scripts_decided text (Ok js) (Ok ks) v w = ap (λ (x : List Job). Ok x) (jobs_same 4096 (beginning text) js ks v w)
scripts_decided text (Ok js) (Err f) v w = absurd (jobs_not_refused 4096 (beginning text) js w.0 f v w.1)
scripts_decided text (Err e) (Ok ks) v w = absurd (jobs_not_refused 4096 (beginning text) ks v.0 e w v.1)
scripts_decided text (Err e) (Err f) v w = ap (λ (x : ScriptError). Err x) (refusals_same 4096 (beginning text) v.0 w.0 e f v.1 w.1)

-- ---- empty lines

newlines_more : (text : List ℕ) → newlines (10 ∷ text) ≡ 1 + newlines text
newlines_more text = newlines-append (10 ∷ []) text

-- empty lines stand before what is behind them
record Blank (line : ℕ) (bytes : List ℕ) : Type 0 where
  blank : List ℕ
  is_blank : IsBlank blank
  stands : Stands (record { line = line; bytes = bytes }) blank (behind_newlines line bytes)

blank_found : (line : ℕ) (bytes : List ℕ) → Blank line bytes
blank_found line [] = record { blank = []; is_blank = tt; stands = record { bytes = refl; line = omega arith } }
blank_found line (b ∷ bs) = by (blank_found (line + 1) bs) (eqb b 10) refl
  where
    by : Blank (line + 1) bs → (t : Bool) → eqb b 10 ≡ t → Blank line (b ∷ bs)
    by more true is =
        let same : b ≡ 10 = eqb-true b 10 is in
        let there : behind_newlines line (b ∷ bs) ≡ behind_newlines (line + 1) bs = rw is refl in
        let bytes : b ∷ bs ≡ (10 ∷ more.blank) ++ (behind_newlines (line + 1) bs).bytes = λ i. same i ∷ more.stands.bytes i in
        let number : (behind_newlines (line + 1) bs).line ≡ line + newlines (10 ∷ more.blank) = omega (arith, more.stands.line, newlines_more more.blank) in
        record { blank = 10 ∷ more.blank; is_blank = (refl, more.is_blank); stands = subst (λ (q : Place). Stands (record { line = line; bytes = b ∷ bs }) (10 ∷ more.blank) q) (sym there) (record { bytes = bytes; line = number }) }
    by more false is =
        let there : behind_newlines line (b ∷ bs) ≡ record { line = line; bytes = b ∷ bs } = rw is refl in
        record { blank = []; is_blank = tt; stands = subst (λ (q : Place). Stands (record { line = line; bytes = b ∷ bs }) [] q) (sym there) (record { bytes = refl; line = omega arith }) }

-- they are passed, up to a byte that is no newline
blank_again : (line : ℕ) (blank rest : List ℕ) (c : ℕ) → IsBlank blank → eqb c 10 ≡ false → behind_newlines line (blank ++ c ∷ rest) ≡ record { line = line + newlines blank; bytes = c ∷ rest }
blank_again line [] rest c all other =
    let number : line ≡ line + 0 = omega arith in
    rw other (λ i. record { line = number i; bytes = c ∷ rest })
blank_again line (b ∷ blank) rest c all other =
    let more = blank_again (line + 1) blank rest c all.1 other in
    let number : (line + 1) + newlines blank ≡ line + newlines (10 ∷ blank) = omega (arith, newlines_more blank) in
    subst (λ (x : ℕ). behind_newlines line (x ∷ (blank ++ c ∷ rest)) ≡ record { line = line + newlines (x ∷ blank); bytes = c ∷ rest }) (sym all.0) (more ∙ (λ i. record { line = number i; bytes = c ∷ rest }))

-- up to the end
blank_to_end : (line : ℕ) (blank : List ℕ) → IsBlank blank → (behind_newlines line blank).bytes ≡ []
blank_to_end line [] all = refl
blank_to_end line (b ∷ blank) all = subst (λ (x : ℕ). (behind_newlines line (x ∷ blank)).bytes ≡ []) (sym all.0) (blank_to_end (line + 1) blank all.1)

-- a job begins with no newline
record Filled (text : List ℕ) : Type 0 where
  first : ℕ
  more : List ℕ
  text_is : text ≡ first ∷ more
  other : eqb first 10 ≡ false

job_filled : (job : Job) → Filled (job_text job)
job_filled (jobs.Commit job) = record { first = _; more = _; text_is = refl; other = refl }
job_filled (jobs.Read job) = record { first = _; more = _; text_is = refl; other = refl }

spaced_start : (p : Place) (job : Job) (after : Place) (w : Spaced p job after) → behind_empty_lines p ≡ w.start
spaced_start p job after w =
    let f = job_filled job in
    let start : w.start.bytes ≡ f.first ∷ (f.more ++ after.bytes) = w.written.stands.bytes ∙ ap (λ (t : List ℕ). t ++ after.bytes) f.text_is in
    let bytes : p.bytes ≡ w.blank ++ f.first ∷ (f.more ++ after.bytes) = w.behind.bytes ∙ ap (λ (t : List ℕ). w.blank ++ t) start in
    ap (behind_newlines p.line) bytes ∙ blank_again p.line w.blank (f.more ++ after.bytes) f.first w.is_blank f.other ∙ (λ i. record { line = sym w.behind.line i; bytes = sym start i })

-- ---- as written

no_more : (t : List ℕ) → t ≡ [] → (blank : List ℕ) → IsBlank blank → IsBlank (blank ++ t)
no_more t none [] all = subst IsBlank (sym none) tt
no_more t none (b ∷ blank) all = (all.0, no_more t none blank all.1)

some_room : (room : ℕ) → (room == 0) ≡ false → 1 ≤ room
some_room room e = let other = eqb-false room 0 e in omega arith

pub jobs_written : (room : ℕ) (p : Place) (js : List Job) → HasJobs room p js → WritesJobs p js × (length js ≤ room)
jobs_written room p [] v =
    let b = blank_found p.line p.bytes in
    (subst IsBlank (sym b.stands.bytes) (no_more (behind_empty_lines p).bytes v b.blank b.is_blank), omega arith)
jobs_written room p (j ∷ js) v =
    let b = blank_found p.line p.bytes in
    let f = jobs_found (room == 0) (behind_empty_lines p) j v.0 v.1 in
    let more = jobs_written (room - 1) v.0 js v.2 in
    ((v.0, record { blank = b.blank; is_blank = b.is_blank; start = behind_empty_lines p; behind = b.stands; written = f.1 }, more.0), omega (arith, some_room room f.0, more.1))

pub jobs_read : (room : ℕ) (p : Place) (js : List Job) → WritesJobs p js → length js ≤ room → HasJobs room p js
jobs_read room p [] w few = blank_to_end p.line p.bytes w
jobs_read room p (j ∷ js) w few =
    let full : (room == 0) ≡ false = ne_eqb room 0 (λ none. omega (arith, none, few)) in
    let start = spaced_start p j w.0 w.1 in
    let here = jobs_again w.1.start j w.0 w.1.written in
    (w.0, subst (λ (t : Bool). HasJob t (behind_empty_lines p) j w.0) (sym full) (subst (λ (q : Place). HasJob false q j w.0) (sym start) here), jobs_read (room - 1) w.0 js w.2 (omega (arith, few)))

pub scripts_as_written : ScriptsAsWritten
scripts_as_written = record {
  was_written = λ text js v. let w = jobs_written 4096 (beginning text) js v in record { writes = w.0; few = w.1 };
  is_read = λ text js w. jobs_read 4096 (beginning text) js w.writes w.few;
}
