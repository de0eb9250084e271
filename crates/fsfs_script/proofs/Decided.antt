-- A place has one answer at most.
use Rattle.std.proofs.Common.{◌≡◌, ℕ, List, [], ◌∷◌, length, Some, None, refl, sym, ap, subst, ◌∙◌, inl, inr, arith}
use Rattle.std.specs.Prelude.{Result, Ok, Err, Bool}
use Rattle.fsfs_script.specs.declared.job_lines.job.Base.{Base}
use Rattle.fsfs_script.specs.declared.job_lines.job.Job.{Job}
use Rattle.fsfs_script.specs.declared.job_lines.job.Job.TheVariants as jobs
use Rattle.fsfs_script.specs.declared.job_lines.job.CommitJob.{CommitJob}
use Rattle.fsfs_script.specs.declared.job_lines.lines.OpeningLine.{OpeningLine}
use Rattle.fsfs_script.specs.declared.job_lines.lines.OpeningLine.TheVariants as openings
use Rattle.fsfs_script.specs.declared.job_lines.refusal.Refusal.TheVariants.{Bad}
use Rattle.fsfs_script.specs.declared.job_lines.refusal.Why.TheVariants as why
use Rattle.fsfs_script.proofs.LineLemmas.{line_short}
use Rattle.fsfs_script.specs.Places.{Place, behind_empty_lines}
use Rattle.fsfs_script.specs.Errors.{error_at}
use Rattle.fsfs_script.specs.Commands.{opening_at, next_at}
use Rattle.fsfs_script.specs.Jobs.{Draft, behind, drafted, start, Takes, Ends, Breaks, HasJob, IsRefusedJob}
use Rattle.fsfs_script.specs.Laws.{AnswersAreDecided}
use Rattle.fsfs_script.specs.declared.commands.Command.{Command}
use Rattle.fsfs_script.specs.declared.commands.Next.{Next}
use Rattle.fsfs_script.specs.declared.commands.Next.TheVariants as next
use Rattle.fsfs_script.specs.declared.script_error.ScriptError.{ScriptError}

-- ---- values of results

abbrev ok_or : {A E : Type 0} → A → Result A E → A
ok_or d (Ok x) = x
ok_or d (Err e) = d

abbrev err_or : {A E : Type 0} → E → Result A E → E
err_or d (Ok x) = d
err_or d (Err e) = e

pub ok_same : {A E : Type 0} (r : Result A E) (x y : A) → r ≡ Ok x → r ≡ Ok y → x ≡ y
ok_same r x y a b = ap (ok_or x) (sym a ∙ b)

pub err_same : {A E : Type 0} (r : Result A E) (x y : E) → r ≡ Err x → r ≡ Err y → x ≡ y
err_same r x y a b = ap (err_or x) (sym a ∙ b)

pub ok_not_err : {A E : Type 0} (r : Result A E) (x : A) (y : E) → r ≡ Ok x → r ≡ Err y → ⊥
ok_not_err r x y a b = let e = sym a ∙ b in absurd cc

abbrev command_or : Command → Next → Command
command_or d (next.Command c) = c
command_or d next.Commit = d

commit_not_command : (c : Command) → next.Commit ≡ next.Command c → ⊥
commit_not_command c e = absurd cc

abbrev base_or : Base → OpeningLine → Base
base_or d (openings.Job base) = base
base_or d (openings.Read base path) = d

job_not_read : (base other : Base) (path : List (List ℕ)) → openings.Job base ≡ openings.Read other path → ⊥
job_not_read base other path e = absurd cc

-- ---- the commands of a job

-- no command goes on behind a draft
abbrev Halts : Draft → Type 0
Halts d = (c : Command) (after : Place) → next_at d.stage d.place ≡ Ok (next.Command c, after) → ⊥

takes_same : (d e f : Draft) (cs ds : List Command) → Takes d cs e → Takes d ds f → Halts e → Halts f → e ≡ f
takes_same d e f [] [] v w he hf = v ∙ sym w
takes_same d e f [] (y ∷ ds) v w he hf = absurd (he y w.0 (ap (λ (x : Draft). next_at x.stage x.place) v ∙ w.1))
takes_same d e f (x ∷ cs) [] v w he hf = absurd (hf x v.0 (ap (λ (z : Draft). next_at z.stage z.place) w ∙ v.1))
takes_same d e f (x ∷ cs) (y ∷ ds) v w he hf =
    let s = ok_same {A = Next × Place} (next_at d.stage d.place) (next.Command x, v.0) (next.Command y, w.0) v.1 w.1 in
    let same : y ≡ x = ap (λ (p : Next × Place). command_or x p.0) (sym s) in
    let place : w.0 ≡ v.0 = ap (λ (p : Next × Place). p.1) (sym s) in
    let w' : Takes (behind x v.0 d) ds f = subst (λ (p : Place). Takes (behind x p d) ds f) place (subst (λ (c : Command). Takes (behind c w.0 d) ds f) same w.2) in
    takes_same (behind x v.0 d) e f cs ds v.2 w' he hf

ends_halt : (from : Draft) (job : CommitJob) (after : Place) → (w : Ends from job after) → Halts w.draft
ends_halt from job after w c other is =
    let s = ok_same {A = Next × Place} (next_at w.draft.stage w.draft.place) (next.Commit, after) (next.Command c, other) w.commit is in
    commit_not_command c (ap (λ (p : Next × Place). p.0) s)

breaks_halt : (from : Draft) (error : ScriptError) → (w : Breaks from error) → Halts w.draft
breaks_halt from error w c other is = ok_not_err (next_at w.draft.stage w.draft.place) (next.Command c, other) w.refusal is w.refused

ends_same : (from : Draft) (j k : CommitJob) (a b : Place) → Ends from j a → Ends from k b → (j ≡ k) × (a ≡ b)
ends_same from j k a b v w =
    let s = takes_same from v.draft w.draft v.taken w.taken v.takes w.takes (ends_halt from j a v) (ends_halt from k b w) in
    let there = ok_same {A = Next × Place} (next_at w.draft.stage w.draft.place) (next.Commit, a) (next.Commit, b) (ap (λ (d : Draft). next_at d.stage d.place) (sym s) ∙ v.commit) w.commit in
    (v.job_is ∙ ap (λ (d : Draft). d.job) s ∙ sym w.job_is, ap (λ (p : Next × Place). p.1) there)

breaks_same : (from : Draft) (e f : ScriptError) → Breaks from e → Breaks from f → e ≡ f
breaks_same from e f v w =
    let s = takes_same from v.draft w.draft v.taken w.taken v.takes w.takes (breaks_halt from e v) (breaks_halt from f w) in
    let refusal = err_same (next_at w.draft.stage w.draft.place) v.refusal w.refusal (ap (λ (d : Draft). next_at d.stage d.place) (sym s) ∙ v.refused) w.refused in
    v.error_is ∙ (λ i. error_at (s i).place.line (refusal i)) ∙ sym w.error_is

ends_not_breaks : (from : Draft) (j : CommitJob) (a : Place) (e : ScriptError) → Ends from j a → Breaks from e → ⊥
ends_not_breaks from j a e v w =
    let s = takes_same from v.draft w.draft v.taken w.taken v.takes w.takes (ends_halt from j a v) (breaks_halt from e w) in
    ok_not_err (next_at w.draft.stage w.draft.place) (next.Commit, a) w.refusal (ap (λ (d : Draft). next_at d.stage d.place) (sym s) ∙ v.commit) w.refused

-- ---- jobs

module _ (is_full : Bool) (p : Place) where
  opened_same : (b c : Base) (m n : Place) → opening_at is_full p ≡ Ok (openings.Job b, m) → opening_at is_full p ≡ Ok (openings.Job c, n) → drafted (start p.line b) m ≡ drafted (start p.line c) n
  opened_same b c m n v w =
      let s = ok_same {A = OpeningLine × Place} (opening_at is_full p) (openings.Job b, m) (openings.Job c, n) v w in
      λ i. drafted (start p.line (base_or b (s i).0)) (s i).1

  opened_not_read : (b c : Base) (path : List (List ℕ)) (m n : Place) → opening_at is_full p ≡ Ok (openings.Job b, m) → opening_at is_full p ≡ Ok (openings.Read c path, n) → ⊥
  opened_not_read b c path m n v w =
      let s = ok_same {A = OpeningLine × Place} (opening_at is_full p) (openings.Job b, m) (openings.Read c path, n) v w in
      job_not_read b c path (ap (λ (q : OpeningLine × Place). q.0) s)

  abbrev read_base : OpeningLine → Base → Base
  read_base (openings.Job base) d = d
  read_base (openings.Read base path) d = base

  abbrev read_path : OpeningLine → List (List ℕ) → List (List ℕ)
  read_path (openings.Job base) d = d
  read_path (openings.Read base path) d = path

  pub job_same : (j k : Job) (a b : Place) → HasJob is_full p j a → HasJob is_full p k b → (j ≡ k) × (a ≡ b)
  job_same (jobs.Commit j) (jobs.Commit k) a b v w =
      let s = opened_same v.base w.base v.opened w.opened v.opening w.opening in
      let t = ends_same (drafted (start p.line w.base) w.opened) j k a b (subst (λ (d : Draft). Ends d j a) s v.ends) w.ends in
      (ap (λ (x : CommitJob). jobs.Commit x) t.0, t.1)
  job_same (jobs.Commit j) (jobs.Read k) a b v w = absurd (opened_not_read v.base k.base k.path v.opened b v.opening w.opening)
  job_same (jobs.Read j) (jobs.Commit k) a b v w = absurd (opened_not_read w.base j.base j.path w.opened a w.opening v.opening)
  job_same (jobs.Read j) (jobs.Read k) a b v w =
      let s = ok_same {A = OpeningLine × Place} (opening_at is_full p) (openings.Read j.base j.path, a) (openings.Read k.base k.path, b) v.opening w.opening in
      let line = v.line_is ∙ sym w.line_is in
      (λ i. jobs.Read (record { line = line i; base = read_base (s i).0 j.base; path = read_path (s i).0 j.path }), ap (λ (q : OpeningLine × Place). q.1) s)

  pub job_not_refused : (j : Job) (a : Place) (e : ScriptError) → HasJob is_full p j a → IsRefusedJob is_full p e → ⊥
  job_not_refused (jobs.Commit j) a e v (inl w) = ok_not_err (opening_at is_full p) (openings.Job v.base, v.opened) w.refusal v.opening w.refused
  job_not_refused (jobs.Commit j) a e v (inr w) =
      let s = opened_same v.base w.base v.opened w.opened v.opening w.opening in
      ends_not_breaks (drafted (start p.line w.base) w.opened) j a e (subst (λ (d : Draft). Ends d j a) s v.ends) w.breaks
  job_not_refused (jobs.Read j) a e v (inl w) = ok_not_err (opening_at is_full p) (openings.Read j.base j.path, a) w.refusal v.opening w.refused
  job_not_refused (jobs.Read j) a e v (inr w) = opened_not_read w.base j.base j.path w.opened a w.opening v.opening

  pub refused_same : (e f : ScriptError) → IsRefusedJob is_full p e → IsRefusedJob is_full p f → e ≡ f
  refused_same e f (inl v) (inl w) = v.error_is ∙ ap (error_at p.line) (err_same (opening_at is_full p) v.refusal w.refusal v.refused w.refused) ∙ sym w.error_is
  refused_same e f (inl v) (inr w) = absurd (ok_not_err (opening_at is_full p) (openings.Job w.base, w.opened) v.refusal w.opening v.refused)
  refused_same e f (inr v) (inl w) = absurd (ok_not_err (opening_at is_full p) (openings.Job v.base, v.opened) w.refusal v.opening w.refused)
  refused_same e f (inr v) (inr w) =
      let s = opened_same v.base w.base v.opened w.opened v.opening w.opening in
      breaks_same (drafted (start p.line w.base) w.opened) e f (subst (λ (d : Draft). Breaks d e) s v.breaks) w.breaks

-- ---- answers

-- where no bytes are left nothing is read
opening_short : (is_full : Bool) (p : Place) → p.bytes ≡ [] → opening_at is_full p ≡ Err (Bad why.Short)
opening_short is_full p none = rw (line_short p [] none tt (omega arith)) refl

pub nothing_here : (is_full : Bool) (p : Place) (j : Job) (a : Place) → p.bytes ≡ [] → HasJob is_full p j a → ⊥
nothing_here is_full p (jobs.Commit j) a none w = ok_not_err (opening_at is_full p) (openings.Job w.base, w.opened) (Bad why.Short) w.opening (opening_short is_full p none)
nothing_here is_full p (jobs.Read j) a none w = ok_not_err (opening_at is_full p) (openings.Read j.base j.path, a) (Bad why.Short) w.opening (opening_short is_full p none)

pub decided : AnswersAreDecided
decided is_full p (Ok None) (Ok None) v w = refl
decided is_full p (Ok None) (Ok (Some b)) v w = absurd (nothing_here is_full (behind_empty_lines p) b.0 b.1 v w)
decided is_full p (Ok None) (Err f) v w = absurd (omega (arith, ap length v, w.some))
decided is_full p (Ok (Some a)) (Ok None) v w = absurd (nothing_here is_full (behind_empty_lines p) a.0 a.1 w v)
decided is_full p (Ok (Some a)) (Ok (Some b)) v w = let s = job_same is_full (behind_empty_lines p) a.0 b.0 a.1 b.1 v w in λ i. Ok (Some (s.0 i, s.1 i))
decided is_full p (Ok (Some a)) (Err f) v w = absurd (job_not_refused is_full (behind_empty_lines p) a.0 a.1 f v w.refused)
decided is_full p (Err e) (Ok None) v w = absurd (omega (arith, ap length w, v.some))
decided is_full p (Err e) (Ok (Some b)) v w = absurd (job_not_refused is_full (behind_empty_lines p) b.0 b.1 e w v.refused)
decided is_full p (Err e) (Err f) v w = ap (λ (x : ScriptError). Err x) (refused_same is_full (behind_empty_lines p) e f v.refused w.refused)
