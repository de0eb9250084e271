-- Jobs that are read were written so.
use Rattle.std.proofs.Common.{◌≡◌, ◌+◌, ℕ, Bool, true, false, List, [], ◌∷◌, ◌++◌, Option, Some, None, refl, sym, ap, subst, ◌∙◌, append_assoc, arith}
use Rattle.std.proofs.lemmas.List.{append-nil}
use Rattle.std.specs.Prelude.{Result, Ok, Err, codes}
use Rattle.fsfs_script.specs.JobLines.Judging.{◌>>=◌, or_refusal}
use Rattle.fsfs_script.specs.JobLines.Lines.{opening_line_at, if_room}
use Rattle.fsfs_script.specs.JobLines.Verbs.{opening_named}
use Rattle.fsfs_script.specs.JobLines.Words.{checked, split}
use Rattle.fsfs_script.specs.JobLines.Texts.{CanValue, edit_text, opening_text}
use Rattle.fsfs_script.specs.declared.job_lines.job.CommitJob.{CommitJob}
use Rattle.fsfs_script.specs.declared.job_lines.job.Step.{Step}
use Rattle.fsfs_script.specs.declared.job_lines.job.Job.{Job}
use Rattle.fsfs_script.specs.declared.job_lines.job.Job.TheVariants as jobs
use Rattle.fsfs_script.specs.declared.job_lines.lines.OpeningLine.{OpeningLine}
use Rattle.fsfs_script.specs.declared.job_lines.lines.OpeningLine.TheVariants as openings
use Rattle.fsfs_script.specs.declared.job_lines.refusal.Refusal.{Refusal}
use Rattle.fsfs_script.specs.declared.job_lines.refusal.Refusal.TheVariants.{Bad, TooManyJobs}
use Rattle.fsfs_script.specs.declared.job_lines.refusal.Why.TheVariants as why
use Rattle.fsfs_script.specs.declared.job_lines.verbs.Stage.TheVariants.{AfterJob, AfterAuthor, InEdits}
use Rattle.fsfs_script.proofs.WordTexts.{bound}
use Rattle.fsfs_script.proofs.OpeningTexts.{opening_found}
use Rattle.fsfs_script.proofs.LineSizes.{opening_within}
use Rattle.fsfs_script.specs.Places.{Place, newlines}
use Rattle.fsfs_script.specs.Commands.{next_at}
use Rattle.fsfs_script.specs.Jobs.{Draft, behind, drafted, start, Takes, HasCommitJob, HasJob}
use Rattle.fsfs_script.specs.JobTexts.{author_text, log_text, steps_text, ending_text, CanName, CanSteps, Stands, IsWritten}
use Rattle.fsfs_script.specs.declared.commands.Command.{Command}
use Rattle.fsfs_script.specs.declared.commands.Command.TheVariants as commands
use Rattle.fsfs_script.specs.declared.commands.Next.TheVariants as next
use Rattle.fsfs_script.proofs.Standing.{stands_more, newlines_line}
use Rattle.fsfs_script.proofs.WrittenLemmas.{judged_found, next_found}

-- ---- edits

abbrev pub commit_text : List ℕ
commit_text = codes "commit" ++ 10 ∷ []

abbrev pub with_steps : CommitJob → List Step → CommitJob
with_steps job steps = record job { steps = job.steps ++ steps }

pub no_steps : (job : CommitJob) → job ≡ with_steps job []
no_steps job = λ i. record job { steps = sym (append-nil job.steps) i }

-- neither an author nor a log comes first
abbrev NoHead : List Command → Type 0
NoHead [] = Unit {0}
NoHead (commands.Author name ∷ cs) = ⊥
NoHead (commands.Log text ∷ cs) = ⊥
NoHead (commands.Edit edit ∷ cs) = Unit {0}

abbrev NoAuthor : List Command → Type 0
NoAuthor [] = Unit {0}
NoAuthor (commands.Author name ∷ cs) = ⊥
NoAuthor (commands.Log text ∷ cs) = Unit {0}
NoAuthor (commands.Edit edit ∷ cs) = Unit {0}

no_head : (d e : Draft) (cs : List Command) → d.stage ≡ InEdits → Takes d cs e → NoHead cs
no_head d e [] is w = tt
no_head d e (commands.Author name ∷ cs) is w = let late : InEdits ≡ AfterJob = sym is ∙ (next_found d.stage d.place (next.Command (commands.Author name)) w.0 w.1).1.0 in absurd cc
no_head d e (commands.Log text ∷ cs) is w = absurd ((next_found d.stage d.place (next.Command (commands.Log text)) w.0 w.1).1.0 is)
no_head d e (commands.Edit edit ∷ cs) is w = tt

no_author : (d e : Draft) (cs : List Command) → d.stage ≡ AfterAuthor → Takes d cs e → NoAuthor cs
no_author d e [] is w = tt
no_author d e (commands.Author name ∷ cs) is w = let late : AfterAuthor ≡ AfterJob = sym is ∙ (next_found d.stage d.place (next.Command (commands.Author name)) w.0 w.1).1.0 in absurd cc
no_author d e (commands.Log text ∷ cs) is w = tt
no_author d e (commands.Edit edit ∷ cs) is w = tt

-- what stands from a draft to the end of its job
record FoundEdits (d : Draft) (job : CommitJob) (after : Place) : Type 0 where
  steps : List Step
  job_is : job ≡ with_steps d.job steps
  can : CanSteps d.place.line steps
  stands : Stands d.place (ending_text steps) after

edits_found : (d e : Draft) (cs : List Command) (after : Place) → Takes d cs e → next_at e.stage e.place ≡ Ok (next.Commit, after) → NoHead cs → FoundEdits d e.job after
edits_found d e [] after w commit none =
    let here = subst (λ (x : Draft). next_at x.stage x.place ≡ Ok (next.Commit, after)) w commit in
    record { steps = []; job_is = ap (λ (x : Draft). x.job) w ∙ no_steps d.job; can = tt; stands = (next_found d.stage d.place next.Commit after here).0 }
edits_found d e (commands.Author name ∷ cs) after w commit none = absurd none
edits_found d e (commands.Log text ∷ cs) after w commit none = absurd none
edits_found d e (commands.Edit edit ∷ cs) after w commit none =
    let mid = behind (commands.Edit edit) w.0 d in
    let f = next_found d.stage d.place (next.Command (commands.Edit edit)) w.0 w.1 in
    let r = edits_found mid e cs after w.2 commit (no_head mid e cs refl w.2) in
    let step : Step = record { line = d.place.line; edit = edit } in
    record {
      steps = step ∷ r.steps;
      job_is = r.job_is ∙ (λ i. record d.job { steps = append_assoc d.job.steps (step ∷ []) r.steps i });
      can = (refl, f.1, subst (λ (n : ℕ). CanSteps n r.steps) f.0.line r.can);
      stands = subst (λ (t : List ℕ). Stands d.place t after) (sym (append_assoc (edit_text edit) (steps_text r.steps) commit_text)) (stands_more d.place w.0 after (edit_text edit) (ending_text r.steps) f.0 r.stands);
    }

-- ---- the log before them

record FoundLog (d : Draft) (job : CommitJob) (after : Place) : Type 0 where
  log : Option (List ℕ)
  steps : List Step
  job_is : job ≡ record d.job { log = log; steps = d.job.steps ++ steps }
  can_log : CanValue log
  can : CanSteps (d.place.line + newlines (log_text log)) steps
  stands : Stands d.place (log_text log ++ ending_text steps) after

no_log : (d : Draft) (job : CommitJob) (after : Place) → d.job.log ≡ None → FoundEdits d job after → FoundLog d job after
no_log d job after none r =
    let line : d.place.line ≡ d.place.line + 0 = omega arith in
    record {
      log = None;
      steps = r.steps;
      job_is = r.job_is ∙ (λ i. record d.job { log = none i; steps = d.job.steps ++ r.steps });
      can_log = tt;
      can = subst (λ (n : ℕ). CanSteps n r.steps) line r.can;
      stands = r.stands;
    }

log_found : (d e : Draft) (cs : List Command) (after : Place) → Takes d cs e → next_at e.stage e.place ≡ Ok (next.Commit, after) → d.job.log ≡ None → NoAuthor cs → FoundLog d e.job after
log_found d e [] after w commit none first = no_log d e.job after none (edits_found d e [] after w commit tt)
log_found d e (commands.Author name ∷ cs) after w commit none first = absurd first
log_found d e (commands.Edit edit ∷ cs) after w commit none first = no_log d e.job after none (edits_found d e (commands.Edit edit ∷ cs) after w commit tt)
log_found d e (commands.Log text ∷ cs) after w commit none first =
    let mid = behind (commands.Log text) w.0 d in
    let f = next_found d.stage d.place (next.Command (commands.Log text)) w.0 w.1 in
    let r = edits_found mid e cs after w.2 commit (no_head mid e cs refl w.2) in
    record {
      log = Some text;
      steps = r.steps;
      job_is = r.job_is;
      can_log = f.1.1;
      can = subst (λ (n : ℕ). CanSteps n r.steps) f.0.line r.can;
      stands = stands_more d.place w.0 after (log_text (Some text)) (ending_text r.steps) f.0 r.stands;
    }

-- ---- the author before that

record FoundAuthor (d : Draft) (job : CommitJob) (after : Place) : Type 0 where
  author : Option (List ℕ)
  log : Option (List ℕ)
  steps : List Step
  job_is : job ≡ record d.job { author = author; log = log; steps = d.job.steps ++ steps }
  can_author : CanName author
  can_log : CanValue log
  can : CanSteps (d.place.line + newlines (author_text author) + newlines (log_text log)) steps
  stands : Stands d.place (author_text author ++ (log_text log ++ ending_text steps)) after

no_name : (d : Draft) (job : CommitJob) (after : Place) → d.job.author ≡ None → FoundLog d job after → FoundAuthor d job after
no_name d job after none r =
    let line : d.place.line ≡ d.place.line + 0 = omega arith in
    record {
      author = None;
      log = r.log;
      steps = r.steps;
      job_is = r.job_is ∙ (λ i. record d.job { author = none i; log = r.log; steps = d.job.steps ++ r.steps });
      can_author = tt;
      can_log = r.can_log;
      can = subst (λ (n : ℕ). CanSteps (n + newlines (log_text r.log)) r.steps) line r.can;
      stands = r.stands;
    }

author_found : (d e : Draft) (cs : List Command) (after : Place) → Takes d cs e → next_at e.stage e.place ≡ Ok (next.Commit, after) → d.job.author ≡ None → d.job.log ≡ None → FoundAuthor d e.job after
author_found d e [] after w commit name none = no_name d e.job after name (log_found d e [] after w commit none tt)
author_found d e (commands.Log text ∷ cs) after w commit name none = no_name d e.job after name (log_found d e (commands.Log text ∷ cs) after w commit none tt)
author_found d e (commands.Edit edit ∷ cs) after w commit name none = no_name d e.job after name (log_found d e (commands.Edit edit ∷ cs) after w commit none tt)
author_found d e (commands.Author name ∷ cs) after w commit absent none =
    let mid = behind (commands.Author name) w.0 d in
    let f = next_found d.stage d.place (next.Command (commands.Author name)) w.0 w.1 in
    let r = log_found mid e cs after w.2 commit none (no_author mid e cs refl w.2) in
    record {
      author = Some name;
      log = r.log;
      steps = r.steps;
      job_is = r.job_is;
      can_author = f.1.1;
      can_log = r.can_log;
      can = subst (λ (n : ℕ). CanSteps (n + newlines (log_text r.log)) r.steps) f.0.line r.can;
      stands = stands_more d.place w.0 after (author_text (Some name)) (log_text r.log ++ ending_text r.steps) f.0 r.stands;
    }

-- ---- whole jobs

has_room : (is_full : Bool) (line : List ℕ) (said : OpeningLine) → opening_line_at is_full line ≡ Ok said → is_full ≡ false
unfolding opening_line_at
has_room false line said e = refl
has_room true line said e =
    let word = (split line).0 in
    let rest = (split line).1 in
    let a = bound (checked word) (λ u. or_refusal (Bad why.Word) (opening_named word) >>= λ v. if_room true rest v) said e in
    let b = bound (or_refusal (Bad why.Word) (opening_named word)) (λ v. if_room true rest v) said a.2 in
    let full : (let r : Result OpeningLine Refusal = Err TooManyJobs in r) ≡ Ok said = b.2 in
    absurd cc

commit_found : (is_full : Bool) (p : Place) (job : CommitJob) (after : Place) → HasCommitJob is_full p job after → (is_full ≡ false) × IsWritten p (jobs.Commit job) after
commit_found is_full p job after w =
    let j = judged_found (opening_line_at is_full) p (openings.Job w.base) w.opened w.opening in
    let o = opening_found is_full j.line (openings.Job w.base) j.judged in
    let first : Stands p (opening_text (openings.Job w.base) ++ 10 ∷ []) w.opened = subst (λ (t : List ℕ). Stands p (t ++ 10 ∷ []) w.opened) o.0 j.stands in
    let from = drafted (start p.line w.base) w.opened in
    let r = author_found from w.ends.draft w.ends.taken after w.ends.takes w.ends.commit refl refl in
    let found : CommitJob = record { line = p.line; base = w.base; author = r.author; log = r.log; steps = r.steps } in
    let same : job ≡ found = w.ends.job_is ∙ r.job_is in
    let line : w.opened.line ≡ p.line + 1 = omega (arith, first.line, newlines_line (opening_text (openings.Job w.base)) (opening_within (openings.Job w.base) o.1).lacks) in
    let rest = author_text r.author ++ (log_text r.log ++ ending_text r.steps) in
    let all = stands_more p w.opened after (opening_text (openings.Job w.base) ++ 10 ∷ []) rest first r.stands in
    let written : IsWritten p (jobs.Commit found) after = record {
      can = record {
        line_is = refl;
        base = o.1;
        author = r.can_author;
        log = r.can_log;
        steps = subst (λ (n : ℕ). CanSteps (n + newlines (author_text r.author) + newlines (log_text r.log)) r.steps) line r.can;
      };
      stands = subst (λ (t : List ℕ). Stands p t after) (append_assoc (opening_text (openings.Job w.base)) (10 ∷ []) rest) all;
    } in
    (has_room is_full j.line (openings.Job w.base) j.judged, subst (λ (x : CommitJob). IsWritten p (jobs.Commit x) after) (sym same) written)

pub jobs_found : (is_full : Bool) (p : Place) (job : Job) (after : Place) → HasJob is_full p job after → (is_full ≡ false) × IsWritten p job after
jobs_found is_full p (jobs.Commit job) after w = commit_found is_full p job after w
jobs_found is_full p (jobs.Read job) after w =
    let j = judged_found (opening_line_at is_full) p (openings.Read job.base job.path) after w.opening in
    let o = opening_found is_full j.line (openings.Read job.base job.path) j.judged in
    let first = subst (λ (t : List ℕ). Stands p (t ++ 10 ∷ []) after) o.0 j.stands in
    (has_room is_full j.line (openings.Read job.base job.path) j.judged, record { can = record { line_is = w.line_is; base = o.1.0; path = o.1.1 }; stands = first })
