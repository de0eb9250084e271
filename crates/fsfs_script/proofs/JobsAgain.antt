-- Jobs that are written are read.
use Rattle.std.proofs.Common.{◌≡◌, ◌≢◌, ◌+◌, ℕ, false, List, [], ◌∷◌, ◌++◌, length, take, drop, Option, Some, None, refl, sym, ap, subst, ◌∙◌, append_assoc, arith}
use Rattle.std.specs.Prelude.{Result, Ok, codes}
use Rattle.fsfs_base.specs.Paths.{Path, path_text}
use Rattle.fsfs_script.specs.JobLines.Lines.{command_line_at, opening_line_at, to_line_at}
use Rattle.fsfs_script.specs.JobLines.Texts.{CanEdit, CanSay, CanValue, MayStand, edit_text, said_text, opening_text}
use Rattle.fsfs_script.specs.declared.job_lines.edit.Edit.{Edit}
use Rattle.fsfs_script.specs.declared.job_lines.edit.Edit.TheVariants as edits
use Rattle.fsfs_script.specs.declared.job_lines.job.CommitJob.{CommitJob}
use Rattle.fsfs_script.specs.declared.job_lines.job.Step.{Step}
use Rattle.fsfs_script.specs.declared.job_lines.job.Job.{Job}
use Rattle.fsfs_script.specs.declared.job_lines.job.Job.TheVariants as jobs
use Rattle.fsfs_script.specs.declared.job_lines.lines.CommandLine.{CommandLine}
use Rattle.fsfs_script.specs.declared.job_lines.lines.CommandLine.TheVariants as says
use Rattle.fsfs_script.specs.declared.job_lines.lines.OpeningLine.TheVariants as openings
use Rattle.fsfs_script.specs.declared.job_lines.refusal.Refusal.{Refusal}
use Rattle.fsfs_script.specs.declared.job_lines.verbs.Stage.{Stage}
use Rattle.fsfs_script.specs.declared.job_lines.verbs.Stage.TheVariants.{AfterJob, AfterAuthor, InEdits}
use Rattle.fsfs_script.proofs.LinesAgain.{line_again as said_again}
use Rattle.fsfs_script.proofs.OpeningTexts.{opening_again, to_again}
use Rattle.fsfs_script.proofs.LineSizes.{IsWithin, said_within, opening_within, to_within}
use Rattle.fsfs_script.specs.Places.{Place, newlines}
use Rattle.fsfs_script.specs.Reading.{newline_at, text_at}
use Rattle.fsfs_script.specs.Commands.{judged_at, rest_at, next_at}
use Rattle.fsfs_script.specs.Jobs.{Draft, behind, Ends, HasJob}
use Rattle.fsfs_script.specs.JobTexts.{author_text, log_text, steps_text, ending_text, CanName, CanSteps, Stands, IsWritten}
use Rattle.fsfs_script.specs.declared.commands.Command.{Command}
use Rattle.fsfs_script.specs.declared.commands.Command.TheVariants as commands
use Rattle.fsfs_script.specs.declared.commands.Next.{Next}
use Rattle.fsfs_script.specs.declared.commands.Next.TheVariants as next
use Rattle.fsfs_script.proofs.LineLemmas.{line_whole}
use Rattle.fsfs_script.proofs.TextLemmas.{newline_on_ten, front_of}
use Rattle.fsfs_script.proofs.Standing.{between, stands_first, stands_second, stands_nothing, newlines_line, newlines_text}
use Rattle.fsfs_script.proofs.WrittenLemmas.{next_text, CanCome}
use Rattle.fsfs_script.proofs.JobsFound.{with_steps, no_steps, commit_text}

-- ---- lines and texts

pub judged_again : {X : Type 0} (judge : List ℕ → Result X Refusal) (p : Place) (line : List ℕ) (x : X) (after : Place) → IsWithin 8192 line → Stands p (line ++ 10 ∷ []) after → judge line ≡ Ok x → judged_at judge p ≡ Ok (x, after)
judged_again judge p line x after within stands e =
    let bytes : p.bytes ≡ line ++ 10 ∷ after.bytes = stands.bytes ∙ append_assoc line (10 ∷ []) after.bytes in
    let is = line_whole p line after.bytes bytes within.lacks within.size in
    let number : p.line + 1 ≡ after.line = omega (arith, stands.line, newlines_line line within.lacks) in
    let there : record { line = p.line + 1; bytes = after.bytes } ≡ after = λ i. record { line = number i; bytes = after.bytes } in
    rw (is, e) (ap (λ (q : Place). Ok (x, q)) there)

pub text_again : (n : ℕ) (p : Place) (text : List ℕ) (after : Place) → length text ≡ n → Stands p (text ++ 10 ∷ []) after → text_at n p ≡ Ok (text, after)
unfolding text_at newline_at
text_again n p text after size stands =
    let bytes : p.bytes ≡ text ++ 10 ∷ after.bytes = stands.bytes ∙ append_assoc text (10 ∷ []) after.bytes in
    let f = front_of p.bytes text (10 ∷ after.bytes) n bytes size in
    let is = newline_on_ten (p.line + newlines (take n p.bytes)) 10 after.bytes (drop n p.bytes) f.1 refl in
    let number : (p.line + newlines (take n p.bytes)) + 1 ≡ after.line = ap (λ (t : List ℕ). (p.line + newlines t) + 1) f.0 ∙ omega (arith, stands.line, newlines_text text) in
    rw is (λ i. Ok (f.0 i, record { line = number i; bytes = after.bytes }))

-- ---- commands

-- a line and what belongs to it
next_by : (stage : Stage) (said : CommandLine) (rest : List ℕ) (n : Next) (p after : Place) → CanSay said → MayStand stage said → Stands p (said_text said ++ 10 ∷ rest) after → ((mid : Place) → Stands mid rest after → rest_at said mid ≡ Ok (n, after)) → next_at stage p ≡ Ok (n, after)
next_by stage said rest n p after can may stands more =
    let both : Stands p ((said_text said ++ 10 ∷ []) ++ rest) after = subst (λ (t : List ℕ). Stands p t after) (sym (append_assoc (said_text said) (10 ∷ []) rest)) stands in
    let mid = between p (said_text said ++ 10 ∷ []) rest after in
    let first = judged_again (command_line_at stage) p (said_text said) said mid (said_within said can) (stands_first p after (said_text said ++ 10 ∷ []) rest both) (said_again stage said can may) in
    rw first (more mid (stands_second p after (said_text said ++ 10 ∷ []) rest both))

-- nothing belongs to it
alone : (n : Next) (mid after : Place) → Stands mid [] after → (let r : Result (Next × Place) Refusal = Ok (n, mid) in r) ≡ Ok (n, after)
alone n mid after stands = ap (λ (q : Place). Ok (n, q)) (stands_nothing mid after stands)

prop_again : (stage : Stage) (path : Path) (name : List ℕ) (value : Option (List ℕ)) (p after : Place) → CanEdit (edits.Prop (record { path = path; name = name; value = value })) → Stands p (edit_text (edits.Prop (record { path = path; name = name; value = value }))) after
    → next_at stage p ≡ Ok (next.Command (commands.Edit (edits.Prop (record { path = path; name = name; value = value }))), after)
prop_again stage path name None p after can stands =
    next_by stage (says.Whole (edits.Prop (record { path = path; name = name; value = None }))) [] (next.Command (commands.Edit (edits.Prop (record { path = path; name = name; value = None })))) p after (can.0, can.1, refl) tt stands (λ mid. alone (next.Command (commands.Edit (edits.Prop (record { path = path; name = name; value = None })))) mid after)
prop_again stage path name (Some value) p after can stands =
    next_by stage (says.SetProp (length value) name path) (value ++ 10 ∷ []) (next.Command (commands.Edit (edits.Prop (record { path = path; name = name; value = Some value })))) p after (can.2, can.1, can.0) tt stands (λ mid s. rw (text_again (length value) mid value after refl s) refl)

edit_again : (stage : Stage) (edit : Edit) (p after : Place) → CanEdit edit → Stands p (edit_text edit) after → next_at stage p ≡ Ok (next.Command (commands.Edit edit), after)
edit_again stage (edits.MakeDir path) p after can stands = next_by stage (says.Whole (edits.MakeDir path)) [] (next.Command (commands.Edit (edits.MakeDir path))) p after can tt stands (λ mid. alone (next.Command (commands.Edit (edits.MakeDir path))) mid after)
edit_again stage (edits.MakeFile path) p after can stands = next_by stage (says.Whole (edits.MakeFile path)) [] (next.Command (commands.Edit (edits.MakeFile path))) p after can tt stands (λ mid. alone (next.Command (commands.Edit (edits.MakeFile path))) mid after)
edit_again stage (edits.Delete path) p after can stands = next_by stage (says.Whole (edits.Delete path)) [] (next.Command (commands.Edit (edits.Delete path))) p after can tt stands (λ mid. alone (next.Command (commands.Edit (edits.Delete path))) mid after)
edit_again stage (edits.Copy copy) p after can stands =
    next_by stage (says.Copy copy.rev copy.from) (codes "to " ++ path_text copy.to ++ 10 ∷ []) (next.Command (commands.Edit (edits.Copy copy))) p after (can.0, can.1) tt stands (λ mid s. rw (judged_again to_line_at mid (codes "to " ++ path_text copy.to) copy.to after (to_within copy.to can.2) s (to_again copy.to can.2)) refl)
edit_again stage (edits.Put put) p after can stands =
    next_by stage (says.Put (length put.text) put.path) (put.text ++ 10 ∷ []) (next.Command (commands.Edit (edits.Put put))) p after (can.1, can.0) tt stands (λ mid s. rw (text_again (length put.text) mid put.text after refl s) refl)
edit_again stage (edits.Prop set) p after can stands = prop_again stage set.path set.name set.value p after can stands

pub next_again : (stage : Stage) (n : Next) (p after : Place) → CanCome stage n → Stands p (next_text n) after → next_at stage p ≡ Ok (n, after)
next_again stage (next.Command (commands.Author name)) p after can stands = next_by stage (says.Author name) [] (next.Command (commands.Author name)) p after can.1 can.0 stands (λ mid. alone (next.Command (commands.Author name)) mid after)
next_again stage (next.Command (commands.Log text)) p after can stands =
    next_by stage (says.Log (length text)) (text ++ 10 ∷ []) (next.Command (commands.Log text)) p after can.1 can.0 stands (λ mid s. rw (text_again (length text) mid text after refl s) refl)
next_again stage (next.Command (commands.Edit edit)) p after can stands = edit_again stage edit p after can stands
next_again stage next.Commit p after can stands = next_by stage says.Commit [] next.Commit p after tt tt stands (λ mid. alone next.Commit mid after)

-- ---- jobs

-- a command more before the others
ends_more : (d : Draft) (c : Command) (mid : Place) (job : CommitJob) (after : Place) → next_at d.stage d.place ≡ Ok (next.Command c, mid) → Ends (behind c mid d) job after → Ends d job after
ends_more d c mid job after is w = record { taken = c ∷ w.taken; draft = w.draft; takes = (mid, is, w.takes); commit = w.commit; job_is = w.job_is }

edits_again : (steps : List Step) (stage : Stage) (job : CommitJob) (p after : Place) → CanSteps p.line steps → Stands p (ending_text steps) after → Ends (record { stage = stage; job = job; place = p }) (with_steps job steps) after
edits_again [] stage job p after can stands =
    record { taken = []; draft = record { stage = stage; job = job; place = p }; takes = refl; commit = next_again stage next.Commit p after tt stands; job_is = sym (no_steps job) }
edits_again (step ∷ steps) stage job p after can stands =
    let front = edit_text step.edit in
    let both : Stands p (front ++ ending_text steps) after = subst (λ (t : List ℕ). Stands p t after) (append_assoc front (steps_text steps) commit_text) stands in
    let mid = between p front (ending_text steps) after in
    let here : Step = record { line = p.line; edit = step.edit } in
    let same : here ≡ step = λ i. record { line = sym can.0 i; edit = step.edit } in
    let more : Ends (record { stage = InEdits; job = with_steps job (here ∷ []); place = mid }) (with_steps (with_steps job (here ∷ [])) steps) after = edits_again steps InEdits (with_steps job (here ∷ [])) mid after can.2 (stands_second p after front (ending_text steps) both) in
    let first = next_again stage (next.Command (commands.Edit step.edit)) p mid can.1 (stands_first p after front (ending_text steps) both) in
    let job_is : with_steps (with_steps job (here ∷ [])) steps ≡ with_steps job (step ∷ steps) = λ i. record job { steps = (append_assoc job.steps (here ∷ []) steps ∙ ap (λ (s : Step). job.steps ++ s ∷ steps) same) i } in
    subst (λ (j : CommitJob). Ends (record { stage = stage; job = job; place = p }) j after) job_is (ends_more (record { stage = stage; job = job; place = p }) (commands.Edit step.edit) mid (with_steps (with_steps job (here ∷ [])) steps) after first more)

log_again : (log : Option (List ℕ)) (steps : List Step) (stage : Stage) (job : CommitJob) (p after : Place) → stage ≢ InEdits → job.log ≡ None → CanValue log → CanSteps (p.line + newlines (log_text log)) steps → Stands p (log_text log ++ ending_text steps) after
    → Ends (record { stage = stage; job = job; place = p }) (record job { log = log; steps = job.steps ++ steps }) after
log_again None steps stage job p after early none can_log can stands =
    let line : p.line + 0 ≡ p.line = omega arith in
    let job_is : with_steps job steps ≡ record job { log = None; steps = job.steps ++ steps } = λ i. record job { log = none i; steps = job.steps ++ steps } in
    subst (λ (j : CommitJob). Ends (record { stage = stage; job = job; place = p }) j after) job_is (edits_again steps stage job p after (subst (λ (n : ℕ). CanSteps n steps) line can) stands)
log_again (Some text) steps stage job p after early none can_log can stands =
    let front = log_text (Some text) in
    let mid = between p front (ending_text steps) after in
    let first = next_again stage (next.Command (commands.Log text)) p mid (early, can_log) (stands_first p after front (ending_text steps) stands) in
    let more = edits_again steps InEdits (record job { log = Some text }) mid after can (stands_second p after front (ending_text steps) stands) in
    ends_more (record { stage = stage; job = job; place = p }) (commands.Log text) mid (record job { log = Some text; steps = job.steps ++ steps }) after first more

early_stage : (stage : Stage) → stage ≡ AfterJob → stage ≢ InEdits
early_stage stage is same = let bad : AfterJob ≡ InEdits = sym is ∙ same in cc

author_again : (author log : Option (List ℕ)) (steps : List Step) (job : CommitJob) (p after : Place) → job.author ≡ None → job.log ≡ None → CanName author → CanValue log → CanSteps (p.line + newlines (author_text author) + newlines (log_text log)) steps
    → Stands p (author_text author ++ (log_text log ++ ending_text steps)) after → Ends (record { stage = AfterJob; job = job; place = p }) (record job { author = author; log = log; steps = job.steps ++ steps }) after
author_again None log steps job p after absent none can_name can_log can stands =
    let line : p.line + 0 ≡ p.line = omega arith in
    let job_is : record job { log = log; steps = job.steps ++ steps } ≡ record job { author = None; log = log; steps = job.steps ++ steps } = λ i. record job { author = absent i; log = log; steps = job.steps ++ steps } in
    subst (λ (j : CommitJob). Ends (record { stage = AfterJob; job = job; place = p }) j after) job_is (log_again log steps AfterJob job p after (early_stage AfterJob refl) none can_log (subst (λ (n : ℕ). CanSteps (n + newlines (log_text log)) steps) line can) stands)
author_again (Some name) log steps job p after absent none can_name can_log can stands =
    let front = author_text (Some name) in
    let back = log_text log ++ ending_text steps in
    let mid = between p front back after in
    let first = next_again AfterJob (next.Command (commands.Author name)) p mid (refl, can_name) (stands_first p after front back stands) in
    let more = log_again log steps AfterAuthor (record job { author = Some name }) mid after (λ same. cc) none can_log can (stands_second p after front back stands) in
    ends_more (record { stage = AfterJob; job = job; place = p }) (commands.Author name) mid (record job { author = Some name; log = log; steps = job.steps ++ steps }) after first more

pub jobs_again : (p : Place) (job : Job) (after : Place) → IsWritten p job after → HasJob false p job after
jobs_again p (jobs.Read job) after w =
    record { opening = judged_again (opening_line_at false) p (opening_text (openings.Read job.base job.path)) (openings.Read job.base job.path) after (opening_within (openings.Read job.base job.path) (w.can.base, w.can.path)) w.stands (opening_again (openings.Read job.base job.path) (w.can.base, w.can.path)); line_is = w.can.line_is }
jobs_again p (jobs.Commit job) after w =
    let said = openings.Job job.base in
    let within = opening_within said w.can.base in
    let front = opening_text said ++ 10 ∷ [] in
    let back = author_text job.author ++ (log_text job.log ++ ending_text job.steps) in
    let both : Stands p (front ++ back) after = subst (λ (t : List ℕ). Stands p t after) (sym (append_assoc (opening_text said) (10 ∷ []) back)) w.stands in
    let mid = between p front back after in
    let line : p.line + 1 ≡ mid.line = omega (arith, newlines_line (opening_text said) within.lacks) in
    let begun : CommitJob = record { line = p.line; base = job.base; author = None; log = None; steps = [] } in
    let opening = judged_again (opening_line_at false) p (opening_text said) said mid within (stands_first p after front back both) (opening_again said w.can.base) in
    let can = subst (λ (n : ℕ). CanSteps (n + newlines (author_text job.author) + newlines (log_text job.log)) job.steps) line w.can.steps in
    let ends = author_again job.author job.log job.steps begun mid after refl refl w.can.author w.can.log can (stands_second p after front back both) in
    let job_is : record begun { author = job.author; log = job.log; steps = job.steps } ≡ job = λ i. record job { line = sym w.can.line_is i } in
    record { base = job.base; opened = mid; opening = opening; ends = subst (λ (j : CommitJob). Ends (record { stage = AfterJob; job = begun; place = mid }) j after) job_is ends }
