-- The commands of a script at a place: what the first line says, and what belongs to it.
use Rattle.std.specs.Prelude.{ℕ, List, Some, Result, Ok, Bool}
use Rattle.fsfs_base.specs.Paths.{Path}
use Rattle.fsfs_script.specs.JobLines.Judging.{◌>>=◌}
use Rattle.fsfs_script.specs.JobLines.Lines.{opening_line_at, command_line_at, to_line_at}
use Rattle.fsfs_script.specs.declared.job_lines.edit.Edit.{Edit}
use Rattle.fsfs_script.specs.declared.job_lines.edit.Edit.TheVariants as edits
use Rattle.fsfs_script.specs.declared.job_lines.lines.OpeningLine.{OpeningLine}
use Rattle.fsfs_script.specs.declared.job_lines.lines.CommandLine.{CommandLine}
use Rattle.fsfs_script.specs.declared.job_lines.lines.CommandLine.TheVariants as lines
use Rattle.fsfs_script.specs.declared.job_lines.refusal.Refusal.{Refusal}
use Rattle.fsfs_script.specs.declared.job_lines.verbs.Stage.{Stage}
use Rattle.fsfs_script.specs.Places.{Place}
use Rattle.fsfs_script.specs.Reading.{line_at, text_at}
use Rattle.fsfs_script.specs.declared.commands.Command.TheVariants as commands
use Rattle.fsfs_script.specs.declared.commands.Next.{Next}
use Rattle.fsfs_script.specs.declared.commands.Next.TheVariants as next

-- a line that is judged
abbrev pub judged_at : {X : Type 0} → (List ℕ → Result X Refusal) → Place → Result (X × Place) Refusal
judged_at judge p = line_at p >>= λ l. judge l.0 >>= λ x. Ok (x, l.1)

abbrev pub opening_at : Bool → Place → Result (OpeningLine × Place) Refusal
opening_at is_full p = judged_at (opening_line_at is_full) p

abbrev pub to_at : Place → Result (Path × Place) Refusal
to_at p = judged_at to_line_at p

-- ---- what belongs to a first line

abbrev pub edited : Edit → Place → Result (Next × Place) Refusal
edited edit p = Ok (next.Command (commands.Edit edit), p)

abbrev pub log_at : ℕ → Place → Result (Next × Place) Refusal
log_at n p = text_at n p >>= λ t. Ok (next.Command (commands.Log t.0), t.1)

abbrev pub copy_at : ℕ → Path → Place → Result (Next × Place) Refusal
copy_at rev from p = to_at p >>= λ t. edited (edits.Copy (record { rev = rev; from = from; to = t.0 })) t.1

abbrev pub put_at : ℕ → Path → Place → Result (Next × Place) Refusal
put_at n path p = text_at n p >>= λ t. edited (edits.Put (record { path = path; text = t.0 })) t.1

abbrev pub set_at : ℕ → List ℕ → Path → Place → Result (Next × Place) Refusal
set_at n name path p = text_at n p >>= λ t. edited (edits.Prop (record { path = path; name = name; value = Some t.0 })) t.1

abbrev pub rest_at : CommandLine → Place → Result (Next × Place) Refusal
rest_at (lines.Author name) p = Ok (next.Command (commands.Author name), p)
rest_at (lines.Log n) p = log_at n p
rest_at (lines.Whole edit) p = edited edit p
rest_at (lines.Copy rev from) p = copy_at rev from p
rest_at (lines.Put n path) p = put_at n path p
rest_at (lines.SetProp n name path) p = set_at n name path p
rest_at lines.Commit p = Ok (next.Commit, p)

abbrev pub next_at : Stage → Place → Result (Next × Place) Refusal
next_at stage p = judged_at (command_line_at stage) p >>= λ c. rest_at c.0 c.1
