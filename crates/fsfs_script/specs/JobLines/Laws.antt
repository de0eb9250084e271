-- Laws of the first lines of commands: what they say was written just so, and what is written so is read.
use Rattle.std.specs.Prelude.{◌≡◌, ℕ, List, ◌++◌, Ok, Bool, false, codes}
use Rattle.fsfs_base.specs.Paths.{Path, path_text}
use Rattle.fsfs_script.specs.JobLines.Lines.{opening_line_at, command_line_at, to_line_at}
use Rattle.fsfs_script.specs.JobLines.Texts.{CanPath, CanSay, CanOpen, MayStand, said_text, opening_text}
use Rattle.fsfs_script.specs.declared.job_lines.lines.OpeningLine.{OpeningLine}
use Rattle.fsfs_script.specs.declared.job_lines.lines.CommandLine.{CommandLine}
use Rattle.fsfs_script.specs.declared.job_lines.verbs.Stage.{Stage}

abbrev pub CommandsWereWritten : Type 0
CommandsWereWritten = (stage : Stage) (line : List ℕ) (said : CommandLine) → command_line_at stage line ≡ Ok said → (line ≡ said_text said) × CanSay said

abbrev pub CommandsAreRead : Type 0
CommandsAreRead = (stage : Stage) (said : CommandLine) → CanSay said → MayStand stage said → command_line_at stage (said_text said) ≡ Ok said

abbrev pub OpeningsWereWritten : Type 0
OpeningsWereWritten = (is_full : Bool) (line : List ℕ) (said : OpeningLine) → opening_line_at is_full line ≡ Ok said → (line ≡ opening_text said) × CanOpen said

abbrev pub OpeningsAreRead : Type 0
OpeningsAreRead = (said : OpeningLine) → CanOpen said → opening_line_at false (opening_text said) ≡ Ok said

abbrev pub TargetsWereWritten : Type 0
TargetsWereWritten = (line : List ℕ) (path : Path) → to_line_at line ≡ Ok path → (line ≡ codes "to " ++ path_text path) × CanPath path

abbrev pub TargetsAreRead : Type 0
TargetsAreRead = (path : Path) → CanPath path → to_line_at (codes "to " ++ path_text path) ≡ Ok path
