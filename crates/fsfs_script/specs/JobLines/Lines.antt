-- What the first line of a command says, or its first refusal from the left.
use Rattle.std.specs.Prelude.{ℕ, List, Option, Some, None, Result, Ok, Err, Bool, if◌then◌else◌, codes}
use Rattle.std.specs.Str.{bytes_eq}
use Rattle.fsfs_base.specs.Paths.{Path}
use Rattle.fsfs_script.specs.JobLines.Judging.{◌>>=◌, or_refusal}
use Rattle.fsfs_script.specs.JobLines.Words.{split, text_of, checked, end_at, number_at, length_at, base_at, path_at, name_at, author_at}
use Rattle.fsfs_script.specs.JobLines.Verbs.{opening_named, command_named}
use Rattle.fsfs_script.specs.declared.job_lines.edit.Edit.{Edit}
use Rattle.fsfs_script.specs.declared.job_lines.edit.Edit.TheVariants as edits
use Rattle.fsfs_script.specs.declared.job_lines.lines.OpeningLine.{OpeningLine}
use Rattle.fsfs_script.specs.declared.job_lines.lines.OpeningLine.TheVariants as openings
use Rattle.fsfs_script.specs.declared.job_lines.lines.CommandLine.{CommandLine}
use Rattle.fsfs_script.specs.declared.job_lines.lines.CommandLine.TheVariants as commands
use Rattle.fsfs_script.specs.declared.job_lines.refusal.Refusal.{Refusal}
use Rattle.fsfs_script.specs.declared.job_lines.refusal.Refusal.TheVariants.{Bad, TextTooLong, PropTooLong, TooManyJobs}
use Rattle.fsfs_script.specs.declared.job_lines.refusal.Why.TheVariants as why
use Rattle.fsfs_script.specs.declared.job_lines.verbs.OpeningVerb.{OpeningVerb}
use Rattle.fsfs_script.specs.declared.job_lines.verbs.OpeningVerb.TheVariants as opening
use Rattle.fsfs_script.specs.declared.job_lines.verbs.Verb.{Verb}
use Rattle.fsfs_script.specs.declared.job_lines.verbs.Verb.TheVariants as verb
use Rattle.fsfs_script.specs.declared.job_lines.verbs.Stage.{Stage}

-- the limits of a text, and of a value or a log
abbrev pub text_length_at : List ℕ → Result ℕ Refusal
text_length_at word = length_at 1_073_741_824 TextTooLong word

abbrev pub prop_length_at : List ℕ → Result ℕ Refusal
prop_length_at word = length_at 1_048_576 PropTooLong word

-- ---- the first line of a job; the text is what stands behind its first word

-- `job BASE`
unfoldable pub job_line_at : List ℕ → Result OpeningLine Refusal
job_line_at text = base_at (split text).0 >>= λ base. end_at (split text).1 >>= λ u. Ok (openings.Job base)

-- `read BASE PATH`
unfoldable pub read_line_at : List ℕ → Result OpeningLine Refusal
read_line_at text = base_at (split text).0 >>= λ base. path_at (text_of (split text).1) >>= λ path. Ok (openings.Read base path)

unfoldable pub opening_rest_at : OpeningVerb → List ℕ → Result OpeningLine Refusal
opening_rest_at opening.Job text = job_line_at text
opening_rest_at opening.Read text = read_line_at text

-- no job may begin where a script has all that it may have
abbrev pub if_room : Bool → Option (List ℕ) → OpeningVerb → Result OpeningLine Refusal
if_room is_full rest v = if is_full then Err TooManyJobs else opening_rest_at v (text_of rest)

unfoldable pub opening_line_at : Bool → List ℕ → Result OpeningLine Refusal
opening_line_at is_full line = checked (split line).0 >>= λ u. or_refusal (Bad why.Word) (opening_named (split line).0) >>= λ v. if_room is_full (split line).1 v

-- ---- the first line of a command inside a job

-- `log LEN`
unfoldable pub log_line_at : List ℕ → Result CommandLine Refusal
log_line_at text = prop_length_at (split text).0 >>= λ n. end_at (split text).1 >>= λ u. Ok (commands.Log n)

-- `copy REV PATH`
unfoldable pub copy_line_at : List ℕ → Result CommandLine Refusal
copy_line_at text = number_at (split text).0 >>= λ rev. path_at (text_of (split text).1) >>= λ from. Ok (commands.Copy rev from)

-- `put LEN PATH`
unfoldable pub put_line_at : List ℕ → Result CommandLine Refusal
put_line_at text = text_length_at (split text).0 >>= λ n. path_at (text_of (split text).1) >>= λ path. Ok (commands.Put n path)

-- NAME PATH, and what they make
abbrev pub named_at : (List ℕ → Path → CommandLine) → List ℕ → Result CommandLine Refusal
named_at make text = name_at (split text).0 >>= λ name. path_at (text_of (split text).1) >>= λ path. Ok (make name path)

-- `prop LEN NAME PATH`
unfoldable pub set_line_at : List ℕ → Result CommandLine Refusal
set_line_at text = prop_length_at (split text).0 >>= λ n. named_at (commands.SetProp n) (text_of (split text).1)

-- `unprop NAME PATH`
unfoldable pub remove_line_at : List ℕ → Result CommandLine Refusal
remove_line_at text = named_at (λ name path. commands.Whole (edits.Prop (record { path = path; name = name; value = None }))) text

-- an edit that has a path alone
abbrev pub path_line_at : (Path → Edit) → List ℕ → Result CommandLine Refusal
path_line_at make text = path_at text >>= λ path. Ok (commands.Whole (make path))

unfoldable pub command_rest_at : Verb → Option (List ℕ) → Result CommandLine Refusal
command_rest_at verb.Author rest = author_at (text_of rest) >>= λ name. Ok (commands.Author name)
command_rest_at verb.Log rest = log_line_at (text_of rest)
command_rest_at verb.MakeDir rest = path_line_at edits.MakeDir (text_of rest)
command_rest_at verb.MakeFile rest = path_line_at edits.MakeFile (text_of rest)
command_rest_at verb.Delete rest = path_line_at edits.Delete (text_of rest)
command_rest_at verb.Copy rest = copy_line_at (text_of rest)
command_rest_at verb.Put rest = put_line_at (text_of rest)
command_rest_at verb.SetProp rest = set_line_at (text_of rest)
command_rest_at verb.RemoveProp rest = remove_line_at (text_of rest)
command_rest_at verb.Commit rest = end_at rest >>= λ u. Ok commands.Commit

unfoldable pub command_line_at : Stage → List ℕ → Result CommandLine Refusal
command_line_at stage line = checked (split line).0 >>= λ u. or_refusal (Bad why.Word) (command_named stage (split line).0) >>= λ v. command_rest_at v (split line).1

-- `to PATH`
unfoldable pub to_line_at : List ℕ → Result Path Refusal
to_line_at line = checked (split line).0 >>= λ u. if bytes_eq (split line).0 (codes "to") then path_at (text_of (split line).1) else Err (Bad why.Word)
