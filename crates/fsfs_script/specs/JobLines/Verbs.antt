-- Which words name commands, and where each may stand.
use Rattle.std.specs.Prelude.{ℕ, List, Option, Some, None, if◌then◌else◌, codes}
use Rattle.std.specs.Str.{bytes_eq}
use Rattle.fsfs_script.specs.declared.job_lines.verbs.OpeningVerb.{OpeningVerb}
use Rattle.fsfs_script.specs.declared.job_lines.verbs.OpeningVerb.TheVariants as opening
use Rattle.fsfs_script.specs.declared.job_lines.verbs.Verb.{Verb}
use Rattle.fsfs_script.specs.declared.job_lines.verbs.Verb.TheVariants as verb
use Rattle.fsfs_script.specs.declared.job_lines.verbs.Stage.{Stage}
use Rattle.fsfs_script.specs.declared.job_lines.verbs.Stage.TheVariants.{AfterJob, AfterAuthor, InEdits}

-- between jobs
abbrev pub opening_named : List ℕ → Option OpeningVerb
opening_named word =
    if bytes_eq word (codes "job") then Some opening.Job
    else if bytes_eq word (codes "read") then Some opening.Read
    else None

-- edits, and the end of a job
abbrev pub edit_named : List ℕ → Option Verb
edit_named word =
    if bytes_eq word (codes "mkdir") then Some verb.MakeDir
    else if bytes_eq word (codes "mkfile") then Some verb.MakeFile
    else if bytes_eq word (codes "rm") then Some verb.Delete
    else if bytes_eq word (codes "copy") then Some verb.Copy
    else if bytes_eq word (codes "put") then Some verb.Put
    else if bytes_eq word (codes "prop") then Some verb.SetProp
    else if bytes_eq word (codes "unprop") then Some verb.RemoveProp
    else if bytes_eq word (codes "commit") then Some verb.Commit
    else None

abbrev pub log_or_edit : List ℕ → Option Verb
log_or_edit word = if bytes_eq word (codes "log") then Some verb.Log else edit_named word

-- inside a job: the author, then the log, each once at most, then edits
abbrev pub command_named : Stage → List ℕ → Option Verb
command_named AfterJob word = if bytes_eq word (codes "author") then Some verb.Author else log_or_edit word
command_named AfterAuthor word = log_or_edit word
command_named InEdits word = edit_named word
