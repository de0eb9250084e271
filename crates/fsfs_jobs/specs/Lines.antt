-- The line of each job, what is told behind them, and the status.
use Rattle.std.specs.Prelude.{ℕ, ◌+◌, max, Bool, true, false, List, [], ◌∷◌, ◌++◌, Option, Some, None, codes, decimal}
use Rattle.hex.specs.Hex.{encode_lower}
use Rattle.fsfs_base.specs.Paths.{path_text}
use Rattle.fsfs_cli.specs.Lines.{fault_words, status_of}
use Rattle.fsfs_cli.specs.declared.faults.fault.Fault.{Fault}
use Rattle.fsfs_cli.specs.declared.faults.fault.Fault.TheVariants.{Words, Request, Repository, Outside, Memory, Limit}
use Rattle.fsfs_jobs.specs.declared.answer.JobAnswer.{JobAnswer}
use Rattle.fsfs_jobs.specs.declared.answer.JobAnswer.TheVariants.{Committed, Read, Conflict, Stopped}
use Rattle.fsfs_jobs.specs.declared.ending.Ending.{Ending}

-- what an answer asks of the status
abbrev pub status_after : JobAnswer → ℕ
status_after (Committed rev) = 0
status_after (Read text) = 0
status_after (Conflict head path) = 1
status_after (Stopped line fault) = status_of fault

-- the status is the greatest of those
abbrev pub greatest_status : List JobAnswer → ℕ
greatest_status [] = 0
greatest_status (answer ∷ answers) = max (status_after answer) (greatest_status answers)

-- ---- lines

-- by the group of the fault; the line of the script is told where the job was refused
abbrev pub stop_front : ℕ → Fault → List ℕ
stop_front line (Request why) = codes "refused " ++ decimal line ++ codes " "
stop_front line (Limit why) = codes "limit "
stop_front line (Words why) = codes "fault "
stop_front line (Repository why) = codes "fault "
stop_front line (Outside why) = codes "fault "
stop_front line Memory = codes "memory"

abbrev pub stop_words : Fault → List ℕ
stop_words (Request why) = fault_words (Request why)
stop_words (Limit why) = fault_words (Limit why)
stop_words (Words why) = fault_words (Words why)
stop_words (Repository why) = fault_words (Repository why)
stop_words (Outside why) = fault_words (Outside why)
stop_words Memory = []

-- what is told of a job, behind its number
abbrev pub answer_text : JobAnswer → List ℕ
answer_text (Committed rev) = codes "r" ++ decimal rev
answer_text (Read text) = codes "read r" ++ decimal text.rev ++ codes " " ++ decimal text.size ++ codes " " ++ encode_lower text.md5.bytes
answer_text (Conflict head path) = codes "conflict r" ++ decimal head ++ codes " " ++ path_text path
answer_text (Stopped line fault) = stop_front line fault ++ stop_words fault

-- the line of the job of this number; the first is 1
abbrev pub job_line : ℕ → JobAnswer → List ℕ
job_line number answer = decimal number ++ codes " " ++ answer_text answer ++ codes "\n"

-- the lines of jobs from this number on
abbrev pub job_lines : ℕ → List JobAnswer → List ℕ
job_lines number [] = []
job_lines number (answer ∷ answers) = job_line number answer ++ job_lines (number + 1) answers

-- the last line: the youngest revision
abbrev pub youngest_line : ℕ → List ℕ
youngest_line rev = codes "youngest " ++ decimal rev ++ codes "\n"

-- what is told of packs beside the jobs and behind them: how many shards were packed; or nothing
abbrev pub packed_text : Option ℕ → List ℕ
packed_text (Some shards) = codes "packed " ++ decimal shards ++ codes "\n"
packed_text None = []

-- what is told of a check behind the jobs: that it found nothing wrong up to the youngest revision; or nothing
abbrev pub sound_text : Bool → ℕ → List ℕ
sound_text true rev = codes "sound r" ++ decimal rev ++ codes "\n"
sound_text false rev = []

-- what a run tells behind the lines of its jobs
abbrev pub ending_text : Ending → ℕ → List ℕ
ending_text ending youngest = packed_text ending.packed ++ sound_text ending.sound youngest ++ youngest_line youngest

-- where it neither packs nor checks: the youngest revision alone
abbrev pub bare_ending : Ending
bare_ending = record { packed = None; sound = false }

-- all that a run prints
abbrev pub run_text : List JobAnswer → Ending → ℕ → List ℕ
run_text answers ending youngest = job_lines 1 answers ++ ending_text ending youngest
