-- The line of a job in the pieces that are printed: what stands before a path or the words of a fault, and these.
use Rattle.std.specs.Prelude.{ℕ, List, [], ◌++◌, codes, decimal}
use Rattle.hex.specs.Hex.{encode_lower}
use Rattle.fsfs_base.specs.Paths.{path_text}
use Rattle.fsfs_jobs.specs.Lines.{stop_front, stop_words}
use Rattle.fsfs_jobs.specs.declared.answer.JobAnswer.{JobAnswer}
use Rattle.fsfs_jobs.specs.declared.answer.JobAnswer.TheVariants.{Committed, Read, Conflict, Stopped}
use Rattle.fsfs_jobs.specs.declared.answer.TextRead.{TextRead}

abbrev pub committed_front : ℕ → List ℕ
committed_front rev = codes "r" ++ decimal rev

abbrev pub read_front : TextRead → List ℕ
read_front text = codes "read r" ++ decimal text.rev ++ codes " " ++ decimal text.size ++ codes " " ++ encode_lower text.md5.bytes

abbrev pub conflict_front : ℕ → List ℕ
conflict_front head = codes "conflict r" ++ decimal head ++ codes " "

abbrev pub answer_front : JobAnswer → List ℕ
answer_front (Committed rev) = committed_front rev
answer_front (Read text) = read_front text
answer_front (Conflict head path) = conflict_front head
answer_front (Stopped line fault) = stop_front line fault

abbrev pub answer_back : JobAnswer → List ℕ
answer_back (Committed rev) = []
answer_back (Read text) = []
answer_back (Conflict head path) = path_text path
answer_back (Stopped line fault) = stop_words fault

-- the line of the job of this number down to a path or the words of a fault
abbrev pub line_front : ℕ → JobAnswer → List ℕ
line_front number answer = decimal number ++ codes " " ++ answer_front answer
