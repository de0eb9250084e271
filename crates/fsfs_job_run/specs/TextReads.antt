-- What the reading of a text answers, and a job that reads one.
use Rattle.std.specs.Prelude.{◌≡◌, ◌≤◌, ℕ, List, [], length, Result, Ok, Err}
use Rattle.md5.specs.Md5.{md5}
use Rattle.fsfs_base.specs.Counts.{Rose}
use Rattle.fsfs_base.specs.Paths.{Path}
use Rattle.fsfs_revision.specs.Told.{RevisionBytes}
use Rattle.fsfs_tree.specs.Answers.{Found}
use Rattle.fsfs_stands.specs.Texts.{Whole, Refused}
use Rattle.fsfs_stands.specs.FileTexts.{FileText}
use Rattle.fsfs_look.specs.declared.look_error.LookError.{LookError}
use Rattle.fsfs_look.specs.declared.look_error.LookError.TheVariants as errors
use Rattle.fsfs_base.specs.declared.places.place.DiskPlace.TheVariants as places
use Rattle.fsfs_cli.specs.CommandFaults.{IsFromLook}
use Rattle.fsfs_cli.specs.declared.faults.fault.Fault.{Fault}
use Rattle.fsfs_cli.specs.declared.faults.fault.Fault.TheVariants.{Outside, Memory}
use Rattle.fsfs_cli.specs.declared.faults.outside_fault.OutsideFault.TheVariants as outside
use Rattle.fsfs_script.specs.declared.job_lines.job.ReadJob.{ReadJob}
use Rattle.fsfs_jobs.specs.Serial.{IsReadOf}
use Rattle.fsfs_jobs.specs.declared.answer.TextRead.{TextRead}
use Rattle.fsfs_jobs.specs.declared.answer.JobAnswer.{JobAnswer}
use Rattle.fsfs_jobs.specs.declared.answer.JobAnswer.TheVariants.{Committed, Read, Conflict, Stopped}

-- the revision, the size and the digest of this text are told
pub record TellsText (rev : ℕ) (text : List ℕ) (read : TextRead) : Type 0 where
  pub rev_is : read.rev ≡ rev
  pub size_is : read.size ≡ length text
  pub md5_is : read.md5.bytes ≡ md5 text

-- the text of the file at the path is told; or why there is none
abbrev pub IsTextRead : RevisionBytes → ℕ → Path → Result TextRead LookError → Type 0
IsTextRead look rev path (Ok read) = (text : List ℕ) × FileText look rev path text Whole × TellsText rev text read
IsTextRead look rev path (Err (errors.Fault fault)) = FileText look rev path [] (Refused fault)
IsTextRead look rev path (Err errors.OutOfMemory) = Unit {0}
IsTextRead look rev path (Err errors.DiskFault) = Unit {0}
IsTextRead look rev path (Err errors.WriteFault) = ⊥

-- ---- a job

-- an error of a look at a path, as a fault
abbrev pub IsFromLookError : Path → LookError → Fault → Type 0
IsFromLookError path (errors.Fault why) fault = IsFromLook path why fault
IsFromLookError path errors.OutOfMemory fault = fault ≡ Memory
IsFromLookError path errors.DiskFault fault = fault ≡ Outside (outside.Disk places.Read)
IsFromLookError path errors.WriteFault fault = fault ≡ Outside outside.Write

-- what stands at its path is told, or why there is no text; or the disk failed, or memory was wanting
pub data ReadsSo (job : ReadJob) (rev : ℕ) (found : Found) : JobAnswer → Type 0 where
  ByTree : (answer : JobAnswer) → IsReadOf job rev found answer → ReadsSo job rev found answer
  DiskFails : ReadsSo job rev found (Stopped job.line (Outside (outside.Disk places.Read)))
  Wants : ReadsSo job rev found (Stopped job.line Memory)

-- a fact, where the disk failed
abbrev pub IfDiskFails : Fault → Type 0 → Type 0
IfDiskFails (Outside (outside.Disk place)) P = P
IfDiskFails fault P = Unit {0}

abbrev pub IfAnswerFails : JobAnswer → Type 0 → Type 0
IfAnswerFails (Committed rev) P = Unit {0}
IfAnswerFails (Read text) P = Unit {0}
IfAnswerFails (Conflict head path) P = Unit {0}
IfAnswerFails (Stopped line fault) P = IfDiskFails fault P

-- a book's count of faults never falls, and rose where the disk failed
pub record HasAnswerCause (before now : ℕ) (answer : JobAnswer) : Type 0 where
  pub later : before ≤ now
  pub failed : IfAnswerFails answer (Rose before now)

-- it doesn't tell that a bench failed: a read has none
abbrev pub IsNoBench : JobAnswer → Type 0
IsNoBench (Stopped line (Outside outside.Bench)) = ⊥
IsNoBench answer = Unit {0}
