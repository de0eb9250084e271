-- A count rose at least as often as answers tell of a fault of the disk.
use Rattle.std.proofs.Common.{◌≡◌, ◌+◌, ◌≤◌, ℕ, List, [], ◌∷◌, ◌++◌, false, refl, arith}
use Rattle.std.specs.Prelude.{if◌then◌else◌}
use Rattle.fsfs_base.specs.Failures.{Rose}
use Rattle.fsfs_cli.specs.declared.faults.fault.Fault.TheVariants.{Words, Request, Repository, Outside, Memory, Limit}
use Rattle.fsfs_cli.specs.declared.faults.outside_fault.OutsideFault.TheVariants as outside
use Rattle.fsfs_jobs.specs.declared.answer.JobAnswer.{JobAnswer}
use Rattle.fsfs_jobs.specs.declared.answer.JobAnswer.TheVariants.{Committed, Read, Conflict, Stopped}
use Rattle.fsfs_job_run.specs.TextReads.{IfAnswerFails}
use Rattle.fsfs_job_run.specs.Serial.Jobs.{tells_doubt, TellNoDoubt}
use Rattle.fsfs_job_run.specs.Workers.Lines.{tells_disk, disk_faults_in, RoseBy}

-- how many one answer tells of
abbrev pub faults_of : JobAnswer → ℕ
faults_of answer = if tells_disk answer then 1 else 0

faults_append : (answers : List JobAnswer) (answer : JobAnswer) → disk_faults_in (answers ++ answer ∷ []) ≡ disk_faults_in answers + faults_of answer
faults_append [] answer = omega arith
faults_append (one ∷ answers) answer = let rest = faults_append answers answer in omega (arith, rest)

-- one answer
rose_once : (answer : JobAnswer) (before now : ℕ) → before ≤ now → IfAnswerFails answer (Rose before now) → RoseBy (faults_of answer) before now
rose_once (Committed rev) before now later cause = omega (arith, later)
rose_once (Read text) before now later cause = omega (arith, later)
rose_once (Conflict head path) before now later cause = omega (arith, later)
rose_once (Stopped line (Words why)) before now later cause = omega (arith, later)
rose_once (Stopped line (Request why)) before now later cause = omega (arith, later)
rose_once (Stopped line (Repository why)) before now later cause = omega (arith, later)
rose_once (Stopped line (Limit why)) before now later cause = omega (arith, later)
rose_once (Stopped line Memory) before now later cause = omega (arith, later)
rose_once (Stopped line (Outside outside.Mount)) before now later cause = omega (arith, later)
rose_once (Stopped line (Outside (outside.Disk at))) before now later cause = cause
rose_once (Stopped line (Outside outside.Read)) before now later cause = omega (arith, later)
rose_once (Stopped line (Outside outside.Write)) before now later cause = omega (arith, later)
rose_once (Stopped line (Outside outside.Bench)) before now later cause = omega (arith, later)
rose_once (Stopped line (Outside (outside.Stuck at))) before now later cause = omega (arith, later)

-- one answer more
pub rose_more : (answers : List JobAnswer) (answer : JobAnswer) (first before now : ℕ) → RoseBy (disk_faults_in answers) first before → before ≤ now → IfAnswerFails answer (Rose before now)
    → RoseBy (disk_faults_in (answers ++ answer ∷ [])) first now
rose_more answers answer first before now so_far later cause =
    let once = rose_once answer before now later cause in let more = faults_append answers answer in omega (arith, so_far, once, more)

-- ---- nothing is in doubt where no call failed

calm : (answer : JobAnswer) (rest before now : ℕ) → RoseBy (faults_of answer + rest) before now → (Rose before now → ⊥) → tells_doubt answer ≡ false
calm (Committed rev) rest before now rose none = refl
calm (Read text) rest before now rose none = refl
calm (Conflict head path) rest before now rose none = refl
calm (Stopped line (Words why)) rest before now rose none = refl
calm (Stopped line (Request why)) rest before now rose none = refl
calm (Stopped line (Repository why)) rest before now rose none = refl
calm (Stopped line (Limit why)) rest before now rose none = refl
calm (Stopped line Memory) rest before now rose none = refl
calm (Stopped line (Outside outside.Mount)) rest before now rose none = refl
calm (Stopped line (Outside (outside.Disk at))) rest before now rose none = let many : RoseBy (1 + rest) before now = rose in absurd (none (omega (arith, many)))
calm (Stopped line (Outside outside.Read)) rest before now rose none = refl
calm (Stopped line (Outside outside.Write)) rest before now rose none = refl
calm (Stopped line (Outside outside.Bench)) rest before now rose none = refl
calm (Stopped line (Outside (outside.Stuck at))) rest before now rose none = refl

pub calm_all : (answers : List JobAnswer) (before now : ℕ) → RoseBy (disk_faults_in answers) before now → (Rose before now → ⊥) → TellNoDoubt answers
calm_all [] before now rose none = tt
calm_all (answer ∷ answers) before now rose none =
    let fewer : RoseBy (disk_faults_in answers) before now = omega (arith, rose) in (calm answer (disk_faults_in answers) before now rose none, calm_all answers before now fewer none)
