-- As many answers of two workers tell of a fault as of each.
use Rattle.std.proofs.Common.{◌≡◌, ◌+◌, ℕ, List, [], ◌∷◌, arith}
use Rattle.fsfs_jobs.specs.declared.answer.JobAnswer.{JobAnswer}
use Rattle.fsfs_job_run.specs.Workers.Lines.{disk_faults_in}
use Rattle.fsfs_job_run.specs.Serial.Jobs.{bench_faults_in}
use Rattle.fsfs_workers.specs.InTurn.{in_turn}

-- as many as both lists tell of
pub faults_in_turn : (xs ys : List JobAnswer) → disk_faults_in (in_turn xs ys) ≡ disk_faults_in xs + disk_faults_in ys
faults_in_turn [] ys = omega arith
faults_in_turn (x ∷ xs) [] = omega arith
faults_in_turn (x ∷ xs) (y ∷ ys) = let rest = faults_in_turn xs ys in omega (arith, rest)

pub benches_in_turn : (xs ys : List JobAnswer) → bench_faults_in (in_turn xs ys) ≡ bench_faults_in xs + bench_faults_in ys
benches_in_turn [] ys = omega arith
benches_in_turn (x ∷ xs) [] = omega arith
benches_in_turn (x ∷ xs) (y ∷ ys) = let rest = benches_in_turn xs ys in omega (arith, rest)
