-- A count rose at least as often as answers tell of a bench that failed.
use Rattle.std.proofs.Common.{◌≡◌, ◌+◌, ℕ, List, [], ◌∷◌, ◌++◌, arith}
use Rattle.fsfs_turn.specs.Mountings.{RoseBy}
use Rattle.fsfs_jobs.specs.declared.answer.JobAnswer.{JobAnswer}
use Rattle.fsfs_job_run.specs.Serial.Jobs.{bench_told, bench_faults_in}

pub benches_append : (answers : List JobAnswer) (answer : JobAnswer) → bench_faults_in (answers ++ answer ∷ []) ≡ bench_faults_in answers + bench_told answer
benches_append [] answer = omega arith
benches_append (one ∷ answers) answer = let rest = benches_append answers answer in omega (arith, rest)

-- one answer more
pub benches_more : (answers : List JobAnswer) (answer : JobAnswer) (first before now : ℕ) → RoseBy (bench_faults_in answers) first before → RoseBy (bench_told answer) before now → RoseBy (bench_faults_in (answers ++ answer ∷ [])) first now
benches_more answers answer first before now so_far once = let more = benches_append answers answer in omega (arith, so_far, once, more)
