-- The lock is told to be stuck only behind an answer that tells of a fault that leaves a revision in doubt.
use Rattle.std.proofs.Common.{◌≡◌, List, [], ◌∷◌, ◌++◌, true, false, refl, sym, subst, ◌∙◌}
use Rattle.std.specs.Prelude.{Some, None}
use Rattle.fsfs_turn.specs.Alone.{are_harmless}
use Rattle.fsfs_turn.specs.Views.{View}
use Rattle.fsfs_cli.specs.declared.faults.fault.Fault.TheVariants.{Words, Request, Repository, Outside, Memory, Limit}
use Rattle.fsfs_cli.specs.declared.faults.outside_fault.OutsideFault.TheVariants as outside
use Rattle.fsfs_jobs.specs.declared.answer.JobAnswer.{JobAnswer}
use Rattle.fsfs_jobs.specs.declared.answer.JobAnswer.TheVariants as answers
use Rattle.fsfs_job_run.specs.Serial.Jobs.{Leaves, TellNoDoubt, StuckBehindDoubt, tells_stuck}
use Rattle.fsfs_job_run.specs.Running.{HasOutsideCause}

pub none_stuck : (told : List JobAnswer) → told ≡ [] → StuckBehindDoubt told
none_stuck told none = subst StuckBehindDoubt (sym none) tt

-- one answer more
pub stuck_more : (told : List JobAnswer) (answer : JobAnswer) → StuckBehindDoubt told → (TellNoDoubt told → tells_stuck answer ≡ false) → StuckBehindDoubt (told ++ answer ∷ [])
stuck_more [] answer so_far last = (last tt, λ calm. tt)
stuck_more (first ∷ told) answer so_far last = (so_far.0, λ calm. stuck_more told answer (so_far.1 calm) (λ none. last (calm, none)))

-- a pass that met no such fault finds the lock free
pub not_stuck : (rose : Type 0) (answer : JobAnswer) (v u : View) → Leaves answer v u → HasOutsideCause rose u answer → (are_harmless u.pass.faults ≡ true → u.pass.stuck ≡ None) → are_harmless v.pass.faults ≡ true → tells_stuck answer ≡ false
not_stuck rose (answers.Committed rev) v u leaves cause found few = refl
not_stuck rose (answers.Read text) v u leaves cause found few = refl
not_stuck rose (answers.Conflict head path) v u leaves cause found few = refl
not_stuck rose (answers.Stopped line (Words why)) v u leaves cause found few = refl
not_stuck rose (answers.Stopped line (Request why)) v u leaves cause found few = refl
not_stuck rose (answers.Stopped line (Repository why)) v u leaves cause found few = refl
not_stuck rose (answers.Stopped line (Outside outside.Mount)) v u leaves cause found few = refl
not_stuck rose (answers.Stopped line (Outside (outside.Disk at))) v u leaves cause found few = refl
not_stuck rose (answers.Stopped line (Outside outside.Read)) v u leaves cause found few = refl
not_stuck rose (answers.Stopped line (Outside outside.Write)) v u leaves cause found few = refl
not_stuck rose (answers.Stopped line (Outside outside.Bench)) v u leaves cause found few = refl
not_stuck rose (answers.Stopped line (Outside (outside.Stuck at))) v u leaves cause found few = let both : None ≡ Some at = sym (found (leaves.doubtless refl few)) ∙ cause in absurd cc
not_stuck rose (answers.Stopped line Memory) v u leaves cause found few = refl
not_stuck rose (answers.Stopped line (Limit why)) v u leaves cause found few = refl
