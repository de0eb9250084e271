-- A job's transaction whose edits were done.
use Rattle.std.proofs.Common.{◌≡◌, ◌<◌, ◌≤◌, ◌+◌, ℕ, List, [], length, take, sym, ap, subst, ◌∙◌, arith}
use Rattle.std.proofs.lemmas.List.{take-append-le}
use Rattle.fsfs_base.specs.declared.fields.txn_name.TxnName.{TxnName}
use Rattle.fsfs_tree.specs.Dated.{last_of}
use Rattle.fsfs_tree.specs.Revisions.{tree_of}
use Rattle.fsfs_draft.specs.Drafts.{Folder}
use Rattle.fsfs_machine.specs.declared.machine.Recorded.{Recorded}
use Rattle.fsfs_machine.specs.declared.machine.Txn.{Txn}
use Rattle.fsfs_machine.specs.Kept.{IsIn}
use Rattle.fsfs_machine.specs.Machine.{revisions}
use Rattle.fsfs_turn.specs.Bytes.{bytes_of}
use Rattle.fsfs_turn.specs.Views.{View, Begins}
use Rattle.fsfs_turn.proofs.Reading.{begins_on}
use Rattle.fsfs_turn.proofs.Moments.{begins_take}
use Rattle.fsfs_turn.proofs.Alone.{no_shorter}
use Rattle.fsfs_job_run.specs.StayingLemmas.{txn_stays}
use Rattle.fsfs_jobs.specs.JobEdits.Editing.{IsEditedWhole}
use Rattle.fsfs_script.specs.declared.job_lines.job.CommitJob.{CommitJob}
use Rattle.fsfs_script.specs.declared.job_lines.job.Job.{Job}
use Rattle.fsfs_jobs.specs.declared.answer.JobAnswer.{JobAnswer}
use Rattle.fsfs_job_run.proofs.Composed.{stands_for}
use Rattle.fsfs_job_run.proofs.Counted.{outside_on}
use Rattle.fsfs_workers.specs.Working.{EndsFrom, GoesOn, IsEditedOver, IsEditedTxn, up_to}
use Rattle.fsfs_workers.proofs.Going.{ends_behind}
use Rattle.fsfs_workers.proofs.Parts.{part_length}

-- a first part stays one, as more is seen
part_same : (last : ℕ) (u w : View) → Begins w.seen u.seen → last < length u.seen → up_to last w ≡ up_to last u
part_same last u w b less = ap (λ (h : List Recorded). take (last + 1) h) b.1 ∙ take-append-le (last + 1) u.seen b.0 (omega (arith, less))

-- what the pass knew as the edits began (u), and behind them (w)
pub edited_then : (job : CommitJob) (last : ℕ) (name : TxnName) (base : ℕ) (settled : Folder) (u w : View) → GoesOn u w → IsIn name.number.number u.given → last < length u.seen → last ≤ u.pass.least → base ≤ last
    → IsEditedWhole job.steps name base settled (bytes_of (up_to last u)) (tree_of (revisions (up_to last u))) (last_of (revisions (up_to last u))) (tree_of (revisions (up_to last u)) base) []
    → (x : Txn) × IsEditedTxn job last name base settled w x
edited_then job last name base settled u w g given less told within e =
    let part : View = record u { seen = up_to last u } in
    let s = stands_for part name base settled job there e in (
      s.0,
      record {
        stands = txn_stays (up_to last u) w.seen name base settled s.0 s.1 (begins_on (up_to last u) u.seen w.seen (begins_take (last + 1) u.seen) g.grows);
        given = subst (λ (n : ℕ). IsIn n w.given) (sym s.1.numbered) (g.given name.number.number given);
        seen = omega (arith, less, no_shorter u.seen w.seen g.grows);
        told = omega (arith, told, g.least);
        edited = subst (λ (h : List Recorded). IsEditedOver job h base s.0) (sym (part_same last u w g.grows less)) (record { on = s.2.on; there = there; takes = s.2.takes });
      },
    )
  where
    there : base < length (up_to last u)
    there = omega (arith, within, part_length last u.seen less)

-- under the name and on the base that it had before them
pub edited_as : (job : CommitJob) (last : ℕ) (n m : TxnName) (a b : ℕ) (settled : Folder) (w : View) (x : Txn) → n ≡ m → a ≡ b → IsEditedTxn job last m b settled w x → IsEditedTxn job last n a settled w x
edited_as job last n m a b settled w x named based e = subst (λ (k : TxnName). IsEditedTxn job last k a settled w x) (sym named) (subst (λ (k : ℕ). IsEditedTxn job last m k settled w x) (sym based) e)

-- the end of the job, seen from before what added nothing
pub behind : (knows : View → Type 0) (P Q : Type 0) (moment k : ℕ) (job : Job) (answer : JobAnswer) (v m : View) → (P → Q) → GoesOn v m → EndsFrom knows P moment k job answer m → EndsFrom knows Q moment k job answer v
behind knows P Q moment k job answer v m f g w = (w.0, w.1, ends_behind moment k job answer v m w.0 g w.2, outside_on P Q w.0 answer f w.3)
