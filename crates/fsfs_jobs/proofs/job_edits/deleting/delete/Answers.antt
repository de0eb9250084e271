use Rattle.std.proofs.Common.{sym, ◌∙◌}
use Rattle.fsfs_jobs.specs.JobEdits.Answers.{fault_of_failure, deleted_fault}
use Rattle.fsfs_jobs.proofs.TellLemmas.{deleted_quiet, tells_lasts, tells_disk, tells_bench}
use Rattle.fsfs_jobs.proofs.EditLemmas.{root_of, named_of, delete_at, root_stays}
use Rattle.fsfs_jobs.proofs.job_edits.deleting.delete.Goals as goal

pub returns-then-is_root-clause-edits : goal.returns-then-is_root-clause-edits
returns-then-is_root-clause-edits g c = λ look trees top tree marks knows youngest shown revs within stands.
    root_stays look trees top c.args.txn.now.base _ _ tree marks revs stands c.args.path.now (g.N.Own.settled c.args.txn.now.own) (root_of c.args.path.now (sym c.is_root.ensures ∙ c.if-is_root.true))

pub returns-clause-edits : goal.returns-clause-edits
returns-clause-edits g c = λ look trees top tree marks knows youngest shown revs within stands.
    delete_at look trees top c.args.txn.now.base _ _ tree marks revs stands c.args.path.now _ (named_of c.args.path.now (sym c.is_root.ensures ∙ c.if-is_root.false)) c.delete-outcome.result c.tell_deleted.result (c.delete-outcome.ensures.meets c.requires.lasting look trees top tree marks knows shown revs within stands) c.tell_deleted.ensures

pub returns-clause-lasts : goal.returns-clause-lasts
returns-clause-lasts g c = tells_lasts (deleted_fault c.args.path.now) (deleted_quiet c.args.path.now) fault_of_failure _ _ c.delete-outcome.result c.tell_deleted.result c.delete-outcome.ensures.spent c.tell_deleted.ensures

pub returns-clause-disk : goal.returns-clause-disk
returns-clause-disk g c = tells_disk (deleted_fault c.args.path.now) (deleted_quiet c.args.path.now) _ _ c.delete-outcome.result c.tell_deleted.result c.tell_deleted.ensures c.delete-outcome.ensures.cause

pub returns-clause-bench : goal.returns-clause-bench
returns-clause-bench g c = tells_bench (deleted_fault c.args.path.now) (deleted_quiet c.args.path.now) _ _ _ _ c.delete-outcome.result c.tell_deleted.result c.requires.lasting c.delete-outcome.ensures.spent c.tell_deleted.ensures c.delete-outcome.ensures.bench
