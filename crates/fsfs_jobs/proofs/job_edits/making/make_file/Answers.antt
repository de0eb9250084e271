use Rattle.fsfs_jobs.specs.JobEdits.Answers.{fault_of_failure, made_fault}
use Rattle.fsfs_jobs.proofs.TellLemmas.{made_quiet, tells_lasts, tells_disk, tells_bench}
use Rattle.fsfs_jobs.proofs.EditLemmas.{make_file}
use Rattle.fsfs_jobs.proofs.job_edits.making.make_file.Goals as goal

pub returns-clause-edits : goal.returns-clause-edits
returns-clause-edits g c = λ look trees top tree marks knows youngest shown revs within stands.
    make_file look trees top c.args.txn.now.base _ _ tree marks revs stands c.args.path.now _ c.mkfile-outcome.result c.tell_made.result (c.mkfile-outcome.ensures.meets c.requires.lasting look trees top tree marks knows shown revs within stands) c.tell_made.ensures

pub returns-clause-lasts : goal.returns-clause-lasts
returns-clause-lasts g c = tells_lasts (made_fault c.args.path.now) (made_quiet c.args.path.now) fault_of_failure _ _ c.mkfile-outcome.result c.tell_made.result c.mkfile-outcome.ensures.spent c.tell_made.ensures

pub returns-clause-disk : goal.returns-clause-disk
returns-clause-disk g c = tells_disk (made_fault c.args.path.now) (made_quiet c.args.path.now) _ _ c.mkfile-outcome.result c.tell_made.result c.tell_made.ensures c.mkfile-outcome.ensures.cause

pub returns-clause-bench : goal.returns-clause-bench
returns-clause-bench g c = tells_bench (made_fault c.args.path.now) (made_quiet c.args.path.now) _ _ _ _ c.mkfile-outcome.result c.tell_made.result c.requires.lasting c.mkfile-outcome.ensures.spent c.tell_made.ensures c.mkfile-outcome.ensures.bench
