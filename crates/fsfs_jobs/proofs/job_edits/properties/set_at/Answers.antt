use Rattle.fsfs_jobs.specs.JobEdits.Answers.{fault_of_left, property_fault}
use Rattle.fsfs_jobs.proofs.TellLemmas.{property_quiet, tells_lasts, left_disk, left_bench_cause}
use Rattle.fsfs_jobs.proofs.SetLemmas.{set_at}
use Rattle.fsfs_jobs.proofs.job_edits.properties.set_at.Goals as goal

pub returns-clause-sets : goal.returns-clause-sets
returns-clause-sets g c = λ look trees top tree marks known shown revs within stands.
    set_at look trees top c.args.txn.now.base _ _ tree marks _ c.args.opened.now c.args.set.now _ c.requires.path c.in-Ok.ensures _ c.set_prop-outcome.result c.tell_property.result (c.set_prop-outcome.ensures.meets c.requires.lasting look trees top tree marks known shown revs within stands) c.tell_property.ensures

pub returns-clause-lasts : goal.returns-clause-lasts
returns-clause-lasts g c = tells_lasts (property_fault c.args.set.now.path) (property_quiet c.args.set.now.path) fault_of_left _ _ c.set_prop-outcome.result c.tell_property.result c.set_prop-outcome.ensures.spent c.tell_property.ensures

pub returns-clause-quiet : goal.returns-clause-quiet
returns-clause-quiet g c = λ faults. left_disk (property_fault c.args.set.now.path) (property_quiet c.args.set.now.path) faults c.set_prop-outcome.result c.tell_property.result c.tell_property.ensures

pub returns-clause-bench : goal.returns-clause-bench
returns-clause-bench g c = left_bench_cause (property_fault c.args.set.now.path) (property_quiet c.args.set.now.path) _ _ _ _ c.set_prop-outcome.result c.tell_property.result c.requires.lasting c.set_prop-outcome.ensures.spent c.tell_property.ensures c.set_prop-outcome.ensures.bench
