use Rattle.fsfs_job_run.proofs.ListedLemmas.{none_is_left, all_are_kept, listings_go_on}
use Rattle.fsfs_job_run.proofs.serial.laws.listed_were_listed.Goals as goal

pub returns-clause-none : goal.returns-clause-none
returns-clause-none c = none_is_left

pub returns-clause-all : goal.returns-clause-all
returns-clause-all c = all_are_kept

pub returns-clause-on : goal.returns-clause-on
returns-clause-on c = listings_go_on
