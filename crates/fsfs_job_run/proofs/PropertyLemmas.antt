-- The properties of a job, one put in after another.
use Rattle.std.proofs.Common.{◌≡◌, ◌∷◌, ◌++◌, ℕ, List, Option, Some, None, refl}
use Rattle.std.specs.BTreeMap.{insert_entry}
use Rattle.std.specs.Cmp.Lexicographic.{slice_cmp}
use Rattle.std.specs.Ordering.{nat_cmp}
use Rattle.fsfs_tree.specs.Dated.{date_name}
use Rattle.fsfs_tree.specs.PropTexts.{author_name, log_name}
use Rattle.fsfs_jobs.specs.Properties.{prop_of, undated_properties, job_properties}
use Rattle.fsfs_script.specs.declared.job_lines.job.CommitJob.{CommitJob}

dated : (date : List ℕ) (author log : Option (List ℕ)) → insert_entry (slice_cmp nat_cmp) (prop_of author_name author ++ prop_of log_name log) date_name date ≡ prop_of author_name author ++ (date_name, date) ∷ prop_of log_name log
dated date None None = refl
dated date None (Some log) = refl
dated date (Some author) None = refl
dated date (Some author) (Some log) = refl

-- the date put in among them
pub job_dated : (date : List ℕ) (job : CommitJob) → insert_entry (slice_cmp nat_cmp) (undated_properties job) date_name date ≡ job_properties date job
job_dated date job = dated date job.author job.log
