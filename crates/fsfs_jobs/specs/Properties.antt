-- What a job's transaction is committed with.
use Rattle.std.specs.Prelude.{ℕ, List, [], ◌∷◌, ◌++◌, Option, Some, None}
use Rattle.std.specs.BTreeMap.{insert_entry}
use Rattle.std.specs.Cmp.Lexicographic.{slice_cmp}
use Rattle.std.specs.Ordering.{nat_cmp}
use Rattle.fsfs_tree.specs.Dated.{date_name}
use Rattle.fsfs_tree.specs.PropTexts.{author_name, log_name}
use Rattle.fsfs_script.specs.declared.job_lines.job.CommitJob.{CommitJob}

-- a property of this name, where there is a value
abbrev pub prop_of : List ℕ → Option (List ℕ) → List (List ℕ × List ℕ)
prop_of name None = []
prop_of name (Some value) = (name, value) ∷ []

-- the author and the log where the job has them, by the names' bytes
abbrev pub undated_properties : CommitJob → List (List ℕ × List ℕ)
undated_properties job = prop_of author_name job.author ++ prop_of log_name job.log

-- and the date
abbrev pub job_properties : List ℕ → CommitJob → List (List ℕ × List ℕ)
job_properties date job = prop_of author_name job.author ++ (date_name, date) ∷ prop_of log_name job.log

-- the name has this value, where there is one
abbrev pub with_text : List (List ℕ × List ℕ) → List ℕ → Option (List ℕ) → List (List ℕ × List ℕ)
with_text properties name None = properties
with_text properties name (Some value) = insert_entry (slice_cmp nat_cmp) properties name value
