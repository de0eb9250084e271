-- The trees of jobs are maps.
use Rattle.std.specs.Prelude.{◌≡◌, ℕ, List, []}
use Rattle.std.specs.FinMap.{FinMap, get}
use Rattle.fsfs_base.specs.Paths.{path_cmp}
use Rattle.fsfs_tree.specs.Nodes.{Node, TreeFunction}
use Rattle.fsfs_tree.specs.Revisions.{Revision, tree_of}
use Rattle.fsfs_model.specs.declared.flat.mark.Mark.{Mark}
use Rattle.fsfs_script.specs.declared.job_lines.job.Step.{Step}
use Rattle.fsfs_jobs.specs.Edits.{TakesSteps}

-- what the edits of a job come to over a history stands in a map of finitely many paths
abbrev pub EditedTreesAreMaps : Type 0
EditedTreesAreMaps = (h : List Revision) (last base : ℕ) (steps : List Step) (t : TreeFunction) (marks : List Mark) → TakesSteps (tree_of h) last (tree_of h base) [] steps t marks
    → (m : FinMap path_cmp Node) × (get m ≡ t)
