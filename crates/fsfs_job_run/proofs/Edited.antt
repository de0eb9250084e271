-- Edits of a job that are refused.
use Rattle.std.proofs.Common.{◌⊎◌, ℕ, List, ◌∷◌, [], ◌++◌, inl, inr}
use Rattle.fsfs_tree.specs.Nodes.{TreeFunction}
use Rattle.fsfs_model.specs.declared.flat.mark.Mark.{Mark}
use Rattle.fsfs_script.specs.declared.job_lines.edit.Edit.{Edit}
use Rattle.fsfs_script.specs.declared.job_lines.job.Step.{Step}
use Rattle.fsfs_cli.specs.declared.faults.fault.Fault.{Fault}
use Rattle.fsfs_jobs.specs.Edits.{edited, marks_of, StopsAt}

-- the first edit that is not done is refused by the one, or by the other
module _ (trees : ℕ → TreeFunction) (last : ℕ) (P Q : TreeFunction → List Mark → Edit → Fault → Type 0) where
  pub stops_by : (t : TreeFunction) (marks : List Mark) (steps : List Step) (line : ℕ) (fault : Fault) → StopsAt (λ u now edit f. P u now edit f ⊎ Q u now edit f) trees last t marks steps line fault
      → StopsAt P trees last t marks steps line fault ⊎ ((u : TreeFunction) × (now : List Mark) × (edit : Edit) × Q u now edit fault)
  stops_by t marks [] line fault s = absurd s
  stops_by t marks (step ∷ steps) line fault (inl (here, inl p)) = inl (inl (here, p))
  stops_by t marks (step ∷ steps) line fault (inl (here, inr q)) = inr (t, marks, step.edit, q)
  stops_by t marks (step ∷ steps) line fault (inr (allowed, more)) = by (stops_by (edited step.edit trees t) (marks ++ marks_of step.edit trees t) steps line fault more)
    where
      by : StopsAt P trees last (edited step.edit trees t) (marks ++ marks_of step.edit trees t) steps line fault ⊎ ((u : TreeFunction) × (now : List Mark) × (edit : Edit) × Q u now edit fault)
          → StopsAt P trees last t marks (step ∷ steps) line fault ⊎ ((u : TreeFunction) × (now : List Mark) × (edit : Edit) × Q u now edit fault)
      by (inl stops) = inl (inr (allowed, stops))
      by (inr other) = inr other
