-- A refused edit shows no revision above the last one that it was done over.
use Rattle.std.proofs.Common.{◌≤◌, ℕ, Bool, true, false, List, [], ◌∷◌, ◌++◌, subst, inl, inr, arith}
use Rattle.std.specs.Prelude.{Option, Some, None, codes, length, nat_le, if◌then◌else◌}
use Rattle.fsfs_base.specs.Paths.{Path, is_root, same_name}
use Rattle.fsfs_tree.specs.Nodes.{Node, TreeFunction}
use Rattle.fsfs_tree.specs.Answers.{Found, Stands, Lacking, Blocked, found_at}
use Rattle.fsfs_model.specs.Flat.Edits.{fits_value, is_dir, parent}
use Rattle.fsfs_model.specs.declared.flat.mark.Mark.{Mark}
use Rattle.fsfs_cli.specs.declared.faults.fault.Fault.{Fault}
use Rattle.fsfs_cli.specs.declared.faults.fault.Fault.TheVariants.{Limit, Request}
use Rattle.fsfs_cli.specs.declared.faults.limit_fault.LimitFault.TheVariants.{PropTooLong, TextTooLong}
use Rattle.fsfs_cli.specs.declared.faults.request_fault.RequestFault.TheVariants.{Mergeinfo, NoRev, NotDir, NotFile, RootFixed}
use Rattle.fsfs_script.specs.declared.job_lines.edit.Edit.{Edit}
use Rattle.fsfs_script.specs.declared.job_lines.edit.Edit.TheVariants.{MakeDir, MakeFile, Delete, Copy, Put, Prop}
use Rattle.fsfs_script.specs.declared.job_lines.job.Step.{Step}
use Rattle.fsfs_jobs.specs.Edits.{or_else, unfound, no_dir, taken, root_fixed, no_rev, no_mergeinfo, make_fault, put_fault, fault_of, too_long, edited, marks_of, Refuses, ByTrees, Full, Long, StopsAt}
use Rattle.fsfs_jobs.specs.declared.answer.JobAnswer.TheVariants.{Stopped}
use Rattle.fsfs_job_run.specs.Workers.Beside.{shown_in}

module _ (last line : ℕ) where
  abbrev IsLow : Option Fault → Type 0
  IsLow None = Unit {0}
  IsLow (Some fault) = shown_in (Stopped line fault) ≤ last

  low_else : (a b : Option Fault) → IsLow a → IsLow b → IsLow (or_else a b)
  low_else None b low other = other
  low_else (Some fault) b low other = low

  unless : (b : Bool) (fault : Fault) → shown_in (Stopped line fault) ≤ last → IsLow (if b then None else Some fault)
  unless true fault low = tt
  unless false fault low = low

  where_so : (b : Bool) (fault : Fault) → shown_in (Stopped line fault) ≤ last → IsLow (if b then Some fault else None)
  where_so true fault low = low
  where_so false fault low = tt

  unfound_low : (found : Found) → IsLow (unfound found)
  unfound_low (Stands node) = tt
  unfound_low (Lacking at) = omega arith
  unfound_low (Blocked at) = omega arith

  no_dir_low : (path : Path) (found : Found) → IsLow (no_dir path found)
  no_dir_low path (Stands node) = unless (is_dir node.kind) (Request (NotDir path)) (omega arith)
  no_dir_low path (Lacking at) = omega arith
  no_dir_low path (Blocked at) = omega arith

  taken_low : (path : Path) (node : Option Node) → IsLow (taken path node)
  taken_low path None = tt
  taken_low path (Some node) = omega arith

  make_low : (t : TreeFunction) (path : Path) → IsLow (make_fault t path)
  make_low t path = low_else (no_dir (parent path) (found_at t (parent path))) (taken path (t path)) (no_dir_low (parent path) (found_at t (parent path))) (taken_low path (t path))

  put_low : (t : TreeFunction) (path : Path) (node : Option Node) → IsLow (put_fault t path node)
  put_low t path None = make_low t path
  put_low t path (Some node) = where_so (is_dir node.kind) (Request (NotFile path)) (omega arith)

  fault_low : (trees : ℕ → TreeFunction) (edit : Edit) (t : TreeFunction) → IsLow (fault_of edit trees last t)
  fault_low trees (MakeDir path) t = make_low t path
  fault_low trees (MakeFile path) t = make_low t path
  fault_low trees (Delete path) t = low_else (unfound (found_at t path)) (root_fixed path) (unfound_low (found_at t path)) (where_so (is_root path) (Request RootFixed) (omega arith))
  fault_low trees (Copy copy) t =
      low_else (make_fault t copy.to) (or_else (no_rev copy.rev last) (unfound (found_at (trees copy.rev) copy.from))) (make_low t copy.to)
      (low_else (no_rev copy.rev last) (unfound (found_at (trees copy.rev) copy.from)) (unless (nat_le copy.rev last) (Request (NoRev copy.rev last)) (omega arith)) (unfound_low (found_at (trees copy.rev) copy.from)))
  fault_low trees (Put put) t = put_low t put.path (t put.path)
  fault_low trees (Prop set) t = low_else (unfound (found_at t set.path)) (no_mergeinfo set.name set.path) (unfound_low (found_at t set.path)) (where_so (same_name set.name (codes "svn:mergeinfo")) (Request (Mergeinfo set.path)) (omega arith))

  long_low : (edit : Edit) → IsLow (too_long edit)
  long_low (MakeDir path) = tt
  long_low (MakeFile path) = tt
  long_low (Delete path) = tt
  long_low (Copy copy) = tt
  long_low (Put put) = unless (nat_le (length put.text) 1_073_741_824) (Limit TextTooLong) (omega arith)
  long_low (Prop set) = unless (fits_value set.value) (Limit PropTooLong) (omega arith)

  refuses_low : (trees : ℕ → TreeFunction) (t : TreeFunction) (edit : Edit) (fault : Fault) → Refuses trees last t edit fault → shown_in (Stopped line fault) ≤ last
  refuses_low trees t edit fault (ByTrees _ e) = subst (λ (o : Option Fault). IsLow o) e (fault_low trees edit t)
  refuses_low trees t edit _ (Full fits full) = omega arith
  refuses_low trees t edit fault (Long _ fits space e) = subst (λ (o : Option Fault). IsLow o) e (long_low edit)

  pub stops_low : (trees : ℕ → TreeFunction) (t : TreeFunction) (marks : List Mark) (steps : List Step) (at : ℕ) (fault : Fault) → StopsAt (λ u now edit f. Refuses trees last u edit f) trees last t marks steps at fault → shown_in (Stopped line fault) ≤ last
  stops_low trees t marks [] at fault s = absurd s
  stops_low trees t marks (step ∷ steps) at fault (inl (here, refuses)) = refuses_low trees t step.edit fault refuses
  stops_low trees t marks (step ∷ steps) at fault (inr (allowed, more)) = stops_low trees (edited step.edit trees t) (marks ++ marks_of step.edit trees t) steps at fault more
