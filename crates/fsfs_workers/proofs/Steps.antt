-- The edits of a job that were done over a first part of a history are done over all of it.
use Rattle.std.proofs.Common.{◌≡◌, ◌<◌, ◌≤◌, ℕ, Bool, true, false, List, [], ◌∷◌, ◌++◌, length, refl, sym, ap, subst, ◌∙◌, arith}
use Rattle.std.proofs.lemmas.Bool.{leb-true}
use Rattle.std.specs.Prelude.{Option, Some, None, nat_le, if◌then◌else◌}
use Rattle.fsfs_base.specs.Paths.{Path}
use Rattle.fsfs_tree.specs.Nodes.{TreeFunction}
use Rattle.fsfs_tree.specs.Dated.{last_of}
use Rattle.fsfs_tree.specs.Revisions.{tree_of}
use Rattle.fsfs_tree.specs.Answers.{found_at}
use Rattle.fsfs_model.specs.declared.flat.mark.Mark.{Mark}
use Rattle.fsfs_machine.specs.declared.machine.Recorded.{Recorded}
use Rattle.fsfs_machine.specs.Machine.{revisions}
use Rattle.fsfs_machine.proofs.Growing.{revisions_length}
use Rattle.fsfs_turn.specs.Views.{Begins}
use Rattle.fsfs_turn.proofs.Longer.{tree_first}
use Rattle.fsfs_turn.proofs.Alone.{no_shorter}
use Rattle.fsfs_cli.specs.declared.faults.fault.Fault.{Fault}
use Rattle.fsfs_cli.specs.declared.faults.fault.Fault.TheVariants.{Request}
use Rattle.fsfs_cli.specs.declared.faults.request_fault.RequestFault.TheVariants.{NoRev}
use Rattle.fsfs_script.specs.declared.job_lines.edit.Edit.{Edit}
use Rattle.fsfs_script.specs.declared.job_lines.edit.Edit.TheVariants.{MakeDir, MakeFile, Delete, Copy, Put, Prop}
use Rattle.fsfs_script.specs.declared.job_lines.job.Step.{Step}
use Rattle.fsfs_jobs.specs.Edits.{or_else, unfound, no_rev, make_fault, copy_fault, fault_of, edited, marks_of, TakesSteps}
use Rattle.fsfs_jobs.proofs.CopyLemmas.{rev_there}

neither : (a b : Option Fault) → or_else a b ≡ None → (a ≡ None) × (b ≡ None)
neither None b e = (refl, e)
neither (Some fault) b e = absurd cc

there_within : (rev last : ℕ) → no_rev rev last ≡ None → rev ≤ last
there_within rev last = by (nat_le rev last) refl
  where
    by : (b : Bool) → nat_le rev last ≡ b → (if b then None else Some (Request (NoRev rev last))) ≡ None → rev ≤ last
    by true is e = leb-true rev last is
    by false is e = absurd cc

module _ (trees more : ℕ → TreeFunction) (last top : ℕ) (le : last ≤ top) (same : (r : ℕ) → r ≤ last → trees r ≡ more r) where
  -- what is copied is the same, and there still
  copied : (t : TreeFunction) (rev : ℕ) (from to : Path) → copy_fault trees last t rev from to ≡ None → (rev ≤ last) × (copy_fault more top t rev from to ≡ None)
  copied t rev from to e =
      let first = neither (make_fault t to) (or_else (no_rev rev last) (unfound (found_at (trees rev) from))) e in
      let rest = neither (no_rev rev last) (unfound (found_at (trees rev) from)) first.1 in
      let within = there_within rev last rest.0 in (
        within,
        ap (λ (o : Option Fault). or_else o (or_else (no_rev rev top) (unfound (found_at (more rev) from)))) first.0
            ∙ ap (λ (o : Option Fault). or_else o (unfound (found_at (more rev) from))) (rev_there rev top (omega (arith, within, le)))
            ∙ ap (λ (x : TreeFunction). unfound (found_at x from)) (sym (same rev within)) ∙ rest.1,
      )

  fits_on : (edit : Edit) (t : TreeFunction) → fault_of edit trees last t ≡ None → fault_of edit more top t ≡ None
  fits_on (MakeDir path) t e = e
  fits_on (MakeFile path) t e = e
  fits_on (Delete path) t e = e
  fits_on (Copy copy) t e = (copied t copy.rev copy.from copy.to e).1
  fits_on (Put put) t e = e
  fits_on (Prop set) t e = e

  -- and so is what comes of it
  edited_same : (edit : Edit) (t : TreeFunction) → fault_of edit trees last t ≡ None → edited edit trees t ≡ edited edit more t
  edited_same (MakeDir path) t e = refl
  edited_same (MakeFile path) t e = refl
  edited_same (Delete path) t e = refl
  edited_same (Copy copy) t e = ap (λ (x : TreeFunction). edited (Copy copy) (λ r. x) t) (same copy.rev (copied t copy.rev copy.from copy.to e).0)
  edited_same (Put put) t e = refl
  edited_same (Prop set) t e = refl

  marks_same : (edit : Edit) (t : TreeFunction) → fault_of edit trees last t ≡ None → marks_of edit trees t ≡ marks_of edit more t
  marks_same (MakeDir path) t e = refl
  marks_same (MakeFile path) t e = refl
  marks_same (Delete path) t e = refl
  marks_same (Copy copy) t e = ap (λ (x : TreeFunction). marks_of (Copy copy) (λ r. x) t) (same copy.rev (copied t copy.rev copy.from copy.to e).0)
  marks_same (Put put) t e = refl
  marks_same (Prop set) t e = refl

  takes_on : (steps : List Step) (t : TreeFunction) (marks : List Mark) (u : TreeFunction) (now : List Mark) → TakesSteps trees last t marks steps u now → TakesSteps more top t marks steps u now
  takes_on [] t marks u now w = w
  takes_on (step ∷ steps) t marks u now w =
      let fits = w.0.fits in (
        record { fits = fits_on step.edit t fits; space = w.0.space; short = w.0.short },
        subst (λ (ms : List Mark). TakesSteps more top (edited step.edit more t) (marks ++ ms) steps u now) (marks_same step.edit t fits)
            (subst (λ (x : TreeFunction). TakesSteps more top x (marks ++ marks_of step.edit trees t) steps u now) (edited_same step.edit t fits)
            (takes_on steps (edited step.edit trees t) (marks ++ marks_of step.edit trees t) u now w.1)),
      )

-- of histories
pub takes_later : (g h : List Recorded) (base : ℕ) (steps : List Step) (u : TreeFunction) (now : List Mark) → Begins h g → base < length g
    → TakesSteps (tree_of (revisions g)) (last_of (revisions g)) (tree_of (revisions g) base) [] steps u now → TakesSteps (tree_of (revisions h)) (last_of (revisions h)) (tree_of (revisions h) base) [] steps u now
takes_later g h base steps u now b there w =
    subst (λ (t : TreeFunction). TakesSteps (tree_of (revisions h)) (last_of (revisions h)) t [] steps u now) (tree_first g h base b there)
    (takes_on (tree_of (revisions g)) (tree_of (revisions h)) (last_of (revisions g)) (last_of (revisions h)) (omega (arith, no_shorter g h b, revisions_length g, revisions_length h))
    (λ r le. tree_first g h r b (omega (arith, le, there, revisions_length g))) steps (tree_of (revisions g) base) [] u now w)
