-- The edits of a job one after another.
use Rattle.std.proofs.Common.{◌≡◌, ◌<◌, ◌+◌, ℕ, List, [], ◌∷◌, ◌++◌, length, take, drop, refl, sym, ap, subst, ◌∙◌, inl, inr}
use Rattle.std.proofs.lemmas.List.{take_more, drop_more, take-append-drop}
use Rattle.std.specs.Prelude.{slice_index_or, Ok, Err}
use Rattle.fsfs_tree.specs.Nodes.{TreeFunction}
use Rattle.fsfs_model.specs.declared.flat.mark.Mark.{Mark}
use Rattle.fsfs_base.specs.declared.fields.txn_name.TxnName.{TxnName}
use Rattle.fsfs_revision.specs.Told.{RevisionBytes}
use Rattle.fsfs_draft.specs.Drafts.{Folder}
use Rattle.fsfs_txn.specs.Standing.{Stands}
use Rattle.fsfs_script.specs.declared.job_lines.edit.Edit.{Edit}
use Rattle.fsfs_script.specs.declared.job_lines.job.Step.{Step}
use Rattle.fsfs_cli.specs.declared.faults.fault.Fault.{Fault}
use Rattle.fsfs_jobs.specs.Edits.{Allows, edited, marks_of, TakesSteps, StopsAt}
use Rattle.fsfs_jobs.specs.JobEdits.Editing.{IfRefused, Bars, IsEditing, IsEditedWhole}
use Rattle.fsfs_jobs.proofs.SetLemmas.{refused_more}

module _ (trees : ℕ → TreeFunction) (top : ℕ) where
  pub taken_more : (steps : List Step) (t : TreeFunction) (marks : List Mark) (u : TreeFunction) (now : List Mark) (step : Step) → TakesSteps trees top t marks steps u now → Allows trees top u step.edit
      → TakesSteps trees top t marks (steps ++ step ∷ []) (edited step.edit trees u) (now ++ marks_of step.edit trees u)
  taken_more [] t marks u now step w a =
      (subst (λ (x : TreeFunction). Allows trees top x step.edit) w.0 a, (ap (λ (x : TreeFunction). edited step.edit trees x) w.0, λ i. w.1 i ++ marks_of step.edit trees (w.0 i)))
  taken_more (s ∷ steps) t marks u now step w a = (w.0, taken_more steps (edited s.edit trees t) (marks ++ marks_of s.edit trees t) u now step w.1 a)

  pub stops_behind : (Bars : TreeFunction → List Mark → Edit → Fault → Type 0) (steps : List Step) (t : TreeFunction) (marks : List Mark) (u : TreeFunction) (now : List Mark) (step : Step) (rest : List Step) (fault : Fault)
      → TakesSteps trees top t marks steps u now → Bars u now step.edit fault → StopsAt Bars trees top t marks (steps ++ step ∷ rest) step.line fault
  stops_behind Bars [] t marks u now step rest fault w b =
      let at : Bars t now step.edit fault = subst (λ (x : TreeFunction). Bars x now step.edit fault) w.0 b in
      inl (refl, subst (λ (ms : List Mark). Bars t ms step.edit fault) w.1 at)
  stops_behind Bars (s ∷ steps) t marks u now step rest fault w b = inr (w.0, stops_behind Bars steps (edited s.edit trees t) (marks ++ marks_of s.edit trees t) u now step rest fault w.1 b)

-- a transaction under another name for the same: what is so of it, is so of this one
module _ (look : RevisionBytes) (trees : ℕ → TreeFunction) (top base : ℕ) (txn : TxnName) (folder : Folder) (tree : TreeFunction) (marks : List Mark) (stands : Stands look trees top base txn folder tree marks) where
  pub moved : (R : ℕ → TxnName → Type 0) (base2 : ℕ) (txn2 : TxnName) (folder2 : Folder) → base2 ≡ base → txn2 ≡ txn → folder2 ≡ folder → (Stands look trees top base2 txn2 folder2 tree marks → R base2 txn2) → R base txn
  moved R base2 txn2 folder2 b t f h =
      let P : ℕ → TxnName → Folder → Type 0 = λ x y z. Stands look trees top x y z tree marks → R x y in
      (subst (λ (x : ℕ). P x txn folder) b (subst (λ (y : TxnName). P base2 y folder) t (subst (λ (z : Folder). P base2 txn2 z) f h))) stands

-- ---- one edit more

module _ (steps : List Step) (i : ℕ) (step : Step) (lt : i < length steps) (is : step ≡ slice_index_or steps i step) where
  so_far : take (i + 1) steps ≡ take i steps ++ step ∷ []
  so_far = take_more steps i step lt ∙ ap (λ (x : Step). take i steps ++ x ∷ []) (sym is)

  cut : steps ≡ take i steps ++ step ∷ drop (i + 1) steps
  cut = sym (take-append-drop i steps) ∙ ap (λ (l : List Step). take i steps ++ l) (drop_more steps i step lt ∙ ap (λ (x : Step). x ∷ drop (i + 1) steps) (sym is))

  module _ (look : RevisionBytes) (trees : ℕ → TreeFunction) (top base : ℕ) (txn : TxnName) (tree : TreeFunction) (marks : List Mark) (mid after : Folder) (e : IsEditedWhole (take i steps) txn base mid look trees top tree marks) where
    pub edited_more : IsEditing step.edit txn base after (Ok tt) look trees top e.now e.added → IsEditedWhole (take (i + 1) steps) txn base after look trees top tree marks
    edited_more h = record {
      now = edited step.edit trees e.now;
      added = e.added ++ marks_of step.edit trees e.now;
      takes = subst (λ (l : List Step). TakesSteps trees top tree marks l (edited step.edit trees e.now) (e.added ++ marks_of step.edit trees e.now)) (sym so_far) (taken_more trees top (take i steps) tree marks e.now e.added step e.takes h.0);
      stands = h.1;
    }

    abbrev StopsHere : Fault → Type 0
    StopsHere fault = StopsAt (Bars look trees top base txn) trees top tree marks steps step.line fault

    pub stopped_here : (fault : Fault) → IsEditing step.edit txn base after (Err fault) look trees top e.now e.added → IfRefused fault (StopsHere fault)
    stopped_here fault h =
        refused_more (Bars look trees top base txn e.now e.added step.edit fault) (StopsHere fault) fault
        (λ b. subst (λ (l : List Step). StopsAt (Bars look trees top base txn) trees top tree marks l step.line fault) (sym cut) (stops_behind trees top (Bars look trees top base txn) (take i steps) tree marks e.now e.added step (drop (i + 1) steps) fault e.takes b)) h
