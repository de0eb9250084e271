-- Edits of a job, from what the calls of a transaction tell.
use Rattle.std.proofs.Common.{◌≡◌, ◌<◌, ℕ, true, false, ◌&&◌, List, [], ◌∷◌, length, refl, ap, ◌∙◌, inl, inr, arith}
use Rattle.std.proofs.lemmas.Bool.{and_parts}
use Rattle.std.specs.Prelude.{Option, Some, None, is_some, not, Result, Ok, Err}
use Rattle.fsfs_base.specs.Paths.{Path, is_root}
use Rattle.fsfs_base.specs.declared.kind.Kind.TheVariants.{File, Dir}
use Rattle.fsfs_tree.specs.Nodes.{Node, TreeFunction}
use Rattle.fsfs_tree.specs.Trees.{IsTree}
use Rattle.fsfs_tree.specs.Histories.{AreRevisions}
use Rattle.fsfs_model.specs.Flat.Edits.{parent}
use Rattle.fsfs_model.specs.declared.flat.mark.Mark.{Mark}
use Rattle.fsfs_base.specs.declared.fields.txn_name.TxnName.{TxnName}
use Rattle.fsfs_revision.specs.Told.{RevisionBytes}
use Rattle.fsfs_draft.specs.Own.{Own}
use Rattle.fsfs_draft.specs.Drafts.{Folder}
use Rattle.fsfs_tree.specs.Answers.{found_at}
use Rattle.fsfs_edit.specs.Ways.{IsNoDirectory}
use Rattle.fsfs_txn.specs.Spending.{IfStays}
use Rattle.fsfs_txn.specs.Standing.{Stands}
use Rattle.fsfs_txn.specs.Edits.Making.{IsMaking}
use Rattle.fsfs_txn.specs.Edits.Deleting.{IsDeleting}
use Rattle.fsfs_txn.specs.declared.txn_error.TxnError.{TxnError}
use Rattle.fsfs_txn.specs.declared.edits.making.Made.{Made}
use Rattle.fsfs_txn.specs.declared.edits.making.Made.TheVariants as mades
use Rattle.fsfs_txn.specs.declared.edits.deleting.Deleted.{Deleted}
use Rattle.fsfs_txn.specs.declared.edits.deleting.Deleted.TheVariants as deletes
use Rattle.fsfs_txn.proofs.Meeting.{is_tree}
use Rattle.fsfs_script.specs.declared.job_lines.edit.Edit.TheVariants.{MakeDir, MakeFile, Delete}
use Rattle.fsfs_cli.specs.declared.faults.fault.Fault.{Fault}
use Rattle.fsfs_cli.specs.declared.faults.fault.Fault.TheVariants.{Request, Limit}
use Rattle.fsfs_cli.specs.declared.faults.request_fault.RequestFault.TheVariants.{NotFound, RootFixed}
use Rattle.fsfs_cli.specs.declared.faults.limit_fault.LimitFault.TheVariants.{TooManyEntries}
use Rattle.fsfs_jobs.specs.Edits.{or_else, unfound, root_fixed, delete_fault, ByTrees, Full}
use Rattle.fsfs_jobs.specs.JobEdits.Answers.{fault_of_failure, made_fault, deleted_fault, found_nothing, found_file, is_there, counts_mergeinfo, Tells}
use Rattle.fsfs_jobs.specs.JobEdits.Editing.{Bars, IsEditing}
use Rattle.fsfs_jobs.proofs.TellLemmas.{stays_refused, or_memory, failed_as}
use Rattle.fsfs_jobs.proofs.MakeLemmas.{can_free, free_fits, lacks_make, file_make, there_make, there_found, lacks_above_unfound, file_above_unfound, free_unfound, above_length}

pub root_of : (path : Path) → is_root path ≡ true → path ≡ []
root_of [] h = refl
root_of (x ∷ p) h = absurd cc

pub named_of : (path : Path) → is_root path ≡ false → 0 < length path
named_of [] h = absurd cc
named_of (x ∷ p) h = omega arith

module _ (look : RevisionBytes) (trees : ℕ → TreeFunction) (top base : ℕ) (txn : TxnName) (before : Folder) (tree : TreeFunction) (marks : List Mark) (revs : AreRevisions trees top) (stands : Stands look trees top base txn before tree marks) (path : Path) (after : Folder) where
  abbrev Is : IsTree tree
  Is = is_tree look trees top base txn before tree marks revs stands

  abbrev First : Own
  First = stands.shows.0.shows.own

  abbrev Bars_dir : Fault → Type 0
  Bars_dir fault = Bars look trees top base txn tree marks (MakeDir path) fault

  pub make_dir : (outcome : Result Made TxnError) (result : Result (Unit {0}) Fault) → IsMaking IfStays look trees top base txn First tree marks path Dir before after outcome → Tells fault_of_failure (made_fault path) outcome result
      → IsEditing (MakeDir path) txn base after result look trees top tree marks
  make_dir (Ok mades.Done) (Ok done) m t = (record { fits = free_fits tree Is path (can_free tree path m.2.accepted); space = m.1; short = refl }, m.2.stands)
  make_dir (Ok mades.Done) (Err fault) m t = absurd t
  make_dir (Ok (mades.NotFound depth)) (Ok done) m t = absurd t
  make_dir (Ok (mades.NotFound depth)) (Err fault) m t = or_memory Bars_dir (found_nothing path depth) fault t (inl (ByTrees (found_nothing path depth) (lacks_make tree Is path depth m.0)))
  make_dir (Ok (mades.NotDir depth)) (Ok done) m t = absurd t
  make_dir (Ok (mades.NotDir depth)) (Err fault) m t = or_memory Bars_dir (found_file path depth) fault t (inl (ByTrees (found_file path depth) (file_make tree Is path depth m.0)))
  make_dir (Ok mades.Exists) (Ok done) m t = absurd t
  make_dir (Ok mades.Exists) (Err fault) m t = or_memory Bars_dir (is_there path) fault t (inl (ByTrees (is_there path) (there_make tree Is path m.0)))
  make_dir (Ok mades.Mergeinfo) (Ok done) m t = absurd t
  make_dir (Ok mades.Mergeinfo) (Err fault) m t = or_memory Bars_dir (counts_mergeinfo path) fault t (inr (record { fits = free_fits tree Is path m.0; meets = (before, stands, m.1); fault_is = refl }))
  make_dir (Ok mades.TooManyEntries) (Ok done) m t = absurd t
  make_dir (Ok mades.TooManyEntries) (Err fault) m t = or_memory Bars_dir (Limit TooManyEntries) fault t (inl (Full (free_fits tree Is path m.0) m.2))
  make_dir (Err e) (Ok done) m t = absurd cc
  make_dir (Err e) (Err fault) m t = failed_as Bars_dir (fault_of_failure e) fault t (stays_refused e (after ≡ before) (Bars_dir (fault_of_failure e)) m)

  abbrev Bars_file : Fault → Type 0
  Bars_file fault = Bars look trees top base txn tree marks (MakeFile path) fault

  pub make_file : (outcome : Result Made TxnError) (result : Result (Unit {0}) Fault) → IsMaking IfStays look trees top base txn First tree marks path File before after outcome → Tells fault_of_failure (made_fault path) outcome result
      → IsEditing (MakeFile path) txn base after result look trees top tree marks
  make_file (Ok mades.Done) (Ok done) m t = (record { fits = free_fits tree Is path (can_free tree path m.2.accepted); space = m.1; short = refl }, m.2.stands)
  make_file (Ok mades.Done) (Err fault) m t = absurd t
  make_file (Ok (mades.NotFound depth)) (Ok done) m t = absurd t
  make_file (Ok (mades.NotFound depth)) (Err fault) m t = or_memory Bars_file (found_nothing path depth) fault t (inl (ByTrees (found_nothing path depth) (lacks_make tree Is path depth m.0)))
  make_file (Ok (mades.NotDir depth)) (Ok done) m t = absurd t
  make_file (Ok (mades.NotDir depth)) (Err fault) m t = or_memory Bars_file (found_file path depth) fault t (inl (ByTrees (found_file path depth) (file_make tree Is path depth m.0)))
  make_file (Ok mades.Exists) (Ok done) m t = absurd t
  make_file (Ok mades.Exists) (Err fault) m t = or_memory Bars_file (is_there path) fault t (inl (ByTrees (is_there path) (there_make tree Is path m.0)))
  make_file (Ok mades.Mergeinfo) (Ok done) m t = absurd t
  make_file (Ok mades.Mergeinfo) (Err fault) m t = or_memory Bars_file (counts_mergeinfo path) fault t (inr (record { fits = free_fits tree Is path m.0; meets = (before, stands, m.1); fault_is = refl }))
  make_file (Ok mades.TooManyEntries) (Ok done) m t = absurd t
  make_file (Ok mades.TooManyEntries) (Err fault) m t = or_memory Bars_file (Limit TooManyEntries) fault t (inl (Full (free_fits tree Is path m.0) m.2))
  make_file (Err e) (Ok done) m t = absurd cc
  make_file (Err e) (Err fault) m t = failed_as Bars_file (fault_of_failure e) fault t (stays_refused e (after ≡ before) (Bars_file (fault_of_failure e)) m)

  abbrev Bars_delete : Fault → Type 0
  Bars_delete fault = Bars look trees top base txn tree marks (Delete path) fault

  no_root : 0 < length path → (p : Path) → p ≡ path → root_fixed p ≡ None
  no_root some [] e = absurd (omega (arith, some, ap length e))
  no_root some (x ∷ p) e = refl

  -- the rows of a delete are those of what is found
  by_found : (fault : Fault) → unfound (found_at tree path) ≡ Some fault → delete_fault tree path ≡ Some fault
  by_found fault e = ap (λ (o : Option Fault). or_else o (root_fixed path)) e

  deleted_fits : 0 < length path → is_some (tree path) ≡ true → delete_fault tree path ≡ None
  deleted_fits some there = ap (λ (o : Option Fault). or_else o (root_fixed path)) (there_found tree Is path there) ∙ no_root some path refl

  accepted_there : not (is_root path) && is_some (tree path) ≡ true → is_some (tree path) ≡ true
  accepted_there h = (and_parts (not (is_root path)) (is_some (tree path)) h).1

  not_root : 0 < length path → path ≡ [] → ⊥
  not_root some e = omega (arith, some, ap length e)

  file_depth : 0 < length path → (depth : ℕ) → IsNoDirectory tree (parent path) depth → depth < length path
  file_depth some depth (inl b) = omega (arith, some, b.within, above_length path)
  file_depth some depth (inr b) = omega (arith, some, b.0, above_length path)

  pub delete_at : 0 < length path → (outcome : Result Deleted TxnError) (result : Result (Unit {0}) Fault) → IsDeleting IfStays look trees top base txn First tree marks path before after outcome → Tells fault_of_failure (deleted_fault path) outcome result
      → IsEditing (Delete path) txn base after result look trees top tree marks
  delete_at some (Ok deletes.Done) (Ok done) m t = (record { fits = deleted_fits some (accepted_there m.1.accepted); space = tt; short = refl }, m.1.stands)
  delete_at some (Ok deletes.Done) (Err fault) m t = absurd t
  delete_at some (Ok (deletes.NotFound depth)) (Ok done) m t = absurd t
  delete_at some (Ok (deletes.NotFound depth)) (Err fault) m t = or_memory Bars_delete (found_nothing path depth) fault t (inl (ByTrees (found_nothing path depth) (by_found (found_nothing path depth) (lacks_above_unfound tree Is path depth m.0))))
  delete_at some (Ok (deletes.NotDir depth)) (Ok done) m t = absurd t
  delete_at some (Ok (deletes.NotDir depth)) (Err fault) m t = or_memory Bars_delete (found_file path depth) fault t (inl (ByTrees (found_file path depth) (by_found (found_file path depth) (file_above_unfound tree Is path depth (file_depth some depth m.0) m.0))))
  delete_at some (Ok deletes.Absent) (Ok done) m t = absurd t
  delete_at some (Ok deletes.Absent) (Err fault) m t = or_memory Bars_delete (Request (NotFound path)) fault t (inl (ByTrees (Request (NotFound path)) (by_found (Request (NotFound path)) (free_unfound tree Is path some m.0))))
  delete_at some (Ok deletes.RootFixed) (Ok done) m t = absurd t
  delete_at some (Ok deletes.RootFixed) (Err fault) m t = absurd (not_root some m.0)
  delete_at some (Ok deletes.Mergeinfo) (Ok done) m t = absurd t
  delete_at some (Ok deletes.Mergeinfo) (Err fault) m t = or_memory Bars_delete (counts_mergeinfo path) fault t (inr (record { fits = deleted_fits some m.0; meets = (before, stands, m.1); fault_is = refl }))
  delete_at some (Err e) (Ok done) m t = absurd cc
  delete_at some (Err e) (Err fault) m t = failed_as Bars_delete (fault_of_failure e) fault t (stays_refused e (after ≡ before) (Bars_delete (fault_of_failure e)) m)

  -- the root stays
  pub root_stays : path ≡ [] → IsEditing (Delete path) txn base after (Err (Request RootFixed)) look trees top tree marks
  root_stays root =
      let there : is_some (tree path) ≡ true = ap (λ (p : Path). is_some (tree p)) root ∙ ap (λ (o : Option Node). is_some o) Is.root.1 in
      let fixed : root_fixed path ≡ Some (Request RootFixed) = ap root_fixed root in
      inl (ByTrees (Request RootFixed) (ap (λ (o : Option Fault). or_else o (root_fixed path)) (there_found tree Is path there) ∙ fixed))
