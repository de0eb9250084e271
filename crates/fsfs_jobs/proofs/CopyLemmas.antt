-- Copies, from what the calls of a transaction tell.
use Rattle.std.proofs.Common.{◌≡◌, ◌<◌, ◌≤◌, ℕ, Bool, true, ◌&&◌, List, [], length, take, refl, sym, ap, subst, ◌∙◌, inl, inr, arith}
use Rattle.std.proofs.lemmas.Bool.{and_parts, leb-true, le-leb, lt-leb}
use Rattle.std.proofs.lemmas.List.{take_all}
use Rattle.std.specs.Prelude.{Option, Some, None, is_some, nat_le, if◌then◌else◌, Result, Ok, Err}
use Rattle.fsfs_base.specs.Paths.{Path}
use Rattle.fsfs_base.specs.declared.kind.Kind.{Kind}
use Rattle.fsfs_base.specs.declared.kind.Kind.TheVariants.{Dir}
use Rattle.fsfs_tree.specs.Nodes.{Node, TreeFunction}
use Rattle.fsfs_tree.specs.Trees.{IsTree}
use Rattle.fsfs_tree.specs.Histories.{AreRevisions}
use Rattle.fsfs_model.specs.Flat.Edits.{parent, can_make}
use Rattle.fsfs_model.specs.Flat.Transactions.{Begun}
use Rattle.fsfs_model.specs.declared.flat.mark.Mark.{Mark}
use Rattle.fsfs_model.proofs.Legal.{landing_leaves_a_tree}
use Rattle.fsfs_base.specs.Fields.RevNums.{last_rev}
use Rattle.fsfs_base.specs.declared.fields.txn_name.TxnName.{TxnName}
use Rattle.fsfs_tree.specs.Answers.{found_at}
use Rattle.fsfs_revision.specs.Told.{RevisionBytes}
use Rattle.fsfs_noderev.specs.declared.node_rev.CopySource.{CopySource}
use Rattle.fsfs_revision.specs.Shows.ByTree.{LacksAt, IsBlockedAt}
use Rattle.fsfs_draft.specs.Own.{Own}
use Rattle.fsfs_draft.specs.Drafts.{Folder}
use Rattle.fsfs_draft.specs.Walks.{HasKind}
use Rattle.fsfs_draft.proofs.OwnEntries.{has_kind}
use Rattle.fsfs_txn.specs.Spending.{IfStays, IsFailure}
use Rattle.fsfs_txn.specs.Standing.{Stands, IsFree}
use Rattle.fsfs_txn.specs.Edits.Copying.{IsCopying, MeetsEither}
use Rattle.fsfs_txn.specs.Opening.{IsOpeningPath}
use Rattle.fsfs_txn.specs.declared.txn_error.TxnError.{TxnError}
use Rattle.fsfs_txn.specs.declared.edits.copying.Copied.{Copied}
use Rattle.fsfs_txn.specs.declared.edits.copying.Copied.TheVariants as copies
use Rattle.fsfs_txn.specs.declared.opening.Opened.{Opened}
use Rattle.fsfs_txn.specs.declared.opening.PathOpened.TheVariants as paths
use Rattle.fsfs_txn.proofs.Meeting.{is_tree}
use Rattle.fsfs_script.specs.declared.job_lines.edit.CopyFrom.{CopyFrom}
use Rattle.fsfs_script.specs.declared.job_lines.edit.Edit.TheVariants.{Copy}
use Rattle.fsfs_cli.specs.declared.faults.fault.Fault.{Fault}
use Rattle.fsfs_cli.specs.declared.faults.fault.Fault.TheVariants.{Words, Request, Repository, Outside, Memory, Limit}
use Rattle.fsfs_cli.specs.declared.faults.request_fault.RequestFault.TheVariants.{NoRev}
use Rattle.fsfs_cli.specs.declared.faults.limit_fault.LimitFault.TheVariants.{TooManyEntries}
use Rattle.fsfs_jobs.specs.Edits.{or_else, unfound, no_rev, make_fault, copy_fault, ByTrees, Full}
use Rattle.fsfs_jobs.specs.JobEdits.Answers.{fault_of_failure, copied_fault, found_nothing, found_file, is_there, counts_mergeinfo, IsOrMemory, Tells}
use Rattle.fsfs_jobs.specs.JobEdits.Editing.{IfRefused, Bars, IsEditing, IsNoRev, MeetsMergeinfo}
use Rattle.fsfs_jobs.proofs.TellLemmas.{stays_refused, failure_refused, or_memory, failed_as}
use Rattle.fsfs_jobs.proofs.MakeLemmas.{can_free, free_fits, lacks_make, file_make, there_make, there_found, lacks_unfound, file_unfound, above_length, lacks_in_parent, blocked_make}

pub rev_there : (rev top : ℕ) → rev ≤ top → no_rev rev top ≡ None
rev_there rev top le = ap (λ (b : Bool). if b then None else Some (Request (NoRev rev top))) (le-leb rev top le)

pub rev_lacking : (rev top : ℕ) → top < rev → no_rev rev top ≡ Some (Request (NoRev rev top))
rev_lacking rev top lt = ap (λ (b : Bool). if b then None else Some (Request (NoRev rev top))) (lt-leb rev top lt)

module _ (look : RevisionBytes) (trees : ℕ → TreeFunction) (top base : ℕ) (txn : TxnName) (before : Folder) (tree : TreeFunction) (marks : List Mark) (revs : AreRevisions trees top) (stands : Stands look trees top base txn before tree marks) (copy : CopyFrom) (after : Folder) where
  abbrev Is : IsTree tree
  Is = is_tree look trees top base txn before tree marks revs stands

  abbrev First : Own
  First = stands.shows.0.shows.own

  abbrev From : CopySource
  From = record { rev = copy.rev; path = copy.from }

  abbrev Bars_copy : Fault → Type 0
  Bars_copy fault = Bars look trees top base txn tree marks (Copy copy) fault

  abbrev Rest : Option Fault
  Rest = or_else (no_rev copy.rev top) (unfound (found_at (trees copy.rev) copy.from))

  of_revision : copy.rev ≤ top → IsTree (trees copy.rev)
  of_revision le = landing_leaves_a_tree.own trees top copy.rev (trees copy.rev) [] revs (Begun copy.rev le)

  by_target : (fault : Fault) → make_fault tree copy.to ≡ Some fault → copy_fault trees top tree copy.rev copy.from copy.to ≡ Some fault
  by_target fault e = ap (λ (o : Option Fault). or_else o Rest) e

  free_target : IsFree tree copy.to → copy_fault trees top tree copy.rev copy.from copy.to ≡ Rest
  free_target f = ap (λ (o : Option Fault). or_else o Rest) (free_fits tree Is copy.to f)

  by_rev : (fault : Fault) → IsFree tree copy.to → no_rev copy.rev top ≡ Some fault → copy_fault trees top tree copy.rev copy.from copy.to ≡ Some fault
  by_rev fault f e = free_target f ∙ ap (λ (o : Option Fault). or_else o (unfound (found_at (trees copy.rev) copy.from))) e

  by_source : (o : Option Fault) → IsFree tree copy.to → copy.rev ≤ top → unfound (found_at (trees copy.rev) copy.from) ≡ o → copy_fault trees top tree copy.rev copy.from copy.to ≡ o
  by_source o f le e = free_target f ∙ ap (λ (x : Option Fault). or_else x (unfound (found_at (trees copy.rev) copy.from))) (rev_there copy.rev top le) ∙ e

  copied_fits : IsFree tree copy.to → copy.rev ≤ top → is_some (trees copy.rev copy.from) ≡ true → copy_fault trees top tree copy.rev copy.from copy.to ≡ None
  copied_fits f le there = by_source None f le (there_found (trees copy.rev) (of_revision le) copy.from there)

  accepted_fits : (can_make tree copy.to && nat_le copy.rev top && is_some (trees copy.rev copy.from)) ≡ true → copy_fault trees top tree copy.rev copy.from copy.to ≡ None
  accepted_fits h =
      let a = and_parts (can_make tree copy.to && nat_le copy.rev top) (is_some (trees copy.rev copy.from)) h in
      let b = and_parts (can_make tree copy.to) (nat_le copy.rev top) a.0 in
      copied_fits (can_free tree copy.to b.0) (leb-true copy.rev top b.1) a.1

  lacking_rev : (youngest : ℕ) (fault : Fault) → IsFree tree copy.to → youngest ≡ top → top < copy.rev → IsOrMemory (Request (NoRev copy.rev youngest)) fault → IfRefused fault (Bars_copy fault)
  lacking_rev youngest fault f y lt t =
      let told : IsOrMemory (Request (NoRev copy.rev top)) fault = subst (λ (n : ℕ). IsOrMemory (Request (NoRev copy.rev n)) fault) y t in
      or_memory Bars_copy (Request (NoRev copy.rev top)) fault told (inl (ByTrees (Request (NoRev copy.rev top)) (by_rev (Request (NoRev copy.rev top)) f (rev_lacking copy.rev top lt))))

  either : MeetsEither look trees base First copy.to From → MeetsMergeinfo look trees top base txn tree marks (Copy copy)
  either (inl way) = inl (before, stands, way)
  either (inr source) = inr source

  pub copy_at : (outcome : Result Copied TxnError) (result : Result (Unit {0}) Fault) → IsCopying IfStays look trees top base txn First tree marks copy.to From before after outcome → Tells fault_of_failure (copied_fault copy.rev copy.from copy.to) outcome result
      → IsEditing (Copy copy) txn base after result look trees top tree marks
  copy_at (Ok copies.Done) (Ok done) m t = (record { fits = accepted_fits m.2.accepted; space = m.1; short = refl }, m.2.stands)
  copy_at (Ok copies.Done) (Err fault) m t = absurd t
  copy_at (Ok (copies.NotFound depth)) (Ok done) m t = absurd t
  copy_at (Ok (copies.NotFound depth)) (Err fault) m t = or_memory Bars_copy (found_nothing copy.to depth) fault t (inl (ByTrees (found_nothing copy.to depth) (by_target (found_nothing copy.to depth) (lacks_make tree Is copy.to depth m.0))))
  copy_at (Ok (copies.NotDir depth)) (Ok done) m t = absurd t
  copy_at (Ok (copies.NotDir depth)) (Err fault) m t = or_memory Bars_copy (found_file copy.to depth) fault t (inl (ByTrees (found_file copy.to depth) (by_target (found_file copy.to depth) (file_make tree Is copy.to depth m.0))))
  copy_at (Ok copies.Exists) (Ok done) m t = absurd t
  copy_at (Ok copies.Exists) (Err fault) m t = or_memory Bars_copy (is_there copy.to) fault t (inl (ByTrees (is_there copy.to) (by_target (is_there copy.to) (there_make tree Is copy.to m.0))))
  copy_at (Ok (copies.NoRev youngest)) (Ok done) m t = absurd t
  copy_at (Ok (copies.NoRev youngest)) (Err fault) m t = lacking_rev youngest fault m.0 m.1 m.2 t
  copy_at (Ok (copies.SourceNotFound depth)) (Ok done) m t = absurd t
  copy_at (Ok (copies.SourceNotFound depth)) (Err fault) m t = or_memory Bars_copy (found_nothing copy.from depth) fault t (inl (ByTrees (found_nothing copy.from depth) (by_source (Some (found_nothing copy.from depth)) m.0 m.1 (lacks_unfound (trees copy.rev) (of_revision m.1) copy.from depth m.2))))
  copy_at (Ok (copies.SourceNotDir depth)) (Ok done) m t = absurd t
  copy_at (Ok (copies.SourceNotDir depth)) (Err fault) m t = or_memory Bars_copy (found_file copy.from depth) fault t (inl (ByTrees (found_file copy.from depth) (by_source (Some (found_file copy.from depth)) m.0 m.1 (file_unfound (trees copy.rev) (of_revision m.1) copy.from depth m.2))))
  copy_at (Ok copies.Mergeinfo) (Ok done) m t = absurd t
  copy_at (Ok copies.Mergeinfo) (Err fault) m t = or_memory Bars_copy (counts_mergeinfo copy.to) fault t (inr (record { fits = copied_fits m.0 m.1 m.2; meets = either m.3; fault_is = refl }))
  copy_at (Ok copies.TooManyEntries) (Ok done) m t = absurd t
  copy_at (Ok copies.TooManyEntries) (Err fault) m t = or_memory Bars_copy (Limit TooManyEntries) fault t (inl (Full (copied_fits m.0 m.1 m.2) m.4))
  copy_at (Err e) (Ok done) m t = absurd cc
  copy_at (Err e) (Err fault) m t = failed_as Bars_copy (fault_of_failure e) fault t (stays_refused e (after ≡ before) (Bars_copy (fault_of_failure e)) m)

  -- ---- of a revision whose number is above all: what was opened at the target tells what is in the way there

  pub there_at : (opened : Opened) (fault : Fault) → IsOpeningPath {E = TxnError} IsFailure look trees base First tree copy.to (Ok (paths.Node opened)) → IsOrMemory (is_there copy.to) fault → IfRefused fault (Bars_copy fault)
  there_at opened fault o t =
      let there : is_some (tree copy.to) ≡ true = some_of (tree copy.to) opened.kind o.0 in
      or_memory Bars_copy (is_there copy.to) fault t (inl (ByTrees (is_there copy.to) (by_target (is_there copy.to) (there_make tree Is copy.to there))))
    where
      some_of : (x : Option Node) (kind : Kind) → HasKind x kind → is_some x ≡ true
      some_of None kind h = absurd h
      some_of (Some n) kind h = refl

  -- fewer names than all lead to nothing
  pub lacks_at : (depth : ℕ) (fault : Fault) → depth < length copy.to → LacksAt tree copy.to depth → IsOrMemory (found_nothing copy.to depth) fault → IfRefused fault (Bars_copy fault)
  lacks_at depth fault lt l t =
      let up : depth ≤ length (parent copy.to) = omega (arith, lt, above_length copy.to) in
      or_memory Bars_copy (found_nothing copy.to depth) fault t (inl (ByTrees (found_nothing copy.to depth) (by_target (found_nothing copy.to depth) (lacks_make tree Is copy.to depth (lacks_in_parent tree copy.to depth up l)))))

  -- all of them do: the target is free
  pub free_at : (depth : ℕ) → (depth < length copy.to → ⊥) → LacksAt tree copy.to depth → IsFree tree copy.to
  free_at depth all l =
      let whole : depth ≡ length copy.to = omega (arith, all, l.within) in
      let same : take depth copy.to ≡ copy.to = take_all depth copy.to (omega (arith, whole)) in
      let up : take l.above copy.to ≡ parent copy.to = ap (λ (k : ℕ). take k copy.to) (omega (arith, whole, l.depth_is)) in
      (subst (λ (p : Path). HasKind (tree p) Dir) up (has_kind (tree (take l.above copy.to)) l.dir Dir l.dir_is l.kind), ap tree (sym same) ∙ l.nothing)

  pub no_rev_at : (fault : Fault) → last_rev < copy.rev → IsFree tree copy.to → IsNoRev copy.rev top fault → IfRefused fault (Bars_copy fault)
  no_rev_at fault above f t = go fault t
    where
      bars : top ≤ last_rev → Bars_copy (Request (NoRev copy.rev top))
      bars within = inl (ByTrees (Request (NoRev copy.rev top)) (by_rev (Request (NoRev copy.rev top)) f (rev_lacking copy.rev top (omega (arith, above, within)))))

      go : (fault : Fault) → IsNoRev copy.rev top fault → IfRefused fault (Bars_copy fault)
      go (Request why) t = subst Bars_copy (sym t.0) (bars t.1)
      go (Limit why) t = subst Bars_copy (sym t.0) (bars t.1)
      go (Words why) t = absurd t
      go (Repository why) t = absurd t
      go (Outside why) t = tt
      go Memory t = tt

  pub file_in_way : (depth : ℕ) (fault : Fault) → IsBlockedAt tree copy.to depth → IsOrMemory (found_file copy.to depth) fault → IfRefused fault (Bars_copy fault)
  file_in_way depth fault b t = or_memory Bars_copy (found_file copy.to depth) fault t (inl (ByTrees (found_file copy.to depth) (by_target (found_file copy.to depth) (blocked_make tree Is copy.to depth b))))

  pub opening_failed : (e : TxnError) (fault : Fault) → IsFailure e → fault ≡ fault_of_failure e → IfRefused fault (Bars_copy fault)
  opening_failed e fault h is = subst (λ (f : Fault). IfRefused f (Bars_copy f)) (sym is) (failure_refused e (Bars_copy (fault_of_failure e)) h)
