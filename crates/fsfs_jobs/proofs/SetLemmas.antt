-- Properties and texts, from what the calls of a transaction tell.
use Rattle.std.proofs.Common.{◌≡◌, ℕ, Bool, true, false, ◌||◌, List, [], ◌∷◌, ◌++◌, refl, sym, ap, subst, ◌∙◌, inl, inr}
use Rattle.std.proofs.lemmas.Bool.{false≢true, or_parts}
use Rattle.std.specs.Prelude.{Option, Some, None, is_some, if◌then◌else◌, Result, Ok, Err, Vec}
use Rattle.std.specs.Global.{Global}
use Rattle.fsfs_base.specs.Paths.{Path}
use Rattle.fsfs_base.specs.declared.kind.Kind.{Kind}
use Rattle.fsfs_base.specs.declared.fields.txn_name.TxnName.{TxnName}
use Rattle.fsfs_tree.specs.Nodes.{TreeFunction}
use Rattle.fsfs_tree.specs.Trees.{IsTree}
use Rattle.fsfs_tree.specs.Histories.{AreRevisions}
use Rattle.fsfs_model.specs.Flat.Edits.{kind_of_node, with_node, with_prop, bytes_of, fits_value}
use Rattle.fsfs_model.specs.declared.flat.mark.Mark.{Mark}
use Rattle.fsfs_model.specs.declared.flat.mark.What.TheVariants as whats
use Rattle.fsfs_revision.specs.Told.{RevisionBytes}
use Rattle.fsfs_draft.specs.Drafts.{Folder}
use Rattle.fsfs_draft.specs.Walks.{HasKind}
use Rattle.fsfs_revision.specs.Shows.ByTree.{LacksAt, IsBlockedAt}
use Rattle.fsfs_txn.specs.Edits.Mergeinfo.{Counts}
use Rattle.fsfs_txn.specs.Edits.Properties.{is_mergeinfo, is_barred, IsSettingProp}
use Rattle.fsfs_txn.specs.Standing.{Stands}
use Rattle.fsfs_txn.specs.declared.txn_error.TxnError.{TxnError}
use Rattle.fsfs_txn.specs.declared.opening.Opened.{Opened}
use Rattle.fsfs_txn.specs.declared.edits.properties.PropertySet.{PropertySet}
use Rattle.fsfs_txn.specs.declared.edits.properties.PropertySet.TheVariants as sets
use Rattle.fsfs_txn.proofs.Meeting.{is_tree}
use Rattle.fsfs_script.specs.declared.job_lines.edit.SetProp.{SetProp}
use Rattle.fsfs_script.specs.declared.job_lines.edit.Edit.TheVariants.{Prop}
use Rattle.fsfs_cli.specs.declared.faults.fault.Fault.{Fault}
use Rattle.fsfs_cli.specs.declared.faults.fault.Fault.TheVariants.{Words, Request, Repository, Outside, Memory, Limit}
use Rattle.fsfs_cli.specs.declared.faults.request_fault.RequestFault.TheVariants.{Mergeinfo}
use Rattle.fsfs_cli.specs.declared.faults.limit_fault.LimitFault.TheVariants.{PropTooLong}
use Rattle.fsfs_jobs.specs.Edits.{or_else, no_mergeinfo, prop_fault, too_long, ByTrees, Long}
use Rattle.fsfs_jobs.specs.JobEdits.Answers.{fault_of_left, fault_of_failure, property_fault, found_nothing, found_file, counts_mergeinfo, IsOrMemory, Tells}
use Rattle.fsfs_jobs.specs.JobEdits.Editing.{IfRefused, Bars, IsEditing, MeetsOnWay, IsSetAt, RefusesProp, OfName, OfCount, OfValue}
use Rattle.fsfs_txn.specs.Spending.{IsFailure}
use Rattle.fsfs_jobs.proofs.TellLemmas.{left_refused, failure_refused, or_memory, failed_as}
use Rattle.fsfs_jobs.proofs.MakeLemmas.{there_found, lacks_unfound, file_unfound}
use Rattle.fsfs_edit.proofs.MakingAt.{kind_some}

pub refused_more : (P Q : Type 0) (fault : Fault) → (P → Q) → IfRefused fault P → IfRefused fault Q
refused_more P Q (Request why) f p = f p
refused_more P Q (Limit why) f p = f p
refused_more P Q (Words why) f p = p
refused_more P Q (Repository why) f p = p
refused_more P Q (Outside why) f p = p
refused_more P Q Memory f p = p

pub memory_only : (P : Type 0) (fault : Fault) → IsOrMemory Memory fault → IfRefused fault P
memory_only P fault (inl e) = subst (λ (f : Fault). IfRefused f P) (sym e) tt
memory_only P fault (inr e) = subst (λ (f : Fault). IfRefused f P) (sym e) tt

or_true : (a b : Bool) → (a || b) ≡ true → b ≡ false → a ≡ true
or_true true b h not_b = refl
or_true false b h not_b = absurd (false≢true (sym not_b ∙ h))

-- ---- the property svn:mergeinfo

abbrev pub mergeinfo_row : Path → Bool → Option Fault
mergeinfo_row path b = if b then Some (Request (Mergeinfo path)) else None

plain_name : (name : List ℕ) (path : Path) → is_mergeinfo name ≡ false → no_mergeinfo name path ≡ None
plain_name name path e = ap (mergeinfo_row path) e

barred_name : (name : List ℕ) (path : Path) → is_mergeinfo name ≡ true → no_mergeinfo name path ≡ Some (counts_mergeinfo path)
barred_name name path e = ap (mergeinfo_row path) e

abbrev value_row : Bool → Option Fault
value_row b = if b then None else Some (Limit PropTooLong)

module _ (look : RevisionBytes) (trees : ℕ → TreeFunction) (top base : ℕ) (txn : TxnName) (before : Folder) (tree : TreeFunction) (marks : List Mark) (moves : ℕ) (opened : Opened) (set : SetProp) (value : Option (Vec ℕ Global)) (path_is : opened.way.path ≡ set.path) (value_is : bytes_of value ≡ set.value) (after : Folder) where
  abbrev StandsSet : Path → Option (List ℕ) → Type 0
  StandsSet p v = Stands look trees top base txn after (with_node tree p (with_prop set.name v (tree p))) (marks ++ record { path = p; kind = kind_of_node (tree p); what = whats.Prop } ∷ [])

  barred : (b : Bool) (fault : Fault) → is_mergeinfo set.name ≡ b → is_barred opened set.name ≡ true → IsOrMemory (counts_mergeinfo set.path) fault → IfRefused fault (RefusesProp opened.counted set fault)
  barred true fault e h t = or_memory (RefusesProp opened.counted set) (counts_mergeinfo set.path) fault t (OfName (counts_mergeinfo set.path) (barred_name set.name set.path e))
  barred false fault e h t = or_memory (RefusesProp opened.counted set) (counts_mergeinfo set.path) fault t (OfCount (plain_name set.name set.path e) (or_true opened.counted (is_mergeinfo set.name) h e))

  pub set_at : (outcome : Result PropertySet TxnError) (result : Result (Unit {0}) Fault) → IsSettingProp look trees top base txn tree marks moves opened set.name value before after outcome → Tells fault_of_left (property_fault set.path) outcome result
      → IsSetAt look trees top base txn tree marks opened.counted set after result
  set_at (Ok sets.Done) (Ok done) m t =
      let plain = or_parts opened.counted (is_mergeinfo set.name) m.0 in
      let short : too_long (Prop set) ≡ None = ap (λ (v : Option (List ℕ)). value_row (fits_value v)) (sym value_is) ∙ ap value_row m.1 in
      let first : StandsSet opened.way.path (bytes_of value) = m.2.stands in
      let there : StandsSet set.path (bytes_of value) = subst (λ (p : Path). StandsSet p (bytes_of value)) path_is first in
      record { named = plain_name set.name set.path plain.1; short = short; stands = subst (StandsSet set.path) value_is there }
  set_at (Ok sets.Done) (Err fault) m t = absurd t
  set_at (Ok (sets.Stale was now)) (Ok done) m t = absurd t
  set_at (Ok (sets.Stale was now)) (Err fault) m t = memory_only (RefusesProp opened.counted set fault) fault t
  set_at (Ok sets.Mergeinfo) (Ok done) m t = absurd t
  set_at (Ok sets.Mergeinfo) (Err fault) m t = barred (is_mergeinfo set.name) fault refl m.0 t
  set_at (Ok sets.TooLong) (Ok done) m t = absurd t
  set_at (Ok sets.TooLong) (Err fault) m t =
      let plain = or_parts opened.counted (is_mergeinfo set.name) m.0 in
      let long : too_long (Prop set) ≡ Some (Limit PropTooLong) = ap (λ (v : Option (List ℕ)). value_row (fits_value v)) (sym value_is) ∙ ap value_row m.1 in
      or_memory (RefusesProp opened.counted set) (Limit PropTooLong) fault t (OfValue (Limit PropTooLong) (plain_name set.name set.path plain.1) long)
  set_at (Err e) (Ok done) m t = absurd cc
  set_at (Err e) (Err fault) m t = failed_as (RefusesProp opened.counted set) (fault_of_left e) fault t (left_refused e (RefusesProp opened.counted set (fault_of_left e)))

-- ---- at a path

module _ (look : RevisionBytes) (trees : ℕ → TreeFunction) (top base : ℕ) (txn : TxnName) (before : Folder) (tree : TreeFunction) (marks : List Mark) (revs : AreRevisions trees top) (stands : Stands look trees top base txn before tree marks) (set : SetProp) (after : Folder) where
  abbrev Is : IsTree tree
  Is = is_tree look trees top base txn before tree marks revs stands

  abbrev Bars_set : Fault → Type 0
  Bars_set fault = Bars look trees top base txn tree marks (Prop set) fault

  set_rows : is_some (tree set.path) ≡ true → (o : Option Fault) → no_mergeinfo set.name set.path ≡ o → prop_fault tree set.path set.name ≡ o
  set_rows there o e = ap (λ (x : Option Fault). or_else x (no_mergeinfo set.name set.path)) (there_found tree Is set.path there) ∙ e

  on_way : (counted : Bool) → counted ≡ true → Counts look trees base stands.shows.0.shows.own set.path counted → MeetsOnWay look trees top base txn tree marks set.path
  on_way counted e c = (before, stands, subst (λ (b : Bool). Counts look trees base stands.shows.0.shows.own set.path b) e c)

  refused_set : is_some (tree set.path) ≡ true → (counted : Bool) (fault : Fault) → Counts look trees base stands.shows.0.shows.own set.path counted → RefusesProp counted set fault → Bars_set fault
  refused_set there counted fault c (OfName f e) = inl (ByTrees f (set_rows there (Some f) e))
  refused_set there counted fault c (OfCount e is) = inr (record { fits = set_rows there None e; meets = on_way counted is c; fault_is = refl })
  refused_set there counted fault c (OfValue f e long) = inl (Long f (set_rows there None e) tt long)

  pub set_here : (kind : Kind) (counted : Bool) (result : Result (Unit {0}) Fault) → HasKind (tree set.path) kind → Counts look trees base stands.shows.0.shows.own set.path counted → IsSetAt look trees top base txn tree marks counted set after result
      → IsEditing (Prop set) txn base after result look trees top tree marks
  set_here kind counted (Ok done) h c s = (record { fits = set_rows (kind_some (tree set.path) kind h) None s.named; space = tt; short = s.short }, s.stands)
  set_here kind counted (Err fault) h c s = refused_more (RefusesProp counted set fault) (Bars_set fault) fault (refused_set (kind_some (tree set.path) kind h) counted fault c) s

  pub set_nowhere : (depth : ℕ) (fault : Fault) → LacksAt tree set.path depth → IsOrMemory (found_nothing set.path depth) fault → IfRefused fault (Bars_set fault)
  set_nowhere depth fault l t = or_memory Bars_set (found_nothing set.path depth) fault t (inl (ByTrees (found_nothing set.path depth) (ap (λ (x : Option Fault). or_else x (no_mergeinfo set.name set.path)) (lacks_unfound tree Is set.path depth l))))

  pub set_below_file : (depth : ℕ) (fault : Fault) → IsBlockedAt tree set.path depth → IsOrMemory (found_file set.path depth) fault → IfRefused fault (Bars_set fault)
  set_below_file depth fault b t = or_memory Bars_set (found_file set.path depth) fault t (inl (ByTrees (found_file set.path depth) (ap (λ (x : Option Fault). or_else x (no_mergeinfo set.name set.path)) (file_unfound tree Is set.path depth b))))

-- what is so of a result, is so of what it is found to be
pub as_found : {T E : Type 0} (P : Result T E → Type 0) (r : Result T E) (o x : T) → r ≡ Ok o → o ≡ x → P r → P (Ok x)
as_found {T = T} {E = E} P r o x is at h = subst (λ (y : T). P (Ok y)) at (subst (λ (z : Result T E). P z) is h)

-- a path was not opened for a failure
pub not_opened : (P : Fault → Type 0) (e : TxnError) (fault : Fault) → IsFailure e → fault ≡ fault_of_failure e → IfRefused fault (P fault)
not_opened P e fault h is = subst (λ (f : Fault). IfRefused f (P f)) (sym is) (failure_refused e (P (fault_of_failure e)) h)

pub set_not_opened : (look : RevisionBytes) (trees : ℕ → TreeFunction) (top base : ℕ) (txn : TxnName) (before : Folder) (tree : TreeFunction) (marks : List Mark) → AreRevisions trees top → Stands look trees top base txn before tree marks → (set : SetProp) (after : Folder) (e : TxnError) (fault : Fault)
    → IsFailure e → fault ≡ fault_of_failure e → IfRefused fault (Bars look trees top base txn tree marks (Prop set) fault)
set_not_opened look trees top base txn before tree marks revs stands set after e fault h is = not_opened (Bars look trees top base txn tree marks (Prop set)) e fault h is
