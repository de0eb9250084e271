-- Edits by path, as edits of a transaction.
use Rattle.std.proofs.Common.{◌≡◌, ℕ, Bool, true, false, List, [], ◌∷◌, ◌++◌, sym, ap, subst, ◌∙◌, inl, inr}
use Rattle.std.specs.Prelude.{Option, None, is_some, Result, Ok}
use Rattle.fsfs_base.specs.Paths.{PathName, Path}
use Rattle.fsfs_base.specs.declared.kind.Kind.{Kind}
use Rattle.fsfs_base.specs.declared.kind.Kind.TheVariants.{Dir}
use Rattle.fsfs_tree.specs.Nodes.{Node, TreeFunction}
use Rattle.fsfs_tree.specs.Trees.{IsTree}
use Rattle.fsfs_tree.specs.Histories.{AreRevisions}
use Rattle.fsfs_model.specs.Flat.Edits.{parent}
use Rattle.fsfs_model.specs.Flat.Transactions.{Edited}
use Rattle.fsfs_model.specs.declared.flat.edit.Edit.{Edit}
use Rattle.fsfs_model.specs.declared.flat.edit.Edit.TheVariants.{Delete, Copy}
use Rattle.fsfs_model.specs.declared.flat.mark.Mark.{Mark}
use Rattle.fsfs_model.proofs.Legal.{landing_leaves_a_tree}
use Rattle.fsfs_base.specs.declared.fields.txn_name.TxnName.{TxnName}
use Rattle.fsfs_revision.specs.Told.{Told, RevisionBytes}
use Rattle.fsfs_noderev.specs.declared.node_rev.CopySource.{CopySource}
use Rattle.fsfs_draft.specs.Own.{Own}
use Rattle.fsfs_draft.specs.Drafts.{Folder}
use Rattle.fsfs_draft.specs.Errors as errors
use Rattle.fsfs_draft.specs.Walks.{HasKind}
use Rattle.fsfs_draft.specs.declared.walk.Step.{Step}
use Rattle.fsfs_draft.specs.declared.error.EditError.{EditError}
use Rattle.fsfs_draft.specs.declared.error.EditError.TheVariants as edit_errors
use Rattle.fsfs_edit.specs.Meeting.{IsDone}
use Rattle.fsfs_edit.specs.Making as edit_making
use Rattle.fsfs_edit.specs.Making.{make_of}
use Rattle.fsfs_edit.specs.Deleting as edit_deleting
use Rattle.fsfs_edit.specs.Copying as edit_copying
use Rattle.fsfs_edit.specs.declared.make.Made as edit_made
use Rattle.fsfs_edit.specs.declared.make.Made.TheVariants as mades
use Rattle.fsfs_edit.specs.declared.delete.Gone.{Gone}
use Rattle.fsfs_edit.specs.declared.delete.Gone.TheVariants as gones
use Rattle.fsfs_edit.specs.declared.copy.Copied as edit_copied
use Rattle.fsfs_edit.specs.declared.copy.Copied.TheVariants as copies
use Rattle.fsfs_txn.specs.declared.edits.making.Made as making_outcome
use Rattle.fsfs_txn.specs.declared.edits.making.Made.TheVariants as outcomes_made
use Rattle.fsfs_txn.specs.declared.edits.deleting.Deleted as deleting_outcome
use Rattle.fsfs_txn.specs.declared.edits.deleting.Deleted.TheVariants as outcomes_deleted
use Rattle.fsfs_txn.specs.declared.edits.copying.Copied as copying_outcome
use Rattle.fsfs_txn.specs.declared.edits.copying.Copied.TheVariants as outcomes_copied
use Rattle.fsfs_txn.specs.declared.edits.sources.Source.{Source}
use Rattle.fsfs_txn.specs.declared.edits.sources.Source.TheVariants as sources
use Rattle.fsfs_txn.specs.declared.opening.PathOpened.{PathOpened}
use Rattle.fsfs_txn.specs.declared.opening.PathOpened.TheVariants as paths
use Rattle.fsfs_txn.specs.Opening.{IsOpeningPath}
use Rattle.fsfs_txn.specs.Edits.Mergeinfo.{RevisionHas, MeetsCounts, LacksCounts}
use Rattle.fsfs_txn.specs.Standing.{Stands, IsEdited, IsFree}
use Rattle.fsfs_txn.specs.Edits.Making as making
use Rattle.fsfs_txn.specs.Edits.Deleting as deleting
use Rattle.fsfs_txn.specs.Seeing.{TakesAt}
use Rattle.fsfs_txn.specs.Edits.Sources.{IsSource, is_plain}
use Rattle.fsfs_txn.specs.Edits.Copying as copying

-- a failure leaves what was not changed
pub stays_of : (e : EditError) (P : Type 0) → P → errors.IsFailure e → errors.IfStays e P
stays_of edit_errors.BenchFault P p h = tt
stays_of edit_errors.OutOfMemory P p h = p
stays_of edit_errors.DiskFault P p h = p
stays_of (edit_errors.Wrong w) P p h = h
stays_of edit_errors.Lacking P p h = h

module _ (look : RevisionBytes) (trees : ℕ → TreeFunction) (top base : ℕ) (txn : TxnName) (before : Folder) (tree : TreeFunction) (marks : List Mark) (revs : AreRevisions trees top) (stands : Stands look trees top base txn before tree marks) where
  pub is_tree : IsTree tree
  is_tree = landing_leaves_a_tree.own trees top base tree marks revs stands.edits

  -- the root is there
  pub root_there : (path : Path) → path ≡ [] → is_some (tree path) ≡ true
  root_there path root = ap (λ (p : Path). is_some (tree p)) root ∙ ap (λ (o : Option Node). is_some o) is_tree.root.1

  pub edited : (edit : Edit) (after : Folder) → IsDone look trees top base txn tree marks edit after → IsEdited look trees top base txn tree marks edit after
  edited edit after done = record { accepted = done.accepted; stands = record { edits = Edited base tree marks edit stands.edits done.accepted; shows = done.draft } }

  module _ (path : Path) (name : PathName) (path_is : path ≡ parent path ++ name ∷ []) (after : Folder) where
    abbrev First : Own
    First = stands.shows.0.shows.own

    free : HasKind (tree (parent path)) Dir → tree (parent path ++ name ∷ []) ≡ None → IsFree tree path
    free has none = (has, subst (λ (p : Path). tree p ≡ None) (sym path_is) none)

    done : (make : Path → Edit) → IsDone look trees top base txn tree marks (make (parent path ++ name ∷ [])) after → IsEdited look trees top base txn tree marks (make path) after
    done make h = edited (make path) after (subst (λ (p : Path). IsDone look trees top base txn tree marks (make p) after) (sym path_is) h)

    pub made : (kind : Kind) (lacks : LacksCounts look trees base First (parent path)) (m : edit_made.Made) → edit_making.IsMaking look trees top base txn tree marks (parent path) name kind before after (Ok m)
        → making.IsMaking errors.IfStays look trees top base txn First tree marks path kind before after (Ok (making.outcome_of m))
    made kind lacks mades.Done h = (lacks, h.0, done (λ (p : Path). make_of kind p) h.1.0)
    made kind lacks (mades.NotFound depth) h = h
    made kind lacks (mades.NotDir depth) h = h
    made kind lacks mades.Exists h = (subst (λ (p : Path). is_some (tree p) ≡ true) (sym path_is) h.1, h.2)
    made kind lacks mades.TooManyEntries h = (free h.0.0 h.0.1, lacks, h.1, h.2)

    pub gone : (lacks : LacksCounts look trees base First (parent path)) (m : Gone) → edit_deleting.IsDeleting look trees top base txn First tree marks (parent path) name before after (Ok m)
        → deleting.IsDeleting errors.IfStays look trees top base txn First tree marks path before after (Ok (deleting.outcome_of m))
    gone lacks gones.Done h = (lacks, done (λ (p : Path). Delete p) h.0)
    gone lacks (gones.NotFound depth) h = h
    gone lacks (gones.NotDir depth) h = h
    gone lacks gones.Absent h = (free h.0 h.1, h.2)

    pub copied : (from : CopySource) (lacks : copying.LacksBoth look trees base First path from) (m : edit_copied.Copied) → edit_copying.IsCopying look trees top base txn tree marks (parent path) name from before after (Ok m)
        → copying.IsCopying errors.IfStays look trees top base txn First tree marks path from before after (Ok (copying.outcome_of m))
    copied from lacks copies.Done h = (lacks, h.0, done (λ (p : Path). Copy from.rev from.path p) h.1.0)
    copied from lacks (copies.NotFound depth) h = h
    copied from lacks (copies.NotDir depth) h = h
    copied from lacks copies.Exists h = (subst (λ (p : Path). is_some (tree p) ≡ true) (sym path_is) h.1, h.2)
    copied from lacks (copies.NoRev youngest) h = (free h.0.0 h.0.1, h.1, h.2, h.3)
    copied from lacks (copies.SourceNotFound depth) h = (free h.0.0 h.0.1, h.1, h.2, h.3)
    copied from lacks (copies.SourceNotDir depth) h = (free h.0.0 h.0.1, h.1, h.2, h.3)
    copied from lacks copies.TooManyEntries h = (free h.0.0 h.0.1, h.1, h.2, lacks, h.3, h.4)

  module _ (path : Path) (from : CopySource) (after : Folder) (same : after ≡ before) (is_free : IsFree tree path) where
    abbrev Nodes : Own
    Nodes = stands.shows.0.shows.own

    -- something is in the way: the source, or counts of mergeinfo on the way to the directory
    pub barred_counted : (source : Source) → MeetsCounts look trees base Nodes (parent path) → IsSource look trees top from source → copying.IsCopying errors.IfStays look trees top base txn Nodes tree marks path from before after (Ok (copying.barred_by source))
    barred_counted (sources.NoRev youngest) meets is = (is_free, is.0, is.1, same)
    barred_counted (sources.NotFound depth) meets is = (is_free, is.0, is.1, same)
    barred_counted (sources.NotDir depth) meets is = (is_free, is.0, is.1, same)
    barred_counted (sources.Node counted) meets is = (is_free, is.0, is.1, inl meets, same)

    -- or counts at the source
    pub barred_source : (source : Source) → is_plain source ≡ false → IsSource look trees top from source → copying.IsCopying errors.IfStays look trees top base txn Nodes tree marks path from before after (Ok (copying.barred_by source))
    barred_source (sources.NoRev youngest) counted is = (is_free, is.0, is.1, same)
    barred_source (sources.NotFound depth) counted is = (is_free, is.0, is.1, same)
    barred_source (sources.NotDir depth) counted is = (is_free, is.0, is.1, same)
    barred_source (sources.Node true) counted is = (is_free, is.0, is.1, inr is.2, same)
    barred_source (sources.Node false) counted is = absurd cc

pub plain_source : (look : RevisionBytes) (trees : ℕ → TreeFunction) (top : ℕ) (from : CopySource) (source : Source) → is_plain source ≡ true → IsSource look trees top from source → RevisionHas look from.rev from.path false
plain_source look trees top from (sources.NoRev youngest) plain is = absurd cc
plain_source look trees top from (sources.NotFound depth) plain is = absurd cc
plain_source look trees top from (sources.NotDir depth) plain is = absurd cc
plain_source look trees top from (sources.Node true) plain is = absurd cc
plain_source look trees top from (sources.Node false) plain is = is.2

-- ---- the same under other names

pub same_make : (told : Told) (t u : TxnName) (f h after : Folder) (p q : Path) (name : PathName) (kind : Kind) (r : Result edit_made.Made EditError) → t ≡ u → f ≡ h → p ≡ q → edit_making.MeetsMake told t f after p name kind r → edit_making.MeetsMake told u h after q name kind r
same_make told t u f h after p q name kind r txn folder path meets =
    subst (λ (x : Path). edit_making.MeetsMake told u h after x name kind r) path (subst (λ (x : Folder). edit_making.MeetsMake told u x after p name kind r) folder (subst (λ (x : TxnName). edit_making.MeetsMake told x f after p name kind r) txn meets))

pub same_delete : (told : Told) (t u : TxnName) (f h after : Folder) (p q : Path) (name : PathName) (r : Result Gone EditError) → t ≡ u → f ≡ h → p ≡ q → edit_deleting.MeetsDelete told t f after p name r → edit_deleting.MeetsDelete told u h after q name r
same_delete told t u f h after p q name r txn folder path meets =
    subst (λ (x : Path). edit_deleting.MeetsDelete told u h after x name r) path (subst (λ (x : Folder). edit_deleting.MeetsDelete told u x after p name r) folder (subst (λ (x : TxnName). edit_deleting.MeetsDelete told x f after p name r) txn meets))

pub same_copies : (told : Told) (youngest : Option ℕ) (t u : TxnName) (f h after : Folder) (dir : Path) (name : PathName) (step : Step) (from : CopySource) (r : Result copying_outcome.Copied EditError) → t ≡ u → f ≡ h → copying.CopiesIn told youngest t f after dir name step from r
    → copying.CopiesIn told youngest u h after dir name step from r
same_copies told youngest t u f h after dir name step from r txn folder copies =
    subst (λ (x : Folder). copying.CopiesIn told youngest u x after dir name step from r) folder (subst (λ (x : TxnName). copying.CopiesIn told youngest x f after dir name step from r) txn copies)

pub same_takes : (told : Told) (t : TxnName) (f h : Folder) (step : Step) (name : PathName) (r : Result Bool EditError) → f ≡ h → TakesAt told t f step name r → TakesAt told t h step name r
same_takes told t f h step name r folder takes = subst (λ (x : Folder). TakesAt told t x step name r) folder takes

-- ---- what is answered is so whatever a failure leaves

module _ {E F : Type 0} (Stays : E → Type 0 → Type 0) (Leaves : F → Type 0 → Type 0) (look : RevisionBytes) (trees : ℕ → TreeFunction) (top base : ℕ) (txn : TxnName) (own : Own) (tree : TreeFunction) (marks : List Mark) (path : Path) where
  pub made_over : (kind : Kind) (before after : Folder) (m : making_outcome.Made) → making.IsMaking Stays look trees top base txn own tree marks path kind before after (Ok m) → making.IsMaking Leaves look trees top base txn own tree marks path kind before after (Ok m)
  made_over kind before after outcomes_made.Done h = h
  made_over kind before after (outcomes_made.NotFound depth) h = h
  made_over kind before after (outcomes_made.NotDir depth) h = h
  made_over kind before after outcomes_made.Exists h = h
  made_over kind before after outcomes_made.Mergeinfo h = h
  made_over kind before after outcomes_made.TooManyEntries h = h

  pub deleted_over : (before after : Folder) (m : deleting_outcome.Deleted) → deleting.IsDeleting Stays look trees top base txn own tree marks path before after (Ok m) → deleting.IsDeleting Leaves look trees top base txn own tree marks path before after (Ok m)
  deleted_over before after outcomes_deleted.Done h = h
  deleted_over before after (outcomes_deleted.NotFound depth) h = h
  deleted_over before after (outcomes_deleted.NotDir depth) h = h
  deleted_over before after outcomes_deleted.Absent h = h
  deleted_over before after outcomes_deleted.RootFixed h = h
  deleted_over before after outcomes_deleted.Mergeinfo h = h

  pub copied_over : (from : CopySource) (before after : Folder) (m : copying_outcome.Copied) → copying.IsCopying Stays look trees top base txn own tree marks path from before after (Ok m) → copying.IsCopying Leaves look trees top base txn own tree marks path from before after (Ok m)
  copied_over from before after outcomes_copied.Done h = h
  copied_over from before after (outcomes_copied.NotFound depth) h = h
  copied_over from before after (outcomes_copied.NotDir depth) h = h
  copied_over from before after outcomes_copied.Exists h = h
  copied_over from before after (outcomes_copied.NoRev youngest) h = h
  copied_over from before after (outcomes_copied.SourceNotFound depth) h = h
  copied_over from before after (outcomes_copied.SourceNotDir depth) h = h
  copied_over from before after outcomes_copied.Mergeinfo h = h
  copied_over from before after outcomes_copied.TooManyEntries h = h

pub opened_over : {E F : Type 0} (Fails : E → Type 0) (Leaves : F → Type 0) (look : RevisionBytes) (trees : ℕ → TreeFunction) (base : ℕ) (own : Own) (tree : TreeFunction) (path : Path) (o : PathOpened) → IsOpeningPath Fails look trees base own tree path (Ok o) → IsOpeningPath Leaves look trees base own tree path (Ok o)
opened_over Fails Leaves look trees base own tree path (paths.Node opened) h = h
opened_over Fails Leaves look trees base own tree path (paths.NotFound depth) h = h
opened_over Fails Leaves look trees base own tree path (paths.NotDir depth) h = h
