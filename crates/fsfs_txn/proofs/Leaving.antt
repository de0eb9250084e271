-- A child that becomes the transaction's own, by what is known of it.
use Rattle.std.proofs.Common.{◌≡◌, ◌≤◌, ℕ, true, false, List, sym, ap, subst, ◌∙◌}
use Rattle.std.specs.Prelude.{Some, None, Result, Ok, Err, IfOk, IfErr}
use Rattle.fsfs_base.specs.Paths.{PathName, Path}
use Rattle.fsfs_base.specs.declared.kind.Kind.TheVariants.{Dir}
use Rattle.fsfs_tree.specs.Nodes.{TreeFunction}
use Rattle.fsfs_base.specs.declared.fields.txn_name.TxnName.{TxnName}
use Rattle.fsfs_revision.specs.Told.{RevisionBytes}
use Rattle.fsfs_noderev.specs.declared.node_id.NodeId.{NodeId}
use Rattle.fsfs_noderev.specs.declared.node_rev.NodeRev.{NodeRev}
use Rattle.fsfs_revision.specs.Nodes.{is_revision_id}
use Rattle.fsfs_revision.specs.Shows.Reading.{DirEntry, named, OfId}
use Rattle.fsfs_revision.proofs.DamageLemmas.{no_both}
use Rattle.fsfs_draft.specs.Own.{OwnNode, Own}
use Rattle.fsfs_draft.specs.Drafts.{Kept, Folder, kept_of, IsDraft, ShowTrees}
use Rattle.fsfs_draft.specs.Steps.{Files, kept_at}
use Rattle.fsfs_draft.specs.Entries.{OfKept}
use Rattle.fsfs_draft.specs.Errors.{IsWant}
use Rattle.fsfs_draft.specs.declared.error.EditError.{EditError}
use Rattle.fsfs_draft.specs.declared.error.EditError.TheVariants as errors
use Rattle.fsfs_edit.specs.DagEdits.Mutable.{IsAmiss, IsChildChanged}
use Rattle.fsfs_edit.proofs.Making.{not_amiss}
use Rattle.fsfs_txn.specs.declared.opened.known.Known.{Known}
use Rattle.fsfs_txn.specs.Opened.Leading.{IsSourceKnown, HasEntries, OfOwn, OfLasting, LeadsDown}
use Rattle.fsfs_txn.specs.Opened.Stepping.{LeadsOn, LeadsAsBefore}
use Rattle.fsfs_txn.proofs.Following.{same_some, child_still, still_leads}

-- the entries of an own directory, and what is known of them
pub own_has : (look : RevisionBytes) (files : Files) (known : List Known) (id : NodeId) (k : Kept) (entries : List DirEntry) → is_revision_id id ≡ false → kept_at files id ≡ Some k → HasEntries look files known id entries
    → (k.entries ≡ None → IsSourceKnown known k.node.predecessor) × OfKept look k (Ok entries)
own_has look files known id k entries own here (OfOwn j mine there dir source of) =
    let same : j ≡ k = same_some j k (sym there ∙ here) in
    (subst (λ (x : Kept). x.entries ≡ None → IsSourceKnown known x.node.predecessor) same source, subst (λ (x : Kept). OfKept look x (Ok entries)) same of)
own_has look files known id k entries own here (OfLasting l among of) = no_both (is_revision_id id) l own

-- it is a directory
pub own_has_dir : (look : RevisionBytes) (files : Files) (known : List Known) (id : NodeId) (k : Kept) (entries : List DirEntry) → is_revision_id id ≡ false → kept_at files id ≡ Some k → HasEntries look files known id entries → k.node.kind ≡ Dir
own_has_dir look files known id k entries own here (OfOwn j mine there dir source of) = sym (ap (λ (x : Kept). x.node.kind) (same_some j k (sym there ∙ here))) ∙ dir
own_has_dir look files known id k entries own here (OfLasting l among of) = no_both (is_revision_id id) l own

module _ (look : RevisionBytes) (trees : ℕ → TreeFunction) (top base : ℕ) (shown : ShowTrees look top trees) (le : base ≤ top) (txn : TxnName) (f : Folder) (nodes : Own) (draft : IsDraft look top base txn f nodes)
    (p : Path) (d : OwnNode) (here : nodes p ≡ Some d) (dir : d.node.kind ≡ Dir) (id : NodeId) (same : d.node.id ≡ id) (entries : List DirEntry) (of : OfKept look (kept_of d) (Ok entries)) (name : PathName) (e : DirEntry) (found : named name entries ≡ Some e)
    (lasts : is_revision_id e.id ≡ true) (u : NodeRev) (same_id : u.id ≡ e.id) (read : OfId look u.id (Ok u)) (after : Folder) where
  kept_is : (k : Kept) → kept_at f.nodes id ≡ Some k → k ≡ kept_of d
  kept_is k is = same_some k (kept_of d) (sym is ∙ ap (λ (i : NodeId). kept_at f.nodes i) (sym same) ∙ draft.kept p d here)

  pub child_on : (result : Result NodeId EditError) → IfOk result (IsChildChanged f after txn id entries name e.kind u) → IfErr result (λ x. IsWant x (IsAmiss f id u.id)) → (known : List Known) (rest : Path) → LeadsDown look f.nodes known rest e.id
      → LeadsOn look after.nodes known rest result
  child_on (Ok child) c cause known rest leads =
      let k = kept_is c.k c.here in
      child_still look f after txn id entries name e.kind u child c (ap (λ (x : Kept). x.node.kind) k ∙ dir) (subst (λ (x : Kept). OfKept look x (Ok entries)) (sym k) of) e found (sym same_id)
      (subst (λ (i : NodeId). is_revision_id i ≡ true) (sym same_id) lasts) read known rest (subst (λ (i : NodeId). LeadsDown look f.nodes known rest i) (sym same_id) leads)
  child_on (Err errors.BenchFault) c cause known rest leads = cause
  child_on (Err errors.OutOfMemory) c cause known rest leads = tt
  child_on (Err errors.DiskFault) c cause known rest leads = cause
  child_on (Err (errors.Wrong w)) c cause known rest leads = cause
  child_on (Err errors.Lacking) c cause known rest leads = not_amiss look top base trees shown le txn f nodes draft p d here dir u (subst (λ (i : NodeId). IsAmiss f i u.id) (sym same) cause)

  pub still_all : (result : Result NodeId EditError) → IfOk result (IsChildChanged f after txn id entries name e.kind u) → LeadsAsBefore look f.nodes after.nodes result
  still_all (Err x) c = λ known path i leads. tt
  still_all (Ok child) c = λ known path i leads.
      let k = kept_is c.k c.here in
      still_leads look f after txn id entries name e.kind u child c (ap (λ (x : Kept). x.node.kind) k ∙ dir) (subst (λ (x : Kept). OfKept look x (Ok entries)) (sym k) of) e found (sym same_id)
      (subst (λ (i : NodeId). is_revision_id i ≡ true) (sym same_id) lasts) read known path i leads
