-- What was reached is what the transaction's tree has there.
use Rattle.std.proofs.Common.{◌≡◌, ◌≤◌, ℕ, List, refl, sym, ap, ◌∙◌}
use Rattle.std.specs.Prelude.{Option, Some, Result, Ok, Err, option_map}
use Rattle.fsfs_base.specs.Paths.{Path}
use Rattle.fsfs_base.specs.declared.kind.Kind.{Kind}
use Rattle.fsfs_tree.specs.Nodes.{TreeFunction}
use Rattle.fsfs_model.specs.declared.flat.mark.Mark.{Mark}
use Rattle.fsfs_base.specs.declared.fields.txn_name.TxnName.{TxnName}
use Rattle.fsfs_revision.specs.Told.{RevisionBytes}
use Rattle.fsfs_noderev.specs.declared.node_id.NodeId.{NodeId}
use Rattle.fsfs_draft.specs.Own.{Own, draft_tree}
use Rattle.fsfs_draft.specs.Drafts.{Kept, Folder, ShowTrees}
use Rattle.fsfs_draft.specs.Steps.{kept_at}
use Rattle.fsfs_draft.specs.Edits.{IsDraftAfter}
use Rattle.fsfs_draft.proofs.OwnShown.{own_shown}
use Rattle.fsfs_draft.proofs.EditLaw.{edits_keep_drafts}
use Rattle.fsfs_draft.specs.declared.error.EditError.{EditError}
use Rattle.fsfs_draft.proofs.OwnEntries.{has_kind}
use Rattle.fsfs_edit.specs.Ways.{IsOpenedAt}
use Rattle.fsfs_edit.proofs.Bare.{bare_kind}
use Rattle.fsfs_txn.specs.Opened.Reaching.{Reaches}
use Rattle.fsfs_txn.specs.Opened.Reached.{IsReached}

module _ (look : RevisionBytes) (trees : ℕ → TreeFunction) (top base : ℕ) (shown : ShowTrees look top trees) (le : base ≤ top) (txn : TxnName) (f : Folder) (tree : TreeFunction) (marks : List Mark)
    (d : IsDraftAfter look trees top base txn f tree marks) where
  abbrev First : Own
  First = d.0.shows.own

  pub reached_leaves : (p : Path) (after : Folder) (result : Result NodeId EditError) → Reaches look trees top base txn f First p after result → IsReached look trees top base txn marks tree First p after result
  reached_leaves p after (Err e) h = h
  reached_leaves p after (Ok id) h =
      let o = h.5 tree marks First (edits_keep_drafts.begins look trees top base txn f tree marks d.0 d.1) in
      let v = h.2 in
      let there = own_shown look top base trees shown le txn after h.0 h.1.0 p v h.3 in (
        v.node.kind,
        bare_kind (draft_tree trees h.0 (trees base) p) (tree p) v.node.kind (sym (o.each p)) (has_kind (draft_tree trees h.0 (trees base) p) v.shown v.node.kind there (h.1.0.contents p v h.3).kind),
        record { now = h.0; opened = o; v = v; here = h.3; id_is = h.4; kind_is = refl },
      )

  -- its kind, by its file
  pub kind_there : (p : Path) (kind : Kind) (after : Folder) (id : NodeId) → IsOpenedAt look trees top base txn marks tree First p kind after id → option_map (λ k. k.node.kind) (kept_at after.nodes id) ≡ Some kind
  kind_there p kind after id o =
      ap (λ (k : Option Kept). option_map (λ k. k.node.kind) k) (ap (λ (i : NodeId). kept_at after.nodes i) (sym o.id_is) ∙ o.opened.draft.kept p o.v o.here)
      ∙ ap (λ (k : Kind). Some k) o.kind_is
