-- The root of a draft, and the directory at a path of it.
use Rattle.std.proofs.Common.{◌≡◌, ◌≤◌, ℕ, List, [], sym, subst, ◌∙◌}
use Rattle.std.specs.Prelude.{Option, Some, Result, Ok, Err}
use Rattle.fsfs_base.specs.Paths.{PathName, Path}
use Rattle.fsfs_base.specs.declared.kind.Kind.{Kind}
use Rattle.fsfs_base.specs.declared.kind.Kind.TheVariants.{Dir}
use Rattle.fsfs_tree.specs.Nodes.{Node, TreeFunction}
use Rattle.fsfs_tree.specs.Trees.{IsTree}
use Rattle.fsfs_model.specs.declared.flat.mark.Mark.{Mark}
use Rattle.fsfs_base.specs.declared.fields.txn_name.TxnName.{TxnName}
use Rattle.fsfs_revision.specs.Told.{RevisionBytes}
use Rattle.fsfs_noderev.specs.Ids.{place_value}
use Rattle.fsfs_noderev.specs.declared.node_id.NodeId.{NodeId}
use Rattle.fsfs_noderev.proofs.Same.{id_same}
use Rattle.fsfs_draft.specs.Own.{OwnNode, Own, draft_tree}
use Rattle.fsfs_draft.specs.Drafts.{Folder, IsDraft, ShowTrees}
use Rattle.fsfs_draft.proofs.OwnShown.{own_shown}
use Rattle.fsfs_draft.specs.Edits.{IsDraftAfter}
use Rattle.fsfs_draft.proofs.EditLaw.{edits_keep_drafts}
use Rattle.fsfs_edit.specs.DagEdits.Mutable.{LeadsTo, LeavesAbove}
use Rattle.fsfs_draft.specs.Walks.{IsRootId, HasKind, IsFound}
use Rattle.fsfs_edit.specs.Ways.{IsTarget, IsFoundIn, LeavesOpened}
use Rattle.fsfs_draft.specs.declared.error.EditError.{EditError}
use Rattle.fsfs_draft.specs.declared.walk.Found.{Found}
use Rattle.fsfs_edit.specs.declared.way.Target.{Target}
use Rattle.fsfs_draft.proofs.OwnEntries.{has_kind}
use Rattle.fsfs_draft.proofs.Walking.{own_kind}
use Rattle.fsfs_edit.proofs.MakingAt.{kind_some, leads_to}
use Rattle.fsfs_edit.proofs.Bare.{bare_kind, target_over, leads_over, found_over}

-- the own node-revision at a path is of the kind that the tree has there
own_is : (look : RevisionBytes) (top base : ℕ) (trees : ℕ → TreeFunction) → ShowTrees look top trees → base ≤ top → (txn : TxnName) (f : Folder) (own : Own) → IsDraft look top base txn f own
    → (p : Path) (v : OwnNode) (kind : Kind) → own p ≡ Some v → HasKind (draft_tree trees own (trees base) p) kind → v.node.kind ≡ kind
own_is look top base trees shown le txn f own draft p v kind here has = sym (draft.contents p v here).kind ∙ subst (λ (o : Option Node). HasKind o kind) (own_shown look top base trees shown le txn f own draft p v here) has

module _ (look : RevisionBytes) (trees : ℕ → TreeFunction) (top base : ℕ) (shown : ShowTrees look top trees) (le : base ≤ top) (txn : TxnName) (f : Folder) (tree : TreeFunction) (marks : List Mark) (is_tree : IsTree tree)
    (d : IsDraftAfter look trees top base txn f tree marks) where
  abbrev First : Own
  First = d.0.shows.own

  abbrev pub root : OwnNode
  root = d.0.shows.is_draft.root

  pub root_here : First [] ≡ Some root
  root_here = d.0.shows.is_draft.root_is

  pub root_same : (id : NodeId) → IsRootId txn id → root.node.id ≡ id
  root_same id is = id_same root.node.id id (λ i. record {
    node = (d.0.shows.is_draft.root_id.0 ∙ sym is.node) i;
    copy = (d.0.shows.is_draft.root_id.1 ∙ sym is.copy) i;
    place = place_value ((d.0.shows.is_draft.places [] root root_here ∙ sym is.place) i);
  })

  pub root_kind : root.node.kind ≡ Dir
  root_kind = own_kind look top base trees shown le txn f First d.0.shows.is_draft [] root root_here (bare_kind (tree []) (draft_tree trees First (trees base) []) Dir (d.0.shows.each []) (has_kind (tree []) is_tree.root.0 Dir is_tree.root.1 is_tree.root.2))

  pub by_tree : (p : Path) (name : PathName) (result : Result Target EditError) → IsTarget look trees base First (draft_tree trees First (trees base)) p name result → IsTarget look trees base First tree p name result
  by_tree p name result h = target_over (draft_tree trees First (trees base)) tree (λ q. sym (d.0.shows.each q)) look trees base First p name result h

  pub found_by_tree : (p : Path) (result : Result Found EditError) → IsFound look trees base First p result → IsFoundIn tree p result
  found_by_tree p result h = found_over look trees base First tree (λ q. sym (d.0.shows.each q)) p result h

  pub leads : (p : Path) (kind : Kind) → HasKind (tree p) kind → LeadsTo (draft_tree trees First (trees base)) p
  leads p kind has = leads_over tree (draft_tree trees First (trees base)) d.0.shows.each p (leads_to tree p is_tree (kind_some (tree p) kind has))

  pub opened_leaves : (p : Path) (kind : Kind) (after : Folder) (result : Result NodeId EditError) → HasKind (tree p) kind → LeavesAbove look trees top base txn f First p after result → LeavesOpened look trees top base txn marks tree First p kind after result
  opened_leaves p kind after (Err e) has h = h
  opened_leaves p kind after (Ok id) has h =
      let o = h.5 tree marks First (edits_keep_drafts.begins look trees top base txn f tree marks d.0 d.1) in
      record {
        now = h.0;
        opened = o;
        v = h.2;
        here = h.3;
        id_is = h.4;
        kind_is = own_is look top base trees shown le txn after h.0 h.1.0 p h.2 kind h.3 (bare_kind (tree p) (draft_tree trees h.0 (trees base) p) kind (o.each p) has);
      }
