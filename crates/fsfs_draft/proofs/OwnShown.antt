-- An own node-revision is shown as its node.
use Rattle.std.proofs.Common.{◌≡◌, ◌≤◌, ℕ, cond, [], ◌++◌, sym, ap, ◌∙◌, append-nil}
use Rattle.std.specs.Prelude.{Option, Some}
use Rattle.fsfs_base.specs.Paths.{Path}
use Rattle.fsfs_base.proofs.PathLemmas.{covers-longer}
use Rattle.fsfs_tree.specs.Nodes.{TreeFunction}
use Rattle.fsfs_base.specs.declared.fields.txn_name.TxnName.{TxnName}
use Rattle.fsfs_revision.specs.Told.{RevisionBytes}
use Rattle.fsfs_draft.specs.Own.{OwnNode, Own, node_here, draft_tree, under, shared_at}
use Rattle.fsfs_draft.specs.Drafts.{Folder, IsDraft, ShowTrees}
use Rattle.fsfs_draft.proofs.Edited.{behind_own, old_tree}
use Rattle.fsfs_draft.proofs.Here.{live_here, old_here}

pub own_shown : (look : RevisionBytes) (top base : ℕ) (trees : ℕ → TreeFunction) → ShowTrees look top trees → base ≤ top → (txn : TxnName) (f : Folder) (own : Own) → IsDraft look top base txn f own
    → (p : Path) (d : OwnNode) → own p ≡ Some d → draft_tree trees own (trees base) p ≡ Some d.shown
own_shown look top base trees shown le txn f own draft p d here =
    ap (λ (t : Path). draft_tree trees own (trees base) t) (sym (append-nil p))
    ∙ old_tree trees p own (trees base) (live_here look top base trees shown le txn f own draft p d here) (p ++ [])
    ∙ (λ i. cond (covers-longer p [] i) (draft_tree trees (under p own) (shared_at trees p own (trees base)) (behind_own p [] i)) (draft_tree trees own (trees base) (p ++ [])))
    ∙ ap (λ (o : Option OwnNode). node_here o (shared_at trees p own (trees base) [])) (old_here look top base trees shown le txn f own draft p d here)
