-- A draft that has begun is whole, and a whole one is handed over.
use Rattle.std.proofs.Common.{◌≡◌, ℕ, List, [], ◌∷◌, refl, sym, ap, subst, ◌∙◌}
use Rattle.std.specs.Prelude.{Option, Some, None}
use Rattle.fsfs_base.specs.Paths.{Path}
use Rattle.fsfs_tree.specs.Nodes.{TreeFunction}
use Rattle.fsfs_base.specs.declared.fields.txn_name.TxnName.{TxnName}
use Rattle.fsfs_revision.specs.Told.{RevisionBytes}
use Rattle.fsfs_noderev.specs.declared.changes.item.ChangeItem.{ChangeItem}
use Rattle.fsfs_noderev.specs.declared.node_id.NodeId.{NodeId}
use Rattle.fsfs_noderev.specs.declared.node_rev.CopySource.{CopySource}
use Rattle.fsfs_noderev.specs.declared.node_rev.NodeRev.{NodeRev}
use Rattle.fsfs_draft.specs.Own.{OwnNode, alone, draft_tree, shared_from}
use Rattle.fsfs_draft.specs.Drafts.{Folder, AreItemsOf, bare}
use Rattle.fsfs_draft.specs.Beginning.{IsBegun}
use Rattle.fsfs_draft.specs.Whole.{DraftsAreHanded}
use Rattle.fsfs_draft.proofs.Grafts.{alone_tree}
use Rattle.fsfs_draft.proofs.BeginLaw.{begun_drafts}
use Rattle.fsfs_draft.proofs.HangLaw.{drafts_hang}
use Rattle.fsfs_draft.proofs.SideLaw.{drafts_keep_sides}
use Rattle.fsfs_draft.proofs.DrawLaw.{drafts_draw}

begun_tree : (look : RevisionBytes) (base : ℕ) (trees : ℕ → TreeFunction) (txn : TxnName) (f : Folder) (x : NodeRev) (v : OwnNode) → IsBegun look base trees txn f x v → (p : Path) → trees base p ≡ draft_tree trees (alone v) (trees base) p
begun_tree look base trees txn f x v is [] = is.shown
begun_tree look base trees txn f x v is (y ∷ p) = sym (alone_tree trees v (trees base) y p is.entries ∙ by v.node.copy_from v.node.predecessor is.no_copy is.on.predecessor)
  where
    by : (c : Option CopySource) (o : Option NodeId) → c ≡ None → o ≡ Some x.id → shared_from trees c o (trees base) (y ∷ p) ≡ trees base (y ∷ p)
    by None (Some id) e g = refl
    by None None e g = absurd cc
    by (Some from) o e g = absurd cc

pub drafts_are_handed : DraftsAreHanded
drafts_are_handed = record {
  begun = λ look top base trees shown le txn f x v is empty. (let w = begun_drafts look top base trees shown le txn f x v is in
      record {
        shows = record { own = alone v; is_draft = w.0; each = λ p. ap bare (begun_tree look base trees txn f x v is p); items = subst (λ (items : List ChangeItem). AreItemsOf items []) (sym empty) tt };
        files = w.1;
        once = w.2;
        says = w.3;
        sources = w.4;
      });
  handed = λ look trees top base nodes txn f tree marks shown are le d. record {
    hangs = drafts_hang look top base trees nodes shown are le txn f d.shows.own d.shows.is_draft d.files d.once;
    side = drafts_keep_sides look top base trees nodes shown are le txn f d.shows.own marks d.shows.is_draft d.files d.says;
    draws = λ n lt. drafts_draw look top base trees nodes shown are le txn f d.shows.own marks tree d.shows.is_draft d.files d.says d.sources d.shows.each n lt;
  };
}
