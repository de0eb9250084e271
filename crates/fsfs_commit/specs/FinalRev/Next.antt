-- A transaction that is to become the next revision, in the words of its calls.
use Rattle.std.specs.Prelude.{◌≡◌, ℕ, suc, List, length}
use Rattle.fsfs_base.specs.declared.fields.txn_name.TxnName.{TxnName}
use Rattle.fsfs_tree.specs.Nodes.{TreeFunction}
use Rattle.fsfs_model.specs.declared.flat.mark.Mark.{Mark}
use Rattle.fsfs_revision.specs.Told.{RevisionBytes}
use Rattle.fsfs_revision.specs.Ancestry.Trees.{ShowTrees}
use Rattle.fsfs_noderev.specs.declared.changes.item.ChangeItem.{ChangeItem}
use Rattle.fsfs_draft.specs.Drafts.{Folder}
use Rattle.fsfs_draft.specs.Staying.{IsYoungest}
use Rattle.fsfs_txn.specs.Standing.{Stands}

-- it stands on the youngest revision, for a tree and marks; and what is handed over beside it: the number of the new revision, how long
-- the prototype file is, and the items
pub record IsOnYoungest (look : RevisionBytes) (trees : ℕ → TreeFunction) (base : ℕ) (txn : TxnName) (f : Folder) (tree : TreeFunction) (marks : List Mark) (rev start : ℕ) (items : List ChangeItem) : Type 0 where
  pub shows : ShowTrees look base trees
  pub youngest : IsYoungest look base
  pub stands : Stands look trees base base txn f tree marks
  pub rev_is : rev ≡ suc base
  pub start_is : start ≡ length f.proto
  pub items_are : items ≡ f.items
