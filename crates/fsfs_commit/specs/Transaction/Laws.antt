-- What a transaction shows over the revisions is what the machine's says.
use Rattle.std.specs.Prelude.{◌≡◌, ℕ, List}
use Rattle.std.specs.FinMap.{get}
use Rattle.fsfs_base.specs.Paths.{Path}
use Rattle.fsfs_base.specs.declared.fields.txn_name.TxnName.{TxnName}
use Rattle.fsfs_tree.specs.Revisions.{tree_of}
use Rattle.fsfs_tree.specs.Dated.{last_of}
use Rattle.fsfs_draft.specs.Own.{Own, draft_tree}
use Rattle.fsfs_draft.specs.Drafts.{Folder, IsDraft, AreItemsOf, bare}
use Rattle.fsfs_machine.specs.declared.machine.Recorded.{Recorded}
use Rattle.fsfs_machine.specs.declared.machine.Txn.{Txn}
use Rattle.fsfs_machine.specs.Machine.{revisions}
use Rattle.fsfs_turn.specs.Bytes.{bytes_of}
use Rattle.fsfs_commit.specs.Transaction.Meaning.{IsTxnOf}

-- its own node-revisions, over the trees of these revisions, show the tree of the machine's transaction, but for the numbers of nodes, which
-- mean nothing in one; and the items of its edits are what its marks say, one by one
pub record ShowsTxn (h : List Recorded) (name : TxnName) (settled : Folder) (x : Txn) : Type 0 where
  pub own : Own
  pub draft : IsDraft (bytes_of h) (last_of (revisions h)) x.base name settled own
  pub shows_same : (p : Path) → bare (get x.tree p) ≡ bare (draft_tree (tree_of (revisions h)) own (tree_of (revisions h) x.base) p)
  pub changes_same : AreItemsOf settled.items x.marks

abbrev pub TxnsShowWhatTheyMean : Type 0
TxnsShowWhatTheyMean = (h : List Recorded) (name : TxnName) (base : ℕ) (settled : Folder) (x : Txn) → IsTxnOf h name base settled x → ShowsTxn h name settled x
