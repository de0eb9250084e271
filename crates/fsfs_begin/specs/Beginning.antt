-- The root of a transaction that begins.
use Rattle.std.specs.Prelude.{◌≡◌, ◌++◌, ℕ, List, [], true, None, take}
use Rattle.fsfs_base.specs.declared.fields.txn_name.TxnName.{TxnName}
use Rattle.fsfs_noderev.specs.declared.node_id.Place.TheVariants as places
use Rattle.fsfs_noderev.specs.declared.node_rev.NodeRev.{NodeRev}
use Rattle.fsfs_noderev.specs.NodeRevs.{IsNodeRev, IsRead}
use Rattle.fsfs_noderev.specs.Writing.{IsWritten}
use Rattle.fsfs_draft.specs.Rules.{GoesOn, draft_root, lasting_root}

-- v is the root of a new transaction of this name, on a revision whose root is x: it goes on from x, and nothing is changed yet
pub record BeginsOn (txn : TxnName) (x v : NodeRev) : Type 0 where
  pub on : GoesOn v x
  pub copy : v.id.copy ≡ x.id.copy
  pub place : v.id.place ≡ places.In txn
  pub path : v.created_path ≡ []
  pub no_copy : v.copy_from ≡ None
  pub root : draft_root v ≡ lasting_root x
  pub text : v.text ≡ x.text
  pub props : v.props ≡ x.props
  pub fresh : v.is_fresh_txn_root ≡ true
  pub mergeinfo : v.mergeinfo_count ≡ x.mergeinfo_count
  pub has : v.has_mergeinfo ≡ x.has_mergeinfo

-- the text of a root, which reads back as it, whatever stands behind
pub record IsRootText (root : NodeRev) (text : List ℕ) : Type 0 where
  pub grammar : IsNodeRev text root
  pub lines : IsWritten text root
  pub reads_back : (rest : List ℕ) → IsRead (take 65536 (text ++ rest)) root
