-- A transaction that has just begun: a root of its own, on the root of its base.
use Rattle.std.specs.Prelude.{◌≡◌, ◌≤◌, ℕ, [], Some, None}
use Rattle.fsfs_tree.specs.Nodes.{TreeFunction}
use Rattle.fsfs_base.specs.declared.fields.txn_name.TxnName.{TxnName}
use Rattle.fsfs_revision.specs.Told.{RevisionBytes}
use Rattle.fsfs_noderev.specs.Ids.{PartValue, Old, part_value}
use Rattle.fsfs_noderev.specs.declared.node_id.Place.TheVariants as places
use Rattle.fsfs_noderev.specs.declared.node_rev.NodeRev.{NodeRev}
use Rattle.fsfs_revision.specs.Shows.Reading.{StandsAt}
use Rattle.fsfs_draft.specs.Own.{OwnNode, alone}
use Rattle.fsfs_draft.specs.Rules.{GoesOn, draft_root, lasting_root}
use Rattle.fsfs_draft.specs.Drafts.{Kept, Folder, kept_of, IsBelow, IsDraft, ShowTrees}
use Rattle.fsfs_draft.specs.Sides.{OwnFiles, DrawnOnce, AreMarksOf, OwnSources}

-- v goes on from the base's root x, without files of its own beside its node-revision; the folder has nothing else
pub record IsBegun (look : RevisionBytes) (base : ℕ) (trees : ℕ → TreeFunction) (txn : TxnName) (f : Folder) (x : NodeRev) (v : OwnNode) : Type 0 where
  pub stands : StandsAt look base [] x
  pub ids : (part_value x.id.node ≡ Old 0) × (part_value x.id.copy ≡ Old 0)
  pub on : GoesOn v.node x
  pub copy : v.node.id.copy ≡ x.id.copy
  pub no_copy : v.node.copy_from ≡ None
  pub root : draft_root v.node ≡ lasting_root x
  pub text : v.node.text ≡ x.text
  pub set : v.node.props ≡ x.props
  pub entries : v.entries ≡ None
  pub props : v.props ≡ None
  pub path : v.node.created_path ≡ []
  pub place : v.node.id.place ≡ places.In txn
  pub shown : trees base [] ≡ Some v.shown
  pub kept : f.nodes (part_value v.node.id.node) (part_value v.node.id.copy) ≡ Some (kept_of v)
  pub drawn : (node copy : PartValue) (k : Kept) → f.nodes node copy ≡ Some k → IsBelow f.next_node node × IsBelow f.next_copy copy

abbrev pub BegunDrafts : Type 0
BegunDrafts = (look : RevisionBytes) (top base : ℕ) (trees : ℕ → TreeFunction) → ShowTrees look top trees → base ≤ top → (txn : TxnName) (f : Folder) (x : NodeRev) (v : OwnNode) → IsBegun look base trees txn f x v
    → IsDraft look top base txn f (alone v) × OwnFiles (alone v) × DrawnOnce (alone v) × AreMarksOf (trees base) [] (alone v) × OwnSources trees (trees base) (alone v)
