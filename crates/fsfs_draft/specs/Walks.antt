-- What a walk down the transaction's tree comes to.
use Rattle.std.specs.Prelude.{◌≡◌, ◌++◌, ℕ, Option, Some, None, Result, Ok, Err}
use Rattle.fsfs_base.specs.Paths.{Path}
use Rattle.fsfs_tree.specs.Nodes.{Node, TreeFunction}
use Rattle.fsfs_base.specs.declared.kind.Kind.{Kind}
use Rattle.fsfs_base.specs.declared.fields.txn_name.TxnName.{TxnName}
use Rattle.fsfs_revision.specs.Told.{RevisionBytes}
use Rattle.fsfs_noderev.specs.Ids.{Old, part_value}
use Rattle.fsfs_noderev.specs.declared.node_id.Place.TheVariants as places
use Rattle.fsfs_noderev.specs.declared.node_id.NodeId.{NodeId}
use Rattle.fsfs_noderev.specs.declared.node_rev.NodeRev.{NodeRev}
use Rattle.fsfs_revision.specs.Shows.Reading.{StandsAt}
use Rattle.fsfs_draft.specs.Own.{OwnNode, Own, draft_tree, shared_under, shared_at}
use Rattle.fsfs_draft.specs.Rules.{stands_under, stands_at}
use Rattle.fsfs_draft.specs.Errors.{IsFailure}
use Rattle.fsfs_draft.specs.declared.error.EditError.{EditError}
use Rattle.fsfs_draft.specs.declared.walk.Step.{Step}
use Rattle.fsfs_draft.specs.declared.walk.Step.TheVariants as steps
use Rattle.fsfs_draft.specs.declared.walk.Child.{Child}
use Rattle.fsfs_draft.specs.declared.walk.Found.{Found}
use Rattle.fsfs_draft.specs.declared.walk.Found.TheVariants as founds
use Rattle.fsfs_revision.specs.Shows.ByTree.{LacksAt, IsBlockedAt}

-- the id of a transaction's root
pub record IsRootId (txn : TxnName) (id : NodeId) : Type 0 where
  pub node : part_value id.node ≡ Old 0
  pub copy : part_value id.copy ≡ Old 0
  pub place : id.place ≡ places.In txn

-- a node-revision of a revision stands at the path: it stands below an own one, and what is below it is what is shared there
pub record IsLastingAt (look : RevisionBytes) (trees : ℕ → TreeFunction) (base : ℕ) (own : Own) (path : Path) (u : NodeRev) : Type 0 where
  pub p : Path
  pub d : OwnNode
  pub here : own p ≡ Some d
  pub q : Path
  pub path_is : path ≡ p ++ q
  pub stands : stands_under look (Some d) (λ r v. stands_at look p own (StandsAt look base) r v) q u
  pub tree : (r : Path) → draft_tree trees own (trees base) (path ++ r) ≡ shared_under trees (Some d) (shared_at trees p own (trees base)) (q ++ r)

-- it stands at the path
abbrev pub IsAt : RevisionBytes → (ℕ → TreeFunction) → ℕ → Own → Path → Step → Type 0
IsAt look trees base own path (steps.Own id) = (v : OwnNode) × (own path ≡ Some v) × (v.node.id ≡ id)
IsAt look trees base own path (steps.Lasting found) = IsLastingAt look trees base own path found.node

abbrev pub HasKind : Option Node → Kind → Type 0
HasKind None kind = ⊥
HasKind (Some n) kind = n.kind ≡ kind

-- what stands at the path, or that nothing does; nothing is wrong
abbrev pub IsChild : RevisionBytes → (ℕ → TreeFunction) → ℕ → Own → Path → Result (Option Child) EditError → Type 0
IsChild look trees base own path (Ok None) = draft_tree trees own (trees base) path ≡ None
IsChild look trees base own path (Ok (Some c)) = IsAt look trees base own path c.step × HasKind (draft_tree trees own (trees base) path) c.kind
IsChild look trees base own path (Err e) = IsFailure e

-- the answer is the tree's: its node, or the first path that it lacks, or the file that is in the way
abbrev pub IsFound : RevisionBytes → (ℕ → TreeFunction) → ℕ → Own → Path → Result Found EditError → Type 0
IsFound look trees base own path (Ok (founds.Node c)) = IsAt look trees base own path c.step × HasKind (draft_tree trees own (trees base) path) c.kind
IsFound look trees base own path (Ok (founds.Absent depth)) = LacksAt (draft_tree trees own (trees base)) path depth
IsFound look trees base own path (Ok (founds.File depth)) = IsBlockedAt (draft_tree trees own (trees base)) path depth
IsFound look trees base own path (Err e) = IsFailure e
