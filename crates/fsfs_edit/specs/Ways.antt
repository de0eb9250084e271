-- The way to the directory in which an edit is asked for.
use Rattle.std.specs.Prelude.{◌≡◌, ◌≤◌, ◌⊎◌, ◌++◌, ℕ, List, [], ◌∷◌, length, Some, None, Result, Ok, Err}
use Rattle.fsfs_base.specs.Paths.{PathName, Path}
use Rattle.fsfs_base.specs.declared.kind.Kind.{Kind}
use Rattle.fsfs_base.specs.declared.kind.Kind.TheVariants.{File, Dir}
use Rattle.fsfs_tree.specs.Nodes.{TreeFunction}
use Rattle.fsfs_tree.specs.Trees.{IsTree}
use Rattle.fsfs_model.specs.declared.flat.mark.Mark.{Mark}
use Rattle.fsfs_base.specs.declared.fields.txn_name.TxnName.{TxnName}
use Rattle.fsfs_revision.specs.Told.{Told, RevisionBytes, Knows}
use Rattle.fsfs_noderev.specs.declared.node_id.NodeId.{NodeId}
use Rattle.fsfs_revision.specs.Shows.ByTree.{LacksAt, IsBlockedAt}
use Rattle.fsfs_draft.specs.Own.{OwnNode, Own}
use Rattle.fsfs_draft.specs.Drafts.{Folder, ShowTrees}
use Rattle.fsfs_draft.specs.Edits.{IsOpenedTo, IsDraftAfter}
use Rattle.fsfs_draft.specs.Errors.{IsFailure}
use Rattle.fsfs_draft.specs.Walks.{IsAt, HasKind}
use Rattle.fsfs_draft.specs.declared.error.EditError.{EditError}
use Rattle.fsfs_draft.specs.declared.walk.Found.{Found}
use Rattle.fsfs_draft.specs.declared.walk.Found.TheVariants as founds
use Rattle.fsfs_edit.specs.declared.way.Target.{Target}
use Rattle.fsfs_edit.specs.declared.way.Target.TheVariants as targets

-- so many names of the path lead to a file
abbrev pub IsNoDirectory : TreeFunction → Path → ℕ → Type 0
IsNoDirectory tree p depth = IsBlockedAt tree p depth ⊎ ((depth ≡ length p) × HasKind (tree p) File)

-- a directory stands at the path, and has nothing of the name
abbrev pub HasRoom : TreeFunction → Path → PathName → Type 0
HasRoom tree p name = HasKind (tree p) Dir × (tree (p ++ name ∷ []) ≡ None)

-- what stands under a name of the directory at a path
abbrev pub IsTarget : RevisionBytes → (ℕ → TreeFunction) → ℕ → Own → TreeFunction → Path → PathName → Result Target EditError → Type 0
IsTarget look trees base own tree p name (Ok (targets.NotFound depth)) = LacksAt tree p depth
IsTarget look trees base own tree p name (Ok (targets.NotDir depth)) = IsNoDirectory tree p depth
IsTarget look trees base own tree p name (Ok targets.Free) = HasRoom tree p name
IsTarget look trees base own tree p name (Ok (targets.Taken c)) = HasKind (tree p) Dir × HasKind (tree (p ++ name ∷ [])) c.kind × IsAt look trees base own (p ++ name ∷ []) c.step
IsTarget look trees base own tree p name (Err e) = IsFailure e

-- it is found by the tree of the draft
abbrev pub LooksAt : Told → TxnName → Folder → Path → PathName → Result Target EditError → Type 0
LooksAt told txn f p name result = (look : RevisionBytes) (trees : ℕ → TreeFunction) (top base : ℕ) (tree : TreeFunction) (marks : List Mark) → Knows told top look → ShowTrees look top trees → base ≤ top → IsTree tree
    → (d : IsDraftAfter look trees top base txn f tree marks) → IsTarget look trees base d.0.shows.own tree p name result

-- what stands at a path, or the first names that lead to nothing, or to a file
abbrev pub IsFoundIn : TreeFunction → Path → Result Found EditError → Type 0
IsFoundIn tree p (Ok (founds.Node c)) = HasKind (tree p) c.kind
IsFoundIn tree p (Ok (founds.Absent depth)) = LacksAt tree p depth
IsFoundIn tree p (Ok (founds.File depth)) = IsBlockedAt tree p depth
IsFoundIn tree p (Err e) = IsFailure e

-- the node-revision of this id and kind stands at the path, and is the transaction's own, as all above it
pub record IsOpenedAt (look : RevisionBytes) (trees : ℕ → TreeFunction) (top base : ℕ) (txn : TxnName) (marks : List Mark) (tree : TreeFunction) (first : Own) (p : Path) (kind : Kind) (after : Folder) (id : NodeId) : Type 0 where
  pub now : Own
  pub opened : IsOpenedTo look trees top base txn marks tree first p after now
  pub v : OwnNode
  pub here : now p ≡ Some v
  pub id_is : v.node.id ≡ id
  pub kind_is : v.node.kind ≡ kind

abbrev pub LeavesOpened : RevisionBytes → (ℕ → TreeFunction) → ℕ → ℕ → TxnName → List Mark → TreeFunction → Own → Path → Kind → Folder → Result NodeId EditError → Type 0
LeavesOpened look trees top base txn marks tree first p kind after (Ok id) = IsOpenedAt look trees top base txn marks tree first p kind after id
LeavesOpened look trees top base txn marks tree first p kind after (Err e) = IsFailure e

-- so it is, where the draft's tree has something at the path
abbrev pub Opens : Told → TxnName → Folder → Folder → Path → Result NodeId EditError → Type 0
Opens told txn before after p result = (look : RevisionBytes) (trees : ℕ → TreeFunction) (top base : ℕ) (tree : TreeFunction) (marks : List Mark) (kind : Kind) → Knows told top look → ShowTrees look top trees → base ≤ top → IsTree tree
    → (d : IsDraftAfter look trees top base txn before tree marks) → HasKind (tree p) kind → LeavesOpened look trees top base txn marks tree d.0.shows.own p kind after result
