-- A folder whose prototype file got longer, and of whose numbers some were drawn.
use Rattle.std.specs.Prelude.{◌≡◌, ◌+◌, ◌++◌, ℕ, List}
use Rattle.fsfs_tree.specs.Nodes.{TreeFunction}
use Rattle.fsfs_model.specs.declared.flat.mark.Mark.{Mark}
use Rattle.fsfs_base.specs.declared.fields.txn_name.TxnName.{TxnName}
use Rattle.fsfs_revision.specs.Told.{RevisionBytes}
use Rattle.fsfs_draft.specs.Drafts.{Folder}
use Rattle.fsfs_draft.specs.Edits.{IsDraftAfter}
use Rattle.fsfs_txn_nodes.specs.Memory.Texts.{longer}

abbrev pub grown : Folder → ℕ → List ℕ → Folder
grown f drawn more = record f { next_node = f.next_node + drawn; proto = f.proto ++ more }

-- the folder has bytes more at the end of its prototype file, and nothing else changed
abbrev pub IsLonger : Folder → Folder → Type 0
IsLonger before after = (more : List ℕ) × (after ≡ longer before more)

-- a draft stays one of the same tree and marks, whatever is put at the end of its prototype file
abbrev pub DraftsGrow : Type 0
DraftsGrow = (look : RevisionBytes) (trees : ℕ → TreeFunction) (top base : ℕ) (txn : TxnName) (before after : Folder) (tree : TreeFunction) (marks : List Mark) → IsLonger before after → IsDraftAfter look trees top base txn before tree marks → IsDraftAfter look trees top base txn after tree marks
