-- A property set or removed at a path: what is left.
use Rattle.std.specs.Prelude.{ℕ, true, false, List, Option, Vec}
use Rattle.std.specs.Global.{Global}
use Rattle.fsfs_base.specs.Paths.{Path}
use Rattle.fsfs_tree.specs.Nodes.{TreeFunction}
use Rattle.fsfs_model.specs.Flat.Edits.{kind_of_node}
use Rattle.fsfs_model.specs.declared.flat.edit.Edit.TheVariants.{SetProp}
use Rattle.fsfs_model.specs.declared.flat.mark.Mark.{Mark}
use Rattle.fsfs_base.specs.declared.fields.txn_name.TxnName.{TxnName}
use Rattle.fsfs_revision.specs.Told.{RevisionBytes}
use Rattle.fsfs_draft.specs.Drafts.{Folder}
use Rattle.fsfs_edit.specs.Items.{ModifiesItem}
use Rattle.fsfs_edit.specs.Meeting.{IsDone}

-- the edit, with the item that says it
abbrev pub IsPropertyIn : RevisionBytes → (ℕ → TreeFunction) → ℕ → ℕ → TxnName → TreeFunction → List Mark → Path → List ℕ → Option (Vec ℕ Global) → Folder → Type 0
IsPropertyIn look trees top base txn tree marks p name value after = IsDone look trees top base txn tree marks (SetProp p name value) after × ModifiesItem after (kind_of_node (tree p)) p false true
