-- What a delete leaves.
use Rattle.std.specs.Prelude.{◌≡◌, ◌++◌, ℕ, List, [], ◌∷◌, Result, Ok, Err}
use Rattle.fsfs_base.specs.Paths.{PathName, Path}
use Rattle.fsfs_tree.specs.Nodes.{TreeFunction}
use Rattle.fsfs_model.specs.Flat.Edits.{without}
use Rattle.fsfs_base.specs.declared.fields.txn_name.TxnName.{TxnName}
use Rattle.fsfs_revision.specs.Told.{RevisionBytes}
use Rattle.fsfs_draft.specs.Own.{Own}
use Rattle.fsfs_draft.specs.Drafts.{Folder, IsItemOf}
use Rattle.fsfs_model.specs.declared.flat.mark.Mark.{Mark}
use Rattle.fsfs_model.specs.declared.flat.mark.What.TheVariants as whats
use Rattle.fsfs_noderev.specs.declared.changes.item.ChangeItem.{ChangeItem}
use Rattle.fsfs_draft.specs.Edits.{IsEdited, IsOpenedTo, IsDraftAfter}
use Rattle.fsfs_draft.specs.Errors.{IsFailure}
use Rattle.fsfs_draft.specs.Items.{with_item}
use Rattle.fsfs_draft.specs.declared.error.EditError.{EditError}

-- in the course of any edit that came down to the directory: with the item of it the folder holds a draft, and the tree and the marks
-- are the flat edit's
abbrev pub Takes : RevisionBytes → (ℕ → TreeFunction) → ℕ → ℕ → TxnName → Folder → Own → Path → PathName → Folder → Type 0
Takes look trees top base txn before own p name after = (tree : TreeFunction) (marks : List Mark) (first : Own) (item : ChangeItem) (m : Mark) → IsEdited look trees top base txn marks first → IsOpenedTo look trees top base txn marks tree first p before own
    → m.path ≡ p ++ name ∷ [] → m.what ≡ whats.Gone → IsItemOf item m → IsDraftAfter look trees top base txn (with_item after item) (without tree (p ++ name ∷ [])) (marks ++ m ∷ [])

abbrev pub LeavesGone : RevisionBytes → (ℕ → TreeFunction) → ℕ → ℕ → TxnName → Folder → Own → Path → PathName → Folder → Result (Unit {0}) EditError → Type 0
LeavesGone look trees top base txn before own p name after (Ok u) = Takes look trees top base txn before own p name after
LeavesGone look trees top base txn before own p name after (Err e) = IsFailure e
