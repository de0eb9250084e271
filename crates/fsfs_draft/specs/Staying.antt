-- A draft stays one while others commit: the bytes of more revisions are known, and those that were known stay.
use Rattle.std.specs.Prelude.{◌≡◌, ◌≤◌, ◌<◌, ℕ, List, Ok}
use Rattle.fsfs_base.specs.Paths.{Path}
use Rattle.fsfs_tree.specs.Nodes.{TreeFunction}
use Rattle.fsfs_model.specs.declared.flat.mark.Mark.{Mark}
use Rattle.fsfs_base.specs.declared.fields.txn_name.TxnName.{TxnName}
use Rattle.fsfs_revision.specs.Told.{RevisionBytes}
use Rattle.fsfs_revision.specs.Ancestry.Bounded.{AreSameUpTo}
use Rattle.fsfs_draft.specs.Own.{Own, draft_tree}
use Rattle.fsfs_draft.specs.Drafts.{Folder, IsDraft}
use Rattle.fsfs_draft.specs.Whole.{IsDraftOf}

-- no revision above `top` has bytes
abbrev pub IsYoungest : RevisionBytes → ℕ → Type 0
IsYoungest look top = (rev : ℕ) (bytes : List ℕ) → top < rev → look rev ≡ Ok bytes → ⊥

-- the later bytes and trees, up to the later youngest revision
pub record IsLater (look other : RevisionBytes) (trees more : ℕ → TreeFunction) (top later : ℕ) : Type 0 where
  pub youngest : IsYoungest look top
  pub above : top ≤ later
  pub same : AreSameUpTo top look other
  pub same_trees : (r : ℕ) → r ≤ top → trees r ≡ more r

pub record DraftsStay : Type 0 where
  pub draft : (look other : RevisionBytes) (trees more : ℕ → TreeFunction) (top later base : ℕ) (txn : TxnName) (f : Folder) (own : Own) → IsLater look other trees more top later → base ≤ top
      → IsDraft look top base txn f own → IsDraft other later base txn f own
  -- it shows the tree that it showed
  pub tree : (look other : RevisionBytes) (trees more : ℕ → TreeFunction) (top later base : ℕ) (txn : TxnName) (f : Folder) (own : Own) → IsLater look other trees more top later → base ≤ top
      → IsDraft look top base txn f own → (p : Path) → draft_tree trees own (trees base) p ≡ draft_tree more own (more base) p
  pub whole : (look other : RevisionBytes) (trees more : ℕ → TreeFunction) (top later base : ℕ) (txn : TxnName) (f : Folder) (tree : TreeFunction) (marks : List Mark) → IsLater look other trees more top later → base ≤ top
      → IsDraftOf look trees top base txn f tree marks → IsDraftOf other more later base txn f tree marks
