-- A text put at a path: what is left.
use Rattle.std.specs.Prelude.{◌≡◌, ℕ, true, false, List, None, Ok, Vec}
use Rattle.std.specs.Global.{Global}
use Rattle.fsfs_base.specs.Paths.{Path}
use Rattle.fsfs_base.specs.declared.kind.Kind.TheVariants.{File}
use Rattle.fsfs_tree.specs.Nodes.{TreeFunction}
use Rattle.fsfs_model.specs.declared.flat.edit.Edit.TheVariants.{PutText}
use Rattle.fsfs_model.specs.declared.flat.mark.Mark.{Mark}
use Rattle.fsfs_base.specs.declared.fields.txn_name.TxnName.{TxnName}
use Rattle.fsfs_revision.specs.Told.{RevisionBytes}
use Rattle.fsfs_noderev.specs.declared.rep.Rep.{Rep}
use Rattle.fsfs_revision.specs.Rep.Frames.{RepIn}
use Rattle.fsfs_draft.specs.Drafts.{Folder}
use Rattle.fsfs_edit.specs.Items.{ModifiesItem}
use Rattle.fsfs_edit.specs.Meeting.{IsDone}

-- the representation is one of the prototype file, of this text
pub record IsProtoText (proto : List ℕ) (rep : Rep) (text : List ℕ) : Type 0 where
  pub no_rev : rep.rev ≡ None
  pub read : RepIn rep proto (Ok text)

-- whatever text it is of, that is the file's
pub record IsTextSet (look : RevisionBytes) (trees : ℕ → TreeFunction) (top base : ℕ) (txn : TxnName) (tree : TreeFunction) (marks : List Mark) (proto : List ℕ) (p : Path) (rep : Rep) (after : Folder) : Type 0 where
  pub item : ModifiesItem after File p true false
  pub done : (text : Vec ℕ Global) → IsProtoText proto rep text.items → IsDone look trees top base txn tree marks (PutText p text) after
