-- What is noted of a transaction that is to be committed.
use Rattle.std.specs.Prelude.{◌≡◌, ℕ, Bool, true, false, Option, Some, None}
use Rattle.fsfs_base.specs.declared.fields.txn_name.TxnName.{TxnName}
use Rattle.fsfs_draft.specs.Drafts.{Folder}
use Rattle.fsfs_machine.specs.Kept.{IsIn}
use Rattle.fsfs_turn.specs.Views.{View}
use Rattle.fsfs_commit.specs.Transaction.Meaning.{IsTxnOf}
use Rattle.fsfs_commit.specs.declared.transaction.standing.Standing.{Standing}

-- the transaction of this name on this base, of which this is settled, stands for the one that is noted, over what the pass has seen
pub record IsNoted (knows : View → Type 0) (name : TxnName) (base : ℕ) (settled : Folder) (s : Standing) : Type 0 where
  pub view : View
  pub known : knows view
  pub outside : view.section ≡ None
  pub seen : s.seen ≡ view.seen
  pub given : IsIn s.txn.name view.given
  pub stands : IsTxnOf view.seen name base settled s.txn

-- where others rest on the turns one is noted, and else none
abbrev pub NotesOne : Bool → Option Standing → (Standing → Type 0) → Type 0
NotesOne true value P = (s : Standing) × (value ≡ Some s) × P s
NotesOne false value P = value ≡ None
