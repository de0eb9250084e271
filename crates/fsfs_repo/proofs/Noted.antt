-- What is noted of a transaction that is to be committed.
use Rattle.std.proofs.Common.{◌≡◌, ℕ, Bool, true, false, refl, ap}
use Rattle.std.specs.Prelude.{Option, Some, None, is_some}
use Rattle.fsfs_base.specs.declared.fields.txn_name.TxnName.{TxnName}
use Rattle.fsfs_draft.specs.Drafts.{Folder}
use Rattle.fsfs_machine.specs.declared.machine.Txn.{Txn}
use Rattle.fsfs_machine.specs.Kept.{IsIn}
use Rattle.fsfs_turn.specs.Views.{View}
use Rattle.fsfs_commit.specs.Transaction.Meaning.{IsTxnOf}
use Rattle.fsfs_commit.specs.declared.transaction.standing.Standing.{Standing}
use Rattle.fsfs_repo.specs.Txns.Standings.{IsNoted, NotesOne}

-- there is one to note, where others rest on the turns
pub can_note : (bound : Bool) (P : Standing → Type 0) → (bound ≡ true → (s : Standing) × P s) → (value : Option Standing) × NotesOne bound value P
can_note true P one = let s = one refl in (Some s.0, (s.0, refl, s.1))
can_note false P one = (None, refl)

pub is_noted : (knows : View → Type 0) (name : TxnName) (base : ℕ) (settled : Folder) (v : View) (x : Txn) → knows v → v.section ≡ None → IsIn x.name v.given → IsTxnOf v.seen name base settled x → (s : Standing) × IsNoted knows name base settled s
is_noted knows name base settled v x known none given is = (record { txn = x; seen = v.seen }, record { view = v; known = known; outside = none; seen = refl; given = given; stands = is })

pub noted_if : (bound : Bool) (P : Standing → Type 0) (value : Option Standing) → NotesOne bound value P → is_some value ≡ bound
noted_if true P value noted = ap (λ o. is_some o) noted.1
noted_if false P value noted = ap (λ o. is_some o) noted
