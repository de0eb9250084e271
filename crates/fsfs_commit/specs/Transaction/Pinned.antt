-- For which transaction alone a draft stands, where others rest on the turns; and what is noted of it.
use Rattle.std.specs.Prelude.{◌≡◌, ◌<◌, ◌+◌, ◌++◌, ◌∷◌, [], ℕ, List, length, take, Option, Some, None}
use Rattle.fsfs_tree.specs.Revisions.{Revision}
use Rattle.fsfs_model.specs.Flat.Transactions.{IsNext}
use Rattle.fsfs_machine.specs.declared.machine.Recorded.{Recorded}
use Rattle.fsfs_machine.specs.declared.machine.Txn.{Txn}
use Rattle.fsfs_machine.specs.Machine.{revisions, entry_of}
use Rattle.fsfs_turn.specs.Adoptions.{adoption}
use Rattle.fsfs_turn.specs.Bytes.{BytesShow}
use Rattle.fsfs_turn.specs.Views.{View, Begins}
use Rattle.fsfs_turn.specs.declared.adoption.Adoption.{Adoption}
use Rattle.fsfs_commit.specs.Works.{LandedOn}
use Rattle.fsfs_commit.specs.declared.transaction.standing.Standing.{Standing}

-- where one is noted it is this one, over revisions that go on from those noted with it, among which is its base
abbrev pub IsPinned : Option Standing → List Recorded → Txn → Type 0
IsPinned None h x = Unit {0}
IsPinned (Some s) h x = (x ≡ s.txn) × (x.base < length s.seen) × Begins h s.seen

-- then the adoption that is noted is of these
abbrev pub IsAdopted : Option Standing → Option Adoption → Txn → List (List ℕ × List ℕ) → Revision → Type 0
IsAdopted None about txn properties next = Unit {0}
IsAdopted (Some s) about txn properties next = about ≡ Some (adoption txn properties next)

-- ---- what is noted

-- what a transaction was landed as on this head, over what the pass knows
pub record LandsAs (knows : View → Type 0) (stands : List Recorded → Txn → Type 0) (head : ℕ) (x : Txn) (t : Standing) : Type 0 where
  pub view : View
  pub known : knows view
  pub seen : t.seen ≡ take (head + 1) view.seen
  pub means : stands t.seen t.txn
  pub landed : LandedOn head view.seen x t.txn

-- the revision that it becomes behind those that are noted with it, of the bytes that were made
pub record AdoptsAs (holds : List ℕ → Type 0) (properties : List (List ℕ × List ℕ)) (s : Standing) (about : Adoption) : Type 0 where
  pub bytes : List ℕ
  pub next : Revision
  pub is : about ≡ adoption s.txn properties next
  pub held : holds bytes
  pub lands : (number : ℕ) → IsNext (revisions s.seen) (entry_of number s.txn properties) next
  pub shown : BytesShow (s.seen ++ record { revision = next; bytes = bytes } ∷ [])

-- where one is noted there is another to note, and else none
abbrev pub NotesLanding : Option Standing → Option Standing → (Standing → Standing → Type 0) → Type 0
NotesLanding None value P = value ≡ None
NotesLanding (Some s) value P = (t : Standing) × (value ≡ Some t) × P s t

abbrev pub NotesAdoption : Option Standing → Option Adoption → (Standing → Adoption → Type 0) → Type 0
NotesAdoption None value P = value ≡ None
NotesAdoption (Some s) value P = (about : Adoption) × (value ≡ Some about) × P s about
