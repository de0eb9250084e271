-- What a transaction stands for over the revisions that a pass has seen.
use Rattle.std.specs.Prelude.{◌≡◌, ◌<◌, ◌+◌, ◌++◌, ℕ, List, length, Option, Some, None, IsSome}
use Rattle.std.specs.FinMap.{get}
use Rattle.fsfs_base.specs.Files.{Files}
use Rattle.fsfs_base.specs.declared.failed.Failed.{Failed}
use Rattle.fsfs_base.specs.declared.fields.txn_name.TxnName.{TxnName}
use Rattle.fsfs_tree.specs.Revisions.{tree_of}
use Rattle.fsfs_tree.specs.Dated.{last_of}
use Rattle.fsfs_draft.specs.Drafts.{Folder}
use Rattle.fsfs_txn_nodes.specs.declared.memory.held_nodes.HeldNodes.{HeldNodes}
use Rattle.fsfs_txn.specs.Standing.{Stands}
use Rattle.fsfs_txn.specs.declared.txn.Txn.{Txn as LiveTxn}
use Rattle.fsfs_machine.specs.declared.machine.Recorded.{Recorded}
use Rattle.fsfs_machine.specs.declared.machine.Txn.{Txn}
use Rattle.fsfs_machine.specs.Machine.{revisions}
use Rattle.fsfs_turn.specs.Bytes.{bytes_of, BytesShow}
use Rattle.fsfs_commit.specs.FinalRev.Texts.{IsFinalText}
use Rattle.fsfs_commit.specs.declared.transaction.open_txn.OpenTxn.{OpenTxn}
use Rattle.fsfs_commit.specs.declared.transaction.ended_txn.EndedTxn.{EndedTxn}
use Rattle.fsfs_commit.specs.declared.transaction.txn_draft.Stage.{Stage}
use Rattle.fsfs_commit.specs.declared.transaction.txn_draft.Stage.TheVariants.{Open, Ended}
use Rattle.fsfs_commit.specs.declared.transaction.txn_draft.Left.{Left}
use Rattle.fsfs_commit.specs.declared.transaction.txn_draft.Left.TheVariants.{Txn as Kept, Bench}

-- Over these revisions, with the bytes beside them, the transaction of this name on this base, of which this is settled, stands for that of
-- the machine: its number, its base, its tree and its marks.
pub record IsTxnOf (h : List Recorded) (name : TxnName) (base : ℕ) (settled : Folder) (x : Txn) : Type 0 where
  pub numbered : x.name ≡ name.number.number
  pub on : x.base ≡ base
  pub based : base < length h
  pub stands : Stands (bytes_of h) (tree_of (revisions h)) (last_of (revisions h)) base name settled (get x.tree) x.marks

-- the bytes of a revision: those of the prototype file, in a bench that tells its files, and what was made to stand behind them
abbrev pub HoldsBehind : Option Files → List ℕ → Option (List ℕ) → List ℕ → Type 0
HoldsBehind bench proto text bytes = (more : List ℕ) × IsSome bench × (text ≡ Some more) × (bytes ≡ proto ++ more)

-- as long as its bench has not failed
abbrev pub Means : Option Failed → List Recorded → TxnName → ℕ → Folder → Txn → Type 0
Means spent h name base settled x = spent ≡ None → IsTxnOf h name base settled x

-- it stands on the revision before this one, which is the last of these, and these are shown
pub record IsYoungestOf (h : List Recorded) (rev : ℕ) (x : Txn) : Type 0 where
  pub next : x.base + 1 ≡ rev
  pub long : length h ≡ rev
  pub shown : BytesShow h

-- the text that was made is that of the revision that follows these, behind the prototype file
pub record IsTextBehind (h : List Recorded) (settled : Folder) (x : Txn) (text : Option (List ℕ)) : Type 0 where
  pub behind : List ℕ
  pub text_is : text ≡ Some behind
  pub final : IsFinalText (bytes_of h) (tree_of (revisions h)) x.base settled.proto (get x.tree) x.marks settled.items behind

-- ---- by its stage

abbrev pub IfOpen : {B : Type 0} {D : _} → Stage B D → (OpenTxn B D → Type 0) → Type 0
IfOpen (Open o) P = P o
IfOpen (Ended e) P = Unit {0}

abbrev pub OfStage : {B : Type 0} {D : _} → Stage B D → (OpenTxn B D → Type 0) → (EndedTxn B → Type 0) → Type 0
OfStage (Open o) P Q = P o
OfStage (Ended e) P Q = Q e

-- ---- what is left of it

abbrev pub left_of : {B : Type 0} {D : _} → Stage B D → Left B D
left_of (Open o) = Kept o.txn
left_of (Ended e) = Bench e.bench

-- a fact of the transaction, where it was not written
abbrev pub IfTxn : {B : Type 0} {D : _} → Left B D → (LiveTxn (HeldNodes B D) → Type 0) → Type 0
IfTxn (Kept txn) P = P txn
IfTxn (Bench bench) P = Unit {0}

-- one of the transaction, or one of the bench
abbrev pub OfLeft : {B : Type 0} {D : _} → Left B D → (LiveTxn (HeldNodes B D) → Type 0) → (B → Type 0) → Type 0
OfLeft (Kept txn) P Q = P txn
OfLeft (Bench bench) P Q = Q bench

abbrev pub bench_of : {B : Type 0} {D : _} → Left B D → B
bench_of (Kept txn) = txn.own.bench
bench_of (Bench bench) = bench
