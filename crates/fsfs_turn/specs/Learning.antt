-- Turns that tell a pass the history as it is: reads of small files, listings, and calls on the benches of transactions.
use Rattle.std.specs.Prelude.{◌≡◌, ◌+◌, ◌-◌, ◌^◌, ◌<◌, ◌≤◌, ◌||◌, ◌==◌, if◌then◌else◌, ℕ, List, [], ◌∷◌, length, Bool, true, false, Option, Some, None, Result, IfOk}
use Rattle.std.specs.FinMap.{get}
use Rattle.fsfs_base.specs.Files.{Files}
use Rattle.fsfs_layout.specs.FileNames.{only_name}
use Rattle.fsfs_layout.specs.Small.{IsBase36Line}
use Rattle.fsfs_layout.specs.declared.only_file.OnlyFile.TheVariants.{TxnCurrent}
use Rattle.fsfs_disk.specs.Labels.{Label, Txn as TxnLabel, Pack, HotCopy}
use Rattle.fsfs_disk.specs.Trace.{IsRead}
use Rattle.fsfs_machine.specs.declared.machine.Recorded.{Recorded}
use Rattle.fsfs_machine.specs.declared.machine.Drawn.{Drawn}
use Rattle.fsfs_machine.specs.declared.machine.Txn.{Txn}
use Rattle.fsfs_machine.specs.declared.machine.Pass.{Pass}
use Rattle.fsfs_base.specs.declared.places.place.DiskPlace.TheVariants as place
use Rattle.fsfs_base.specs.declared.places.place.BeginPlace.TheVariants as begin
use Rattle.fsfs_machine.specs.declared.machine.Section.TheVariants.{CountRead, Over}
use Rattle.fsfs_machine.specs.declared.machine.Went.{Went}
use Rattle.fsfs_machine.specs.declared.machine.Outcome.{Outcome}
use Rattle.fsfs_machine.specs.declared.machine.Outcome.TheVariants as outcome
use Rattle.fsfs_machine.specs.declared.machine.Step.{Step}
use Rattle.fsfs_machine.specs.declared.machine.Step.TheVariants as step
use Rattle.fsfs_machine.specs.Machine.{World, Did, Happens, either, answer, learns, sees_floor, last_name}
use Rattle.fsfs_machine.specs.Kept.{Kept, AllBelow, IsIn}
use Rattle.fsfs_turn.specs.Bytes.{AllShow}
use Rattle.fsfs_turn.specs.Views.{View, Sees, Begins, Turned, with_txns, Answers, IsTxnOver, firm_read}

-- a turn is one step of the machine from the store as it is laid out here: with names, transactions and labels of its own
pub record TurnedFrom (lay : World → World) (step : Step) (outcome : Outcome) (v u : View) : Type 0 where
  pub world : World
  pub kept : Kept (lay world)
  pub sees : Sees world v
  pub did : Did
  pub happens : Happens (lay world) step did
  pub answers : did.outcome ≡ outcome
  pub after : Kept (with_txns [] did.world)
  pub leaves : Sees did.world u

-- by this step the pass saw the history as it is then, and learned so much of it, and of the firm floor
pub record LearnedFirm (lay : World → World) (step : Step) (outcome : Outcome) (tell : ℕ → Pass → Pass) (firm : Option ℕ) (v u : View) : Type 0 where
  pub turned : TurnedFrom lay step outcome v u
  pub is : u ≡ record v { pass = tell (length u.seen) v.pass; seen = u.seen; firm = firm }
  pub grows : Begins u.seen v.seen
  -- while the pass is sure there is no more to be seen
  pub within : v.sure ≡ true → length u.seen ≤ v.pass.least + 1
  -- it has seen the youngest revision that it was told of
  pub all : v.pass.least < length u.seen
  pub shown : AllShow u.seen

-- of the firm floor nothing
abbrev pub Learned : (World → World) → Step → Outcome → (ℕ → Pass → Pass) → View → View → Type 0
Learned lay step outcome tell v u = LearnedFirm lay step outcome tell v.firm v u

-- the property file of revision r, which is x, was read
abbrev pub PropsRead : ℕ → Recorded → Went → View → View → Type 0
PropsRead r x went v u = Learned (with_txns []) (step.ReadProps v.number r went) (either went (outcome.Properties x.revision.properties) outcome.Failed) (λ n. learns n place.Read went) v u

-- `min-unpacked-rev` was read: the pass knows this floor, or the one that it knew before, where that is greater. With the lock held it is
-- the firm one.
abbrev pub FloorRead : ℕ → Went → View → View → Type 0
FloorRead floor went v u = LearnedFirm (with_txns []) (step.ReadFloor v.number went) (either went (outcome.Floor floor) outcome.Failed) (λ n. sees_floor n went (Some floor)) (firm_read v.section went floor v.firm) v u

-- a begin's first call: `txn-current` was read, in which this number stands
abbrev pub drawn_of : ℕ → ℕ → Drawn
drawn_of base number = record { name = number; next = number + 1; base = base }

pub record CounterRead (base number : ℕ) (went : Went) (v u : View) : Type 0 where
  pub turned : Turned [] (step.Draw v.number base went) (answer went) v u
  pub is : u ≡ record v { pass = learns (length u.seen) (place.Begin begin.Read) went v.pass; seen = u.seen; section = Some (either went (CountRead (drawn_of base number)) Over) }
  pub grows : Begins u.seen v.seen
  pub within : v.sure ≡ true → length u.seen ≤ v.pass.least + 1
  -- it has seen the youngest revision that it was told of
  pub all : v.pass.least < length u.seen
  pub shown : AllShow u.seen
  -- each name that it knew to be given is below the number
  pub above : AllBelow number v.given

-- What stands there, as a begin reads it from the beginning on. Of the last number, behind which no name comes, the machine has no reading; the pass
-- knows then that no name is left.
pub record ReadsCounter (knows : View → Type 0) (told : Option Files) (base : ℕ) {E : Type 0} (result : Result (Option ℕ) E) (old new : List ℕ) (v : View) : Type 0 where
  pub text : List ℕ
  pub number : ℕ
  pub line : IsBase36Line text number
  pub files : Files
  pub files_are : told ≡ Some files
  pub there : get files (only_name TxnCurrent) ≡ Some text
  pub read : IfOk result (IsRead (Some text) 0 old new)
  pub turned : number < last_name → (u : View) × (went : Went) × knows u × Answers result went × CounterRead base number went v u
  pub full : last_name ≤ number → knows (record v { full = true })

-- ---- labels

-- a transaction's label is kept, whatever its base
abbrev pub has_number : ℕ → List Label → Bool
has_number k [] = false
has_number k (TxnLabel base number ∷ ls) = number == k || has_number k ls
has_number k (Pack shard ∷ ls) = has_number k ls
has_number k (HotCopy ∷ ls) = has_number k ls

-- those of these names whose labels are kept
abbrev pub kept_names : List Label → List ℕ → List ℕ
kept_names ls [] = []
kept_names ls (k ∷ ks) = if has_number k ls then k ∷ kept_names ls ks else kept_names ls ks

-- the store with these labels
abbrev pub with_labels : List ℕ → World → World
with_labels ks w = record w { txns = []; named = []; spent = []; labels = ks }

-- with names that have no bench yet
abbrev pub with_named : List Drawn → World → World
with_named xs w = record w { txns = []; named = xs; spent = []; labels = [] }

-- with the name of a transaction that is no more, and its label
abbrev pub with_spent : ℕ → World → World
with_spent name w = record w { txns = []; named = []; spent = name ∷ []; labels = name ∷ [] }

-- the labels were listed: of the names that the pass knows to be given, those that are kept
abbrev pub Listed : List Label → Went → View → View → Type 0
Listed ls went v u = Learned (with_labels (kept_names ls v.given)) (step.ListTxns v.number went) (either went (outcome.Names (kept_names ls v.given)) outcome.Failed) (λ n. learns n place.List went) v u

-- the bench of a transaction may be made: the pass is in no section, and the name was given for a base that it has seen
pub record MayMake (v : View) (x : Drawn) : Type 0 where
  pub outside : v.section ≡ None
  pub given : IsIn x.name v.given
  pub base : x.base < length v.seen

-- a begin's last call: the transaction has a bench now, or it is no more
abbrev pub BenchMade : Drawn → Went → View → View → Type 0
BenchMade x went v u = Learned (with_named (x ∷ [])) (step.MakeBench v.number 0 went) (answer went) (λ n. learns n place.MakeBench went) v u

-- a transaction under way may be purged
pub record MayPurge (v : View) (txn : Txn) : Type 0 where
  pub outside : v.section ≡ None
  pub given : IsIn txn.name v.given
  pub base : txn.base < length v.seen
  pub over : IsTxnOver v.seen txn

-- its label is dropped
abbrev pub Purged : Txn → Went → View → View → Type 0
Purged txn went v u = Learned (with_txns (txn ∷ [])) (step.Purge v.number 0 went) (answer went) (λ n. learns n place.Remove went) v u

-- so is the label of one that is no more
abbrev pub SpentPurged : ℕ → Went → View → View → Type 0
SpentPurged name went v u = Learned (with_spent name) (step.PurgeSpent v.number 0 went) (answer went) (λ n. learns n place.Remove went) v u
