-- What a pack does beside the calls of its section: its bench, the own files of what is packed, and their folder.
use Rattle.std.specs.Prelude.{◌≡◌, ◌⊎◌, ◌<◌, ◌^◌, ◌/◌, ℕ, [], length, Bool, true, false, Option, Some, None, Result, Ok, Err}
use Rattle.fsfs_layout.specs.Layouts.{shard_size}
use Rattle.fsfs_disk.specs.Labels.{Label, Txn as TxnLabel, Pack as PackLabel}
use Rattle.fsfs_base.specs.declared.places.place.DiskPlace.{DiskPlace}
use Rattle.fsfs_base.specs.declared.places.place.DiskPlace.TheVariants.{Remove}
use Rattle.fsfs_machine.specs.declared.machine.Drawn.{Drawn}
use Rattle.fsfs_machine.specs.declared.machine.Section.TheVariants.{Packed}
use Rattle.fsfs_machine.specs.declared.machine.Went.{Went}
use Rattle.fsfs_machine.specs.declared.machine.Step.TheVariants as step
use Rattle.fsfs_machine.specs.Machine.{answer, learns}
use Rattle.fsfs_machine.specs.Kept.{IsIn}
use Rattle.fsfs_turn.specs.Views.{View, Begins, Turned, with_txns, is_held, MayPack}
use Rattle.fsfs_turn.specs.Learning.{Learned, MayMake}

-- a call at this place that touches no file which the machine speaks of: it tells the history as it is
abbrev pub DoneBeside : DiskPlace → Went → View → View → Type 0
DoneBeside place went v u = Learned (with_txns []) (step.Beside v.number place went) (answer went) (λ n. learns n place went) v u

-- ---- benches

-- The bench of the shard at the firm floor may be made by a pass that may pack, while the lock is held: so nobody else writes there.
pub record MayBenchPack (v : View) (k : ℕ) : Type 0 where
  pub packs : v.since.packs ≡ true
  pub inside : MayPack v.section
  pub floor : ℕ
  pub firm : v.firm ≡ Some floor
  pub shard : k ≡ floor / shard_size v.layout

-- a bench may be made for this label
abbrev pub CanBench : View → Label → Type 0
CanBench v label = ((x : Drawn) × MayMake v x × (label ≡ TxnLabel x.base x.name)) ⊎ ((k : ℕ) × MayBenchPack v k × (label ≡ PackLabel k))

-- that of this label may be dropped: of a transaction in no section; of a pack with the lock held, by a pass that may pack
abbrev pub CanDrop : View → Label → Type 0
CanDrop v label = ((name : ℕ) × (base : ℕ) × (v.section ≡ None) × IsIn name v.given × (label ≡ TxnLabel base name)) ⊎ ((k : ℕ) × (v.since.packs ≡ true) × (is_held v.section ≡ true) × (label ≡ PackLabel k))

-- ---- own files

-- The own file of a revision may go: the floor above it is firm.
pub record MayRemove (v : View) (r : ℕ) : Type 0 where
  pub inside : v.section ≡ Some Packed
  pub floor : ℕ
  pub firm : v.firm ≡ Some floor
  pub below : r < floor
  pub fits : r < 2 ^ 32

-- it is gone, or the call failed
pub record OldRemoved (r : ℕ) (went : Went) (v u : View) : Type 0 where
  pub turned : Turned [] (step.RemoveOld v.number r went) (answer went) v u
  pub is : u ≡ record v { pass = learns (length u.seen) Remove went v.pass; seen = u.seen }
  pub grows : Begins u.seen v.seen

-- where none was there the call touched nothing
abbrev pub Removal : {E : Type 0} → Result Bool E → ℕ → Went → View → View → Type 0
Removal (Ok false) r went v u = DoneBeside Remove went v u
Removal (Ok true) r went v u = OldRemoved r went v u
Removal (Err e) r went v u = OldRemoved r went v u
