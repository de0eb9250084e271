-- What a purge comes to, in what the pass knows.
use Rattle.std.specs.Prelude.{◌≡◌, ◌<◌, [], ◌∷◌, ◌++◌, length, false, Result, Ok, Err}
use Rattle.fsfs_base.specs.declared.places.place.DiskPlace.{DiskPlace}
use Rattle.fsfs_base.specs.declared.places.place.DiskPlace.TheVariants.{Remove}
use Rattle.fsfs_machine.specs.declared.machine.Outcome.TheVariants.{Done, Failed}
use Rattle.fsfs_machine.specs.declared.machine.Step.{Step}
use Rattle.fsfs_machine.specs.declared.machine.Went.{Went}
use Rattle.fsfs_machine.specs.declared.machine.Went.TheVariants.{Fine}
use Rattle.fsfs_machine.specs.Machine.{World, is_fine_in}
use Rattle.fsfs_turn.specs.Views.{View, Begins}
use Rattle.fsfs_turn.specs.Learning.{TurnedFrom}
use Rattle.fsfs_begin.specs.declared.purge_fault.PurgeFault.{PurgeFault}
use Rattle.fsfs_begin.specs.declared.purge_fault.PurgeFault.TheVariants.{DiskFault}

-- PURGED, by one step of the machine from the store as it is laid out here. The pass saw the history as it is then, and nothing else
-- is changed for it.
pub record HasPurged (lay : World → World) (step : Step) (v u : View) : Type 0 where
  pub turned : TurnedFrom lay step Done v u
  pub is : u ≡ record v { pass = record v.pass { seen = length u.seen }; seen = u.seen }
  pub grows : Begins u.seen v.seen
  -- it has seen the youngest revision that it was told of
  pub all : v.pass.least < length u.seen

-- The call at this place failed: the pass's faults end with it, and the label is kept or not, as the step has it.
pub record HasNotPurged (place : DiskPlace) (lay : World → World) (step : Step) (v u : View) : Type 0 where
  pub turned : TurnedFrom lay step Failed v u
  pub is : u ≡ record v { pass = record v.pass { seen = length u.seen; faults = v.pass.faults ++ place ∷ [] }; seen = u.seen }
  pub grows : Begins u.seen v.seen
  pub all : v.pass.least < length u.seen

-- how a purge went, which is a step for each way
abbrev pub Purges : (View → Type 0) → (World → World) → (Went → Step) → Result (Unit {0}) PurgeFault → View → Type 0
Purges knows lay step (Ok done) v = (u : View) × knows u × HasPurged lay (step Fine) v u
Purges knows lay step (Err (DiskFault place)) v =
    (place ≡ Remove) × (u : View) × (went : Went) × knows u × (is_fine_in went ≡ false) × HasNotPurged place lay (step went) v u
