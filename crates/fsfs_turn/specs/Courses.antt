-- Steps of a pass, one after another, and what reading alone comes to.
use Rattle.std.specs.Prelude.{◌≡◌, ◌≤◌, ◌+◌, ℕ, List, length, true, Some}
use Rattle.fsfs_machine.specs.declared.machine.Outcome.{Outcome}
use Rattle.fsfs_machine.specs.declared.machine.Step.{Step}
use Rattle.fsfs_machine.specs.declared.machine.Txn.{Txn}
use Rattle.fsfs_turn.specs.Alone.{BringsNoDoubt}
use Rattle.fsfs_turn.specs.Bytes.{AllShow}
use Rattle.fsfs_turn.specs.Views.{View, Begins, Turned}

-- A COURSE: steps of the machine, one after another, from what the pass knew to what it knows
pub data Course : View → View → Type 0 where
  End : (v : View) → Course v v
  More : (txns : List Txn) (step : Step) (outcome : Outcome) (v m u : View) → Turned txns step outcome v m → Course m u → Course v u

-- only reads: more of the history was seen, and faults of reads came
pub record ReadOnly (v u : View) : Type 0 where
  pub is : u ≡ record v { pass = record v.pass { seen = u.pass.seen; faults = u.pass.faults; floor = u.pass.floor }; seen = u.seen; firm = u.firm }
  pub grows : Begins u.seen v.seen
  -- the firm floor that it knew stays firm
  pub firm : (f : ℕ) → v.firm ≡ Some f → u.firm ≡ Some f
  pub doubtless : BringsNoDoubt v u
  -- the bytes beside what it has seen show it
  pub shown : AllShow u.seen
  -- while it holds the lock and was told the youngest number, there is no more to be seen
  pub within : v.sure ≡ true → length v.seen ≤ v.pass.least + 1 → length u.seen ≤ v.pass.least + 1
  pub course : Course v u
