-- A transaction that a pass purges.
use Rattle.std.specs.Prelude.{◌≡◌, ℕ, [], ◌∷◌, Result}
use Rattle.fsfs_machine.specs.declared.machine.Txn.{Txn}
use Rattle.fsfs_machine.specs.declared.machine.Step.TheVariants.{Purge}
use Rattle.fsfs_turn.specs.Learning.{MayPurge}
use Rattle.fsfs_turn.specs.Views.{View, with_txns}
use Rattle.fsfs_begin.specs.Purged.{Purges}
use Rattle.fsfs_begin.specs.declared.purge_fault.PurgeFault.{PurgeFault}

-- the machine's purge of a transaction under way of this name, however it went
abbrev pub PurgesAny : (View → Type 0) → ℕ → Result (Unit {0}) PurgeFault → View → Type 0
PurgesAny knows name result v = (txn : Txn) × (txn.name ≡ name) × MayPurge v txn × Purges knows (with_txns (txn ∷ [])) (λ went. Purge v.number 0 went) result v
