-- The transactions that a pass lists.
use Rattle.std.specs.Prelude.{◌≡◌, ◌⊎◌, List, Option, Some, Result, Ok, Err}
use Rattle.fsfs_disk.specs.Labels.{Label}
use Rattle.fsfs_disk.specs.declared.disk.ListFault.{ListFault}
use Rattle.fsfs_disk.specs.declared.disk.ListFault.TheVariants.{Failed, Memory}
use Rattle.fsfs_machine.specs.declared.machine.Went.TheVariants.{Fine, Before}
use Rattle.fsfs_turn.specs.Learning.{Listed}
use Rattle.fsfs_turn.specs.Views.{View}

-- The machine's listing of these labels, however it went. For want of memory it was done or not.
abbrev pub ListsSo : {X : Type 0} → (View → Type 0) → Option (List Label) → Result X ListFault → View → Type 0
ListsSo knows told (Ok names) v = (ls : List Label) × (told ≡ Some ls) × (u : View) × knows u × Listed ls Fine v u
ListsSo knows told (Err Failed) v = (ls : List Label) × (told ≡ Some ls) × (u : View) × knows u × Listed ls Before v u
ListsSo knows told (Err Memory) v = knows v ⊎ ((ls : List Label) × (told ≡ Some ls) × (u : View) × knows u × Listed ls Fine v u)
