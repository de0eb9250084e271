-- What a begin makes of the labels that are kept.
use Rattle.std.specs.Prelude.{◌≡◌, ◌⊎◌, ℕ, List, Option, None, option_map}
use Rattle.fsfs_disk.specs.Labels.{Label, Txn, without_label}
use Rattle.fsfs_machine.specs.Kept.{AllBelow}
use Rattle.fsfs_turn.specs.Views.{View}

-- the label went, or the disk failed
abbrev pub IsUnlisted : Label → Type 0 → Option (List Label) → Option (List Label) → Type 0
IsUnlisted l rose old new = (new ≡ option_map (without_label l) old) ⊎ rose

-- No label came: they are as before; or the name that was drawn for a transaction on this base has none now, and no other went or came; or
-- the disk failed. Of the number of that name this is so.
abbrev pub ListsNoMore : (ℕ → Type 0) → ℕ → Type 0 → Option (List Label) → Option (List Label) → Type 0
ListsNoMore Named base rose old new = (new ≡ old) ⊎ ((n : ℕ) × Named n × IsUnlisted (Txn base n) rose old new)

-- A name that is new to a pass of which this is known, in no section: all that it knew to be given are below.
abbrev pub IsNew : (View → Type 0) → ℕ → Type 0
IsNew knows n = (v : View) → knows v → v.section ≡ None → AllBelow n v.given
