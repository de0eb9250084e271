-- What it says of the history that files stand for that a check finds nothing wrong with them.
use Rattle.std.specs.Prelude.{◌≡◌, ℕ, suc, List, length, Ok}
use Rattle.fsfs_base.specs.Files.{Files}
use Rattle.fsfs_tree.specs.Revisions.{Revision}
use Rattle.fsfs_revision.specs.RevBytes.{props_bytes, rev_bytes}
use Rattle.fsfs_stands.specs.Files.{StandsFor}
use Rattle.fsfs_sound.specs.OpenTexts.{HasOpenTexts}
use Rattle.fsfs_check.specs.Finds.{Finds}

-- where a check up to its last revision finds nothing wrong, no text of it is a delta
abbrev pub SoundHistoriesAreOpen : Type 0
SoundHistoriesAreOpen = (files : Files) (youngest : ℕ) (h : List Revision) (done : Unit {0}) (stands : StandsFor files h) → length h ≡ suc youngest
    → Finds (rev_bytes stands.opened.layout files) (props_bytes stands.opened.layout files) youngest (Ok done) → HasOpenTexts h
