-- That what bytes show, and what files stand for, is a history of the flat model.
use Rattle.std.specs.Prelude.{◌≡◌, ℕ, suc, List, length}
use Rattle.fsfs_base.specs.Files.{Files}
use Rattle.fsfs_tree.specs.Revisions.{Revision}
use Rattle.fsfs_tree.specs.Histories.{IsHistory}
use Rattle.fsfs_revision.specs.Told.{RevisionBytes}
use Rattle.fsfs_stands.specs.History.{ShowsHistory}
use Rattle.fsfs_stands.specs.Files.{StandsFor}

-- the first revision has `/` alone, and each later one follows the one before it
abbrev pub ShownIsAHistory : Type 0
ShownIsAHistory = (look props : RevisionBytes) (h : List Revision) (last : ℕ) → length h ≡ suc last → ShowsHistory look props h → IsHistory h

abbrev pub StoodForIsAHistory : Type 0
StoodForIsAHistory = (files : Files) (h : List Revision) → StandsFor files h → IsHistory h
