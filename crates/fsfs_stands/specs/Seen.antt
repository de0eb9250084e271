-- That files stand for what the revisions up to `db/current` hold: a file that was left above it is seen by nobody.
use Rattle.std.specs.Prelude.{◌≡◌, ◌≤◌, ℕ, List}
use Rattle.fsfs_base.specs.Files.{Files}
use Rattle.fsfs_tree.specs.Revisions.{Revision}
use Rattle.fsfs_layout.specs.Opening.{small_texts, IsOpened}
use Rattle.fsfs_layout.specs.declared.layout.Layout.{Layout}
use Rattle.fsfs_revision.specs.RevBytes.{rev_bytes, props_bytes}
use Rattle.fsfs_stands.specs.Files.{StandsFor}

-- both have the same bytes of the revision, packed or not, and the same property file of it
pub record HaveSameRevision (layout : Layout) (files other : Files) (r : ℕ) : Type 0 where
  pub bytes : rev_bytes layout files r ≡ rev_bytes layout other r
  pub props : props_bytes layout files r ≡ props_bytes layout other r

-- where other files say the same in the small files, and have the revisions up to the youngest, they stand for the same history
abbrev pub LaterFilesAreNotSeen : Type 0
LaterFilesAreNotSeen = (files other : Files) (h : List Revision) (s : StandsFor files h) → IsOpened (small_texts other) s.opened
    → ((r : ℕ) → r ≤ s.opened.youngest → HaveSameRevision s.opened.layout files other r) → StandsFor other h
