-- Which history the files of a repository stand for.
--
-- The files are those of the libsvn_fs_fs structure file, "Layout of the FS directory", for the sharded layout of format 4. The bytes
-- of a revision stand in a file of their own, or below the floor in the pack of their shard.
use Rattle.std.specs.Prelude.{◌≡◌, suc, List, length}
use Rattle.fsfs_base.specs.Files.{Files}
use Rattle.fsfs_tree.specs.Revisions.{Revision}
use Rattle.fsfs_layout.specs.Opening.{small_texts, IsOpened}
use Rattle.fsfs_layout.specs.declared.opened.Opened.{Opened}
use Rattle.fsfs_revision.specs.RevBytes.{rev_bytes, props_bytes}
use Rattle.fsfs_stands.specs.History.{ShowsHistory}

-- the files stand for the history: the bytes of revisions, packed or not, and the property files show it
pub record StandsFor (files : Files) (h : List Revision) : Type 0 where
  -- what the small files say
  pub opened : Opened
  pub small : IsOpened (small_texts files) opened
  -- `current` names the last revision
  pub count : length h ≡ suc opened.youngest
  pub history : ShowsHistory (rev_bytes opened.layout files) (props_bytes opened.layout files) h
