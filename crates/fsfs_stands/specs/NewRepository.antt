-- The files of a new repository, and what they stand for.
use Rattle.std.specs.Prelude.{◌≡◌, ℕ, List, length}
use Rattle.jiff_core.specs.declared.civil.datetime.DateTime.{DateTime}
use Rattle.fsfs_base.specs.Fields.Dates.{IsDateAt, IsDateText}
use Rattle.fsfs_base.specs.Files.{Files}
use Rattle.fsfs_base.specs.Grammar.Cuts.{Lacks}
use Rattle.fsfs_layout.specs.Layouts.{Packs, shard_size}
use Rattle.fsfs_layout.specs.declared.layout.Layout.{Layout}
use Rattle.fsfs_layout.specs.CreatedFiles.{created_files, created_over, identifier_text, Holds}
use Rattle.fsfs_tree.specs.Answers.{new_history}
use Rattle.fsfs_stands.specs.Files.{StandsFor}

-- They are those of a creation at this date, in format 4, with shards of any size, and of any identifier: 36 bytes, of which none ends a
-- line.
pub record HoldsNew (files : Files) (date : List ℕ) : Type 0 where
  pub layout : Layout
  pub packs : Packs layout
  pub identifier : List ℕ
  pub moment : DateTime
  pub characters : length identifier ≡ 36
  pub one_line : Lacks 10 identifier
  pub dated : IsDateText date moment
  pub new : Holds (created_files (shard_size layout) identifier date) files

-- files that hold those of a creation stand for the history of revision 0 alone
abbrev pub NewRepositoriesStand : Type 0
NewRepositoriesStand = (files : Files) (date : List ℕ) → HoldsNew files date → StandsFor files (new_history date)

-- the files that a creation makes of any others, at a moment and of any bytes of an identifier, are those of a new repository
abbrev pub CreationsHoldNew : Type 0
CreationsHoldNew = (layout : Layout) (moment : ℕ) (id date : List ℕ) (m : Files) → Packs layout → IsDateAt moment date → HoldsNew (created_over (shard_size layout) (identifier_text id) date m) date
