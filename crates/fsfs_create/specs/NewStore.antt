-- What the files of a creation stand for.
use Rattle.std.specs.Prelude.{◌≡◌, ◌⊎◌, ℕ, List}
use Rattle.fsfs_base.specs.Files.{Files}
use Rattle.fsfs_base.specs.Fields.Dates.{IsDateAt}
use Rattle.fsfs_tree.specs.Answers.{new_history}
use Rattle.fsfs_stands.specs.Files.{StandsFor}
use Rattle.fsfs_create.specs.Creation.{IsUnpublished}

-- the new store: its history is revision 0 alone, with the date of this moment, and nothing is packed
pub record IsNewStore (moment : ℕ) (m : Files) : Type 0 where
  pub date : List ℕ
  pub dated : IsDateAt moment date
  pub stands : StandsFor m (new_history date)
  pub unpacked : stands.opened.min_unpacked_rev ≡ 0

-- no repository, which an opening refuses as that, or the new store
abbrev pub IsNoneOrNew : ℕ → Files → Type 0
IsNoneOrNew moment m = IsUnpublished m ⊎ IsNewStore moment m
