-- The properties of a revision with its date.
use Rattle.std.specs.Prelude.{◌≡◌, ℕ, List}
use Rattle.std.specs.BTreeMap.{insert_entry}
use Rattle.std.specs.Cmp.Lexicographic.{slice_cmp}
use Rattle.std.specs.Ordering.{nat_cmp}
use Rattle.fsfs_base.specs.Fields.Dates.{IsDateAt}
use Rattle.fsfs_tree.specs.Dated.{date_name}

-- `svn:date` is this moment, and all others are as they were
abbrev pub IsDatedAt : ℕ → List (List ℕ × List ℕ) → List (List ℕ × List ℕ) → Type 0
IsDatedAt micros old new = (text : List ℕ) × IsDateAt micros text × (new ≡ insert_entry (slice_cmp nat_cmp) old date_name text)
