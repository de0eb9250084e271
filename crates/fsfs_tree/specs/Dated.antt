-- The number of a history's last revision, and the date among a revision's properties. (The libsvn_fs_fs structure file, "Revision
-- properties file format".)
use Rattle.std.specs.Prelude.{◌≡◌, ℕ, ◌-◌, List, [], ◌∷◌, length, Some}
use Rattle.std.specs.Map.{lookup}
use Rattle.std.specs.BTreeMap.{is_at}
use Rattle.std.specs.Cmp.Lexicographic.{slice_cmp}
use Rattle.std.specs.Ordering.{nat_cmp}
use Rattle.jiff_core.specs.declared.civil.datetime.DateTime.{DateTime}
use Rattle.fsfs_base.specs.Fields.Dates.{IsDateText}
use Rattle.fsfs_tree.specs.Revisions.{Revision}

-- the number of a history's last revision
abbrev pub last_of : List Revision → ℕ
last_of h = length h - 1

-- `svn:date`
abbrev pub date_name : List ℕ
date_name = 115 ∷ 118 ∷ 110 ∷ 58 ∷ 100 ∷ 97 ∷ 116 ∷ 101 ∷ []

-- a date among the properties has the form in which dates are stored
abbrev pub IsDated : List (List ℕ × List ℕ) → Type 0
IsDated properties = (value : List ℕ) → lookup (is_at (slice_cmp nat_cmp date_name)) properties ≡ Some value → (date : DateTime) × IsDateText value date
