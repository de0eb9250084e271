-- What is printed of a revision's properties. (The texts are those of Subversion's own `svnlook author`, `date`, `log` and `info`.)
use Rattle.std.specs.Prelude.{ℕ, List, [], ◌++◌, length, Option, Some, None, unwrap_or, codes, decimal}
use Rattle.std.specs.Map.{lookup}
use Rattle.std.specs.BTreeMap.{is_at}
use Rattle.std.specs.Cmp.Lexicographic.{slice_cmp}
use Rattle.std.specs.Ordering.{nat_cmp}
use Rattle.fsfs_tree.specs.Dated.{date_name}
use Rattle.fsfs_tree.specs.ShownDates.{printed_of}

-- ---- values

abbrev pub value_of : List (List ℕ × List ℕ) → List ℕ → Option (List ℕ)
value_of properties name = lookup (is_at (slice_cmp nat_cmp name)) properties

abbrev pub author_name : List ℕ
author_name = codes "svn:author"

abbrev pub log_name : List ℕ
log_name = codes "svn:log"

-- ---- lines

-- the line of a value, an empty one where there is none
abbrev pub value_line : Option (List ℕ) → List ℕ
value_line value = unwrap_or value [] ++ codes "\n"

-- the line of the date that is stored, an empty one where there is none
abbrev pub date_line : Option (List ℕ) → List ℕ
date_line None = codes "\n"
date_line (Some stored) = printed_of stored ++ codes "\n"

-- the length of the log in bytes, and the log; `0` alone where there is none
abbrev pub log_lines : Option (List ℕ) → List ℕ
log_lines None = codes "0\n"
log_lines (Some log) = (decimal (length log) ++ codes "\n") ++ (log ++ codes "\n")

-- author, date and log, where this is the date's line
abbrev pub info_lines : List (List ℕ × List ℕ) → List ℕ → List ℕ
info_lines properties line = value_line (value_of properties author_name) ++ line ++ log_lines (value_of properties log_name)

-- ---- texts

abbrev pub author_text : List (List ℕ × List ℕ) → List ℕ
author_text properties = value_line (value_of properties author_name)

abbrev pub date_text : List (List ℕ × List ℕ) → List ℕ
date_text properties = date_line (value_of properties date_name)

abbrev pub log_text : List (List ℕ × List ℕ) → List ℕ
log_text properties = value_line (value_of properties log_name)

abbrev pub info_text : List (List ℕ × List ℕ) → List ℕ
info_text properties = info_lines properties (date_text properties)
