-- A date and time of day as it is printed: `2014-07-21 09:25:14 +0000 (Mon, 21 Jul 2014)`. (It is the text of Subversion's own
-- `svnlook date` where the words are English and the clock is set to UTC.)
use Rattle.std.specs.Prelude.{ℕ, ℤ, pos, List, [], ◌++◌, unsigned_abs, codes, Option, Some, None}
use Rattle.jiff_core.specs.Calendar.{days_from_civil, weekday_number}
use Rattle.jiff_fmt.specs.Rfc2822.{weekday_text, month_text}
use Rattle.fsfs_base.specs.Fields.Dates.{two_digits, four_digits}
use Rattle.fsfs_base.specs.Fields.DateReading.{Numbers, numbers_at}

-- of a year from 0 to 9999
abbrev pub year_digits : ℤ → List ℕ
year_digits year = four_digits (unsigned_abs year)

-- `2014-07-21`
unfoldable pub numbered_day : (year : ℤ) (month day : ℕ) → List ℕ
numbered_day year month day = year_digits year ++ codes "-" ++ two_digits month ++ codes "-" ++ two_digits day

-- `09:25:14`
unfoldable pub time_of_day : (hour minute second : ℕ) → List ℕ
time_of_day hour minute second = two_digits hour ++ codes ":" ++ two_digits minute ++ codes ":" ++ two_digits second

-- `Mon, 21 Jul 2014`
unfoldable pub named_day : (year : ℤ) (month day : ℕ) → List ℕ
named_day year month day = weekday_text (weekday_number (days_from_civil year month day)) ++ codes ", " ++ two_digits day ++ codes " " ++ month_text month ++ codes " " ++ year_digits year

abbrev pub printed_date : (year : ℤ) (month day hour minute second : ℕ) → List ℕ
printed_date year month day hour minute second = numbered_day year month day ++ codes " " ++ time_of_day hour minute second ++ codes " +0000 (" ++ named_day year month day ++ codes ")"

-- of the numbers that stand in a stored date
abbrev pub printed_numbers : Option Numbers → List ℕ
printed_numbers None = []
printed_numbers (Some n) = printed_date (pos n.0) n.1 n.2 n.3 n.4 n.5

-- of a date as it is stored
abbrev pub printed_of : List ℕ → List ℕ
printed_of stored = printed_numbers (numbers_at stored)
