-- The date of a revision as it is stored, `YYYY-MM-DDTHH:MM:SS.uuuuuuZ`, in UTC.
use Rattle.std.specs.Prelude.{◌≡◌, ℕ, ◌+◌, ◌*◌, ◌/◌, ◌%◌, pos, ◌*ℤ◌, List, [], ◌∷◌, ◌++◌}
use Rattle.jiff_core.specs.declared.civil.datetime.DateTime.{DateTime}
use Rattle.jiff_core.specs.DateTime.{civil_nanos}

-- numbers below 100, 10,000 and 1,000,000 with all their digits
abbrev pub two_digits : ℕ → List ℕ
two_digits n = (48 + n / 10) ∷ (48 + n % 10) ∷ []

abbrev pub four_digits : ℕ → List ℕ
four_digits n = two_digits (n / 100) ++ two_digits (n % 100)

abbrev pub six_digits : ℕ → List ℕ
six_digits n = two_digits (n / 10_000) ++ four_digits (n % 10_000)

-- `-`, `T`, `:`, `.` and `Z` between and behind the numbers
abbrev pub date_text : (year month day hour minute second micros : ℕ) → List ℕ
date_text year month day hour minute second micros =
    four_digits year ++ 45 ∷ two_digits month ++ 45 ∷ two_digits day
    ++ 84 ∷ two_digits hour ++ 58 ∷ two_digits minute ++ 58 ∷ two_digits second
    ++ 46 ∷ six_digits micros ++ 90 ∷ []

-- the text shows this date and time of day, which is of whole microseconds in a year from 0 to 9999
pub record IsDateText (text : List ℕ) (dt : DateTime) : Type 0 where
  pub year : ℕ
  pub micros : ℕ
  pub year_is : dt.date.year ≡ pos year
  pub micros_is : dt.time.subsec_nanosecond ≡ micros * 1_000
  pub text_is : text ≡ date_text year dt.date.month dt.date.day dt.time.hour dt.time.minute dt.time.second micros

-- the text shows the date and time of day at that many microseconds after 1970-01-01T00:00:00 UTC
abbrev pub IsDateAt : ℕ → List ℕ → Type 0
IsDateAt micros text = (dt : DateTime) × (civil_nanos dt ≡ pos micros *ℤ pos 1_000) × IsDateText text dt
