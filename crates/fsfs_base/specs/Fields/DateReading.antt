-- Reading a date's text by its places.
use Rattle.jiff_core.specs.declared.civil.datetime.DateTime.{DateTime}
use Rattle.fsfs_base.specs.Fields.Dates.{date_text}
use Rattle.std.specs.Prelude.{◌≡◌, ◌<◌, pos, ℕ, ◌+◌, ◌-◌, ◌*◌, ◌&&◌, nat_le, Bool, List, slice_index, Option, Some, None, if◌then◌else◌}

infixl 10 ◌>>=◌
abbrev pub ◌>>=◌ : {A B : Type 0} → Option A → (A → Option B) → Option B
(Some x) >>= f = f x
None >>= f = None

-- what a function returned, seen by view, is what reading gives
abbrev pub ReadAs : {X Y : Type 0} → (X → Y) → Option X → Option Y → Type 0
ReadAs view (Some x) read = read ≡ Some (view x)
ReadAs view None read = read ≡ None

abbrev pub is_digit : ℕ → Bool
is_digit c = nat_le 48 c && nat_le c 57

-- the number of two digits
abbrev pub two_of : ℕ → ℕ → Option ℕ
two_of high low = if is_digit high && is_digit low then Some ((high - 48) * 10 + (low - 48)) else None

abbrev pub two_at : List ℕ → ℕ → Option ℕ
two_at text at = two_of (slice_index text at) (slice_index text (at + 1))

-- year, month, day, hour, minute, second and microseconds
abbrev pub Numbers : Type 0
Numbers = ℕ × ℕ × ℕ × ℕ × ℕ × ℕ × ℕ

abbrev pub numbers_at : List ℕ → Option Numbers
numbers_at text =
    two_at text 0 >>= λ century. two_at text 2 >>= λ year. two_at text 5 >>= λ month. two_at text 8 >>= λ day.
    two_at text 11 >>= λ hour. two_at text 14 >>= λ minute. two_at text 17 >>= λ second.
    two_at text 20 >>= λ high. two_at text 22 >>= λ middle. two_at text 24 >>= λ low.
    Some (century * 100 + year, month, day, hour, minute, second, high * 10_000 + middle * 100 + low)

-- a date and time of day with these numbers
pub record HasNumbers (year month day hour minute second micros : ℕ) (dt : DateTime) : Type 0 where
  pub year_is : dt.date.year ≡ pos year
  pub month_is : dt.date.month ≡ month
  pub day_is : dt.date.day ≡ day
  pub hour_is : dt.time.hour ≡ hour
  pub minute_is : dt.time.minute ≡ minute
  pub second_is : dt.time.second ≡ second
  pub micros_is : dt.time.subsec_nanosecond ≡ micros * 1_000

-- the text shows these numbers
abbrev pub IsShownAs : List ℕ → Numbers → Type 0
IsShownAs text (year, month, day, hour, minute, second, micros) =
    (year < 10_000) × (month < 100) × (day < 100) × (hour < 100) × (minute < 100) × (second < 100) × (micros < 1_000_000)
    × (text ≡ date_text year month day hour minute second micros)
