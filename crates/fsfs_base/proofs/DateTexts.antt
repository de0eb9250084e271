-- The text of a moment that the library prints is its stored form.
use Rattle.std.proofs.Common.{◌≡◌, ℕ, ◌+◌, ◌*◌, ◌/◌, ◌%◌, ◌<◌, ℤ, pos, negsuc, ◌*ℤ◌, ◌+ℤ◌, ◌≤ℤ◌, List, [], ◌∷◌, ◌++◌, Bool, false, Option, Some, refl, ap, ◌∙◌, arith, inl}
use Rattle.jiff_core.specs.declared.civil.date.Date.{Date}
use Rattle.jiff_core.specs.declared.civil.time.Time.{Time}
use Rattle.jiff_core.specs.declared.timestamp.Timestamp.{Timestamp}
use Rattle.jiff_fmt.specs.declared.temporal.printer.DateTimePrinter.{DateTimePrinter}
use Rattle.jiff_core.specs.Date.{epoch_day}
use Rattle.jiff_core.specs.DateTime.{civil_nanos}
use Rattle.jiff_core.proofs.DateLemmas.{epoch_day-lt}
use Rattle.jiff_core.proofs.DateTimeLemmas.{civil_nanos-parts, time_nanos_bound}
use Rattle.jiff_fmt.specs.Text as Text
use Rattle.jiff_fmt.specs.Text.{places}
use Rattle.jiff_fmt.specs.Printer as Printer
use Rattle.jiff_fmt.proofs.OnLiterals.{jiff_fmt_on_literals}
use Rattle.jiff_core.proofs.SignedLemmas.{signed_arith}
use Rattle.fsfs_base.specs.Fields.Dates.{two_digits, four_digits, six_digits, date_text, IsDateAt}

abbrev epoch : Date
epoch = record { year = pos 1970; month = 1; day = 1; year_in = (omega (arith, signed_arith), omega (arith, signed_arith)); month_in = (omega arith, omega arith); day_in = (omega arith, omega arith) }

epoch_first : epoch_day epoch ≡ pos 0
unfolding jiff_fmt_on_literals
epoch_first = refl

-- a day that is not before the epoch lies in a year that has a text of four digits
year_of : (d : Date) → pos 0 ≤ℤ epoch_day d → (year : ℕ) × (d.year ≡ pos year)
year_of d after = go d.year refl
  where
    go : (z : ℤ) → d.year ≡ z → (year : ℕ) × (z ≡ pos year)
    go (pos year) e = (year, refl)
    go (negsuc k) e = absurd (omega (arith, signed_arith, after, epoch_first, epoch_day-lt d epoch (inl (omega (arith, signed_arith, e)))))

-- the first six places of a fraction of a second are its microseconds
six_places : (n : ℕ) → n < 1_000_000_000 → places 6 1_000_000_000 n ≡ six_digits (n / 1_000)
unfolding places
six_places n lt =
    let a : 48 + n / 100_000_000 ≡ 48 + n / 1_000 / 10_000 / 10 = omega (arith, lt) in
    let b : 48 + n % 100_000_000 / 10_000_000 ≡ 48 + n / 1_000 / 10_000 % 10 = omega (arith, lt) in
    let d : 48 + n % 100_000_000 % 10_000_000 / 1_000_000 ≡ 48 + n / 1_000 % 10_000 / 100 / 10 = omega (arith, lt) in
    let e : 48 + n % 100_000_000 % 10_000_000 % 1_000_000 / 100_000 ≡ 48 + n / 1_000 % 10_000 / 100 % 10 = omega (arith, lt) in
    let f : 48 + n % 100_000_000 % 10_000_000 % 1_000_000 % 100_000 / 10_000 ≡ 48 + n / 1_000 % 10_000 % 100 / 10 = omega (arith, lt) in
    let g : 48 + n % 100_000_000 % 10_000_000 % 1_000_000 % 100_000 % 10_000 / 1_000 ≡ 48 + n / 1_000 % 10_000 % 100 % 10 = omega (arith, lt) in
    λ i. a i ∷ b i ∷ d i ∷ e i ∷ f i ∷ g i ∷ []

-- a number of whole thousands
thousands : (n : ℕ) (micros : ℕ) (days seconds : ℤ) → pos micros *ℤ pos 1_000 ≡ days *ℤ pos 86_400_000_000_000 +ℤ (seconds *ℤ pos 1_000_000_000 +ℤ pos n) → n ≡ n / 1_000 * 1_000
thousands n micros days seconds e = omega (arith, signed_arith, e)

abbrev printed : ℤ → (month day : ℕ) → Time → List ℕ
printed year month day t = (Text.year_text year ++ 45 ∷ [] ++ Text.pad2 month ++ 45 ∷ [] ++ Text.pad2 day) ++ 84 ∷ Text.time_text (Some 6) t

printed_text : (year month day : ℕ) (t : Time) → printed (pos year) month day t ++ 90 ∷ [] ≡ date_text year month day t.hour t.minute t.second (t.subsec_nanosecond / 1_000)
printed_text year month day t = ap (λ (ds : List ℕ). (four_digits year ++ 45 ∷ two_digits month ++ 45 ∷ two_digits day ++ 84 ∷ two_digits t.hour ++ 58 ∷ two_digits t.minute ++ 58 ∷ two_digits t.second ++ 46 ∷ ds) ++ 90 ∷ []) (six_places t.subsec_nanosecond t.subsec_in)

pub printed_date : (p : DateTimePrinter) (t : Timestamp) (micros : ℕ) (text : List ℕ) → Printer.options p ≡ (false, 84, Some 6) → t.nanosecond ≡ pos micros *ℤ pos 1_000 → Printer.IsTimestampText p t text → IsDateAt micros text
printed_date p t micros text options moment is =
    let dt = is.0 in
    let when : civil_nanos dt ≡ pos micros *ℤ pos 1_000 = is.1 ∙ moment in
    let day : pos 0 ≤ℤ epoch_day dt.date = omega (arith, signed_arith, when, civil_nanos-parts dt, time_nanos_bound dt.time) in
    let y = year_of dt.date day in
    let micros_is : dt.time.subsec_nanosecond ≡ dt.time.subsec_nanosecond / 1_000 * 1_000 = omega (arith, signed_arith, when, civil_nanos-parts dt) in
    let shown : text ≡ Text.datetime_text false 84 (Some 6) dt ++ 90 ∷ [] =
    is.2 ∙ ap (λ (o : Bool × ℕ × Option ℕ). Text.datetime_text o.0 o.1 o.2 dt ++ Text.zulu_text o.0) options in (
      dt,
      when,
      record {
        year = y.0;
        micros = dt.time.subsec_nanosecond / 1_000;
        year_is = y.1;
        micros_is = micros_is;
        text_is = shown ∙ ap (λ (z : ℤ). printed z dt.date.month dt.date.day dt.time ++ 90 ∷ []) y.1 ∙ printed_text y.0 dt.date.month dt.date.day dt.time;
      },
    )
