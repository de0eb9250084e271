-- The numbers of a date's text are read back, and have one date and time of day.
use Rattle.std.proofs.Common.{◌≡◌, ℕ, ◌+◌, ◌*◌, ◌/◌, ◌%◌, ◌<◌, ◌≤◌, ℤ, pos, ◌*ℤ◌, ◌+ℤ◌, Bool, true, false, List, Some, None, Result, Ok, Err, IsOk, IfOk, sym, ap, ◌∙◌, arith}
use Rattle.std.proofs.lemmas.Bool.Decides.{nat_tests}
use Rattle.std.specs.Cmp.Lexicographic.{pointwise, nat_list_eq_equiv}
use Rattle.std.specs.Prelude.{nat_eq}
use Rattle.std.specs.Result.{result_ok}
use Rattle.std.proofs.Props.{props}
use Rattle.std.specs.Int.{IsInRange}
use mathlib.Core.HLevel.{is_prop→PathP}
use Rattle.jiff_core.specs.declared.civil.date.Date.{Date}
use Rattle.jiff_core.specs.declared.civil.datetime.DateTime.{DateTime}
use Rattle.jiff_core.specs.declared.civil.time.Time.{Time}
use Rattle.jiff_core.specs.Calendar.{IsDate, IsYear, days_in_month}
use Rattle.jiff_core.specs.Time.{IsTime}
use Rattle.jiff_core.proofs.SignedLemmas.{signed_arith}
use Rattle.fsfs_base.specs.Fields.Dates.{date_text, IsDateText}
use Rattle.fsfs_base.specs.Fields.DateReading.{two_of, Numbers, numbers_at, IsShownAs, HasNumbers}

two_again : (n : ℕ) → n < 100 → two_of (48 + n / 10) (48 + n % 10) ≡ Some n
two_again n lt = grind (arith, nat_tests)

pub numbers_again : (text : List ℕ) (numbers : Numbers) → IsShownAs text numbers → numbers_at text ≡ Some numbers
numbers_again text (year, month, day, hour, minute, second, micros) w =
    let high : year / 100 < 100 = omega (arith, w.0) in
    let top : micros / 10_000 < 100 = omega (arith, w.6) in
    let middle : micros % 10_000 / 100 < 100 = omega arith in
    let low : micros % 10_000 % 100 < 100 = omega arith in
    let year_is : year / 100 * 100 + year % 100 ≡ year = omega arith in
    let micros_is : micros / 10_000 * 10_000 + micros % 10_000 / 100 * 100 + micros % 10_000 % 100 ≡ micros = omega arith in
    ap numbers_at w.7
    ∙ rw (two_again (year / 100) high, two_again (year % 100) (omega arith), two_again month w.1, two_again day w.2, two_again hour w.3, two_again minute w.4, two_again second w.5, two_again (micros / 10_000) top, two_again (micros % 10_000 / 100) middle, two_again (micros % 10_000 % 100) low)
    (λ i. Some (year_is i, month, day, hour, minute, second, micros_is i))

pub none_again : (text : List ℕ) (numbers : Numbers) → IsShownAs text numbers → numbers_at text ≡ None → ⊥
none_again text numbers w e = let h = sym e ∙ numbers_again text numbers w in cc

abbrev text_of : Numbers → List ℕ
text_of n = date_text n.0 n.1 n.2 n.3 n.4 n.5 n.6

shown_text : (text : List ℕ) (numbers : Numbers) → IsShownAs text numbers → text ≡ text_of numbers
shown_text text (year, month, day, hour, minute, second, micros) w = w.7

-- what is written of the numbers that were read is the text
pub written_again : (text written : List ℕ) (numbers read : Numbers) → IsShownAs text numbers → numbers_at text ≡ Some read → written ≡ text_of read → written ≡ text
written_again text written numbers read w e is =
    let h = sym e ∙ numbers_again text numbers w in
    let same : read ≡ numbers = cc in
    is ∙ ap text_of same ∙ sym (shown_text text numbers w)

pub not_same : (r : Bool) (xs ys : List ℕ) → r ≡ pointwise nat_eq xs ys → r ≡ false → xs ≡ ys → ⊥
not_same r xs ys is off same = let yes : pointwise nat_eq xs ys ≡ true = ap (λ (zs : List ℕ). pointwise nat_eq zs ys) same ∙ nat_list_eq_equiv.refl ys in let h = sym is ∙ off in cc

-- ---- the date and time of day

same_date : (a b : Date) → a.year ≡ b.year → a.month ≡ b.month → a.day ≡ b.day → a ≡ b
same_date a b year month day =
    λ i. record {
      year = year i;
      month = month i;
      day = day i;
      year_in = is_prop→PathP (λ j. IsYear (year j)) (λ j. hlevel props) a.year_in b.year_in i;
      month_in = is_prop→PathP (λ j. IsInRange 1 12 (month j)) (λ j. hlevel props) a.month_in b.month_in i;
      day_in = is_prop→PathP (λ j. IsInRange 1 (days_in_month (year j) (month j)) (day j)) (λ j. hlevel props) a.day_in b.day_in i;
    }

same_time : (a b : Time) → a.hour ≡ b.hour → a.minute ≡ b.minute → a.second ≡ b.second → a.subsec_nanosecond ≡ b.subsec_nanosecond → a ≡ b
same_time a b hour minute second nanos =
    λ i. record {
      hour = hour i;
      minute = minute i;
      second = second i;
      subsec_nanosecond = nanos i;
      hour_in = is_prop→PathP (λ j. hour j < 24) (λ j. hlevel props) a.hour_in b.hour_in i;
      minute_in = is_prop→PathP (λ j. minute j < 60) (λ j. hlevel props) a.minute_in b.minute_in i;
      second_in = is_prop→PathP (λ j. second j < 60) (λ j. hlevel props) a.second_in b.second_in i;
      subsec_in = is_prop→PathP (λ j. nanos j < 1_000_000_000) (λ j. hlevel props) a.subsec_in b.subsec_in i;
    }

pub same_parts : (a b : DateTime) → a.date.year ≡ b.date.year → a.date.month ≡ b.date.month → a.date.day ≡ b.date.day → a.time.hour ≡ b.time.hour → a.time.minute ≡ b.time.minute → a.time.second ≡ b.time.second → a.time.subsec_nanosecond ≡ b.time.subsec_nanosecond → a ≡ b
same_parts a b year month day hour minute second nanos =
    let date = same_date a.date b.date year month day in
    let time = same_time a.time b.time hour minute second nanos in
    λ i. record { date = date i; time = time i }

pub exists_date : (dt : DateTime) (year month day hour minute second nanos : ℤ) → year ≡ dt.date.year → month ≡ pos dt.date.month → day ≡ pos dt.date.day → hour ≡ pos dt.time.hour → minute ≡ pos dt.time.minute → second ≡ pos dt.time.second → nanos ≡ pos dt.time.subsec_nanosecond → IsDate year month day × IsTime hour minute second nanos
exists_date dt year month day hour minute second nanos ey em ed eh ei es en =
    rw (ey, em, ed, eh, ei, es, en) (
      (dt.date.year_in, (omega (arith, signed_arith, dt.date.month_in.0), omega (arith, signed_arith, dt.date.month_in.1)), (omega (arith, signed_arith, dt.date.day_in.0), omega (arith, signed_arith, dt.date.day_in.1))),
      ((omega (arith, signed_arith), omega (arith, signed_arith, dt.time.hour_in)), (omega (arith, signed_arith), omega (arith, signed_arith, dt.time.minute_in)), (omega (arith, signed_arith), omega (arith, signed_arith, dt.time.second_in)), (omega (arith, signed_arith), omega (arith, signed_arith, dt.time.subsec_in))),
    )

pub ok_is : {E : Type 0} (r : Result DateTime E) (Parts : DateTime → Type 0) (dt : DateTime) → IsOk r → IfOk r Parts → ((v : DateTime) → Parts v → v ≡ dt) → result_ok r ≡ Some dt
ok_is (Ok v) Parts dt is parts same = ap (λ (x : DateTime). Some x) (same v parts)
ok_is (Err e) Parts dt is parts same = absurd cc

-- ---- a text that shows a date and time of day

abbrev pub numbers_of : (text : List ℕ) (dt : DateTime) → IsDateText text dt → Numbers
numbers_of text dt w = (w.year, dt.date.month, dt.date.day, dt.time.hour, dt.time.minute, dt.time.second, w.micros)

month_days : (year : ℤ) (month : ℕ) → days_in_month year month ≤ 31
month_days year month = grind (arith, nat_tests)

pub shown_as : (text : List ℕ) (dt : DateTime) → (w : IsDateText text dt) → IsShownAs text (numbers_of text dt w)
shown_as text dt w = (
  omega (arith, signed_arith, w.year_is, dt.date.year_in.1),
  omega (arith, dt.date.month_in.1),
  omega (arith, dt.date.day_in.1, month_days dt.date.year dt.date.month),
  omega (arith, dt.time.hour_in),
  omega (arith, dt.time.minute_in),
  omega (arith, dt.time.second_in),
  omega (arith, dt.time.subsec_in, w.micros_is),
  w.text_is,
)

pub has_numbers : (text : List ℕ) (dt : DateTime) (n : Numbers) → (w : IsDateText text dt) → n ≡ numbers_of text dt w → HasNumbers n.0 n.1 n.2 n.3 n.4 n.5 n.6 dt
has_numbers text dt n w e = record {
  year_is = w.year_is ∙ ap (λ (m : Numbers). pos m.0) (sym e);
  month_is = ap (λ (m : Numbers). m.1) (sym e);
  day_is = ap (λ (m : Numbers). m.2) (sym e);
  hour_is = ap (λ (m : Numbers). m.3) (sym e);
  minute_is = ap (λ (m : Numbers). m.4) (sym e);
  second_is = ap (λ (m : Numbers). m.5) (sym e);
  micros_is = w.micros_is ∙ ap (λ (m : Numbers). m.6 * 1_000) (sym e);
}
