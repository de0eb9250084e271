use Rattle.std.proofs.Common.{◌≡◌, ◌∙◌, ◌*◌, ap, sym, pos, arith, ℕ, w8, w16, w32, to_z}
use Rattle.std.proofs.lemmas.Int.{to_z_pos}
use Rattle.jiff_core.proofs.SignedLemmas.{signed_arith}
use Rattle.fsfs_base.proofs.DateReadings.{exists_date, ok_is, same_parts}
use Rattle.fsfs_base.proofs.fields.date.DateNumbers.date_time.Goals as goal

pub returns-clause-only : goal.returns-clause-only
returns-clause-only c = λ dt w.
    let d = c.args.self.now in
    let year : to_z w16 d.year ≡ pos d.year = to_z_pos w16 d.year (omega (arith, d.year_in)) in
    let month : to_z w8 d.month ≡ pos d.month = to_z_pos w8 d.month (omega (arith, d.month_in)) in
    let day : to_z w8 d.day ≡ pos d.day = to_z_pos w8 d.day (omega (arith, d.day_in)) in
    let hour : to_z w8 d.hour ≡ pos d.hour = to_z_pos w8 d.hour (omega (arith, d.hour_in)) in
    let minute : to_z w8 d.minute ≡ pos d.minute = to_z_pos w8 d.minute (omega (arith, d.minute_in)) in
    let second : to_z w8 d.second ≡ pos d.second = to_z_pos w8 d.second (omega (arith, d.second_in)) in
    let nanos : to_z w32 (d.micros * 1_000) ≡ pos dt.time.subsec_nanosecond = to_z_pos w32 (d.micros * 1_000) (omega (arith, d.micros_in)) ∙ ap (λ (k : ℕ). pos k) (sym w.micros_is) in
    let there = exists_date dt _ _ _ _ _ _ _ (year ∙ sym w.year_is) (month ∙ ap (λ (k : ℕ). pos k) (sym w.month_is)) (day ∙ ap (λ (k : ℕ). pos k) (sym w.day_is)) (hour ∙ ap (λ (k : ℕ). pos k) (sym w.hour_is)) (minute ∙ ap (λ (k : ℕ). pos k) (sym w.minute_is)) (second ∙ ap (λ (k : ℕ). pos k) (sym w.second_is)) nanos in
    c.ok.ensures.value ∙ ok_is c.date_time.result _ dt (c.date_time.ensures.succeeds.1 there) c.date_time.ensures.value (λ v p. same_parts v dt (p.0.0 ∙ year ∙ sym w.year_is)
    (omega (arith, signed_arith, p.0.1, month, w.month_is)) (omega (arith, signed_arith, p.0.2, day, w.day_is))
    (omega (arith, signed_arith, p.1.0, hour, w.hour_is)) (omega (arith, signed_arith, p.1.1, minute, w.minute_is)) (omega (arith, signed_arith, p.1.2, second, w.second_is))
    (omega (arith, signed_arith, p.1.3, nanos)))
