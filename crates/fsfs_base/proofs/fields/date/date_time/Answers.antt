use Rattle.std.proofs.Common.{arith, refl, sym, true≢false, FitsSigned, w8, w16, w32}
use Rattle.std.proofs.lemmas.Int.{to_z-of_z}
use Rattle.fsfs_base.proofs.fields.date.date_time.Goals as goal

pub returns-clause-succeeds : goal.returns-clause-succeeds
returns-clause-succeeds c =
    let fy : FitsSigned w16 c.args.year = c.ranges.year in
    let fm : FitsSigned w8 c.args.month = c.ranges.month in
    let fdd : FitsSigned w8 c.args.day = c.ranges.day in
    let f-hour : FitsSigned w8 c.args.hour = c.ranges.hour in
    let f-minute : FitsSigned w8 c.args.minute = c.ranges.minute in
    let f-second : FitsSigned w8 c.args.second = c.ranges.second in
    let fs : FitsSigned w32 c.args.nanos = c.ranges.nanos in
    let ds = simp to_z-of_z at c.in_ok-date.ensures.succeeds in
    let ts = simp to_z-of_z at c.in_ok-time.ensures.succeeds in
    (λ _. (ds.0 refl, ts.0 refl), λ _. refl)

pub returns-in_err-date-clause-succeeds : goal.returns-in_err-date-clause-succeeds
returns-in_err-date-clause-succeeds c =
    let fy : FitsSigned w16 c.args.year = c.ranges.year in
    let fm : FitsSigned w8 c.args.month = c.ranges.month in
    let fdd : FitsSigned w8 c.args.day = c.ranges.day in
    let f-hour : FitsSigned w8 c.args.hour = c.ranges.hour in
    let f-minute : FitsSigned w8 c.args.minute = c.ranges.minute in
    let f-second : FitsSigned w8 c.args.second = c.ranges.second in
    let fs : FitsSigned w32 c.args.nanos = c.ranges.nanos in
    let ds = simp to_z-of_z at c.in_err-date.ensures.succeeds in
    (λ ok. absurd (grind (arith, c.from_residual.ensures)), λ can. absurd (true≢false (sym (ds.1 can.0))))

pub returns-in_err-time-clause-succeeds : goal.returns-in_err-time-clause-succeeds
returns-in_err-time-clause-succeeds c =
    let fy : FitsSigned w16 c.args.year = c.ranges.year in
    let fm : FitsSigned w8 c.args.month = c.ranges.month in
    let fdd : FitsSigned w8 c.args.day = c.ranges.day in
    let f-hour : FitsSigned w8 c.args.hour = c.ranges.hour in
    let f-minute : FitsSigned w8 c.args.minute = c.ranges.minute in
    let f-second : FitsSigned w8 c.args.second = c.ranges.second in
    let fs : FitsSigned w32 c.args.nanos = c.ranges.nanos in
    let ts = simp to_z-of_z at c.in_err-time.ensures.succeeds in
    (λ ok. absurd (grind (arith, c.from_residual-in_err-time.ensures)), λ can. absurd (true≢false (sym (ts.1 can.1))))
