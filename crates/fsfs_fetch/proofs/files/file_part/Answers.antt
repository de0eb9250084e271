use Rattle.std.proofs.Common.{◌≡◌, ℕ, length, Some, subst, arith}
use Rattle.std.specs.Prelude.{IfSome}
use Rattle.std.specs.FinMap as map
use Rattle.fsfs_disk.specs.Trace.{IsRead, IsSize}
use Rattle.fsfs_fetch.specs.ViewLemmas.{later_more}
use Rattle.fsfs_fetch.proofs.FileLemmas.{no_part, size_found, past_end, end_found}
use Rattle.fsfs_fetch.proofs.files.file_part.Goals as goal

pub returns-in_default-clause-told : goal.returns-in_default-clause-told
returns-in_default-clause-told g c = λ file s.
    let v = g.R.Reads.view c.read_at.new.reads in
    let h = subst (λ o. IfSome v.files (λ m. IsRead (map.get m c.args.name.now) c.args.offset c.args.buffer.now c.read_at.new.buffer o)) c.in_default.is c.in_ok-count.ensures.bytes in
    no_part (g.R.Reads.view c.args.reads.now) v c.args.name.now file c.args.rev c.args.offset c.args.buffer.now c.read_at.new.buffer c.in_ok-count.ensures.later s h

pub returns-in_err-size_at-clause-later : goal.returns-in_err-size_at-clause-later
returns-in_err-size_at-clause-later g c = later_more _ _ _ c.in_ok-count.ensures.later c.in_err-size_at.ensures.later

pub returns-then-size-offset-clause-told : goal.returns-then-size-offset-clause-told
returns-then-size-offset-clause-told g c = λ file s.
    let u = g.R.Reads.view c.args.reads.now in
    let w = g.R.Reads.view c.size_at.new.reads in
    let h = subst (λ o. IfSome w.files (λ m. IsSize (map.get m c.args.name.now) o)) c.in-Some-2.is c.in_ok-size_at.ensures.length in
    let e = later_more u (g.R.Reads.view c.read_at.new.reads) w c.in_ok-count.ensures.later c.in_ok-size_at.ensures.later in
    past_end u w c.args.name.now file c.args.rev c.args.offset (length c.args.buffer.now) c.in-Some-2.size e s h c.if-size-offset.true

pub returns-then-size-offset-clause-later : goal.returns-then-size-offset-clause-later
returns-then-size-offset-clause-later g c = later_more _ _ _ c.in_ok-count.ensures.later c.in_ok-size_at.ensures.later

pub returns-in-None-clause-told : goal.returns-in-None-clause-told
returns-in-None-clause-told g c = λ file s.
    let u = g.R.Reads.view c.args.reads.now in
    let w = g.R.Reads.view c.size_at.new.reads in
    let h = subst (λ o. IfSome w.files (λ m. IsSize (map.get m c.args.name.now) o)) c.in-None.is c.in_ok-size_at.ensures.length in
    size_found u w c.args.name.now file _ (later_more u (g.R.Reads.view c.read_at.new.reads) w c.in_ok-count.ensures.later c.in_ok-size_at.ensures.later) s h

pub returns-in-None-clause-later : goal.returns-in-None-clause-later
returns-in-None-clause-later g c = later_more _ _ _ c.in_ok-count.ensures.later c.in_ok-size_at.ensures.later

pub returns-else-size-offset-clause-told : goal.returns-else-size-offset-clause-told
returns-else-size-offset-clause-told g c = λ file s.
    let v = g.R.Reads.view c.read_at.new.reads in
    let w = g.R.Reads.view c.size_at.new.reads in
    let none : c.in-Some.count ≡ 0 = omega (arith, c.if-count-gt0.false) in
    let found : c.in_ok-count.field-0 ≡ Some 0 = subst (λ (n : ℕ). c.in_ok-count.field-0 ≡ Some n) none c.in-Some.is in
    let read = subst (λ o. IfSome v.files (λ m. IsRead (map.get m c.args.name.now) c.args.offset c.args.buffer.now c.read_at.new.buffer o)) found c.in_ok-count.ensures.bytes in
    let h = subst (λ o. IfSome w.files (λ m. IsSize (map.get m c.args.name.now) o)) c.in-Some-2.is c.in_ok-size_at.ensures.length in
    end_found (g.R.Reads.view c.args.reads.now) v w c.args.name.now file c.args.rev c.args.offset 0 c.in-Some-2.size c.args.buffer.now c.read_at.new.buffer c.in_ok-count.ensures.later c.in_ok-size_at.ensures.later s read h (omega (arith, c.if-size-offset.false))

pub returns-else-size-offset-clause-later : goal.returns-else-size-offset-clause-later
returns-else-size-offset-clause-later g c = later_more _ _ _ c.in_ok-count.ensures.later c.in_ok-size_at.ensures.later
