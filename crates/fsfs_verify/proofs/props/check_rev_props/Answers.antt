use Rattle.std.proofs.Common.{◌≡◌, ℕ, List, sym, ap, ◌∙◌}
use Rattle.std.specs.Prelude.{Option, Some, None, Ok, option_map}
use Rattle.std.proofs.lemmas.Result.{err_from_is_err_and}
use Rattle.jiff_core.specs.declared.civil.datetime.DateTime.{DateTime}
use Rattle.fsfs_base.specs.Fields.Dates.{IsDateText}
use Rattle.fsfs_sound.specs.Damaged.{Date}
use Rattle.fsfs_verify.proofs.PropLemmas.{props_only, file_wrong, HasDate, dated, undated}
use Rattle.fsfs_verify.proofs.props.check_rev_props.Goals as goal

pub returns-in_err-pairs-clause-told : goal.returns-in_err-pairs-clause-told
returns-in_err-pairs-clause-told g c = λ look props reads.
    let p = err_from_is_err_and c.from_residual.result c.from_residual.ensures.1 in
    rw (p.1, p.2) (file_wrong (g.B.RevProps.may_read c.args.book.now) c.args.rev props reads look c.in_err-pairs.field-0.0 c.in_err-pairs.ensures.read)

pub returns-in-Some-read_date-clause-told : goal.returns-in-Some-read_date-clause-told
returns-in-Some-read_date-clause-told g c = λ look props reads.
    let pairs = c.in_ok-pairs.pairs in
    let has : HasDate pairs c.in-Some.stored.now.items = (rw c.in-Some.is at c.get.ensures) in
    let is = rw c.in-Some-read_date.is at c.read_date.ensures.found in
    let read = props_only (g.B.RevProps.may_read c.args.book.now) c.args.rev props reads (Ok pairs) c.in_ok-pairs.ensures.read in
    (pairs, read, dated pairs c.in-Some.stored.now.items c.in-Some-read_date.field-0 has (rw c.deref.ensures.value at is))

pub returns-clause-told : goal.returns-clause-told
returns-clause-told g c = λ look props reads.
    let pairs = c.in_ok-pairs.pairs in
    let has : HasDate pairs c.in-Some.stored.now.items = (rw c.in-Some.is at c.get.ensures) in
    let none : (date : DateTime) → IsDateText c.in-Some.stored.now.items date → ⊥ = λ date is. (let e : (let o : Option DateTime = None in o) ≡ Some date = sym c.in-None-read_date.is ∙ c.read_date.ensures.only date (rw (sym c.deref.ensures.value) at is) in cc) in
    let read = props_only (g.B.RevProps.may_read c.args.book.now) c.args.rev props reads (Ok pairs) c.in_ok-pairs.ensures.read in
    rw c.damaged.ensures (Date pairs read (undated pairs c.in-Some.stored.now.items has none))
