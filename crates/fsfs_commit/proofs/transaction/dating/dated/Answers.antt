use Rattle.std.proofs.Common.{◌∙◌, ap}
use Rattle.std.specs.BTreeMap.{insert_entry}
use Rattle.std.specs.Cmp.Lexicographic.{slice_cmp}
use Rattle.std.specs.Ordering.{nat_cmp}
use Rattle.fsfs_commit.proofs.Dates.{dated_form}
use Rattle.fsfs_commit.proofs.transaction.dating.dated.Goals as goal

pub returns-clause-form : goal.returns-clause-form
returns-clause-form c =
    let text = c.in_ok-date.date.items in
    dated_form c.args.micros c.args.properties c.set.new.self (text, c.in_ok-date.ensures, c.in_ok-set.ensures.ok ∙ ap (λ name. insert_entry (slice_cmp nat_cmp) c.args.properties name text) c.in_ok-name.ensures.items)
