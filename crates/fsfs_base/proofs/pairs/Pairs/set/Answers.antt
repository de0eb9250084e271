use Rattle.std.proofs.Common.{◌∙◌, ap}
use Rattle.std.specs.Cmp.Lexicographic.{slice_cmp}
use Rattle.std.specs.Ordering.{nat_cmp}
use Rattle.std.specs.BTreeMap.{insert_entry}
use Rattle.fsfs_base.proofs.PairLemmas.{plain, set_plain}
use Rattle.fsfs_base.proofs.pairs.Pairs.set.Goals as goal

pub returns-clause-ok : goal.returns-clause-ok
returns-clause-ok c =
    ap plain c.in_ok-insert.ensures.entries
    ∙ set_plain c.self.inside.pairs.entries c.args.name c.args.value
    ∙ ap (λ es. insert_entry (slice_cmp nat_cmp) es c.args.name.items c.args.value.items) c.self.view_is
