use Rattle.std.proofs.Common.{◌∙◌, ap}
use Rattle.std.specs.Cmp.Lexicographic.{slice_cmp}
use Rattle.std.specs.Ordering.{nat_cmp}
use Rattle.std.specs.BTreeMap.{is_at}
use Rattle.std.specs.Map.{remove_entry}
use Rattle.fsfs_base.proofs.PairLemmas.{plain, removed_plain}
use Rattle.fsfs_base.proofs.pairs.Pairs.remove.Goals as goal

pub returns : goal.returns
returns c =
    ap plain c.remove.ensures.entries
    ∙ removed_plain c.self.inside.pairs.entries c.args.name.now
    ∙ ap (remove_entry (is_at (slice_cmp nat_cmp c.args.name.now))) c.self.view_is
