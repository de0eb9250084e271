use Rattle.std.proofs.Common.{◌∙◌, ap, ℕ, List}
use Rattle.std.specs.Option.{option_map}
use Rattle.std.specs.Cmp.Lexicographic.{slice_cmp}
use Rattle.std.specs.Ordering.{nat_cmp}
use Rattle.std.specs.BTreeMap.{is_at}
use Rattle.std.specs.Map.{lookup}
use Rattle.fsfs_base.proofs.PairLemmas.{found_plain, through_reference}
use Rattle.fsfs_base.proofs.pairs.Pairs.get.Goals as goal

pub returns : goal.returns
returns c =
    through_reference c.get.result
    ∙ ap (λ o. option_map {U = List ℕ} (λ v. v.items) o) c.get.ensures.value
    ∙ found_plain c.self.inside.pairs.entries c.args.name.now
    ∙ ap (λ es. lookup (is_at (slice_cmp nat_cmp c.args.name.now)) es) c.self.view_is
