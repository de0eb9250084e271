use Rattle.std.proofs.Common.{◌∙◌, ℕ, List}
use Rattle.std.specs.Borrow.{Bor}
use Rattle.std.specs.BTreeMap.{IsFromIterResult}
use Rattle.std.specs.Ordering.{nat_cmp}
use Rattle.std.specs.Cmp.Lexicographic.{slice_cmp}
use Rattle.std.proofs.lemmas.Iterator.Adapters.{fact_from_collect, YieldsList-from_vec}
use Rattle.fsfs_layout.proofs.hash.in_place.last_of_each.Goals as goal

pub returns : goal.returns
returns c = fact_from_collect (IsFromIterResult (λ (x y : Bor (List ℕ)). slice_cmp nat_cmp x.now y.now)) c.collect.result c.collect.ensures.ran (YieldsList-from_vec c.args.found.items c.into_iter.ensures.rest (c.into_iter.ensures.len ∙ c.args.found.ok.0))
