use Rattle.std.proofs.Common.{◌∙◌}
use Rattle.std.specs.BTreeMap.{IsFromIterResult}
use Rattle.std.proofs.lemmas.Iterator.Adapters.{fact_from_collect, YieldsList-from_vec}
use Rattle.fsfs_layout.proofs.PutPairs.{vec_cmp}
use Rattle.fsfs_layout.proofs.hash.dump.sorted.Goals as goal

pub returns : goal.returns
returns c = fact_from_collect (IsFromIterResult vec_cmp) c.collect.result c.collect.ensures.ran (YieldsList-from_vec c.args.pairs.items c.into_iter.ensures.rest (c.into_iter.ensures.len ∙ c.args.pairs.ok.0))
