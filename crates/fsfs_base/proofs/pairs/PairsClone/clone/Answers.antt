use Rattle.std.proofs.Common.{◌∙◌}
use Rattle.fsfs_base.proofs.ClonedLists.{pairs_cloned}
use Rattle.fsfs_base.proofs.pairs.PairsClone.clone.Goals as goal

pub returns : goal.returns
returns c = record { cases = pairs_cloned c.self.inside.pairs.entries c.in_ok-clone.field-0.entries c.in_ok-clone.ensures.cases ∙ c.self.view_is }
