use Rattle.fsfs_model.proofs.TwoMergesLaw.{two_merges_are_one}
use Rattle.fsfs_model.proofs.laws.two_merges_are_one.Goals as goal

pub returns : goal.returns
returns c = two_merges_are_one
