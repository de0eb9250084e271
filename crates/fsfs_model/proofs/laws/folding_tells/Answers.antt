use Rattle.fsfs_model.proofs.FoldingLaw.{folding_tells}
use Rattle.fsfs_model.proofs.laws.folding_tells.Goals as goal

pub returns : goal.returns
returns c = folding_tells
