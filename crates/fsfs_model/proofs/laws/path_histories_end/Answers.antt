use Rattle.fsfs_model.proofs.Legal.{path_histories_end}
use Rattle.fsfs_model.proofs.laws.path_histories_end.Goals as goal

pub returns : goal.returns
returns c = path_histories_end
