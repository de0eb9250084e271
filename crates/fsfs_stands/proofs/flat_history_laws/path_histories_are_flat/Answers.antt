use Rattle.fsfs_stands.proofs.PathHistories.{path_histories_flat}
use Rattle.fsfs_stands.proofs.flat_history_laws.path_histories_are_flat.Goals as goal

pub returns : goal.returns
returns c = path_histories_flat
