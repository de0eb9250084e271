use Rattle.fsfs_txn_files.proofs.Longer.{stays}
use Rattle.fsfs_txn_files.proofs.proto_rev.laws.texts_stay.Goals as goal

pub returns : goal.returns
returns c = stays
