use Rattle.fsfs_txn_files.proofs.Longer.{read}
use Rattle.fsfs_txn_files.proofs.proto_rev.laws.appended_texts_are_read.Goals as goal

pub returns : goal.returns
returns c = read
