use Rattle.fsfs_txn.proofs.Growing.{drafts_grow}
use Rattle.fsfs_txn.proofs.opened.laws.drafts_grow.Goals as goal

pub returns : goal.returns
returns c = drafts_grow
