use Rattle.fsfs_commit.proofs.Pinning.{unpinned}
use Rattle.fsfs_commit.proofs.transaction.txn_draft.TxnDraft.new.Goals as goal

pub returns-clause-means : goal.returns-clause-means
returns-clause-means g c = λ h x means. (means, unpinned c.none.result.standing.value h x c.none.ensures)
