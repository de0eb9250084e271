use Rattle.std.proofs.Common.{sym, subst}
use Rattle.fsfs_commit.specs.Transaction.Pinned.{IsPinned}
use Rattle.fsfs_commit.proofs.transaction.txn_draft.TxnDraft.with_note.Goals as goal

pub returns-clause-means : goal.returns-clause-means
returns-clause-means g c = λ h x means pinned. (means, subst (λ o. IsPinned o h x) (sym c.noted.ensures) pinned)
