use Rattle.std.proofs.Common.{refl, sym, subst}
use Rattle.fsfs_commit.specs.Transaction.Pinned.{IsPinned}
use Rattle.fsfs_commit.specs.Transaction.StayingLemmas.{txn_stays}
use Rattle.fsfs_commit.proofs.transaction.txn_draft.TxnDraft.pinned.Goals as goal

pub returns-clause-means : goal.returns-clause-means
returns-clause-means g c = λ h begins.
    let s = c.args.standing.now.value in
    (λ none. txn_stays s.seen h _ _ _ s.txn (c.requires.stands none) begins, subst (λ o. IsPinned o h s.txn) (sym c.of.ensures) (refl, c.requires.based, begins))
