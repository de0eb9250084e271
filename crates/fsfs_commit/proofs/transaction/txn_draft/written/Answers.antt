use Rattle.fsfs_commit.proofs.Stages.{of_open, of_ended}
use Rattle.fsfs_commit.proofs.transaction.txn_draft.written.Goals as goal

pub returns-in-Open-clause-refused : goal.returns-in-Open-clause-refused
returns-in-Open-clause-refused g c = λ bytes held. c.write-ended.ensures.refused bytes (of_open c.args.stage c.in-Open.live _ _ c.in-Open.is held)

pub returns-in-Open-clause-blamed : goal.returns-in-Open-clause-blamed
returns-in-Open-clause-blamed g c = λ made. c.write-ended.ensures.blamed (of_open c.args.stage c.in-Open.live _ _ c.in-Open.is made)

pub returns-in-Ended-clause-blamed : goal.returns-in-Ended-clause-blamed
returns-in-Ended-clause-blamed g c = λ made. absurd (of_ended c.args.stage c.in-Ended.ended _ _ c.in-Ended.is made)
