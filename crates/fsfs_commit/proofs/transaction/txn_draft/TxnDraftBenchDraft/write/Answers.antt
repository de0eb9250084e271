use Rattle.fsfs_commit.proofs.Stages.{no_open, of_stage_then}
use Rattle.fsfs_commit.proofs.DraftWriting.{ok_then}
use Rattle.std.proofs.lemmas.Result.{IfErr-weaker}
use Rattle.fsfs_commit.proofs.transaction.txn_draft.TxnDraftBenchDraft.write.Goals as goal

pub returns-clause-means : goal.returns-clause-means
returns-clause-means g c = λ h x means. (no_open c.written-stage.result.0 _ c.written-stage.ensures.ended, means.1)

pub returns-clause-held : goal.returns-clause-held
returns-clause-held g c = λ txn next bytes held. ok_then c.written-stage.result.1 _ _ (λ here. (here, held.1)) (c.written-stage.ensures.held bytes held.0)

pub returns-clause-refused : goal.returns-clause-refused
returns-clause-refused g c = λ txn next bytes held. c.written-stage.ensures.refused bytes held.0

pub returns-clause-named : goal.returns-clause-named
returns-clause-named g c = λ name is. no_open c.written-stage.result.0 _ c.written-stage.ensures.ended

pub returns-clause-blamed : goal.returns-clause-blamed
returns-clause-blamed g c = λ made. IfErr-weaker c.written-stage.result.1 _ _ (λ why w. of_stage_then c.written-stage.result.0 (λ o. ⊥) _ _ _ (λ o no. absurd no) (λ e failed. failed) w) (c.written-stage.ensures.blamed made)
