use Rattle.std.proofs.Common.{sym, ◌∙◌}
use Rattle.fsfs_commit.specs.Transaction.Meaning.{IfOpen}
use Rattle.fsfs_commit.specs.Transaction.Pinned.{LandsAs}
use Rattle.fsfs_commit.proofs.Pinning.{is_noted, pinned_is, noted_same, notes_landing, lands_as, landed_pinned}
use Rattle.fsfs_commit.proofs.Stages.{meaning}
use Rattle.fsfs_base.proofs.ResultLemmas.{if_err, on_ok}
use Rattle.fsfs_commit.proofs.transaction.txn_draft.TxnDraftBenchDraft.merge.Goals as goal

pub merge_stage-turns-requires : goal.merge_stage-turns-requires
merge_stage-turns-requires g c = record { there = c.requires.there }

-- what was landed may be noted
pub some-noted-requires : goal.some-noted-requires
some-noted-requires g c =
    let head = c.args.head in
    let pin = c.args.self.now.pin.standing.value in
    let turns = c.merge_stage-turns.result.0 in
    let stage = c.merge_stage-turns.new.stage in
    notes_landing (g.T.Turns.knows turns) (λ h y. IfOpen stage (meaning g.T.Bench.Bench.contents h y)) head pin (λ s is.
    let w = c.requires.due (is_noted pin s is) in
    let r = on_ok c.merge_stage-turns.result.1 tt _ c.in-Ok.is (c.merge_stage-turns.ensures.ok w.0 w.1 w.2 w.3.0 w.5 w.6 w.7) in
    lands_as (g.T.Turns.knows turns) (λ h y. IfOpen stage (meaning g.T.Bench.Bench.contents h y)) head s w.1 r.0 r.1 (pinned_is pin s w.0.seen w.1 is w.3.1).0 r.2 r.3 r.5)

pub returns-in-Ok-clause-ok : goal.returns-in-Ok-clause-ok
returns-in-Ok-clause-ok g c = λ v x known means can low long told.
    let turns = c.merge_stage-turns.result.0 in
    let stage = c.merge_stage-turns.new.stage in
    let r = on_ok c.merge_stage-turns.result.1 tt _ c.in-Ok.is (c.merge_stage-turns.ensures.ok v x known means.0 low long told) in
    landed_pinned (g.T.Turns.knows turns) (λ h y. IfOpen stage (meaning g.T.Bench.Bench.contents h y)) c.args.head c.args.self.now.pin.standing.value c.some-noted.result.value v x
    (λ pinned a b here there. g.met.T.Turns.sole turns a b (c.merge_stage-turns.ensures.duty ∙ sym c.requires.pinned ∙ pinned) here there) means.1 c.some-noted.ensures r

pub returns-in-Ok-clause-pinned : goal.returns-in-Ok-clause-pinned
returns-in-Ok-clause-pinned g c = noted_same (λ s t. LandsAs (g.T.Turns.knows c.merge_stage-turns.result.0) (λ h y. IfOpen c.merge_stage-turns.new.stage (meaning g.T.Bench.Bench.contents h y)) c.args.head s.txn t) c.args.self.now.pin.standing.value c.some-noted.result.value c.some-noted.ensures

pub returns-in-Err-clause-err : goal.returns-in-Err-clause-err
returns-in-Err-clause-err g c = λ v x known means can low long told.
    let r = if_err c.merge_stage-turns.result.1 c.in-Err.refusal _ c.in-Err.is (c.merge_stage-turns.ensures.err v x known means.0 low long told) in
    (r.0, r.1, (r.2, means.1), r.3, r.4)

pub returns-in-Err-clause-found : goal.returns-in-Err-clause-found
returns-in-Err-clause-found g c = if_err c.merge_stage-turns.result.1 c.in-Err.refusal _ c.in-Err.is c.merge_stage-turns.ensures.found

pub returns-in-Err-clause-cause : goal.returns-in-Err-clause-cause
returns-in-Err-clause-cause g c = if_err c.merge_stage-turns.result.1 c.in-Err.refusal _ c.in-Err.is c.merge_stage-turns.ensures.cause

pub returns-in-Ok-clause-lives : goal.returns-in-Ok-clause-lives
returns-in-Ok-clause-lives g c = λ lives. on_ok c.merge_stage-turns.result.1 tt _ c.in-Ok.is (c.merge_stage-turns.ensures.lives lives)

pub returns-in-Err-clause-blamed : goal.returns-in-Err-clause-blamed
returns-in-Err-clause-blamed g c = λ lives. if_err c.merge_stage-turns.result.1 c.in-Err.refusal _ c.in-Err.is (c.merge_stage-turns.ensures.blamed lives)
