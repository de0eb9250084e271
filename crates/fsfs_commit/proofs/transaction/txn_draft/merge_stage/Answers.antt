use Rattle.std.proofs.Common.{◌≡◌, ◌∙◌}
use Rattle.fsfs_turn.specs.OwnedLemmas.{reads_nothing}
use Rattle.fsfs_commit.proofs.Stages.{meaning, if_open, of_open, of_ended}
use Rattle.fsfs_commit.proofs.transaction.txn_draft.merge_stage.Goals as goal

pub merge-requires : goal.merge-requires
merge-requires g c = record { there = c.requires.there }

pub returns-in-Open-clause-ok : goal.returns-in-Open-clause-ok
returns-in-Open-clause-ok g c = λ v x known means low long told.
    c.merge.ensures.ok v x known (if_open c.args.stage.now c.in-Open.live (meaning g.T.Bench.Bench.contents v.seen x) c.in-Open.is means) low long told

pub returns-in-Open-clause-err : goal.returns-in-Open-clause-err
returns-in-Open-clause-err g c = λ v x known means low long told.
    c.merge.ensures.err v x known (if_open c.args.stage.now c.in-Open.live (meaning g.T.Bench.Bench.contents v.seen x) c.in-Open.is means) low long told

pub returns-in-Ended-clause-err : goal.returns-in-Ended-clause-err
returns-in-Ended-clause-err g c = λ v x known means low long told.
    (v, known, means, reads_nothing v (g.met.T.Turns.tells c.args.turns v known).shown, tt)

pub returns-in-Open-clause-named : goal.returns-in-Open-clause-named
returns-in-Open-clause-named g c = λ name is. c.merge.ensures.name ∙ if_open c.args.stage.now c.in-Open.live (λ o. o.txn.own.txn ≡ name) c.in-Open.is is

pub returns-in-Open-clause-lives : goal.returns-in-Open-clause-lives
returns-in-Open-clause-lives g c = λ by. c.merge.ensures.lives (of_open c.args.stage.now c.in-Open.live _ _ c.in-Open.is by)

pub returns-in-Open-clause-blamed : goal.returns-in-Open-clause-blamed
returns-in-Open-clause-blamed g c = λ by. c.merge.ensures.blamed (of_open c.args.stage.now c.in-Open.live _ _ c.in-Open.is by)

pub returns-in-Ended-clause-blamed : goal.returns-in-Ended-clause-blamed
returns-in-Ended-clause-blamed g c = λ by. absurd (of_ended c.args.stage.now c.in-Ended.field-0 _ _ c.in-Ended.is by)
