use Rattle.std.proofs.Common.{◌≡◌, ◌∙◌}
use Rattle.fsfs_commit.proofs.Stages.{meaning, if_open, of_open, of_ended}
use Rattle.fsfs_commit.proofs.transaction.txn_draft.marshal_stage.Goals as goal

pub returns-in-Open-clause-made : goal.returns-in-Open-clause-made
returns-in-Open-clause-made g c = λ h x tells means youngest.
    c.marshal.ensures.made h x tells (if_open c.args.stage.now c.in-Open.live (meaning g.B.Bench.contents h x) c.in-Open.is means) youngest

pub returns-in-Open-clause-means : goal.returns-in-Open-clause-means
returns-in-Open-clause-means g c = λ h x means.
    c.marshal.ensures.means h x (if_open c.args.stage.now c.in-Open.live (meaning g.B.Bench.contents h x) c.in-Open.is means)

pub returns-in-Open-clause-refused : goal.returns-in-Open-clause-refused
returns-in-Open-clause-refused g c = λ h x tells means youngest.
    c.marshal.ensures.refused h x tells (if_open c.args.stage.now c.in-Open.live (meaning g.B.Bench.contents h x) c.in-Open.is means) youngest

pub returns-in-Open-clause-named : goal.returns-in-Open-clause-named
returns-in-Open-clause-named g c = λ name is. c.marshal.ensures.name ∙ if_open c.args.stage.now c.in-Open.live (λ o. o.txn.own.txn ≡ name) c.in-Open.is is

pub returns-in-Open-clause-lives : goal.returns-in-Open-clause-lives
returns-in-Open-clause-lives g c = λ by. c.marshal.ensures.lives (of_open c.args.stage.now c.in-Open.live _ _ c.in-Open.is by)

pub returns-in-Open-clause-blamed : goal.returns-in-Open-clause-blamed
returns-in-Open-clause-blamed g c = λ by. c.marshal.ensures.blamed (of_open c.args.stage.now c.in-Open.live _ _ c.in-Open.is by)

pub returns-in-Ended-clause-blamed : goal.returns-in-Ended-clause-blamed
returns-in-Ended-clause-blamed g c = λ by. absurd (of_ended c.args.stage.now c.in-Ended.field-0 _ _ c.in-Ended.is by)
