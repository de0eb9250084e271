use Rattle.std.proofs.Common.{◌∙◌, map, refl, sym}
use Rattle.std.specs.Prelude.{string_bytes, Some, None}
use Rattle.fsfs_top.specs.Scenes.{SourceScene, scene, sink_scene}
use Rattle.fsfs_top.proofs.Making.{made_stands, no_zero, stands_or_none}
use Rattle.fsfs_top.proofs.CommandReplies.{replies}
use Rattle.fsfs_top.proofs.top.do_command.Goals as goal

pub returns-in-Ok-clause-replies : goal.returns-in-Ok-clause-replies
returns-in-Ok-clause-replies g c = λ input.
    replies c.args.tool (map string_bytes c.args.words.now) (g.C.Clock.next c.args.clock.now) (g.R.Dice.next c.args.dice.now) (scene g.H.Host g.O.Sink c.args.host.now c.args.out.now input) (scene g.H.Host g.O.Sink c.run.new.host c.run.new.out input)
    (sink_scene g.E.Sink c.args.err.now) (sink_scene g.E.Sink c.args.err.now) 0 None (c.in-Ok.ensures.did input) (refl, refl)

pub returns-in-Err-clause-replies : goal.returns-in-Err-clause-replies
returns-in-Err-clause-replies g c = λ input.
    replies c.args.tool (map string_bytes c.args.words.now) (g.C.Clock.next c.args.clock.now) (g.R.Dice.next c.args.dice.now) (scene g.H.Host g.O.Sink c.args.host.now c.args.out.now input) (scene g.H.Host g.O.Sink c.run.new.host c.run.new.out input)
    (sink_scene g.E.Sink c.args.err.now) (sink_scene g.E.Sink c.tell.new.err) c.tell.result (Some c.in-Err.fault) (c.in-Err.ensures.did input) (c.tell.ensures.status, c.tell.ensures.told)

pub returns-in-Err-clause-answer : goal.returns-in-Err-clause-answer
returns-in-Err-clause-answer g c = (Some c.in-Err.fault, c.tell.ensures.status, c.tell.ensures.told, c.in-Err.ensures.did)

pub returns-in-Ok-clause-made : goal.returns-in-Ok-clause-made
returns-in-Ok-clause-made g c = λ done.
    let input : SourceScene = record { remaining = None; faults = 0 } in
    made_stands c.args.tool (map string_bytes c.args.words.now) (g.C.Clock.next c.args.clock.now) (g.R.Dice.next c.args.dice.now) (scene g.H.Host g.O.Sink c.args.host.now c.args.out.now input) (scene g.H.Host g.O.Sink c.run.new.host c.run.new.out input) (c.in-Ok.ensures.did input)

pub returns-in-Err-clause-made : goal.returns-in-Err-clause-made
returns-in-Err-clause-made g c = λ zero. absurd (no_zero c.in-Err.fault (sym c.tell.ensures.status ∙ zero))

pub returns-in-Ok-clause-firm : goal.returns-in-Ok-clause-firm
returns-in-Ok-clause-firm g c = λ repos shard asks zero. c.in-Ok.ensures.firm repos shard asks

pub returns-in-Ok-clause-stands_or_none : goal.returns-in-Ok-clause-stands_or_none
returns-in-Ok-clause-stands_or_none g c = λ repos shard asks.
    stands_or_none c.args.tool (map string_bytes c.args.words.now) repos shard (g.C.Clock.next c.args.clock.now) (g.R.Dice.next c.args.dice.now) (g.H.Host.disk_at c.args.host.now repos) (g.H.Host.disk_at c.run.new.host repos) asks
    (c.run.ensures.any_moment repos shard asks)

pub returns-in-Err-clause-stands_or_none : goal.returns-in-Err-clause-stands_or_none
returns-in-Err-clause-stands_or_none g c = λ repos shard asks.
    stands_or_none c.args.tool (map string_bytes c.args.words.now) repos shard (g.C.Clock.next c.args.clock.now) (g.R.Dice.next c.args.dice.now) (g.H.Host.disk_at c.args.host.now repos) (g.H.Host.disk_at c.run.new.host repos) asks
    (c.run.ensures.any_moment repos shard asks)
