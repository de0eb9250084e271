-- The call goes on where it was due, and is barred elsewhere.
use Rattle.fsfs_core.specs.State.{world_of}
use Rattle.fsfs_core.proofs.Calling.{call_goes_on, call_is_barred}
use Rattle.fsfs_core.proofs.state.State.call.Goals as goal

pub returns-in-Some-2 : goal.returns-in-Some-2
returns-in-Some-2 c =
    call_goes_on c.go_on.result (world_of c.args.self.now) (world_of c.take_section.new.self) (world_of c.go_on.new.self) c.args.p c.args.place c.args.went c.in-Some.section c.in_ok-due_at.field-0 c.in-Some-2.change
    c.in-Some.ensures.some.0 c.in-Some.ensures.some.1 c.in-Some-2.is c.in_ok-due_at.ensures c.go_on.ensures

pub returns-in-None-2 : goal.returns-in-None-2
returns-in-None-2 c =
    call_is_barred (world_of c.args.self.now) (world_of c.take_section.new.self) c.args.p c.args.place c.args.went c.in-Some.section c.in_ok-due_at.field-0
    c.in-Some.ensures.some.0 c.in-Some.ensures.some.1 c.in-None-2.is c.in_ok-due_at.ensures
