use Rattle.std.proofs.Common.{ℕ, Ok, refl, ap, ◌∙◌}
use Rattle.std.specs.Prelude.{Option}
use Rattle.fsfs_begin.proofs.Reading.{counts_some, counts_none, counts_failed, either_way, full_some, full_none, last_still}
use Rattle.fsfs_begin.proofs.drawing.read_number.Goals as goal

pub returns-in-Ok-Some-clause-counted : goal.returns-in-Ok-Some-clause-counted
returns-in-Ok-Some-clause-counted g c = λ v known at le.
    let s = g.T.Turns.store c.draw.new.self in
    either_way (λ a. a) (λ past. (past.0, past.1, past.2, record { met = c.draw.new.self; lasting = c.draw.ensures.later.below; last = past.3 })) (counts_some (g.T.Turns.knows c.draw.new.self) s c.args.base _ c.draw.new.buffer v refl c.in-Ok-Some.count _ c.number_in.result refl c.draw.result (c.in-Ok-Some.is ∙ ap (λ (o : Option ℕ). Ok o) c.in-Ok-Some.field-0-is) (c.draw.ensures.drawn v known at le) c.number_in.ensures.found c.number_in.ensures.refused)

pub returns-in-Ok-None-clause-counted : goal.returns-in-Ok-None-clause-counted
returns-in-Ok-None-clause-counted g c = λ v known at le.
    let s = g.T.Turns.store c.draw.new.self in
    either_way (λ a. a) (λ past. (past.0, past.1, past.2, record { met = c.draw.new.self; lasting = c.draw.ensures.later.below; last = past.3 })) (counts_none (g.T.Turns.knows c.draw.new.self) s c.args.base _ c.draw.new.buffer v refl c.number_in-in-Ok-None.result c.draw.result (c.in-Ok-None.is ∙ ap (λ (o : Option ℕ). Ok o) c.in-Ok-None.field-0-is) (c.draw.ensures.drawn v known at le))

pub returns-in-Err-clause-counted : goal.returns-in-Err-clause-counted
returns-in-Err-clause-counted g c = λ v known at le.
    let s = g.T.Turns.store c.draw.new.self in
    either_way (λ a. a) (λ past. (past.0, past.1, past.2, record { met = c.draw.new.self; lasting = c.draw.ensures.later.below; last = past.3 })) (counts_failed (g.T.Turns.knows c.draw.new.self) s c.args.base _ c.draw.new.buffer v refl c.in-Err.field-0 c.draw.result c.in-Err.is (c.draw.ensures.drawn v known at le))

pub draw-requires : goal.draw-requires
draw-requires g c = record { due = λ bound. c.requires.due bound }

-- ---- where no name is left

pub returns-in-Ok-Some-clause-full : goal.returns-in-Ok-Some-clause-full
returns-in-Ok-Some-clause-full g c = λ stay last.
    full_some (g.T.Turns.store c.draw.new.self) _ c.draw.new.buffer refl (last_still g.T.Turns.store c.args.turns.now c.draw.new.self stay c.draw.ensures.later.below last) c.draw.result c.in-Ok-Some.count _ c.number_in.result (c.in-Ok-Some.is ∙ ap (λ (o : Option ℕ). Ok o) c.in-Ok-Some.field-0-is) refl c.draw.ensures.bytes c.number_in.ensures.found

pub returns-in-Ok-None-clause-full : goal.returns-in-Ok-None-clause-full
returns-in-Ok-None-clause-full g c = λ stay last.
    full_none (g.T.Turns.store c.draw.new.self) _ c.draw.new.buffer refl (last_still g.T.Turns.store c.args.turns.now c.draw.new.self stay c.draw.ensures.later.below last) c.draw.result c.number_in-in-Ok-None.result (c.in-Ok-None.is ∙ ap (λ (o : Option ℕ). Ok o) c.in-Ok-None.field-0-is) c.draw.ensures.bytes
