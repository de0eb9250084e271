use Rattle.std.proofs.Common.{inl, sym, ◌∙◌}
use Rattle.fsfs_commit.proofs.Going.{sticks_at, gives_at, is_in_doubt, may_end}
use Rattle.fsfs_commit.proofs.section.settle.Goals as goal

-- ---- the calls are due

pub stick-requires : goal.stick-requires
stick-requires g c = record { due = λ bound. let w = c.requires.due bound in (w.0, w.2, inl (w.1, is_in_doubt c.args.place w.0 w.1 (sym c.is_doubtful.ensures ∙ c.if-is_doubtful.true) w.3)) }

pub give_lock-requires : goal.give_lock-requires
give_lock-requires g c = record { due = λ bound. let w = c.requires.due bound in (w.0, w.2, may_end c.args.place w.0 w.1 (sym c.is_doubtful.ensures ∙ c.if-is_doubtful.false) w.3) }

-- ---- what they come to

pub returns-then-is_doubtful-clause-turned : goal.returns-then-is_doubtful-clause-turned
returns-then-is_doubtful-clause-turned g c = λ v x known at.
    let e = sym c.is_doubtful.ensures ∙ c.if-is_doubtful.true in
    sticks_at c.args.place v (g.T.Turns.knows c.stick.new.self) e (c.stick.ensures.turned v known (inl (x, is_in_doubt c.args.place v x e at)))

pub returns-else-is_doubtful-clause-turned : goal.returns-else-is_doubtful-clause-turned
returns-else-is_doubtful-clause-turned g c = λ v x known at.
    let e = sym c.is_doubtful.ensures ∙ c.if-is_doubtful.false in
    gives_at c.args.place v (g.T.Turns.knows c.give_lock.new.self) e (c.give_lock.ensures.turned v known (may_end c.args.place v x e at))
