use Rattle.std.proofs.Common.{rules, ap, ◌∙◌}
use Rattle.fsfs_pass.proofs.Joins.{joins, settles}
use Rattle.fsfs_pass.proofs.seats.joining.join.Goals as goal

pub join_seat-requires : goal.join_seat-requires
join_seat-requires g c = (search rules, search rules, search rules, search rules, joins _ _ _ _ _ _ c.requires.sits.0 c.requires.sits.1 c.requires.outside)

pub load-requires : goal.load-requires
load-requires g c = (search rules, search rules, settles _ _ _ _ _ _ _ (ap (λ m. m.0.kin.stage) c.join_seat.ensures.2))

pub returns-clause-seen : goal.returns-clause-seen
returns-clause-seen g c = λ told.
    let e = c.join_seat.ensures.2 in
    let fits = c.load.ensures.2.1 (ap (λ m. m.0.told) e ∙ told) _ _ (ap (λ m. m.0.kin.stage) e) in (fits.0.0, fits.1.0)

pub returns-clause-later : goal.returns-clause-later
returns-clause-later g c = λ told.
    let e = c.join_seat.ensures.2 in
    let fits = c.load.ensures.2.1 (ap (λ m. m.0.told) e ∙ told) _ _ (ap (λ m. m.0.kin.stage) e) in (fits.0.1, fits.1.1)
