use Rattle.fsfs_verify.proofs.edges.fits_edge.Goals as goal

pub returns-clause-yes : goal.returns-clause-yes
returns-clause-yes c = λ look precedes yes. record { root = c.has_root_of.ensures.yes look precedes c.if-not-has_root_of.false; goes_on = c.goes_on_there.ensures.yes yes }
