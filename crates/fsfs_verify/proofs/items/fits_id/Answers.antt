use Rattle.fsfs_verify.proofs.ItemChecks.{not_gone, fits_there, not_that}
use Rattle.fsfs_verify.proofs.items.fits_id.Goals as goal

pub returns-then-is_delete-clause-other : goal.returns-then-is_delete-clause-other
returns-then-is_delete-clause-other c = λ no. not_gone c.args.item.now c.args.id.now (c.is_delete.ensures.yes c.if-is_delete.true)

pub returns-clause-yes : goal.returns-clause-yes
returns-clause-yes c = λ yes. fits_there c.args.item.now c.args.id.now (c.is_delete.ensures.other c.if-is_delete.false) (c.names_it.ensures.yes yes)

pub returns-clause-other : goal.returns-clause-other
returns-clause-other c = λ no. not_that c.args.item.now c.args.id.now (c.is_delete.ensures.other c.if-is_delete.false) (c.names_it.ensures.other no)
