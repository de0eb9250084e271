use Rattle.fsfs_verify.proofs.ItemChecks.{fits_gone, not_there}
use Rattle.fsfs_verify.proofs.items.fits.Goals as goal

pub returns-in-None-clause-yes : goal.returns-in-None-clause-yes
returns-in-None-clause-yes c = λ yes. rw c.in-None.is (fits_gone c.args.item.now (c.is_delete.ensures.yes yes))

pub returns-in-None-clause-other : goal.returns-in-None-clause-other
returns-in-None-clause-other c = λ no. rw c.in-None.is (not_there c.args.item.now (c.is_delete.ensures.other no))
