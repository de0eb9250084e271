use Rattle.fsfs_turn.proofs.Beginning.{new_store_is_known}
use Rattle.fsfs_turn.proofs.Openings.{store_is_known}
use Rattle.fsfs_turn.proofs.laws.opened_stores_are_known.Goals as goal

pub returns-clause-new : goal.returns-clause-new
returns-clause-new c = new_store_is_known

pub returns-clause-opened : goal.returns-clause-opened
returns-clause-opened c = store_is_known
