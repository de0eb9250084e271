use Rattle.std.proofs.Common.{rules}
use Rattle.fsfs_pass.proofs.Rules.{locks}
use Rattle.fsfs_pass.proofs.seats.table.take_lock.Goals as goal

pub compare_exchange-found-requires : goal.compare_exchange-found-requires
compare_exchange-found-requires g c = (search rules, search rules, locks _ _ _ _ _ (search rules))
