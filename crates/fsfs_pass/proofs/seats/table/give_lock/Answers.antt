use Rattle.std.proofs.Common.{rules}
use Rattle.fsfs_pass.proofs.Rules.{gives_lock}
use Rattle.fsfs_pass.proofs.seats.table.give_lock.Goals as goal

pub store-requires : goal.store-requires
store-requires g c = (search rules, search rules, gives_lock _ _ _ _ _ c.requires.sits c.requires.may)
