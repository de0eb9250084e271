use Rattle.std.proofs.Common.{rules}
use Rattle.fsfs_pass.proofs.Rules.{sticks}
use Rattle.fsfs_pass.proofs.seats.table.stick.Goals as goal

pub store-requires : goal.store-requires
store-requires g c = (search rules, search rules, sticks _ _ _ _ _ c.args.place _ c.requires.sits (search rules) c.requires.may)
