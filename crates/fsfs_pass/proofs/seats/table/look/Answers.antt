use Rattle.std.proofs.Common.{rules}
use Rattle.fsfs_pass.proofs.Rules.{looks}
use Rattle.fsfs_pass.proofs.seats.table.look.Goals as goal

pub load-found-requires : goal.load-found-requires
load-found-requires g c = (search rules, search rules, looks _ _ _ _ _ c.requires.sits)
