use Rattle.std.proofs.Common.{rules}
use Rattle.fsfs_pass.proofs.Rules.{reveals_as}
use Rattle.fsfs_pass.proofs.seats.table.reveal.Goals as goal

pub store-requires : goal.store-requires
store-requires g c = (search rules, search rules, reveals_as _ _ _ _ _ c.args.rev _ c.requires.sits (search rules) (search rules) c.requires.may)
