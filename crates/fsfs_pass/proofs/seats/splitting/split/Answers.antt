use Rattle.std.proofs.Common.{rules, ap}
use Rattle.fsfs_pass.proofs.Splits.{splits, numbers}
use Rattle.fsfs_pass.proofs.seats.splitting.split.Goals as goal

pub split_seat-other-requires : goal.split_seat-other-requires
split_seat-other-requires g c = (search rules, search rules, splits _ _ _ _ c.requires.sits c.requires.parts)

pub load-requires : goal.load-requires
load-requires g c = (search rules, search rules, numbers _ _ _ _ _ (ap (λ m. m.0.kin.stage) c.split_seat-other.ensures.4))
