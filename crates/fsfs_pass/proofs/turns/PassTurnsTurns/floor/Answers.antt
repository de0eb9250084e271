use Rattle.std.proofs.Common.{sym, ap}
use Rattle.fsfs_pass.specs.Met.{Ground}
use Rattle.fsfs_pass.proofs.turns.PassTurnsTurns.floor.Goals as goal

pub returns : goal.returns
returns g c = sym (ap {A = Ground} (λ x. x.low) c.args.self.now.layout_is)
