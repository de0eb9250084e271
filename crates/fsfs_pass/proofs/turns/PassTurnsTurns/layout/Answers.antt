use Rattle.std.proofs.Common.{sym, ap}
use Rattle.fsfs_pass.specs.Met.{Ground}
use Rattle.fsfs_pass.proofs.turns.PassTurnsTurns.layout.Goals as goal

pub returns : goal.returns
returns g c = sym (ap {A = Ground} (λ x. x.layout) c.args.self.now.layout_is)
