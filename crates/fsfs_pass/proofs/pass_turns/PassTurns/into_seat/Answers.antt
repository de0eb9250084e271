use Rattle.fsfs_pass.proofs.Turning.{sits_so}
use Rattle.fsfs_pass.proofs.pass_turns.PassTurns.into_seat.Goals as goal

pub returns-clause-sitting : goal.returns-clause-sitting
returns-clause-sitting g c = sits_so c.args.self.seat.me.0 c.args.self.sitting
