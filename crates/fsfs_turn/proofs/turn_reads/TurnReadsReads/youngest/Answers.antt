use Rattle.fsfs_turn.proofs.SeenProps.{fewer_looked}
use Rattle.fsfs_turn.proofs.turn_reads.TurnReadsReads.youngest.Goals as goal

pub returns-clause-fewer : goal.returns-clause-fewer
returns-clause-fewer g c = fewer_looked (g.T.Turns.knows c.args.self.now.turns) (g.T.Turns.knows c.look.new.self) c.look.result c.look.ensures.turned
