use Rattle.fsfs_turn.proofs.SeenLemmas.{tells_revisions}
use Rattle.fsfs_turn.proofs.SeenProps.{reads_seen}
use Rattle.fsfs_turn.proofs.turn_reads.over_turns.Goals as goal

pub returns-clause-told : goal.returns-clause-told
returns-clause-told g c = λ v known.
    let seen = g.met.T.Turns.tells c.args.turns v known in
    tells_revisions (g.T.Turns.store c.args.turns) (g.T.Turns.low (g.T.Turns.store c.args.turns).below) c.floor-floor.result v _ c.floor-floor.ensures seen (c.new.ensures.own seen.files seen.told)

pub returns-clause-props : goal.returns-clause-props
returns-clause-props g c = λ v known r x at read may.
    let seen = g.met.T.Turns.tells c.args.turns v known in
    reads_seen (g.T.Turns.knows c.args.turns) v known (g.T.Turns.store c.args.turns).reach (λ q y is. (seen.each q y is).known) r x at read (c.new.ensures.props r read may)
