use Rattle.std.proofs.Common.{ap, ◌∙◌}
use Rattle.fsfs_layout.specs.declared.layout.Layout.{Layout}
use Rattle.fsfs_layout.specs.declared.repository_file.RepositoryFile.TheVariants as repository
use Rattle.fsfs_layout.specs.FileNames.{file_name}
use Rattle.fsfs_turn.proofs.SeenProps.{fewer_read, turn_met}
use Rattle.fsfs_turn.proofs.turn_reads.TurnReadsReads.read_props.Goals as goal

pub returns-clause-met : goal.returns-clause-met
returns-clause-met g c =
    let turns = c.args.self.now.turns in
    let old = g.T.Turns.store turns in
    turn_met (g.T.Turns.low (g.T.Turns.store c.read.new.self).below) (g.T.Turns.knows turns) (g.T.Turns.knows c.read.new.self) (g.T.Turns.store c.read.new.self) old.layout c.read.ensures.later.layout c.read.ensures.onward (g.met.T.Turns.tells c.read.new.self) c.args.rev
    c.name-name.result c.args.buffer.now c.read.new.buffer c.read.result (c.name-name.ensures ∙ ap (λ (l : Layout). file_name l (repository.Props c.args.rev)) c.layout.ensures) c.read.auto.buffer c.read.ensures.within c.read.ensures.bytes

pub returns-clause-fewer : goal.returns-clause-fewer
returns-clause-fewer g c = fewer_read (g.T.Turns.knows c.args.self.now.turns) (g.T.Turns.knows c.read.new.self) c.read.ensures.onward
