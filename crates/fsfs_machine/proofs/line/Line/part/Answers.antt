use Rattle.std.proofs.Common.{rules}
use Rattle.fsfs_machine.proofs.LineLemmas.{part_found}
use Rattle.fsfs_machine.proofs.line.Line.part.Goals as goal

pub returns : goal.returns
returns c =
    part_found c.self.inside.history c.self.inside.bytes.items c.args.number c.in-Some.revision.now c.in-Some-nth.bytes.now c.args.self.now _
    (search rules) (search rules) (search rules) (search rules) (search rules) (search rules)
