use Rattle.std.proofs.Common.{ap, sym, ◌∙◌}
use Rattle.fsfs_fetch.proofs.TellingLemmas.{below_same}
use Rattle.fsfs_turn.proofs.turn_reads.turns_of.Goals as goal

pub returns-clause-below : goal.returns-clause-below
returns-clause-below g c = ap (λ r. (g.T.Turns.store r.turns).below) c.into_reads-turns.ensures ∙ sym (below_same (g.T.Turns.store c.args.book.reads.turns) c.args.book.floor c.args.book.kept)
