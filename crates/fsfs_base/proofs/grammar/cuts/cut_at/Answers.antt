use Rattle.std.proofs.Common.{sym, arith}
use Rattle.fsfs_base.proofs.CutPlaces.{cut_there, cut_absent}
use Rattle.fsfs_base.proofs.grammar.cuts.cut_at.Goals as goal

pub returns-then-at-text : goal.returns-then-at-text
returns-then-at-text c = sym (cut_absent c.args.separator c.args.text.now (omega (arith, c.bytes_before-at.ensures)))

pub returns : goal.returns
returns c = cut_there c.args.separator c.args.text.now c.bytes_before-at.result c.bytes_before-at.ensures (omega arith)
