use Rattle.std.proofs.Common.{Option, Some, sym, ap, ◌∙◌, arith}
use Rattle.fsfs_noderev.specs.declared.node_rev.CopySource.{CopySource}
use Rattle.fsfs_noderev.proofs.ItemTexts.{second_filled}
use Rattle.fsfs_noderev.proofs.changes.reading.second_line.Goals as goal

pub returns-in-None-clause-only : goal.returns-in-None-clause-only
returns-in-None-clause-only c = λ s w.
    let p = second_filled c.args.text.now s (grind (arith, c.is_empty.ensures, c.if-is_empty.false)) w in
    let e = sym c.in-None.is ∙ c.in_ok-source_of.ensures.only p.0 p.2 in
    absurd cc

pub returns-in-Some-clause-only : goal.returns-in-Some-clause-only
returns-in-Some-clause-only c = λ s w.
    let p = second_filled c.args.text.now s (grind (arith, c.is_empty.ensures, c.if-is_empty.false)) w in
    ap (λ (o : Option CopySource). Some o) (sym c.in-Some.is ∙ c.in_ok-source_of.ensures.only p.0 p.2 ∙ sym p.1)
