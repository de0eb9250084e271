use Rattle.std.proofs.Common.{arith}
use Rattle.std.specs.Prelude.{Result, Ok, Err}
use Rattle.fsfs_revision.specs.Shows.Chains.{Chain}
use Rattle.fsfs_verify.proofs.ChainLemmas.{part_begins, before_found, pred_up_to}
use Rattle.fsfs_verify.proofs.copies.has_part_before.Goals as goal

pub returns-in-None-clause-told : goal.returns-in-None-clause-told
returns-in-None-clause-told g c = λ look knows precedes.
    let none = rw c.in-None.is at precedes in
    part_begins look c.args.node.now.node c.args.part.now none

pub returns-in-Some-clause-told : goal.returns-in-Some-clause-told
returns-in-Some-clause-told g c = λ look knows precedes.
    let v = c.args.node.now.node in
    let u = c.in-Some.pred.now.node in
    let pred = rw c.in-Some.is at precedes in
    let le = pred_up_to look v u c.args.node.now.ordered pred.0 in
    before_found look v u pred.0 c.args.part.now c.has_part.result (c.has_part.ensures.told look (λ r lower. knows r (omega (arith, lower, le))))
