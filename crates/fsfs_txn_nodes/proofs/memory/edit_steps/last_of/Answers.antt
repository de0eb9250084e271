use Rattle.std.proofs.Common.{◌-◌, length, take, sym, ◌∙◌, arith}
use Rattle.std.proofs.lemmas.List.{length-take}
use Rattle.fsfs_txn_nodes.proofs.KeyTest.{key_eq, key_test}
use Rattle.fsfs_txn_nodes.proofs.HeldStepLemmas.{last_split, last_here, last_other}
use Rattle.fsfs_txn_nodes.proofs.memory.edit_steps.last_of.Goals as goal

pub returns-then-eq : goal.returns-then-eq
returns-then-eq c = λ files.
    let left = c.loop-left.left.now in
    let split = last_split left c.step-item.result c.in-len1-up.len_at_least c.step-item.is in
    c.loop-left.invariant.same files ∙ last_here key_eq key_test (take (length left - 1) left) left c.step-item.result c.args.key.now files split (sym c.eq.ensures ∙ c.if-eq.true)

pub loop-left-preserved : goal.loop-left-preserved
loop-left-preserved c =
    let left = c.loop-left.left.now in
    let split = last_split left c.step-item.result c.in-len1-up.len_at_least c.step-item.is in
    record {
      within = omega (arith, length-take (length left - 1) left, c.loop-left.invariant.within);
      same = λ files. c.loop-left.invariant.same files ∙ last_other key_eq key_test (take (length left - 1) left) left c.step-item.result c.args.key.now files split (sym c.eq.ensures ∙ c.if-eq.false);
    }
