use Rattle.std.proofs.Common.{◌≡◌, ◌∙◌, subst, map, arith, Bool}
use Rattle.std.proofs.lemmas.List.{take_all}
use Rattle.std.specs.Prelude.{IfSome}
use Rattle.fsfs_disk.specs.Labels.{has_label}
use Rattle.fsfs_disk.specs.Trace.{labels_now}
use Rattle.fsfs_disk.specs.Transactions.Txns.{pair_of, txn_label}
use Rattle.fsfs_disk.proofs.InTurn.{AreRemoved, another_removed, lacking_next, failed_next, stays_more}
use Rattle.fsfs_disk.proofs.transactions.removing.rmtxns.Goals as goal

pub returns-in-Ok-false-clause-removed : goal.returns-in-Ok-false-clause-removed
returns-in-Ok-false-clause-removed g c =
    let mid = g.D.Disk.trace c.loop-name.disk in
    let there = subst (λ (b : Bool). IfSome mid (λ t. b ≡ has_label (txn_label (pair_of c.name-item.result)) (labels_now t))) c.in-Ok-false.field-0-test c.in-Ok-false.ensures.there in
    lacking_next c.args.names.now c.loop-name.name-index c.name-item.result c.loop-name-test.true c.name-item.is (g.D.Disk.trace c.args.disk.now) mid (g.D.Disk.trace c.rmtxn.new.disk)
    c.loop-name.invariant.removed there c.in-Ok-false.ensures.done

pub returns-in-Ok-false-clause-labels : goal.returns-in-Ok-false-clause-labels
returns-in-Ok-false-clause-labels g c =
    (stays_more (txn_label (pair_of c.name-item.result)) (g.D.Disk.trace c.args.disk.now) (g.D.Disk.trace c.loop-name.disk) (g.D.Disk.trace c.rmtxn.new.disk) c.loop-name.invariant.stays c.rmtxn.ensures.ended).left

pub returns-in-Err-clause-removed : goal.returns-in-Err-clause-removed
returns-in-Err-clause-removed g c =
    failed_next c.args.names.now c.loop-name.name-index c.name-item.result c.loop-name-test.true c.name-item.is (g.D.Disk.trace c.args.disk.now) (g.D.Disk.trace c.loop-name.disk) (g.D.Disk.trace c.rmtxn.new.disk)
    c.loop-name.invariant.removed c.in-Err.ensures.failed

pub returns-in-Err-clause-labels : goal.returns-in-Err-clause-labels
returns-in-Err-clause-labels g c =
    (stays_more (txn_label (pair_of c.name-item.result)) (g.D.Disk.trace c.args.disk.now) (g.D.Disk.trace c.loop-name.disk) (g.D.Disk.trace c.rmtxn.new.disk) c.loop-name.invariant.stays c.rmtxn.ensures.ended).left

pub loop-name-preserved : goal.loop-name-preserved
loop-name-preserved g c =
    let mid = g.D.Disk.trace c.loop-name.disk in
    let there = subst (λ (b : Bool). IfSome mid (λ t. b ≡ has_label (txn_label (pair_of c.name-item.result)) (labels_now t))) c.in-Ok-true.field-0-test c.in-Ok-true.ensures.there in
    record {
      removed = another_removed c.args.names.now c.loop-name.name-index c.name-item.result c.loop-name-test.true c.name-item.is (g.D.Disk.trace c.args.disk.now) mid (g.D.Disk.trace c.rmtxn.new.disk)
          c.loop-name.invariant.removed there c.in-Ok-true.ensures.done;
      stays = stays_more (txn_label (pair_of c.name-item.result)) (g.D.Disk.trace c.args.disk.now) mid (g.D.Disk.trace c.rmtxn.new.disk) c.loop-name.invariant.stays c.rmtxn.ensures.ended;
      mounted = c.rmtxn.ensures.mounted ∙ c.loop-name.invariant.mounted;
      right = c.rmtxn.ensures.right ∙ c.loop-name.invariant.right;
      benches = c.rmtxn.ensures.benches ∙ c.loop-name.invariant.benches;
      faults = c.in-Ok-true.ensures.cause.kept ∙ c.loop-name.invariant.faults;
    }

pub returns-clause-removed : goal.returns-clause-removed
returns-clause-removed g c =
    let r = subst (λ names. AreRemoved (map pair_of names) (g.D.Disk.trace c.args.disk.now) (g.D.Disk.trace c.loop-name.disk)) (take_all c.loop-name.name-index c.args.names.now (omega arith)) c.loop-name.invariant.removed in
    (r.labels, r.all)
