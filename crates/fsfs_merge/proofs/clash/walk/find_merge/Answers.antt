use Rattle.std.proofs.Common.{arith}
use Rattle.fsfs_merge.proofs.DraftLaw.{see, draft_finds}
use Rattle.fsfs_merge.proofs.clash.walk.find_merge.Goals as goal

pub returns-clause-draft : goal.returns-clause-draft
returns-clause-draft g c = λ look top trees tree marks knows shows order within is d.
    let txn = g.N.Own.txn c.args.own.now in
    let f = g.N.Own.folder c.args.own.now in
    draft_finds look top c.args.base c.args.head trees shows order within txn f tree marks is d c.merge_of.result
    (c.merge_of.ensures.told look top (see look top c.args.base c.args.head trees shows order within txn f tree marks is d) knows (omega (arith, order, within)) within)
