use Rattle.std.proofs.Common.{◌≤◌, arith}
use Rattle.fsfs_revision.specs.Shows.Chains.{own_rev}
use Rattle.fsfs_draft.proofs.Walking.{lasting_within}
use Rattle.fsfs_txn.proofs.Viewing.{lasting_props, lasting_fails}
use Rattle.fsfs_txn.proofs.getting.lasting_props.Goals as goal

pub returns-in-Ok-clause-told : goal.returns-in-Ok-clause-told
returns-in-Ok-clause-told g c = λ txn f look trees top base nodes path knows shown le draft files at.
    let u = c.args.found.now.node in
    let under : own_rev u ≤ top = lasting_within look top base trees shown le txn f nodes draft path u at in
    lasting_props look top base trees shown le txn f nodes draft path u at c.in-Ok.pairs (c.in-Ok.ensures.told look (λ n h. knows n (omega (arith, h, under))))

pub returns-in-Err-clause-told : goal.returns-in-Err-clause-told
returns-in-Err-clause-told g c = λ txn f look trees top base nodes path knows shown le draft files at.
    let u = c.args.found.now.node in
    let under : own_rev u ≤ top = lasting_within look top base trees shown le txn f nodes draft path u at in
    rw c.from.ensures (lasting_fails look top base trees shown le txn f nodes draft path u at c.in-Err.error (c.in-Err.ensures.told look (λ n h. knows n (omega (arith, h, under)))))
