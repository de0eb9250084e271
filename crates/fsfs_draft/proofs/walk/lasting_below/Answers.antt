use Rattle.std.proofs.Common.{◌≤◌, arith}
use Rattle.std.specs.Prelude.{option_map}
use Rattle.std.proofs.lemmas.Result.{err_from_is_err_and}
use Rattle.fsfs_revision.specs.Shows.Chains.{own_rev}
use Rattle.fsfs_dag.specs.declared.node.PlacedNode.{PlacedNode}
use Rattle.fsfs_draft.proofs.Walking.{lasting_within, below_none, below_some, below_fails}
use Rattle.fsfs_draft.proofs.walk.lasting_below.Goals as goal

pub returns-in_err-child_named-clause-draft : goal.returns-in_err-child_named-clause-draft
returns-in_err-child_named-clause-draft g c = λ look trees top base txn f nodes path knows shown le draft at.
    let r = err_from_is_err_and c.from_residual.result c.from_residual.ensures.1 in
    let u = c.args.dir.now.node in
    let under : own_rev u ≤ top = lasting_within look top base trees shown le txn f nodes draft path u at in
    let e = c.in_err-child_named.field-0.0 in
    rw (r.1, r.2) (below_fails look top base trees shown le txn f nodes draft path u at c.requires c.args.name.now (option_map (λ (n : PlacedNode). n.node)) e (c.in_err-child_named.ensures.told look (λ n h. knows n (omega (arith, h, under)))))

pub returns-in-None-clause-draft : goal.returns-in-None-clause-draft
returns-in-None-clause-draft g c = λ look trees top base txn f nodes path knows shown le draft at.
    let u = c.args.dir.now.node in
    let under : own_rev u ≤ top = lasting_within look top base trees shown le txn f nodes draft path u at in
    below_none look top base trees shown le txn f nodes draft path u at c.requires c.args.name.now (rw c.in-None.is at (c.in_ok-child_named.ensures.told look (λ n h. knows n (omega (arith, h, under)))))

pub returns-in-Some-clause-draft : goal.returns-in-Some-clause-draft
returns-in-Some-clause-draft g c = λ look trees top base txn f nodes path knows shown le draft at.
    let u = c.args.dir.now.node in
    let under : own_rev u ≤ top = lasting_within look top base trees shown le txn f nodes draft path u at in
    below_some look top base trees shown le txn f nodes draft path u at c.requires c.args.name.now c.in-Some.found.node (rw c.in-Some.is at (c.in_ok-child_named.ensures.told look (λ n h. knows n (omega (arith, h, under)))))
