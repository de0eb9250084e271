use Rattle.std.proofs.Common.{◌≡◌, sym, subst}
use Rattle.std.specs.Prelude.{Ok}
use Rattle.fsfs_draft.specs.Drafts.{Folder}
use Rattle.fsfs_merge.specs.declared.land.Outcome.{Outcome}
use Rattle.fsfs_merge.specs.declared.land.Outcome.TheVariants as outcomes
use Rattle.fsfs_draft.specs.Errors as errors
use Rattle.fsfs_txn.specs.Spending.{IfStays}
use Rattle.fsfs_txn.specs.Merging.{IsMerging}
use Rattle.fsfs_txn.proofs.Landing.{merged_over}
use Rattle.fsfs_txn.proofs.txn.Txn.merge.Goals as goal

pub returns-in-Ok-Landed-clause-meets : goal.returns-in-Ok-Landed-clause-meets
returns-in-Ok-Landed-clause-meets g c = λ unspent look trees top tree marks knows shows less within stands.
    let s = c.args.self.now in
    let txn = g.N.Own.txn s.own in
    let f = g.N.Own.settled s.own in
    let mid = g.N.Own.settled c.merge_settled.new.own in
    let kept : g.N.Own.settled c.landed_on.new.self.own ≡ mid = λ i. g.N.Own.settled (c.landed_on.ensures i).own in
    subst (λ (h : Folder). IsMerging IfStays look trees top s.base c.args.head txn tree marks f h (Ok outcomes.Landed)) (sym kept)
    (merged_over errors.IfStays IfStays look trees top s.base c.args.head txn tree marks f mid outcomes.Landed
    (subst (λ (o : Outcome). IsMerging errors.IfStays look trees top s.base c.args.head txn tree marks f mid (Ok o)) c.in-Ok-Landed.field-0-is (c.in-Ok-Landed.ensures.merges look trees top tree marks knows shows less within stands)))
