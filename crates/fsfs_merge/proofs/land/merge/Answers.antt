use Rattle.std.proofs.Common.{sym, subst, arith}
use Rattle.fsfs_draft.specs.Drafts.{Folder}
use Rattle.fsfs_merge.specs.Landings.{LeavesLanded, TellsMerge}
use Rattle.fsfs_merge.proofs.land.merge.Goals as goal

pub returns-then-get-clause-draft : goal.returns-then-get-clause-draft
returns-then-get-clause-draft g c = λ look top trees tree marks knows shows less within is d. absurd (omega (arith, less, c.if-get.true))

pub returns-then-get-clause-told : goal.returns-then-get-clause-told
returns-then-get-clause-told g c = λ look top see knows le_b le_h apart. absurd (apart (omega (arith, c.if-get.true)))

pub returns-clause-draft : goal.returns-clause-draft
returns-clause-draft g c = λ look top trees tree marks knows shows less within is d.
    subst (λ (f : Folder). LeavesLanded look trees top c.args.base c.args.head (g.N.Own.txn c.args.own.now) tree marks (g.N.Own.settled c.args.own.now) f c.merge_steps-outcome.result) (sym c.forget.ensures.settled)
    (c.merge_steps-outcome.ensures.draft look top trees tree marks knows shows less within is d)

pub returns-clause-told : goal.returns-clause-told
returns-clause-told g c = λ look top see knows le_b le_h apart.
    subst (λ (f : Folder). TellsMerge look top (g.N.Own.txn c.args.own.now) c.args.base c.args.head see (g.N.Own.settled c.args.own.now) f c.merge_steps-outcome.result) (sym c.forget.ensures.settled)
    (c.merge_steps-outcome.ensures.told look top see knows le_b le_h)

pub returns-clause-at_base : goal.returns-clause-at_base
returns-clause-at_base g c = λ same. absurd (omega (arith, same, c.if-get.false))
