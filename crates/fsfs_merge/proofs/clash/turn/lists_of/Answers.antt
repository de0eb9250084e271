use Rattle.std.proofs.Common.{Ok, sym, subst, arith}
use Rattle.fsfs_merge.specs.declared.clash.merged.Link.{Link}
use Rattle.fsfs_merge.specs.Clash.Readings.{ListsOf}
use Rattle.std.proofs.lemmas.Result.{err_from_is_err_and}
use Rattle.fsfs_revision.proofs.Keeping.{keeps_trans}
use Rattle.fsfs_dag.specs.Views.{entry_values}
use Rattle.fsfs_merge.proofs.ReadingLemmas.{lists_base, lists_head, lists_own, lists_all}
use Rattle.fsfs_merge.proofs.clash.turn.lists_of.Goals as goal

pub returns-in_err-base-clause-told : goal.returns-in_err-base-clause-told
returns-in_err-base-clause-told g c = λ look top knows le_x le_y within.
    let r = err_from_is_err_and c.from_residual.result c.from_residual.ensures.1 in
    rw (r.1, r.2) (lists_base look (g.N.Own.folder c.args.own.now) c.args.x.now.node c.args.y.now.node c.args.id.now c.in_err-base.field-0.0 (c.in_err-base.ensures.told look (λ n le. knows n (omega (arith, le, le_x)))))

pub returns-in_err-head-clause-told : goal.returns-in_err-head-clause-told
returns-in_err-head-clause-told g c = λ look top knows le_x le_y within.
    let r = err_from_is_err_and c.from_residual-in_err-head.result c.from_residual-in_err-head.ensures.1 in
    rw (r.1, r.2) (lists_head look (g.N.Own.folder c.args.own.now) c.args.x.now.node c.args.y.now.node c.args.id.now (entry_values c.in_ok-base.base.items) c.in_err-head.field-0.0
    (c.in_ok-base.ensures.told look (λ n le. knows n (omega (arith, le, le_x)))) (c.in_err-head.ensures.told look (λ n le. c.in_ok-base.ensures.kept.revs n (look n) (knows n (omega (arith, le, le_y))))))

pub returns-in_err-head-clause-kept : goal.returns-in_err-head-clause-kept
returns-in_err-head-clause-kept g c = keeps_trans _ _ _ c.in_ok-base.ensures.kept c.in_err-head.ensures.kept

pub returns-in_err-own-clause-told : goal.returns-in_err-own-clause-told
returns-in_err-own-clause-told g c = λ look top knows le_x le_y within.
    let r = err_from_is_err_and c.from_residual-in_err-own.result c.from_residual-in_err-own.ensures.1 in
    rw (r.1, r.2) (lists_own look (g.N.Own.folder c.args.own.now) c.args.x.now.node c.args.y.now.node c.args.id.now (entry_values c.in_ok-base.base.items) (entry_values c.in_ok-head.head.items) c.in_err-own.field-0.0
    (c.in_ok-base.ensures.told look (λ n le. knows n (omega (arith, le, le_x)))) (c.in_ok-head.ensures.told look (λ n le. c.in_ok-base.ensures.kept.revs n (look n) (knows n (omega (arith, le, le_y)))))
    (c.in_err-own.ensures.told look top (λ n le. c.in_ok-head.ensures.kept.revs n (look n) (c.in_ok-base.ensures.kept.revs n (look n) (knows n le))) within))

pub returns-in_err-own-clause-kept : goal.returns-in_err-own-clause-kept
returns-in_err-own-clause-kept g c = keeps_trans _ _ _ c.in_ok-base.ensures.kept (keeps_trans _ _ _ c.in_ok-head.ensures.kept c.in_err-own.ensures.kept)

pub returns-clause-told : goal.returns-clause-told
returns-clause-told g c = λ look top knows le_x le_y within.
    let f = g.N.Own.folder c.args.own.now in
    let x = c.args.x.now.node in
    let y = c.args.y.now.node in
    let id = c.args.id.now in
    let all = lists_all look f x y id (entry_values c.in_ok-base.base.items) (entry_values c.in_ok-head.head.items) (entry_values c.in_ok-own.own.items)
    (c.in_ok-base.ensures.told look (λ n le. knows n (omega (arith, le, le_x)))) (c.in_ok-head.ensures.told look (λ n le. c.in_ok-base.ensures.kept.revs n (look n) (knows n (omega (arith, le, le_y)))))
    (c.in_ok-own.ensures.told look top (λ n le. c.in_ok-head.ensures.kept.revs n (look n) (c.in_ok-base.ensures.kept.revs n (look n) (knows n le))) within) in
    subst (λ (k : Link). ListsOf look f x y id (Ok (record { link = k; base = entry_values c.in_ok-base.base.items; head = entry_values c.in_ok-head.head.items; own = entry_values c.in_ok-own.own.items }))) (sym c.link_of-link.ensures) all

pub returns-clause-kept : goal.returns-clause-kept
returns-clause-kept g c = keeps_trans _ _ _ c.in_ok-base.ensures.kept (keeps_trans _ _ _ c.in_ok-head.ensures.kept c.in_ok-own.ensures.kept)
