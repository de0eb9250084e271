use Rattle.std.proofs.Common.{◌∙◌, ◌≤◌, sym, ap, subst, arith}
use Rattle.std.proofs.lemmas.Result.{err_from_is_err_and}
use Rattle.fsfs_revision.proofs.Keeping.{keeps_trans}
use Rattle.fsfs_noderev.specs.declared.node_id.NodeId.{NodeId}
use Rattle.fsfs_revision.specs.Shows.Reading.{offset_of}
use Rattle.fsfs_dag.specs.Views.{AreBefore, home_of}
use Rattle.fsfs_merge.proofs.ReadingLemmas.{merged_dirs, turn_base, turn_head, turn_own, turn_apart, turn_down, turn_lists}
use Rattle.fsfs_merge.proofs.clash.turn.opened.Goals as goal

pub returns-in_err-base-clause-told : goal.returns-in_err-base-clause-told
returns-in_err-base-clause-told g c = λ look top knows within.
    let r = err_from_is_err_and c.from_residual.result c.from_residual.ensures.1 in
    rw (r.1, r.2) (turn_base look (g.N.Own.folder c.args.own.now) c.args.rev c.args.dirs.now c.in_err-base.field-0.0 (c.in_err-base.ensures.told look (λ n le. knows n (omega (arith, le, within.base)))))

pub returns-in_err-head-clause-told : goal.returns-in_err-head-clause-told
returns-in_err-head-clause-told g c = λ look top knows within.
    let r = err_from_is_err_and c.from_residual-in_err-head.result c.from_residual-in_err-head.ensures.1 in
    rw (r.1, r.2) (turn_head look (g.N.Own.folder c.args.own.now) c.args.rev c.args.dirs.now c.in_ok-base.base.node c.in_err-head.field-0.0
    (c.in_ok-base.ensures.told look (λ n le. knows n (omega (arith, le, within.base)))) (c.in_err-head.ensures.told look (λ n le. c.in_ok-base.ensures.kept.revs n (look n) (knows n (omega (arith, le, within.head))))))

pub returns-in_err-head-clause-kept : goal.returns-in_err-head-clause-kept
returns-in_err-head-clause-kept g c = keeps_trans _ _ _ c.in_ok-base.ensures.kept c.in_err-head.ensures.kept

pub returns-in_err-mine-clause-told : goal.returns-in_err-mine-clause-told
returns-in_err-mine-clause-told g c = λ look top knows within.
    let r = err_from_is_err_and c.from_residual-in_err-mine.result c.from_residual-in_err-mine.ensures.1 in
    rw (r.1, r.2) (turn_own look (g.N.Own.folder c.args.own.now) c.args.rev c.args.dirs.now c.in_ok-base.base.node c.in_ok-head.head.node
    (c.in_ok-base.ensures.told look (λ n le. knows n (omega (arith, le, within.base)))) (c.in_ok-head.ensures.told look (λ n le. c.in_ok-base.ensures.kept.revs n (look n) (knows n (omega (arith, le, within.head)))))
    c.in_err-mine.field-0.0 (c.in_err-mine.ensures.told look top (λ n le. c.in_ok-head.ensures.kept.revs n (look n) (c.in_ok-base.ensures.kept.revs n (look n) (knows n le))) within.own))

pub returns-in_err-mine-clause-kept : goal.returns-in_err-mine-clause-kept
returns-in_err-mine-clause-kept g c = keeps_trans _ _ _ c.in_ok-base.ensures.kept (keeps_trans _ _ _ c.in_ok-head.ensures.kept c.in_err-mine.ensures.kept)

pub returns-then-not-are_merged-clause-told : goal.returns-then-not-are_merged-clause-told
returns-then-not-are_merged-clause-told g c = λ look top knows within.
    turn_apart look (g.N.Own.folder c.args.own.now) c.args.rev c.args.dirs.now c.in_ok-base.base.node c.in_ok-head.head.node
    (c.in_ok-base.ensures.told look (λ n le. knows n (omega (arith, le, within.base)))) (c.in_ok-head.ensures.told look (λ n le. c.in_ok-base.ensures.kept.revs n (look n) (knows n (omega (arith, le, within.head)))))
    c.in_ok-mine.mine (c.in_ok-mine.ensures.told look top (λ n le. c.in_ok-head.ensures.kept.revs n (look n) (c.in_ok-base.ensures.kept.revs n (look n) (knows n le))) within.own) (sym c.if-not-are_merged.ensures)

pub returns-then-not-are_merged-clause-kept : goal.returns-then-not-are_merged-clause-kept
returns-then-not-are_merged-clause-kept g c = keeps_trans _ _ _ c.in_ok-base.ensures.kept (keeps_trans _ _ _ c.in_ok-head.ensures.kept c.in_ok-mine.ensures.kept)

pub lists_of-requires-clause-base : goal.lists_of-requires-clause-base
lists_of-requires-clause-base g c = (merged_dirs c.args.rev c.in_ok-base.base.node c.in_ok-head.head.node c.in_ok-mine.mine (sym c.if-not-are_merged.ensures)).0

pub lists_of-requires-clause-head : goal.lists_of-requires-clause-head
lists_of-requires-clause-head g c = (merged_dirs c.args.rev c.in_ok-base.base.node c.in_ok-head.head.node c.in_ok-mine.mine (sym c.if-not-are_merged.ensures)).1

pub returns-in_err-lists-clause-told : goal.returns-in_err-lists-clause-told
returns-in_err-lists-clause-told g c = λ look top knows within.
    let r = err_from_is_err_and c.from_residual-in_err-lists.result c.from_residual-in_err-lists.ensures.1 in
    let le_x : (home_of c.in_ok-base.base.node).rev ≤ top = subst (λ (id : NodeId). (offset_of id.place).rev ≤ top) (sym c.in_ok-base.ensures.id) within.base in
    let le_y : (home_of c.in_ok-head.head.node).rev ≤ top = subst (λ (id : NodeId). (offset_of id.place).rev ≤ top) (sym c.in_ok-head.ensures.id) within.head in
    rw (r.1, r.2) (turn_lists look (g.N.Own.folder c.args.own.now) c.args.rev c.args.dirs.now c.in_ok-base.base.node c.in_ok-head.head.node
    (c.in_ok-base.ensures.told look (λ n le. knows n (omega (arith, le, within.base)))) (c.in_ok-head.ensures.told look (λ n le. c.in_ok-base.ensures.kept.revs n (look n) (knows n (omega (arith, le, within.head)))))
    c.in_ok-mine.mine (c.in_ok-mine.ensures.told look top (λ n le. c.in_ok-head.ensures.kept.revs n (look n) (c.in_ok-base.ensures.kept.revs n (look n) (knows n le))) within.own)
    c.in_err-lists.field-0.0 (sym c.if-not-are_merged.ensures)
    (c.in_err-lists.ensures.told look top (λ n le. c.in_ok-mine.ensures.kept.revs n (look n) (c.in_ok-head.ensures.kept.revs n (look n) (c.in_ok-base.ensures.kept.revs n (look n) (knows n le)))) le_x le_y within.own))

pub returns-in_err-lists-clause-kept : goal.returns-in_err-lists-clause-kept
returns-in_err-lists-clause-kept g c = keeps_trans _ _ _ c.in_ok-base.ensures.kept (keeps_trans _ _ _ c.in_ok-head.ensures.kept (keeps_trans _ _ _ c.in_ok-mine.ensures.kept c.in_err-lists.ensures.kept))

pub returns-clause-told : goal.returns-clause-told
returns-clause-told g c = λ look top knows within.
    let le_x : (home_of c.in_ok-base.base.node).rev ≤ top = subst (λ (id : NodeId). (offset_of id.place).rev ≤ top) (sym c.in_ok-base.ensures.id) within.base in
    let le_y : (home_of c.in_ok-head.head.node).rev ≤ top = subst (λ (id : NodeId). (offset_of id.place).rev ≤ top) (sym c.in_ok-head.ensures.id) within.head in
    turn_down look (g.N.Own.folder c.args.own.now) c.args.rev c.args.dirs.now c.in_ok-base.base.node c.in_ok-head.head.node
    (c.in_ok-base.ensures.told look (λ n le. knows n (omega (arith, le, within.base)))) (c.in_ok-head.ensures.told look (λ n le. c.in_ok-base.ensures.kept.revs n (look n) (knows n (omega (arith, le, within.head)))))
    c.in_ok-mine.mine (c.in_ok-mine.ensures.told look top (λ n le. c.in_ok-head.ensures.kept.revs n (look n) (c.in_ok-base.ensures.kept.revs n (look n) (knows n le))) within.own)
    c.in_ok-lists.lists (sym c.if-not-are_merged.ensures)
    (c.in_ok-lists.ensures.told look top (λ n le. c.in_ok-mine.ensures.kept.revs n (look n) (c.in_ok-head.ensures.kept.revs n (look n) (c.in_ok-base.ensures.kept.revs n (look n) (knows n le)))) le_x le_y within.own)

pub returns-clause-home : goal.returns-clause-home
returns-clause-home g c = c.in_ok-lists.ensures.home ∙ ap (λ (id : NodeId). offset_of id.place) c.in_ok-base.ensures.id

pub returns-clause-before : goal.returns-clause-before
returns-clause-before g c = subst (λ (id : NodeId). AreBefore (offset_of id.place) c.in_ok-lists.lists.base.items) c.in_ok-base.ensures.id c.in_ok-lists.ensures.before

pub returns-clause-kept : goal.returns-clause-kept
returns-clause-kept g c = keeps_trans _ _ _ c.in_ok-base.ensures.kept (keeps_trans _ _ _ c.in_ok-head.ensures.kept (keeps_trans _ _ _ c.in_ok-mine.ensures.kept c.in_ok-lists.ensures.kept))
