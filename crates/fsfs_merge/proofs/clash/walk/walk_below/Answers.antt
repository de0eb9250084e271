use Rattle.std.proofs.Common.{◌≡◌, ◌∙◌, ◌++◌, ◌∷◌, [], List, sym, ap, subst}
use Rattle.fsfs_merge.specs.declared.clash.walk.Pending.{Pending}
use Rattle.fsfs_merge.specs.Clash.Threes.{is_changed}
use Rattle.fsfs_merge.specs.Clash.UnderWay.{IsWalk}
use Rattle.fsfs_merge.specs.Clash.Walks.{pending, root_three}
use Rattle.fsfs_merge.proofs.Stepping.{roots_quiet, roots_walk}
use Rattle.fsfs_merge.proofs.clash.walk.walk_below.Goals as goal

pub returns-then-not-is_changed-clause-told : goal.returns-then-not-is_changed-clause-told
returns-then-not-is_changed-clause-told g c = λ look top see knows from.
    let same = ap is_changed (sym c.three_roots-three.ensures) ∙ sym c.if-not-is_changed.ensures in
    c.walk.ensures.told look top see knows from.seen (subst (λ (l : List Pending). IsWalk see l) (sym c.new-todo.ensures.items) (roots_quiet c.args.roots.now see from.root same))

pub returns-in-Ok-clause-told : goal.returns-in-Ok-clause-told
returns-in-Ok-clause-told g c = λ look top see knows from.
    let roots = c.args.roots.now in
    let changed = ap is_changed (sym c.three_roots-three.ensures) ∙ sym c.if-not-is_changed.ensures in
    let items : c.push.new.self.items ≡ pending [] (root_three roots) ∷ [] = c.in-Ok.ensures.items ∙ (λ i. c.new-todo.ensures.items i ++ pending (c.root-path.ensures i) (c.three_roots-three.ensures i) ∷ []) in
    c.walk-in-Ok.ensures.told look top see knows from.seen (subst (λ (l : List Pending). IsWalk see l) (sym items) (roots_walk roots see from.root changed))
