use Rattle.std.proofs.Common.{◌∙◌, ◌++◌, ◌∷◌, [], sym, ap}
use Rattle.fsfs_merge.specs.Clash.Threes.{is_of}
use Rattle.fsfs_merge.specs.Clash.Walks.{pending}
use Rattle.fsfs_merge.proofs.ListLemmas.{none_more, one_more}
use Rattle.fsfs_merge.proofs.clash.walk.push_if_changed.Goals as goal

pub returns-then-not-has : goal.returns-then-not-has
returns-then-not-has c = none_more c.args.which _ _ _ (ap (is_of c.args.which) (sym c.three-three.ensures) ∙ sym c.if-not-has.ensures)

pub returns : goal.returns
returns c =
    c.in_ok-push.ensures.items ∙ (λ i. c.args.todo.now.items ++ pending (c.in_ok-path.ensures i) (c.three-three.ensures i) ∷ [])
    ∙ one_more c.args.which _ _ _ (ap (is_of c.args.which) (sym c.three-three.ensures) ∙ sym c.if-not-has.ensures)
