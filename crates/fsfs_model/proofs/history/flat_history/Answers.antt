use Rattle.std.proofs.Common.{◌≡◌, ◌∙◌, sym, ap, ◌++◌, ◌∷◌, [], Some, Option, arith, ◌-◌}
use Rattle.std.specs.Option.{option_copied}
use Rattle.fsfs_tree.specs.Revisions.{tree_of}
use Rattle.fsfs_tree.specs.PathHistories.{go_on, history_within, path_history}
use Rattle.fsfs_model.proofs.Points.{one_point}
use Rattle.fsfs_model.proofs.history.flat_history.Goals as goal

pub loop-left-preserved-in-None-2 : goal.loop-left-preserved-in-None-2
loop-left-preserved-in-None-2 c =
    ap (λ o. c.push.new.self.items ++ go_on (λ to. history_within (c.loop-left.left - 1) (tree_of c.args.history.now) to.0 to.1) o) (sym c.in-None-2.is)
    ∙ one_point c.loop-left.points.items c.push.new.self.items (path_history (tree_of c.args.history.now) c.args.rev c.args.path.now) c.loop-left.left (tree_of c.args.history.now) c.loop-left.rev c.loop-left.path c.in-Some.node.now c.in_ok-next_point-in-Some.field-0
    (omega arith) (sym c.in-Some.ensures) (c.in_ok-push-in-Some.ensures.items ∙ (λ i. c.loop-left.points.items ++ ((c.node.view_is i).last_changed, c.in_ok-clone-in-Some.ensures.cases i) ∷ [])) c.in_ok-next_point-in-Some.ensures c.loop-left.invariant

pub loop-left-preserved : goal.loop-left-preserved
loop-left-preserved c =
    let w = ap (λ o. c.push.new.self.items ++ go_on (λ to. history_within (c.loop-left.left - 1) (tree_of c.args.history.now) to.0 to.1) o) (sym c.in-Some-2.is)
    ∙ one_point c.loop-left.points.items c.push.new.self.items (path_history (tree_of c.args.history.now) c.args.rev c.args.path.now) c.loop-left.left (tree_of c.args.history.now) c.loop-left.rev c.loop-left.path c.in-Some.node.now c.in_ok-next_point-in-Some.field-0
    (omega arith) (sym c.in-Some.ensures) (c.in_ok-push-in-Some.ensures.items ∙ (λ i. c.loop-left.points.items ++ ((c.node.view_is i).last_changed, c.in_ok-clone-in-Some.ensures.cases i) ∷ [])) c.in_ok-next_point-in-Some.ensures c.loop-left.invariant in
    first_of (search (w, c.in-Some-2.from-is, c.in-Some-2.source-is), grind (arith, w, c.in-Some-2.from-is, c.in-Some-2.source-is))
