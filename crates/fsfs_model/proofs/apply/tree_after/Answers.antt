use Rattle.std.proofs.Common.{◌≡◌, ◌∙◌, sym, ap, subst, Some, None, false}
use Rattle.std.proofs.lemmas.Bool.{false_from_ne_true, both_ways}
use Rattle.std.specs.List.{list_any}
use Rattle.std.specs.Ordering.{eq_by_cmp}
use Rattle.std.specs.FinMap as map
use Rattle.std.specs.BTreeSet as set
use Rattle.std.specs.Map.Iter.{deref}
use Rattle.std.proofs.lemmas.Map.Iter.{rest_more}
use Rattle.fsfs_base.specs.Paths.{path_cmp}
use Rattle.fsfs_tree.specs.Nodes.{TreeFunction}
use Rattle.fsfs_model.specs.Flat.Edits.{applied}
use Rattle.fsfs_tree.specs.Revisions.{tree_of}
use Rattle.fsfs_base.proofs.ResultLemmas.{none_of}
use Rattle.fsfs_model.proofs.Filling.{IsFilling, start, put, skip}
use Rattle.fsfs_model.proofs.apply.tree_after.Goals as goal

pub loop-path-init : goal.loop-path-init
loop-path-init c = start (applied c.args.edit.now (tree_of c.args.history.now) (map.get c.args.own.now)) c.new-tree.result c.into_iter-path-iterator.result c.new-tree.ensures (λ q out.
    let nowhere : set.contains path_cmp c.in_ok-all.all q ≡ false = ap (list_any (eq_by_cmp path_cmp q)) (sym c.into_iter-path-iterator.ensures.into_iter_gives.0) ∙ out in
    none_of _ (false_from_ne_true _ (λ h. both_ways _ nowhere (c.in_ok-all.ensures q h))))

pub loop-path-preserved-in_ok-insert : goal.loop-path-preserved-in_ok-insert
loop-path-preserved-in_ok-insert c = λ q.
    let f : TreeFunction = applied c.args.edit.now (tree_of c.args.history.now) (map.get c.args.own.now) in
    let left = rest_more deref c.loop-path.path-iterator c.next.new.self c.next.result c.in-Some.path c.in-Some.is c.next.ensures.steps in
    let stands : f c.in-Some.path.now ≡ Some c.in-Some-2.node = sym c.in_ok-node.ensures ∙ c.in-Some-2.is in
    subst (λ m. IsFilling f m c.next.new.self q) (sym (c.in_ok-insert.ensures.ok ∙ ap (λ p. map.insert c.loop-path.tree p c.in-Some-2.node) c.in_ok-clone.ensures.cases))
    (put f c.loop-path.tree c.in-Some.path.now c.next.new.self c.loop-path.path-iterator c.in-Some-2.node left stands q (c.loop-path.invariant q))

pub loop-path-preserved : goal.loop-path-preserved
loop-path-preserved c = λ q.
    let f : TreeFunction = applied c.args.edit.now (tree_of c.args.history.now) (map.get c.args.own.now) in
    let left = rest_more deref c.loop-path.path-iterator c.next.new.self c.next.result c.in-Some.path c.in-Some.is c.next.ensures.steps in
    let stands : f c.in-Some.path.now ≡ None = sym c.in_ok-node.ensures ∙ c.in_default.is in
    skip f c.loop-path.tree c.in-Some.path.now c.next.new.self c.loop-path.path-iterator left stands q (c.loop-path.invariant q)
