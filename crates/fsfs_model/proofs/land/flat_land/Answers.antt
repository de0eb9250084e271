use Rattle.std.proofs.Common.{◌≡◌, ◌∙◌, sym, ap, subst, Some, None, ◌||◌}
use Rattle.std.proofs.lemmas.Bool.{or_parts}
use Rattle.std.specs.Prelude.{is_some}
use Rattle.std.specs.List.{list_any}
use Rattle.std.specs.Ordering.{eq_by_cmp}
use Rattle.std.specs.FinMap as map
use Rattle.std.specs.Map.Iter.{deref}
use Rattle.std.proofs.lemmas.Map.Iter.{rest_more}
use Rattle.fsfs_base.specs.Paths.{path_cmp}
use Rattle.fsfs_tree.specs.Nodes.{TreeFunction}
use Rattle.fsfs_model.specs.Flat.Marks.{effects, effects_by}
use Rattle.fsfs_model.specs.Flat.Landing.{land, landed_at}
use Rattle.fsfs_base.proofs.ResultLemmas.{none_of}
use Rattle.fsfs_model.proofs.Filling.{IsFilling, start, put, skip}
use Rattle.fsfs_model.proofs.land.flat_land.Goals as goal

pub loop-path-init : goal.loop-path-init
loop-path-init c = start (land (map.get c.args.base.now) (map.get c.args.head.now) (map.get c.args.own.now) c.args.marks.now c.args.n) c.new-tree.result c.into_iter-path-iterator.result c.new-tree.ensures (λ q out.
    let nowhere = sym (c.in_ok-all.ensures q) ∙ ap (list_any (eq_by_cmp path_cmp q)) (sym c.into_iter-path-iterator.ensures.into_iter_gives.0) ∙ out in
    let two = or_parts (is_some (map.get c.args.base.now q) || is_some (map.get c.args.head.now q)) (is_some (map.get c.args.own.now q)) nowhere in
    let one = or_parts (is_some (map.get c.args.base.now q)) (is_some (map.get c.args.head.now q)) two.0 in
    λ i. landed_at c.args.n (effects c.args.marks.now q) (none_of _ one.0 i) (none_of _ one.1 i) (none_of _ two.1 i))

pub loop-path-preserved-in_ok-insert : goal.loop-path-preserved-in_ok-insert
loop-path-preserved-in_ok-insert c = λ q.
    let f : TreeFunction = land (map.get c.args.base.now) (map.get c.args.head.now) (map.get c.args.own.now) c.args.marks.now c.args.n in
    let left = rest_more deref c.loop-path.path-iterator c.next.new.self c.next.result c.in-Some.path c.in-Some.is c.next.ensures.steps in
    let says : effects c.args.marks.now c.in-Some.path.now ≡ c.effects_at-effects.result =
    sym (c.effects_at-effects.ensures ∙ ap (λ o. effects_by o c.in-Some.path.now) (c.deref.ensures.value ∙ c.in_ok-outer.ensures)) in
    let stands : f c.in-Some.path.now ≡ Some c.in-Some-node.node =
    (λ i. landed_at c.args.n (says i) (sym c.get.ensures i) (sym c.get-in-loop-path.ensures i) (sym c.get-in-loop-path-2.ensures i))
    ∙ sym c.in_ok-node.ensures ∙ c.in-Some-node.is in
    subst (λ m. IsFilling f m c.next.new.self q) (sym (c.in_ok-insert.ensures.ok ∙ ap (λ p. map.insert c.loop-path.tree p c.in-Some-node.node) c.in_ok-clone.ensures.cases))
    (put f c.loop-path.tree c.in-Some.path.now c.next.new.self c.loop-path.path-iterator c.in-Some-node.node left stands q (c.loop-path.invariant q))

pub loop-path-preserved : goal.loop-path-preserved
loop-path-preserved c = λ q.
    let f : TreeFunction = land (map.get c.args.base.now) (map.get c.args.head.now) (map.get c.args.own.now) c.args.marks.now c.args.n in
    let left = rest_more deref c.loop-path.path-iterator c.next.new.self c.next.result c.in-Some.path c.in-Some.is c.next.ensures.steps in
    let says : effects c.args.marks.now c.in-Some.path.now ≡ c.effects_at-effects.result =
    sym (c.effects_at-effects.ensures ∙ ap (λ o. effects_by o c.in-Some.path.now) (c.deref.ensures.value ∙ c.in_ok-outer.ensures)) in
    let stands : f c.in-Some.path.now ≡ None =
    (λ i. landed_at c.args.n (says i) (sym c.get.ensures i) (sym c.get-in-loop-path.ensures i) (sym c.get-in-loop-path-2.ensures i))
    ∙ sym c.in_ok-node.ensures ∙ c.in_default.is in
    skip f c.loop-path.tree c.in-Some.path.now c.next.new.self c.loop-path.path-iterator left stands q (c.loop-path.invariant q)
