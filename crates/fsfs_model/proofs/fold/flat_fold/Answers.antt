use Rattle.std.proofs.Common.{◌≡◌, ◌∙◌, sym, ap, subst, Some, None, Option, List, [], ◌∷◌, Bool, true, false, cond, refl, ◌||◌}
use Rattle.std.specs.List.{list_any}
use Rattle.std.specs.Ordering.{eq_by_cmp}
use Rattle.std.specs.FinMap as map
use Rattle.std.specs.Map.Iter.{deref}
use Rattle.std.proofs.lemmas.Map.Iter.{rest_more}
use Rattle.fsfs_model.specs.declared.flat.mark.Mark.{Mark}
use Rattle.fsfs_tree.specs.declared.change_map.Change.{Change}
use Rattle.fsfs_base.specs.Paths.{Path, path_cmp, same_path}
use Rattle.fsfs_model.specs.Flat.Folding.{fold}
use Rattle.fsfs_model.proofs.FoldLemmas.{unmarked}
use Rattle.fsfs_model.proofs.Filling.{IsFilling, start, put, skip}
use Rattle.fsfs_model.proofs.fold.flat_fold.Goals as goal

pub loop-path-init : goal.loop-path-init
loop-path-init c = start (fold c.args.marks.now) c.new-changes.result c.into_iter-path-iterator.result c.new-changes.ensures
    (λ q out. unmarked c.args.marks.now q (sym (c.in_ok-all.ensures q) ∙ ap (list_any (eq_by_cmp path_cmp q)) (sym c.into_iter-path-iterator.ensures.into_iter_gives.0) ∙ out))

pub loop-path-preserved-in_ok-insert : goal.loop-path-preserved-in_ok-insert
loop-path-preserved-in_ok-insert c = λ q.
    let f : Path → Option Change = fold c.args.marks.now in
    let left = rest_more deref c.loop-path.path-iterator c.next.new.self c.next.result c.in-Some.path c.in-Some.is c.next.ensures.steps in
    let stands : f c.in-Some.path.now ≡ Some c.in-Some-2.change = sym c.in_ok-change.ensures ∙ c.in-Some-2.is in
    subst (λ m. IsFilling f m c.next.new.self q) (sym (c.in_ok-insert.ensures.ok ∙ ap (λ p. map.insert c.loop-path.changes p c.in-Some-2.change) c.in_ok-clone.ensures.cases))
    (put f c.loop-path.changes c.in-Some.path.now c.next.new.self c.loop-path.path-iterator c.in-Some-2.change left stands q (c.loop-path.invariant q))

pub loop-path-preserved : goal.loop-path-preserved
loop-path-preserved c = λ q.
    let f : Path → Option Change = fold c.args.marks.now in
    let left = rest_more deref c.loop-path.path-iterator c.next.new.self c.next.result c.in-Some.path c.in-Some.is c.next.ensures.steps in
    let stands : f c.in-Some.path.now ≡ None = sym c.in_ok-change.ensures ∙ c.in_default.is in
    skip f c.loop-path.changes c.in-Some.path.now c.next.new.self c.loop-path.path-iterator left stands q (c.loop-path.invariant q)
