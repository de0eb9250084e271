use Rattle.std.proofs.Common.{◌≡◌, ◌||◌, ◌∙◌, sym, ap, Bool, true, false, cond}
use Rattle.std.specs.Prelude.{is_some}
use Rattle.std.specs.List.{list_any}
use Rattle.std.specs.Ordering.{eq_by_cmp}
use Rattle.std.specs.Cmp.{eq_by_cmp_equiv}
use Rattle.std.specs.BTreeSet as set
use Rattle.std.specs.FinMap as map
use Rattle.std.specs.Map.Iter.{deref}
use Rattle.std.proofs.lemmas.Map.Iter.{rest_more}
use Rattle.fsfs_base.specs.Paths.{path_cmp, path_cmp_total}
use Rattle.fsfs_tree.proofs.TreeLemmas.{get_is}
use Rattle.fsfs_tree.proofs.tree.Tree.add_paths.Goals as goal

-- one key moves from what is left to what was added
moved : (old e rest new : Bool) → new ≡ cond e true old → (new || rest) ≡ (old || (e || rest))
moved true true rest new h = ap (λ b. b || rest) h
moved true false rest new h = ap (λ b. b || rest) h
moved false true rest new h = ap (λ b. b || rest) h
moved false false rest new h = ap (λ b. b || rest) h

pub loop-path-init : goal.loop-path-init
loop-path-init c = λ q. ap (λ b. set.contains path_cmp c.args.all.now q || b)
    (ap (list_any (eq_by_cmp path_cmp q)) c.into_iter-path-iterator.ensures.into_iter_gives
    ∙ sym (c.keys-path-items.ensures.has q)
    ∙ ap is_some (sym (get_is c.self.inside.nodes.entries q) ∙ ap (λ m. map.get m q) c.self.view_is))

pub loop-path-preserved : goal.loop-path-preserved
loop-path-preserved c = λ q.
    let left = rest_more deref c.loop-path.path-iterator c.next.new.self c.next.result c.in-Some.path c.in-Some.is c.next.ensures.steps in
    let now : set.contains path_cmp c.insert.new.self q ≡ cond (eq_by_cmp path_cmp q c.in-Some.path.now) true (set.contains path_cmp c.loop-path.all q) =
    c.in_ok-insert.ensures.updates.0 q
    ∙ ap (λ p. cond (eq_by_cmp path_cmp p q) true (set.contains path_cmp c.loop-path.all q)) c.in_ok-clone.ensures.cases
    ∙ ap (λ b. cond b true (set.contains path_cmp c.loop-path.all q)) ((eq_by_cmp_equiv path_cmp_total).symm c.in-Some.path.now q) in
    moved (set.contains path_cmp c.loop-path.all q) (eq_by_cmp path_cmp q c.in-Some.path.now) (list_any (eq_by_cmp path_cmp q) c.next.new.self) _ now
    ∙ ap (λ xs. set.contains path_cmp c.loop-path.all q || list_any (eq_by_cmp path_cmp q) xs) (sym left)
    ∙ c.loop-path.invariant q
