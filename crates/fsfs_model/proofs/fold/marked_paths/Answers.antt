use Rattle.std.proofs.Common.{◌≡◌, ◌∙◌, ◌||◌, sym, ap, refl, cond, Bool, true, false, List, take, length, ◌+◌, ◌<◌, ℕ, get_or}
use Rattle.std.specs.List.{list_any}
use Rattle.std.specs.BTreeSet as set
use Rattle.std.specs.Ordering.{eq_by_cmp}
use Rattle.std.proofs.lemmas.List.Folds.{list_any_more}
use Rattle.fsfs_model.specs.declared.flat.mark.Mark.{Mark}
use Rattle.fsfs_base.specs.Paths.{Path, path_cmp, same_path, paths_tie}
use Rattle.fsfs_model.proofs.fold.marked_paths.Goals as goal

turned : (a b : Bool) → cond a true b ≡ (b || a)
turned true true = refl
turned true false = refl
turned false true = refl
turned false false = refl

pub loop-mark-preserved : goal.loop-mark-preserved
loop-mark-preserved c = λ q.
    c.in_ok-insert.ensures.updates.0 q
    ∙ ap (λ p. cond (eq_by_cmp path_cmp p q) true (set.contains path_cmp c.loop-mark.all q)) c.in_ok-clone.ensures.cases
    ∙ ap (λ b. cond b true (set.contains path_cmp c.loop-mark.all q)) (sym (paths_tie c.mark-item.result.path q))
    ∙ turned (same_path c.mark-item.result.path q) (set.contains path_cmp c.loop-mark.all q)
    ∙ (λ i. c.loop-mark.invariant q i || same_path (c.mark-item.is i).path q)
    ∙ sym (list_any_more (λ m. same_path m.path q) c.args.marks.now c.loop-mark.mark-index c.mark-item.result c.loop-mark-test.true)
