use Rattle.std.proofs.Common.{◌≡◌, ◌∙◌, [], List, None, ap, sym, subst, arith, rules}
use Rattle.std.proofs.lemmas.List.{nil_from_length}
use Rattle.fsfs_revision.proofs.Keeping.{keeps_refl, keeps_trans}
use Rattle.fsfs_merge.specs.declared.clash.merged.MergedDir.{MergedDir}
use Rattle.fsfs_merge.specs.Clash.UnderWay.{IsUnderWay}
use Rattle.fsfs_merge.specs.Clash.Weights.{total}
use Rattle.fsfs_merge.proofs.Stepping.{walk_ends}
use Rattle.fsfs_merge.proofs.WeightLemmas.{total_push}
use Rattle.fsfs_merge.proofs.clash.walk.walk.Goals as goal

pub loop-next-init : goal.loop-next-init
loop-next-init g c = record {
  kept = keeps_refl _;
  later = omega arith;
  found = λ look top see knows seen w. subst (λ (l : List MergedDir). IsUnderWay see c.args.todo.items None l) (sym c.new.ensures.items) w;
}

pub returns-in_err-step-clause-kept : goal.returns-in_err-step-clause-kept
returns-in_err-step-clause-kept g c = keeps_trans _ _ _ c.loop-next.invariant.kept c.in_err-step.ensures.kept

pub loop-next-smaller : goal.loop-next-smaller
loop-next-smaller g c =
    let one = ap total c.in-Some.ensures.items ∙ total_push c.pop.new.self.items c.in-Some.next in
    omega (arith, one, c.in_ok-step.ensures.total)

pub loop-next-preserved : goal.loop-next-preserved
loop-next-preserved g c = record {
  kept = keeps_trans _ _ _ c.loop-next.invariant.kept c.in_ok-step.ensures.kept;
  later = omega (arith, c.loop-next.invariant.later, c.in_ok-step.ensures.cause.later);
  found = λ look top see knows seen w.
      c.in_ok-step.ensures.told look top see (λ n le. c.loop-next.invariant.kept.revs n (look n) (knows n le)) seen
      (subst (λ t. IsUnderWay see t c.loop-next.walk.first c.loop-next.walk.dirs.items) c.in-Some.ensures.items (c.loop-next.invariant.found look top see knows seen w));
}

pub returns-clause-told : goal.returns-clause-told
returns-clause-told g c = λ look top see knows seen w.
    let none : c.loop-next.walk.todo.items ≡ [] = nil_from_length c.loop-next.walk.todo.items (search rules) in
    let at_end = walk_ends see c.loop-next.walk none (c.loop-next.invariant.found look top see knows seen w) in
    record { first = at_end.first; dirs = at_end.dirs }
