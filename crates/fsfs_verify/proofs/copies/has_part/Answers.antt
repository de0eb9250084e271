use Rattle.std.proofs.Common.{◌≡◌, ◌≤◌, ◌<◌, ℕ, true, false, refl, sym, ap, subst, ◌∙◌, arith, rules}
use Rattle.std.specs.Prelude.{◌≢◌, ◌^◌, Option, Some, None, IfSome, Err}
use Rattle.std.proofs.lemmas.Result.{err_from_is_err_and}
use Rattle.fsfs_noderev.specs.declared.node_id.NodeId.{NodeId}
use Rattle.fsfs_noderev.specs.declared.node_id.Part.{Part}
use Rattle.fsfs_noderev.specs.declared.node_rev.NodeRev.{NodeRev}
use Rattle.fsfs_revision.specs.declared.damage.RevOffset.{RevOffset}
use Rattle.fsfs_revision.specs.Told.{Knows}
use Rattle.fsfs_revision.specs.Shows.Reading.{OfId, offset_of}
use Rattle.fsfs_revision.specs.Shows.Chains.{Chain}
use Rattle.fsfs_revision.proofs.Keeping.{keeps_refl, keeps_trans}
use Rattle.fsfs_dag.specs.declared.node.PlacedNode.{PlacedNode}
use Rattle.fsfs_dag.specs.Same.{same_part}
use Rattle.fsfs_dag.specs.Views.{home_of}
use Rattle.fsfs_dag.proofs.IdLemmas.{part_true, part_self}
use Rattle.fsfs_verify.specs.Copies.{first_rev}
use Rattle.fsfs_verify.proofs.ChainLemmas.{IsChainLeft, chain_rank, chain_falls, left_up_to, chain_begins, chain_goes_on, part_found, part_here, chain_stops, chain_ended}
use Rattle.fsfs_verify.proofs.Findings.{wrong_as}
use Rattle.fsfs_verify.proofs.copies.has_part.Goals as goal

other_part : (a b : Part) → same_part a b ≡ false → a ≢ b
other_part a b differ same = let yes = subst (λ (x : Part). same_part a x ≡ true) same (part_self a) in let e : true ≡ false = sym yes ∙ differ in cc

pub returns-then-has_copy_part-clause-told : goal.returns-then-has_copy_part-clause-told
returns-then-has_copy_part-clause-told g c = λ look knows.
    let v = c.args.node.now.node in
    part_here look c.args.part.now v (part_true v.id.copy c.args.part.now (sym c.has_copy_part.ensures ∙ c.if-has_copy_part.true))

pub back-init : goal.back-init
back-init g c =
    let v = c.args.node.now.node in
    let part = c.args.part.now in
    let least = c.first_rev-least.ensures in
    let some = rw least at c.pred_from-left.ensures.some in
    let only = rw least at c.pred_from-left.ensures.only in
    record {
      kept = keeps_refl _;
      later = omega arith;
      up_to = left_up_to v c.first_rev-least.result (home_of v).rev c.pred_from-left.result c.args.node.now.ordered (omega arith) c.pred_from-left.ensures.some;
      told = λ look knows. chain_begins look part v c.pred_from-left.result some only (other_part v.id.copy part (sym c.has_copy_part.ensures ∙ c.if-has_copy_part.false));
    }

pub returns-in_err-before-clause-told : goal.returns-in_err-before-clause-told
returns-in_err-before-clause-told g c = λ look knows.
    let p = err_from_is_err_and c.from_residual.result c.from_residual.ensures.1 in
    let inv = c.back.invariant in
    let v = c.args.node.now.node in
    let left = rw c.in-Some.is at (inv.told look knows) in
    let up = rw c.in-Some.is at inv.up_to in
    rw (p.1, p.2) (wrong_as (λ (found : PlacedNode). found.node) (OfId look c.in-Some.id) (λ w. Chain look v (Err w)) c.in_err-before.field-0.0 (chain_stops look c.args.part.now v c.in-Some.id left)
    (c.in_err-before.ensures.told look (λ r lower. inv.kept.revs r (look r) (knows r (omega (arith, lower, up))))))

pub returns-then-has_copy_part-2-clause-told : goal.returns-then-has_copy_part-2-clause-told
returns-then-has_copy_part-2-clause-told g c = λ look knows.
    let inv = c.back.invariant in
    let v = c.args.node.now.node in
    let part = c.args.part.now in
    let u = c.in_ok-before.before.node in
    let left = rw c.in-Some.is at (inv.told look knows) in
    let up = rw c.in-Some.is at inv.up_to in
    let of = c.in_ok-before.ensures.told look (λ r lower. inv.kept.revs r (look r) (knows r (omega (arith, lower, up)))) in
    part_found look part v c.in-Some.id left u of (part_true u.id.copy part (sym c.has_copy_part-in-Some.ensures ∙ c.if-has_copy_part-2.true))

pub back-smaller-else-has_copy_part-2 : goal.back-smaller-else-has_copy_part-2
back-smaller-else-has_copy_part-2 g c =
    let before = c.in_ok-before.before in
    let fits : (home_of before.node).offset < 2 ^ 64 = subst (λ (at : RevOffset). at.offset < 2 ^ 64) c.place-home.ensures (search rules) in
    subst (λ (o : Option NodeId). chain_rank c.pred_from-left-in-Some.result < chain_rank o) (sym c.in-Some.is)
    (chain_falls before.node c.in-Some.id c.first_rev-least.result c.pred_from-left-in-Some.result before.ordered c.in_ok-before.ensures.id fits c.pred_from-left-in-Some.ensures.some)

pub back-preserved-else-has_copy_part-2 : goal.back-preserved-else-has_copy_part-2
back-preserved-else-has_copy_part-2 g c =
    let inv = c.back.invariant in
    let v = c.args.node.now.node in
    let part = c.args.part.now in
    let before = c.in_ok-before.before in
    let least = c.first_rev-least.ensures in
    let some = rw least at c.pred_from-left-in-Some.ensures.some in
    let only = rw least at c.pred_from-left-in-Some.ensures.only in
    let up = rw c.in-Some.is at inv.up_to in
    let same : (home_of before.node).rev ≡ (offset_of c.in-Some.id.place).rev = ap (λ (id : NodeId). (offset_of id.place).rev) c.in_ok-before.ensures.id in
    record {
      kept = keeps_trans _ _ _ inv.kept c.in_ok-before.ensures.kept;
      later = omega (arith, inv.later, c.in_ok-before.ensures.cause.later);
      up_to = left_up_to before.node c.first_rev-least.result (home_of v).rev c.pred_from-left-in-Some.result before.ordered (omega (arith, up, same)) c.pred_from-left-in-Some.ensures.some;
      told = λ look knows. (
          let left = rw c.in-Some.is at (inv.told look knows) in
          let of = c.in_ok-before.ensures.told look (λ r lower. inv.kept.revs r (look r) (knows r (omega (arith, lower, up)))) in
          chain_goes_on look part before.node c.pred_from-left-in-Some.result some only v c.in-Some.id left of (other_part before.node.id.copy part (sym c.has_copy_part-in-Some.ensures ∙ c.if-has_copy_part-2.false)));
    }

pub back-preserved : goal.back-preserved
back-preserved g c =
    let inv = c.back.invariant in
    let v = c.args.node.now.node in
    let part = c.args.part.now in
    let before = c.in_ok-before.before in
    let least = c.first_rev-least.ensures in
    let some = rw least at c.pred_from-left-in-Some.ensures.some in
    let only = rw least at c.pred_from-left-in-Some.ensures.only in
    let up = rw c.in-Some.is at inv.up_to in
    let same : (home_of before.node).rev ≡ (offset_of c.in-Some.id.place).rev = ap (λ (id : NodeId). (offset_of id.place).rev) c.in_ok-before.ensures.id in
    record {
      kept = keeps_trans _ _ _ inv.kept c.in_ok-before.ensures.kept;
      later = omega (arith, inv.later, c.in_ok-before.ensures.cause.later);
      up_to = left_up_to before.node c.first_rev-least.result (home_of v).rev c.pred_from-left-in-Some.result before.ordered (omega (arith, up, same)) c.pred_from-left-in-Some.ensures.some;
      told = λ look knows. (
          let left = rw c.in-Some.is at (inv.told look knows) in
          let of = c.in_ok-before.ensures.told look (λ r lower. inv.kept.revs r (look r) (knows r (omega (arith, lower, up)))) in
          chain_goes_on look part before.node c.pred_from-left-in-Some.result some only v c.in-Some.id left of (other_part before.node.id.copy part (sym c.has_copy_part-in-Some.ensures ∙ c.if-has_copy_part-2.false)));
    }

pub returns-clause-told : goal.returns-clause-told
returns-clause-told g c = λ look knows. chain_ended look c.args.part.now c.args.node.now.node c.back.left (c.back.invariant.told look knows) c.in_default.is
