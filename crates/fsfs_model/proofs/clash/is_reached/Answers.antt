use Rattle.std.proofs.Common.{◌∙◌, sym, arith}
use Rattle.std.specs.FinMap as map
use Rattle.fsfs_model.specs.Flat.Marks.{effects_by}
use Rattle.fsfs_model.specs.Flat.Landing.{goes_on}
use Rattle.fsfs_model.proofs.PathSearch.{reached_more, reached_not}
use Rattle.fsfs_model.proofs.clash.is_reached.Goals as goal

pub returns-then-not-goes_on : goal.returns-then-not-goes_on
returns-then-not-goes_on c =
    let e = sym c.in_ok-above.ensures in
    sym (reached_not (λ q. goes_on c.args.b (effects_by c.args.outer.now q) (map.get c.args.base.now q) (map.get c.args.head.now q)) c.loop-count.count c.args.path.now (omega arith)
    ((λ i. goes_on c.args.b (effects_by c.args.outer.now (e i)) (map.get c.args.base.now (e i)) (map.get c.args.head.now (e i)))
    ∙ (λ i. goes_on c.args.b (sym c.effects_at.ensures i) (sym c.get.ensures i) (sym c.get-in-loop-count.ensures i)) ∙ sym c.goes_on.ensures ∙ c.if-not-goes_on.true))

pub loop-count-preserved : goal.loop-count-preserved
loop-count-preserved c =
    let e = sym c.in_ok-above.ensures in
    reached_more (λ q. goes_on c.args.b (effects_by c.args.outer.now q) (map.get c.args.base.now q) (map.get c.args.head.now q)) c.loop-count.count c.args.path.now (omega arith) c.loop-count.invariant
    ((λ i. goes_on c.args.b (effects_by c.args.outer.now (e i)) (map.get c.args.base.now (e i)) (map.get c.args.head.now (e i)))
    ∙ (λ i. goes_on c.args.b (sym c.effects_at.ensures i) (sym c.get.ensures i) (sym c.get-in-loop-count.ensures i)) ∙ sym c.goes_on.ensures ∙ c.if-not-goes_on.false)
