use Rattle.std.proofs.Common.{◌≡◌, ◌∙◌, ◌++◌, sym, ap, drop, length, true, cond, arith}
use Rattle.std.specs.Ordering.{eq_by_cmp}
use Rattle.std.specs.BTreeSet as set
use Rattle.std.specs.Map.Iter.{deref}
use Rattle.std.proofs.lemmas.Map.Iter.{rest_more}
use Rattle.fsfs_base.specs.Paths.{Path, path_cmp}
use Rattle.fsfs_model.specs.Flat.Edits.{rest_after}
use Rattle.fsfs_base.proofs.PathLemmas.{covers-length}
use Rattle.fsfs_model.proofs.Copying.{put_there, added_or_left, skipped}
use Rattle.fsfs_model.proofs.apply.add_copied.Goals as goal

pub moved-requires : goal.moved-requires
moved-requires c = omega (arith, c.depth.ensures, covers-length c.args.from.now c.in-Some-source.source.now (sym c.covers.ensures ∙ c.if-covers.true))

pub loop-source-preserved-in_ok-insert : goal.loop-source-preserved-in_ok-insert
loop-source-preserved-in_ok-insert c =
    let left = rest_more deref c.loop-source.source-iterator c.next.new.self c.next.result c.in-Some-source.source c.in-Some-source.is c.next.ensures.steps in
    let now : (q : Path) → set.contains path_cmp c.insert.new.self q ≡ cond (eq_by_cmp path_cmp c.in_ok-moved.field-0 q) true (set.contains path_cmp c.loop-source.all q) = c.in_ok-insert.ensures.updates.0 in
    let here : c.in_ok-moved.field-0 ≡ c.args.to.now ++ drop (length c.args.from.now) c.in-Some-source.source.now = c.in_ok-moved.ensures ∙ ap (λ k. c.args.to.now ++ drop k c.in-Some-source.source.now) c.depth.ensures in
    record {
      keeps = λ q h. put_there _ _ _ (now q) (c.loop-source.invariant.keeps q h);
      adds = λ q h there. added_or_left c.args.from.now c.args.to.now q c.in-Some-source.source.now c.in_ok-moved.field-0 c.loop-source.source-iterator c.next.new.self _ _ left h here (now q) (c.loop-source.invariant.adds q h there);
    }

pub loop-source-preserved : goal.loop-source-preserved
loop-source-preserved c =
    let left = rest_more deref c.loop-source.source-iterator c.next.new.self c.next.result c.in-Some-source.source c.in-Some-source.is c.next.ensures.steps in
    record {
      keeps = c.loop-source.invariant.keeps;
      adds = λ q h there. skipped c.args.from.now q (rest_after c.args.to.now q) c.in-Some-source.source.now c.loop-source.source-iterator c.next.new.self _ left (sym c.covers.ensures ∙ c.if-covers.false) (c.loop-source.invariant.adds q h there);
    }
