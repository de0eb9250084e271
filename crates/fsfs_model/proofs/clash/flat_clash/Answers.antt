use Rattle.std.proofs.Common.{◌∙◌, sym, ap, subst, Bool, ◌&&◌, List}
use Rattle.std.specs.FinMap as map
use Rattle.std.specs.Map.Iter.{deref}
use Rattle.std.proofs.lemmas.Map.Iter.{rest_more}
use Rattle.fsfs_model.specs.declared.flat.mark.Mark.{Mark}
use Rattle.fsfs_base.specs.Paths.{Path}
use Rattle.fsfs_model.specs.Flat.Marks.{effects_by}
use Rattle.fsfs_model.specs.Flat.Landing.{goes_on, clashes_at, reached, is_clash, IsFirstClash}
use Rattle.fsfs_model.proofs.PathSearch.{searched, fails_before, still_rising}
use Rattle.fsfs_model.proofs.clash.flat_clash.Goals as goal

pub returns-then-branch : goal.returns-then-branch
returns-then-branch c =
    let test : Path → Bool = is_clash c.args.b (map.get c.args.base.now) (map.get c.args.head.now) (map.get c.args.own.now) c.args.marks.now in
    let by : List Mark → Bool = λ o. reached (λ q. goes_on c.args.b (effects_by o q) (map.get c.args.base.now q) (map.get c.args.head.now q)) c.in-Some.path.now
    && clashes_at c.args.b (effects_by o c.in-Some.path.now) (map.get c.args.base.now c.in-Some.path.now) (map.get c.args.head.now c.in-Some.path.now) (map.get c.args.own.now c.in-Some.path.now) in
    let left = rest_more deref c.loop-path.path-iterator c.next.new.self c.next.result c.in-Some.path c.in-Some.is c.next.ensures.steps in
    subst (IsFirstClash c.args.b (map.get c.args.base.now) (map.get c.args.head.now) (map.get c.args.own.now) c.args.marks.now) (sym c.in_ok-clone.ensures.cases) (record {
      clashes = sym (c.in_ok-is_clash.ensures ∙ ap by (c.deref.ensures.value ∙ c.in_ok-outer.ensures)) ∙ c.if-branch.true;
      least = fails_before test c.in-Some.path.now c.next.new.self c.loop-path.path-iterator left c.loop-path.invariant.rising c.loop-path.invariant.done;
    })

pub loop-path-preserved : goal.loop-path-preserved
loop-path-preserved c =
    let test : Path → Bool = is_clash c.args.b (map.get c.args.base.now) (map.get c.args.head.now) (map.get c.args.own.now) c.args.marks.now in
    let by : List Mark → Bool = λ o. reached (λ q. goes_on c.args.b (effects_by o q) (map.get c.args.base.now q) (map.get c.args.head.now q)) c.in-Some.path.now
    && clashes_at c.args.b (effects_by o c.in-Some.path.now) (map.get c.args.base.now c.in-Some.path.now) (map.get c.args.head.now c.in-Some.path.now) (map.get c.args.own.now c.in-Some.path.now) in
    let left = rest_more deref c.loop-path.path-iterator c.next.new.self c.next.result c.in-Some.path c.in-Some.is c.next.ensures.steps in
    record {
      done = searched test c.in-Some.path.now c.next.new.self c.loop-path.path-iterator left
          (sym (c.in_ok-is_clash.ensures ∙ ap by (c.deref.ensures.value ∙ c.in_ok-outer.ensures)) ∙ c.if-branch.false) c.loop-path.invariant.done;
      rising = still_rising c.in-Some.path.now c.next.new.self c.loop-path.path-iterator left c.loop-path.invariant.rising;
    }
