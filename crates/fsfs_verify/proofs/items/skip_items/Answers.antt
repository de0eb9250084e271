use Rattle.std.proofs.Common.{◌≡◌, ◌≤◌, ◌+◌, ◌++◌, ℕ, List, length, sym, ap, subst, ◌∙◌, arith}
use Rattle.std.proofs.lemmas.List.{length-append}
use Rattle.fsfs_verify.proofs.ItemPlaces.{AreLeft, left_first, one_left, none_left}
use Rattle.fsfs_verify.proofs.items.skip_items.Goals as goal

pub loop-done-init : goal.loop-done-init
loop-done-init c = record { within = omega arith; left = λ items front tail parts are count. left_first items front tail c.args.bytes.now parts are }

pub loop-done-preserved : goal.loop-done-preserved
loop-done-preserved c =
    let inv = c.loop-done.invariant in
    let b = rw c.in-Ok-Some.field-0-is at c.in-Ok-Some.ensures.found in
    record {
      within = omega (arith, inv.within, ap length b.parts, length-append b.front c.in-Ok-Some.behind.now);
      left = λ items front tail parts are count. (
          let o = one_left items tail c.loop-done._done c.loop-done.rest.now (omega (arith, count, c.loop-done-test.true)) (inv.left items front tail parts are count) in
          let is = rw c.in-Ok-Some.field-0-is at (c.in-Ok-Some.ensures.only o.item o.behind o.begins) in
          subst (λ (t : List ℕ). AreLeft items tail (c.loop-done._done + 1) t) (sym is.1) o.next);
    }

pub returns-clause-behind : goal.returns-clause-behind
returns-clause-behind c = λ items front tail parts are count.
    none_left items tail c.loop-done._done c.loop-done.rest.now (omega (arith, count, c.loop-done-test.false)) (c.loop-done.invariant.left items front tail parts are count)
