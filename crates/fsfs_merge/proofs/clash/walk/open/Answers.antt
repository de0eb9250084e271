use Rattle.std.proofs.Common.{◌<◌, ◌+◌, ◌^◌, ◌∙◌, ◌++◌, List, length, refl, sym, ap, subst, rules}
use Rattle.fsfs_merge.specs.declared.clash.walk.Pending.{Pending}
use Rattle.fsfs_merge.specs.Clash.Lists.{names_in}
use Rattle.fsfs_merge.specs.declared.clash.three.Which.TheVariants.{Made}
use Rattle.fsfs_merge.specs.Clash.Walks.{changed}
use Rattle.fsfs_merge.specs.Clash.Weights.{total, weight}
use Rattle.fsfs_merge.proofs.WeightLemmas.{total_opened}
use Rattle.fsfs_merge.proofs.clash.walk.open.Goals as goal

pub returns-clause-opened : goal.returns-clause-opened
returns-clause-opened c = record {
  sides = c.in_ok-sides.sides;
  listed = c.in_ok-sides.ensures.listed;
  new_is = c.in_ok-push_changed-2.ensures ∙ ap (λ (l : List Pending). l ++ changed Made c.args.path c.in_ok-sides.sides (names_in c.in_ok-sides.sides.own)) c.in_ok-push_changed.ensures;
  link = refl;
  entries = c.in_ok-entries.ensures;
}

pub returns-clause-total : goal.returns-clause-total
returns-clause-total c = λ before.
    let same = c.in_ok-push_changed-2.ensures ∙ ap (λ (l : List Pending). l ++ changed Made c.args.path c.in_ok-sides.sides (names_in c.in_ok-sides.sides.own)) c.in_ok-push_changed.ensures in
    let short : length c.push_changed-2.new.todo.items < 2 ^ 64 = search rules in
    let place : c.args.lists.home.offset < 2 ^ 64 = search rules in
    subst (λ (l : List Pending). total l < total c.args.todo.now.items + weight c.args.lists.home) (sym same)
    (total_opened c.args.lists.home place c.args.path c.in_ok-sides.sides c.args.todo.now.items (c.in_ok-sides.ensures.before c.args.lists.home before) (subst (λ (l : List Pending). length l < 2 ^ 64) same short))
