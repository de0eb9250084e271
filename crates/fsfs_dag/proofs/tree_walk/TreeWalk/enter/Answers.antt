use Rattle.std.proofs.Common.{◌≡◌, suc, ◌<◌, ◌+◌, ◌^◌, length, rules, sym, subst}
use Rattle.std.proofs.lemmas.Result.{err_from_is_err_and, on_ok_weaker}
use Rattle.fsfs_revision.specs.declared.damage.RevOffset.{RevOffset}
use Rattle.fsfs_dag.specs.TreeWalks.{Left, in_order, AreWithin, weight, total}
use Rattle.fsfs_dag.specs.Views.{home_of}
use Rattle.fsfs_dag.proofs.TreeWalkLemmas.{enters_wrong, enters_dir, within_below, total_below}
use Rattle.fsfs_dag.proofs.tree_walk.TreeWalk.enter.Goals as goal

pub returns-in_err-below-clause-told : goal.returns-in_err-below-clause-told
returns-in_err-below-clause-told g c = λ look knows.
    let p = err_from_is_err_and c.from_residual.result c.from_residual.ensures.1 in
    rw (p.1, p.2) (enters_wrong look c.args.level c.args.dir.now.node (in_order c.args.self.now.todo.items) c.in_err-below.field-0.0 (c.in_err-below.ensures.told look knows))

pub returns-clause-told : goal.returns-clause-told
returns-clause-told g c = λ look knows.
    let next : c.in-Some.next ≡ suc c.args.level = search rules in
    enters_dir look c.args.level c.in-Some.next c.args.dir.now.node (in_order c.args.self.now.todo.items) (in_order c.put_entries.new.todo.items) next
    c.in_ok-below.below.items (c.in_ok-below.ensures.told look knows) c.put_entries.result c.put_entries.ensures.items c.put_entries.ensures.memory

pub returns-clause-within : goal.returns-clause-within
returns-clause-within g c = λ top le before.
    on_ok_weaker c.put_entries.result
    (λ e. subst (λ (l : Left). AreWithin top l) (sym e) (within_below top c.in-Some.next (home_of c.args.dir.now.node) c.in_ok-below.below.items (in_order c.args.self.now.todo.items) le c.in_ok-below.ensures.before before))
    c.put_entries.ensures.items

pub returns-clause-total : goal.returns-clause-total
returns-clause-total g c =
    let home = home_of c.args.dir.now.node in
    let rest : Left = in_order c.args.self.now.todo.items in
    let short : length c.in_ok-below.below.items < 2 ^ 64 = search rules in
    let place : home.offset < 2 ^ 64 = subst (λ (at : RevOffset). at.offset < 2 ^ 64) c.place-home.ensures (search rules) in
    on_ok_weaker c.put_entries.result
    (λ e. subst (λ (l : Left). total l < total rest + weight home) (sym e) (total_below c.in-Some.next home c.in_ok-below.below.items rest short place c.in_ok-below.ensures.before))
    c.put_entries.ensures.items
