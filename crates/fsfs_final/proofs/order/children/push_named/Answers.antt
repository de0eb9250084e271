use Rattle.std.proofs.Common.{rules}
use Rattle.std.specs.String.{string_bytes}
use Rattle.std.proofs.lemmas.List.{nil_from_length}
use Rattle.std.proofs.lemmas.Map.Text.{btree_map_updates_text}
use Rattle.std.proofs.lemmas.Result.{err_from_is_err_and}
use Rattle.fsfs_final.specs.Order.Orders.{last_first}
use Rattle.fsfs_final.specs.Order.Children.{ids_in}
use Rattle.fsfs_final.proofs.Pushing.{nothing_pushed, one_more, all_pushed, lacking_as}
use Rattle.fsfs_merge.proofs.ListLemmas.{empty_map}
use Rattle.fsfs_final.proofs.order.children.push_named.Goals as goal

pub loop-name-init : goal.loop-name-init
loop-name-init g c = nothing_pushed (g.N.Own.folder c.args.own.now).nodes (ids_in c.args.ids) (last_first c.args.next.now.items)

pub loop-name-preserved : goal.loop-name-preserved
loop-name-preserved g c =
    let x = string_bytes c.in-Some._name in
    one_more (g.N.Own.folder c.args.own.now).nodes (ids_in c.args.ids) (ids_in c.loop-name.left) (ids_in c.pop_first.new.self) (last_first c.args.next.now.items) (last_first c.loop-name.next.items) x c.in-Some.id
    c.in-Some.ensures.value (λ y. btree_map_updates_text x c.loop-name.left c.pop_first.new.self _ c.in-Some.ensures.updates y) c.loop-name.invariant
    (last_first c.push_own.new.next.items) c.in_ok-push_own.ensures.lasting c.in_ok-push_own.ensures.own

pub returns-in_err-push_own-clause-lacking : goal.returns-in_err-push_own-clause-lacking
returns-in_err-push_own-clause-lacking g c =
    let r = err_from_is_err_and c.from_residual.result c.from_residual.ensures.1 in
    let x = string_bytes c.in-Some._name in
    rw (r.1, r.2) (lacking_as c.in_err-push_own.field-0.0 _ _ (λ w. (x, c.in-Some.id, c.loop-name.invariant.rest x c.in-Some.id c.in-Some.ensures.value, w.0, w.1)) c.in_err-push_own.ensures.lacking)

pub returns-clause-pushed : goal.returns-clause-pushed
returns-clause-pushed g c =
    all_pushed (g.N.Own.folder c.args.own.now).nodes (ids_in c.args.ids) (ids_in c.loop-name.left) (last_first c.args.next.now.items) (last_first c.loop-name.next.items)
    (λ name. empty_map c.loop-name.left name (nil_from_length c.loop-name.left.entries (search rules))) c.loop-name.invariant
