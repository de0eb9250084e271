use Rattle.std.proofs.Common.{◌≡◌, ◌∙◌, [], List, refl, sym, ap, subst, rules, inl, inr}
use Rattle.std.specs.BTreeMap.{is_at}
use Rattle.std.specs.Map.{lookup}
use Rattle.std.specs.Borrow.{Bor}
use Rattle.std.proofs.lemmas.List.{nil_from_length}
use Rattle.std.proofs.lemmas.Result.{err_from_is_err_and}
use Rattle.fsfs_base.specs.Paths.{path_cmp}
use Rattle.fsfs_draft.specs.Drafts.{Kept}
use Rattle.fsfs_draft.specs.declared.txn_noderevs.KeptNode.{KeptNode}
use Rattle.fsfs_noderev.specs.Limits.{IsNodePast}
use Rattle.fsfs_noderev.proofs.Weaker.{past_more}
use Rattle.fsfs_final.specs.Pieces.Naming.{FinalIds, ids_of}
use Rattle.fsfs_final.specs.Order.Orders.{last_first}
use Rattle.fsfs_final.proofs.OrderLists.{last_pushed}
use Rattle.fsfs_final.specs.Putting.{ArePut, IsOnePast}
use Rattle.fsfs_final.proofs.write_final.put_all.Goals as goal

pub loop-kept-init : goal.loop-kept-init
loop-kept-init c = record {
  past = λ limit h. h;
  put = λ new now h. subst (λ (ids : FinalIds). ArePut c.args.rev c.args.start (last_first c.args.order.items) c.args.out.now.items ids new now)
      (λ i p. ap (λ es. lookup (is_at (path_cmp p)) es) c.new-ids.ensures.empty i) h;
}

pub loop-kept-preserved : goal.loop-kept-preserved
loop-kept-preserved c =
    let popped = ap last_first c.in-Some.ensures.items ∙ last_pushed c.pop.new.self.items c.in-Some.kept in
    record {
      past = λ limit h. c.loop-kept.invariant.past limit (subst (λ (l : List Kept). IsOnePast limit l) (sym popped) (inr h));
      put = λ new now rest.
          c.loop-kept.invariant.put new now
          (subst (λ (l : List Kept). ArePut c.args.rev c.args.start l c.loop-kept.out.items (ids_of c.loop-kept.ids) new now) (sym popped)
          (c.put_next.new.out.items, ids_of c.put_next.new.ids, c.in_ok-put_next.ensures.put, rest));
    }

pub returns-in_err-put_next-clause-past : goal.returns-in_err-put_next-clause-past
returns-in_err-put_next-clause-past c =
    let r = err_from_is_err_and c.from_residual.result c.from_residual.ensures.1 in
    let popped = ap last_first c.in-Some.ensures.items ∙ last_pushed c.pop.new.self.items c.in-Some.kept in
    rw (r.1, r.2) (past_more (λ limit. IsNodePast limit c.in-Some.kept.now.node) (λ limit. IsOnePast limit (last_first c.args.order.items))
    (λ limit h. c.loop-kept.invariant.past limit (subst (λ (l : List Kept). IsOnePast limit l) (sym popped) (inl h))) c.in_err-put_next.field-0.0 c.in_err-put_next.ensures.past)

pub returns-clause-put : goal.returns-clause-put
returns-clause-put c =
    let none : c.loop-kept.left.items ≡ [] = nil_from_length c.loop-kept.left.items (search rules) in
    c.loop-kept.invariant.put c.loop-kept.out.items (ids_of c.loop-kept.ids)
    (subst (λ (l : List (Bor KeptNode)). ArePut c.args.rev c.args.start (last_first l) c.loop-kept.out.items (ids_of c.loop-kept.ids) c.loop-kept.out.items (ids_of c.loop-kept.ids)) (sym none) (refl, λ q. refl))
