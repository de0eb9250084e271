use Rattle.std.proofs.Common.{◌≡◌, ◌∙◌, [], ◌∷◌, List, sym, ap, subst, rules}
use Rattle.std.proofs.lemmas.List.{nil_from_length}
use Rattle.std.proofs.lemmas.Result.{err_from_is_err_and}
use Rattle.std.specs.Borrow.{Bor}
use Rattle.fsfs_draft.specs.Drafts.{Kept}
use Rattle.fsfs_base.specs.declared.fields.txn_name.TxnName.{TxnName}
use Rattle.fsfs_draft.specs.declared.txn_noderevs.KeptNode.{KeptNode}
use Rattle.fsfs_draft.specs.Views.{kept_value}
use Rattle.fsfs_draft.specs.Walks.{IsRootId}
use Rattle.fsfs_final.specs.Order.Orders.{last_first, AreHeld}
use Rattle.fsfs_final.specs.Order.Children.{id_named}
use Rattle.fsfs_final.proofs.OrderLists.{last_pushed}
use Rattle.fsfs_final.proofs.Pushing.{pushed_held, only_memory}
use Rattle.fsfs_final.proofs.Walking.{IsWalking, root_there, begins, never, walks_on, ends}
use Rattle.fsfs_final.proofs.order.nodes.own_nodes.Goals as goal

pub loop-init : goal.loop-init
loop-init g c =
    let f = g.N.Own.folder c.args.own.now in
    let next_is : last_first c.push.new.list.items ≡ kept_value c.in-Some.first.now ∷ [] = c.in_ok-push.ensures ∙ ap (λ (l : List (Bor KeptNode)). kept_value c.in-Some.first.now ∷ last_first l) c.new-next.ensures.items in
    let is_root : IsRootId (g.N.Own.txn c.args.own.now) c.root_id-root.result = subst (λ (t : TxnName). IsRootId t c.root_id-root.result) c.name.ensures c.root_id-root.ensures in
    record {
      found = subst (λ (l : List (Bor KeptNode)). AreHeld f.nodes (last_first l)) (sym c.new-found.ensures.items) tt;
      next = subst (λ (l : List Kept). AreHeld f.nodes l) (sym next_is) ((c.root_id-root.result, sym c.in-Some.ensures), tt);
      walking = λ look trees top base nodes shown le draft.
          subst (λ (l : List (Bor KeptNode)). IsWalking nodes (last_first l) (last_first c.push.new.list.items)) (sym c.new-found.ensures.items)
          (subst (λ (l : List Kept). IsWalking nodes [] l) (sym next_is) (begins look top base trees shown le (g.N.Own.txn c.args.own.now) f nodes draft c.root_id-root.result (kept_value c.in-Some.first.now) is_root (sym c.in-Some.ensures)));
    }

pub loop-preserved : goal.loop-preserved
loop-preserved g c =
    let f = g.N.Own.folder c.args.own.now in
    let k : Kept = kept_value c.in-Some-pop.kept.now in
    let rest : List Kept = last_first c.pop.new.self.items in
    let popped : last_first c.loop.next.items ≡ k ∷ rest = ap last_first c.in-Some-pop.ensures.items ∙ last_pushed c.pop.new.self.items c.in-Some-pop.kept in
    let held : AreHeld f.nodes (k ∷ rest) = subst (λ (l : List Kept). AreHeld f.nodes l) popped c.loop.invariant.next in
    record {
      found = subst (λ (l : List Kept). AreHeld f.nodes l) (sym c.in_ok-step.ensures.found) (held.0, c.loop.invariant.found);
      next = pushed_held f.nodes (id_named k.entries) rest (last_first c.step.new.next.items) c.in_ok-step.ensures.pushed held.1;
      walking = λ look trees top base nodes shown le draft.
          subst (λ (l : List Kept). IsWalking nodes l (last_first c.step.new.next.items)) (sym c.in_ok-step.ensures.found)
          (walks_on look top base trees shown le (g.N.Own.txn c.args.own.now) f nodes draft (last_first c.loop.found.items) rest (last_first c.step.new.next.items) k
          (subst (λ (l : List Kept). IsWalking nodes (last_first c.loop.found.items) l) popped (c.loop.invariant.walking look trees top base nodes shown le draft)) c.in_ok-step.ensures.pushed);
    }

pub returns-in_default-pop-clause-draft : goal.returns-in_default-pop-clause-draft
returns-in_default-pop-clause-draft g c = λ look trees top base nodes shown le draft.
    let none : c.loop.next.items ≡ [] = nil_from_length c.loop.next.items (search rules) in
    ends look top base trees shown le (g.N.Own.txn c.args.own.now) (g.N.Own.folder c.args.own.now) nodes draft (last_first c.loop.found.items)
    (subst (λ (l : List (Bor KeptNode)). IsWalking nodes (last_first c.loop.found.items) (last_first l)) none (c.loop.invariant.walking look trees top base nodes shown le draft))

pub returns-in_err-step-clause-whole : goal.returns-in_err-step-clause-whole
returns-in_err-step-clause-whole g c = λ look trees top base nodes shown le draft.
    let r = err_from_is_err_and c.from_residual-in_err-step.result c.from_residual-in_err-step.ensures.1 in
    let f = g.N.Own.folder c.args.own.now in
    let k : Kept = kept_value c.in-Some-pop.kept.now in
    let rest : List Kept = last_first c.pop.new.self.items in
    let popped : last_first c.loop.next.items ≡ k ∷ rest = ap last_first c.in-Some-pop.ensures.items ∙ last_pushed c.pop.new.self.items c.in-Some-pop.kept in
    rw (r.1, r.2) (only_memory c.in_err-step.field-0.0 _ c.in_err-step.ensures.lacking
    (never look top base trees shown le (g.N.Own.txn c.args.own.now) f nodes draft (last_first c.loop.found.items) rest rest k
    (subst (λ (l : List Kept). IsWalking nodes (last_first c.loop.found.items) l) popped (c.loop.invariant.walking look trees top base nodes shown le draft))))

pub returns-in_default-clause-whole : goal.returns-in_default-clause-whole
returns-in_default-clause-whole g c = λ look trees top base nodes shown le draft.
    let is_root : IsRootId (g.N.Own.txn c.args.own.now) c.root_id-root.result = subst (λ (t : TxnName). IsRootId t c.root_id-root.result) c.name.ensures c.root_id-root.ensures in
    absurd (root_there look top base trees shown le (g.N.Own.txn c.args.own.now) (g.N.Own.folder c.args.own.now) nodes draft c.root_id-root.result is_root (sym c.in_default.ensures))
