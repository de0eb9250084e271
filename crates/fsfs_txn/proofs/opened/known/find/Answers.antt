use Rattle.std.proofs.Common.{◌≡◌, ◌+◌, ℕ, suc, List, ◌∷◌, drop, sym, subst, ◌∙◌, arith, inl, inr, add-one, drop-cons}
use Rattle.std.proofs.lemmas.List.{drop_all}
use Rattle.std.proofs.lemmas.List.Elements.{All-get_or}
use Rattle.fsfs_txn.specs.declared.opened.known.Known.{Known}
use Rattle.fsfs_txn.specs.Opened.Knowing.{IsKnownUpTo}
use Rattle.fsfs_txn.specs.Opened.Leading.{IsAmong}
use Rattle.fsfs_dag.proofs.IdLemmas.{id_true, id_false}
use Rattle.fsfs_txn.proofs.opened.known.find.Goals as goal

pub loop-one-init : goal.loop-one-init
loop-one-init c = λ h. h

pub loop-one-preserved : goal.loop-one-preserved
loop-one-preserved c = λ h. by (subst (λ (ks : List Known). IsAmong c.args.id.now ks) is (c.loop-one.invariant h))
  where
    is : drop c.loop-one.one-index c.args.known.now ≡ c.one-item.result ∷ drop (c.loop-one.one-index + 1) c.args.known.now
    is = subst (λ (n : ℕ). drop c.loop-one.one-index c.args.known.now ≡ c.one-item.result ∷ drop n c.args.known.now) (sym (add-one c.loop-one.one-index))
        (subst (λ (k : Known). drop c.loop-one.one-index c.args.known.now ≡ k ∷ drop (suc c.loop-one.one-index) c.args.known.now) (sym c.one-item.is) (drop-cons c.args.known.now c.loop-one.one-index c.one-item.result c.loop-one-test.true))

    by : IsAmong c.args.id.now (c.one-item.result ∷ drop (c.loop-one.one-index + 1) c.args.known.now) → IsAmong c.args.id.now (drop (c.loop-one.one-index + 1) c.args.known.now)
    by (inl same) = absurd (id_false c.one-item.result.node.id c.args.id.now (sym c.same_id.ensures ∙ c.if-same_id.false) same)
    by (inr later) = later

pub returns-then-same_id-clause-id : goal.returns-then-same_id-clause-id
returns-then-same_id-clause-id c = id_true _ _ (sym c.same_id.ensures ∙ c.if-same_id.true)

pub returns-then-same_id-clause-known : goal.returns-then-same_id-clause-known
returns-then-same_id-clause-known c = λ look top are.
    subst (λ (k : Known). IsKnownUpTo look top k) (sym c.one-item.is)
    (All-get_or (λ (k : Known). IsKnownUpTo look top k) c.args.known.now c.loop-one.one-index c.one-item.result c.loop-one-test.true are)

pub returns-clause-found : goal.returns-clause-found
returns-clause-found c = λ h. absurd (subst (λ (ks : List Known). IsAmong c.args.id.now ks) (drop_all c.loop-one.one-index c.args.known.now (omega (arith, c.loop-one-test.false))) (c.loop-one.invariant h))
