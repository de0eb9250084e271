-- Ids are known of those paths alone at which something was put.
use Rattle.std.proofs.Common.{◌≡◌, ◌∙◌, ◌⊎◌, inl, inr, ℕ, Bool, true, false, List, [], ◌∷◌, Some, None, refl, sym, ap}
use Rattle.std.specs.Prelude.{if◌then◌else◌}
use Rattle.fsfs_base.specs.Paths.{Path, same_path}
use Rattle.fsfs_base.proofs.PathLemmas.{same_path-is}
use Rattle.fsfs_noderev.specs.declared.node_id.NodeId.{NodeId}
use Rattle.fsfs_draft.specs.Own.{OwnNode, Own}
use Rattle.fsfs_draft.specs.Drafts.{Kept}
use Rattle.fsfs_final.specs.Pieces.Naming.{FinalIds}
use Rattle.fsfs_final.specs.Order.Orders.{path_of, is_in, AreInOrder}
use Rattle.fsfs_final.proofs.OrderLists.{in_front, in_later, in_either, differ}
use Rattle.fsfs_final.specs.Putting.{ArePut}

put_ids : (n start : ℕ) (ks : List Kept) (old : List ℕ) (ids : FinalIds) (new : List ℕ) (now : FinalIds) → ArePut n start ks old ids new now → (p : Path) (id : NodeId) → now p ≡ Some id → (is_in ks p ≡ true) ⊎ (ids p ≡ Some id)
put_ids n start [] old ids new now w p id e = inr (sym (w.1 p) ∙ e)
put_ids n start (k ∷ ks) old ids new now w p id e = elim (put_ids n start ks w.0 w.1 new now w.3 p id e) [
  | inl behind ↦ inl (in_later k ks p behind)
  | inr here ↦ by (same_path (path_of k) p) refl (sym (w.2.noted p) ∙ here)
]
  where
    by : (b : Bool) → same_path (path_of k) p ≡ b → (if b then Some w.2.done.id else ids p) ≡ Some id → (is_in (k ∷ ks) p ≡ true) ⊎ (ids p ≡ Some id)
    by true same f = inl (in_front k ks p (same_path-is (path_of k) p same))
    by false same f = inr f

own_in : (own : Own) (ks : List Kept) → AreInOrder own ks → (p : Path) → is_in ks p ≡ true → (v : OwnNode) × (own p ≡ Some v)
own_in own [] order p e = absurd (differ false e refl)
own_in own (k ∷ ks) order p e = elim (in_either k ks p e) [
  | inl same ↦ (order.0.0, ap own (sym same) ∙ order.0.1)
  | inr behind ↦ own_in own ks order.3 p behind
]

-- so what has an id is the transaction's own
pub own_of_id : (own : Own) (n start : ℕ) (ks : List Kept) (out : List ℕ) (ids : FinalIds) → AreInOrder own ks → ArePut n start ks [] (λ p. None) out ids → (p : Path) (id : NodeId) → ids p ≡ Some id → (v : OwnNode) × (own p ≡ Some v)
own_of_id own n start ks out ids order put p id e = elim (put_ids n start ks [] (λ p. None) out ids put p id e) [
  | inl held ↦ own_in own ks order p held
  | inr none ↦ absurd (let clash : None ≡ Some id = none in cc)
]
