-- Where a landed node comes from.
use Rattle.std.proofs.Common.{◌≡◌, ℕ, Bool, true, false, refl, sym, ap, inl, inr, ◌⊎◌, Option, Some, None}
use Rattle.std.proofs.lemmas.Option.{same_Some, none-some}
use Rattle.std.specs.Prelude.{is_some}
use Rattle.fsfs_tree.specs.Nodes.{Node}
use Rattle.fsfs_model.specs.declared.flat.mark.Effects.{Effects}
use Rattle.fsfs_model.specs.Flat.Landing.{landed_at}
use Rattle.fsfs_model.proofs.TwiceAt.{said}

-- y is the node x but for its numbers
pub record IsSameNode (y x : Node) : Type 0 where
  pub kind : y.kind ≡ x.kind
  pub text : y.text ≡ x.text
  pub properties : y.properties ≡ x.properties
  pub source : y.source ≡ x.source

pub data Origin (n : ℕ) (d : Effects) (a s t : Option Node) (y : Node) : Type 0 where
  -- the head's node, which the transaction held as it was, or which the base and the transaction lack
  Head : (x : Node) → s ≡ Some x → ((is_some a ≡ true) × (d.deleted ≡ false) × (d.rewritten ≡ false)) ⊎ ((is_some a ≡ false) × (is_some t ≡ false)) → IsSameNode y x → Origin n d a s t y
  -- the transaction's, which it held and changed
  Changed : (x : Node) → t ≡ Some x → is_some a ≡ true → d.deleted ≡ false → d.rewritten ≡ true → IsSameNode y x → Origin n d a s t y
  -- the transaction's own
  Own : (x : Node) → t ≡ Some x → ((is_some a ≡ false) ⊎ (d.deleted ≡ true)) → y.added ≡ n → y.props_changed ≡ n → y.last_changed ≡ n → IsSameNode y x → Origin n d a s t y

-- what x is but for its numbers, y is too
renumbered : (y x : Node) (b p l : ℕ) → Some (record x { added = b; props_changed = p; last_changed = l }) ≡ Some y → IsSameNode y x
renumbered y x b p l e = let k = same_Some _ _ e in record { kind = sym (ap (λ v. v.kind) k); text = sym (ap (λ v. v.text) k); properties = sym (ap (λ v. v.properties) k); source = sym (ap (λ v. v.source) k) }

origin_in : (n : ℕ) (c g r w : Bool) (a s t : Option Node) (y : Node) → landed_at n (said c g r w) a s t ≡ Some y → Origin n (said c g r w) a s t y
origin_in n c false false w (Some a) None t y e = absurd (none-some y e)
origin_in n c false false w (Some a) (Some v) None y e = Head v refl (inl (refl, refl, refl)) (renumbered y v _ _ _ e)
origin_in n c false false w (Some a) (Some v) (Some x) y e = Head v refl (inl (refl, refl, refl)) (renumbered y v _ _ _ e)
origin_in n c false true w (Some a) s None y e = absurd (none-some y e)
origin_in n c false true w (Some a) None (Some x) y e = Changed x refl refl refl refl (renumbered y x _ _ _ e)
origin_in n c false true w (Some a) (Some v) (Some x) y e = Changed x refl refl refl refl (renumbered y x _ _ _ e)
origin_in n c true r w (Some a) s None y e = absurd (none-some y e)
origin_in n c true r w (Some a) s (Some x) y e = let k = same_Some _ _ e in Own x refl (inr refl) (sym (ap (λ v. v.added) k)) (sym (ap (λ v. v.props_changed) k)) (sym (ap (λ v. v.last_changed) k)) (renumbered y x _ _ _ e)
origin_in n c g r w None None None y e = absurd (none-some y e)
origin_in n c g r w None (Some v) None y e = Head v refl (inr (refl, refl)) (renumbered y v _ _ _ e)
origin_in n c g r w None s (Some x) y e = let k = same_Some _ _ e in Own x refl (inl refl) (sym (ap (λ v. v.added) k)) (sym (ap (λ v. v.props_changed) k)) (sym (ap (λ v. v.last_changed) k)) (renumbered y x _ _ _ e)

pub origin : (n : ℕ) (d : Effects) (a s t : Option Node) (y : Node) → landed_at n d a s t ≡ Some y → Origin n d a s t y
origin n d = origin_in n d.touched d.deleted d.rewritten d.props_changed
