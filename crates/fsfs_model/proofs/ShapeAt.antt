-- At one path: where the numbers of a landed node come from.
use Rattle.std.proofs.Common.{◌≡◌, ℕ, suc, ◌≤◌, Bool, true, false, cond, refl, sym, ◌∙◌, ap, subst, Option, Some, None, arith, inl, inr, ◌⊎◌}
use Rattle.std.proofs.lemmas.Option.{same_Some, none-some}
use Rattle.std.specs.Prelude.{is_some}
use mathlib.Core.Bool.{false≢true}
use Rattle.fsfs_tree.specs.Nodes.{Node}
use Rattle.fsfs_model.specs.declared.flat.mark.Effects.{Effects}
use Rattle.fsfs_model.specs.Flat.Landing.{landed_at, numbered_some, chosen}
use Rattle.fsfs_tree.specs.Trees.{IsOrdered}
use Rattle.fsfs_model.proofs.TwiceAt.{said}

-- all three are new, or they come from the head's node
pub data Shape (n : ℕ) (d : Effects) (s : Option Node) (x : Node) : Type 0 where
  Fresh : x.added ≡ n → x.props_changed ≡ n → x.last_changed ≡ n → Shape n d s x
  From : (v : Node) → s ≡ Some v → x.added ≡ v.added → x.props_changed ≡ cond d.props_changed n v.props_changed → x.last_changed ≡ cond d.touched n v.last_changed → Shape n d s x

shape_by : (n : ℕ) (d : Effects) (own : Bool) (s o : Option Node) (x : Node) → numbered_some n d own s o ≡ Some x → Shape n d s x
shape_by n d own s None x e = absurd (none-some x e)
shape_by n d true s (Some y) x e = let k = same_Some _ _ e in Fresh (sym (ap (λ v. v.added) k)) (sym (ap (λ v. v.props_changed) k)) (sym (ap (λ v. v.last_changed) k))
shape_by n d false None (Some y) x e = let k = same_Some _ _ e in Fresh (sym (ap (λ v. v.added) k)) (sym (ap (λ v. v.props_changed) k)) (sym (ap (λ v. v.last_changed) k))
shape_by n d false (Some v) (Some y) x e = let k = same_Some _ _ e in From v refl (sym (ap (λ v. v.added) k)) (sym (ap (λ v. v.props_changed) k)) (sym (ap (λ v. v.last_changed) k))

pub shape : (n : ℕ) (d : Effects) (a s t : Option Node) (x : Node) → landed_at n d a s t ≡ Some x → Shape n d s x
shape n d a s t x e = shape_by n d _ s (chosen d a s t) x e

pub pick : (b : Bool) (n k : ℕ) → ((b ≡ true) × (cond b n k ≡ n)) ⊎ ((b ≡ false) × (cond b n k ≡ k))
pick true n k = inl (refl, refl)
pick false n k = inr (refl, refl)

-- the numbers are in order and at most n
pub numbers : (last : ℕ) (d : Effects) (s : Option Node) (x : Node) → (d.props_changed ≡ true → d.touched ≡ true) → ((v : Node) → s ≡ Some v → IsOrdered v × (v.last_changed ≤ last)) → Shape (suc last) d s x
    → IsOrdered x × (x.last_changed ≤ suc last)
numbers last d s x dt h (Fresh b r c) = (record { added = omega arith; props_changed = omega arith }, omega arith)
numbers last d s x dt h (From v e b r c) =
    let k = h v e in let o = k.0 in let bo = o.added in let dr = o.props_changed in let m = k.1 in
    elim (pick d.props_changed (suc last) v.props_changed) [
      | inl y ↦ elim (pick d.touched (suc last) v.last_changed) [
        | inl z ↦ (record { added = omega (arith, b, r, y.1, bo, dr, m); props_changed = omega (arith, r, y.1, c, z.1) }, omega (arith, c, z.1))
        | inr z ↦ absurd (false≢true (sym z.0 ∙ dt y.0))
      ]
      | inr y ↦ elim (pick d.touched (suc last) v.last_changed) [
        | inl z ↦ (record { added = omega (arith, b, r, y.1, bo); props_changed = omega (arith, r, y.1, c, z.1, dr, m) }, omega (arith, c, z.1))
        | inr z ↦ (record { added = omega (arith, b, r, y.1, bo); props_changed = omega (arith, r, y.1, c, z.1, dr) }, omega (arith, c, z.1, m))
      ]
    ]

-- what the transaction touched has last_changed n
pub since_touched : (n : ℕ) (d : Effects) (s : Option Node) (x : Node) → d.touched ≡ true → Shape n d s x → x.last_changed ≡ n
since_touched n d s x u (Fresh b r c) = c
since_touched n d s x u (From v e b r c) = c ∙ ap (λ k. cond k n v.last_changed) u

-- a node of the transaction's own that the base lacks, or that stands where the base's is gone, is fresh
fresh_in : (n : ℕ) (c g r w : Bool) (a s t : Option Node) (x : Node) → landed_at n (said c g r w) a s t ≡ Some x → is_some t ≡ true → ((is_some a ≡ false) ⊎ (g ≡ true)) → (x.added ≡ n) × (x.last_changed ≡ n)
fresh_in n c g r w a s None x e h k = absurd (false≢true h)
fresh_in n c g r w None s (Some t) x e h k = let q = same_Some _ _ e in (sym (ap (λ v. v.added) q), sym (ap (λ v. v.last_changed) q))
fresh_in n c true r w (Some a) s (Some t) x e h k = let q = same_Some _ _ e in (sym (ap (λ v. v.added) q), sym (ap (λ v. v.last_changed) q))
fresh_in n c false r w (Some a) s (Some t) x e h (inl m) = absurd (false≢true (sym m))
fresh_in n c false r w (Some a) s (Some t) x e h (inr m) = absurd (false≢true m)

pub fresh : (n : ℕ) (d : Effects) (a s t : Option Node) (x : Node) → landed_at n d a s t ≡ Some x → is_some t ≡ true → ((is_some a ≡ false) ⊎ (d.deleted ≡ true)) → (x.added ≡ n) × (x.last_changed ≡ n)
fresh n d = fresh_in n d.touched d.deleted d.rewritten d.props_changed

-- what was not touched and has an older last_changed is the head's node
same_in : (n : ℕ) (g r w : Bool) (a s t : Option Node) (x : Node) → landed_at n (said false g r w) a s t ≡ Some x → r ≡ false → w ≡ false → (x.last_changed ≡ n → ⊥) → s ≡ Some x
same_in n g true w a s t x e hr hw old = absurd (false≢true (sym hr))
same_in n g false true a s t x e hr hw old = absurd (false≢true (sym hw))
same_in n g false false a None None x e hr hw old = absurd (nothing_comes g a e)
  where
    nothing_comes : (g : Bool) (a : Option Node) → landed_at n (said false g false false) a None None ≡ Some x → ⊥
    nothing_comes true None e = none-some x e
    nothing_comes true (Some a) e = none-some x e
    nothing_comes false None e = none-some x e
    nothing_comes false (Some a) e = none-some x e
same_in n true false false None (Some v) None x e hr hw old = e
same_in n true false false (Some a) (Some v) None x e hr hw old = absurd (none-some x e)
same_in n false false false None (Some v) None x e hr hw old = e
same_in n false false false (Some a) (Some v) None x e hr hw old = e
same_in n true false false a s (Some t) x e hr hw old = absurd (old (fresh_in n false true false false a s (Some t) x e refl (inr refl)).1)
same_in n false false false None s (Some t) x e hr hw old = absurd (old (fresh_in n false false false false None s (Some t) x e refl (inl refl)).1)
same_in n false false false (Some a) (Some v) (Some t) x e hr hw old = e
same_in n false false false (Some a) None (Some t) x e hr hw old = absurd (none-some x e)

pub same_head : (n : ℕ) (d : Effects) (a s t : Option Node) (x : Node) → landed_at n d a s t ≡ Some x → d.touched ≡ false → d.rewritten ≡ false → d.props_changed ≡ false → (x.last_changed ≡ n → ⊥) → s ≡ Some x
same_head n d a s t x e hc hr hw old = same_in n d.deleted d.rewritten d.props_changed a s t x (subst (λ k. landed_at n (said k d.deleted d.rewritten d.props_changed) a s t ≡ Some x) hc e) hr hw old

-- where nothing is gone and the transaction brings nothing of its own, birth and last_changed are the head's
held_in : (n : ℕ) (c g r w : Bool) (a : Option Node) (v : Node) (t : Option Node) (x : Node) → landed_at n (said c g r w) a (Some v) t ≡ Some x → g ≡ false → ((is_some a ≡ true) ⊎ (is_some t ≡ false))
    → (x.added ≡ v.added) × (x.last_changed ≡ cond c n v.last_changed)
held_in n c true r w a v t x e hg h = absurd (false≢true (sym hg))
held_in n c false true w (Some a) v None x e hg h = absurd (none-some x e)
held_in n c false true w (Some a) v (Some t) x e hg h = let q = same_Some _ _ e in (sym (ap (λ k. k.added) q), sym (ap (λ k. k.last_changed) q))
held_in n c false false w (Some a) v None x e hg h = let q = same_Some _ _ e in (sym (ap (λ k. k.added) q), sym (ap (λ k. k.last_changed) q))
held_in n c false false w (Some a) v (Some t) x e hg h = let q = same_Some _ _ e in (sym (ap (λ k. k.added) q), sym (ap (λ k. k.last_changed) q))
held_in n c false r w None v None x e hg h = let q = same_Some _ _ e in (sym (ap (λ k. k.added) q), sym (ap (λ k. k.last_changed) q))
held_in n c false r w None v (Some t) x e hg (inl h) = absurd (false≢true h)
held_in n c false r w None v (Some t) x e hg (inr h) = absurd (false≢true (sym h))

pub held : (n : ℕ) (d : Effects) (a s t : Option Node) (v x : Node) → s ≡ Some v → landed_at n d a s t ≡ Some x → d.deleted ≡ false → ((is_some a ≡ true) ⊎ (is_some t ≡ false))
    → (x.added ≡ v.added) × (x.last_changed ≡ cond d.touched n v.last_changed)
held n d a s t v x k e = held_in n d.touched d.deleted d.rewritten d.props_changed a v t x (subst (λ o. landed_at n d a o t ≡ Some x) k e)
