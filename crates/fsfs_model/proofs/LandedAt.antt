-- At one path: what a landing leaves.
use Rattle.std.proofs.Common.{◌≡◌, ℕ, Bool, true, false, ◌||◌, refl, sym, ◌∙◌, ap, Option, Some, None, inl, inr, ◌⊎◌}
use Rattle.std.proofs.lemmas.Bool.{both_ways}
use Rattle.std.specs.Prelude.{is_some}
use mathlib.Core.Bool.{false≢true}
use Rattle.fsfs_tree.specs.Nodes.{Node}
use Rattle.fsfs_model.specs.declared.flat.mark.Effects.{Effects}
use Rattle.fsfs_model.specs.Flat.Landing.{landed_at}
use Rattle.fsfs_model.proofs.Tests.{other_side}
use Rattle.fsfs_model.proofs.TwiceAt.{Region, Same, Quiet, New, Common, no_base, no_head, said}

-- what the transaction has and the base lacks, the head lacks too, or the base's is gone
pub lacks : (d : Effects) (a s t : Option Node) → Region d a s t → is_some a ≡ false → is_some t ≡ true → (is_some s ≡ false) ⊎ (d.deleted ≡ true)
lacks d a s t (Same e) n h = inl (ap is_some e ∙ n)
lacks d a s t (Quiet u g r q) n h = absurd (both_ways _ (q n) h)
lacks d a s t (New m g r b) n h = inl (other_side _ _ b h)
lacks d a s t (Common m b g) n h = absurd (both_ways _ n m)

-- what the transaction touched in the base is in the head
pub in_head : (d : Effects) (a s t : Option Node) → Region d a s t → d.touched ≡ true → is_some a ≡ true → is_some s ≡ true
in_head d a s t (Same e) u h = ap is_some e ∙ h
in_head d a s t (Quiet f g r q) u h = absurd (both_ways _ f u)
in_head d a s t (New m g r b) u h = absurd (both_ways _ m h)
in_head d a s t (Common m b g) u h = b

module _ (m : ℕ) where
  -- what came though the head lacks it
  has_in : (c g r w : Bool) (a s t : Option Node) → Region (said c g r w) a s t → is_some s ≡ false → is_some (landed_at m (said c g r w) a s t) ≡ true → (is_some a ≡ false) × (is_some t ≡ true)
  has_in c g r w a (Some s) t is n h = absurd (false≢true (sym n))
  has_in c true r w (Some a) None t is n h = absurd (no_head refl is)
  has_in c false true w (Some a) None t is n h = absurd (no_head refl is)
  has_in c false false w (Some a) None t is n h = absurd (false≢true h)
  has_in c g r w None None None is n h = absurd (false≢true h)
  has_in c g r w None None (Some t) is n h = (refl, refl)

  pub has : (d : Effects) (a s t : Option Node) → Region d a s t → is_some s ≡ false → is_some (landed_at m d a s t) ≡ true → (is_some a ≡ false) × (is_some t ≡ true)
  has d = has_in d.touched d.deleted d.rewritten d.props_changed

  -- what did not come though the head has it
  missing_in : (c g r w : Bool) (a s t : Option Node) → is_some s ≡ true → is_some (landed_at m (said c g r w) a s t) ≡ false → (g ≡ true) ⊎ ((is_some a ≡ true) × (is_some t ≡ false))
  missing_in c true r w a s t h n = inl refl
  missing_in c false r w a None t h n = absurd (false≢true h)
  missing_in c false true w (Some a) (Some s) None h n = inr (refl, refl)
  missing_in c false true w (Some a) (Some s) (Some t) h n = absurd (false≢true (sym n))
  missing_in c false false w (Some a) (Some s) t h n = absurd (false≢true (sym n))
  missing_in c false r w None (Some s) None h n = absurd (false≢true (sym n))
  missing_in c false r w None (Some s) (Some t) h n = absurd (false≢true (sym n))

  pub missing : (d : Effects) (a s t : Option Node) → is_some s ≡ true → is_some (landed_at m d a s t) ≡ false → (d.deleted ≡ true) ⊎ ((is_some a ≡ true) × (is_some t ≡ false))
  missing d = missing_in d.touched d.deleted d.rewritten d.props_changed

  -- what the transaction made comes
  comes_in : (c g r w : Bool) (a s t : Option Node) → is_some t ≡ true → ((is_some a ≡ false) ⊎ (g ≡ true)) → is_some (landed_at m (said c g r w) a s t) ≡ true
  comes_in c g r w a s None h k = absurd (false≢true h)
  comes_in c g r w None s (Some t) h k = refl
  comes_in c true r w (Some a) s (Some t) h k = refl
  comes_in c false r w (Some a) s (Some t) h (inl n) = absurd (false≢true (sym n))
  comes_in c false r w (Some a) s (Some t) h (inr n) = absurd (false≢true n)

  pub comes : (d : Effects) (a s t : Option Node) → is_some t ≡ true → ((is_some a ≡ false) ⊎ (d.deleted ≡ true)) → is_some (landed_at m d a s t) ≡ true
  comes d = comes_in d.touched d.deleted d.rewritten d.props_changed

  -- what all three have comes
  all_in : (c g r w : Bool) (a s t : Option Node) → is_some a ≡ true → is_some s ≡ true → is_some t ≡ true → is_some (landed_at m (said c g r w) a s t) ≡ true
  all_in c g r w None s t h k l = absurd (false≢true h)
  all_in c g r w (Some a) None t h k l = absurd (false≢true k)
  all_in c g r w (Some a) (Some s) None h k l = absurd (false≢true l)
  all_in c true r w (Some a) (Some s) (Some t) h k l = refl
  all_in c false true w (Some a) (Some s) (Some t) h k l = refl
  all_in c false false w (Some a) (Some s) (Some t) h k l = refl

  pub all_three : (d : Effects) (a s t : Option Node) → is_some a ≡ true → is_some s ≡ true → is_some t ≡ true → is_some (landed_at m d a s t) ≡ true
  all_three d = all_in d.touched d.deleted d.rewritten d.props_changed

  -- what the base lacks and the head has comes
  pub newer : (d : Effects) (a s t : Option Node) → is_some a ≡ false → is_some s ≡ true → is_some (landed_at m d a s t) ≡ true
  newer d (Some a) s t n h = absurd (false≢true (sym n))
  newer d None None t n h = absurd (false≢true h)
  newer d None (Some s) None n h = refl
  newer d None (Some s) (Some t) n h = refl

  -- where the base has a node and one comes, the head has one
  head_in : (c g r w : Bool) (a s t : Option Node) → Region (said c g r w) a s t → is_some a ≡ true → is_some (landed_at m (said c g r w) a s t) ≡ true → is_some s ≡ true
  head_in c g r w a (Some s) t is h k = refl
  head_in c g r w None None t is h k = absurd (false≢true h)
  head_in c true r w (Some a) None t is h k = absurd (no_head refl is)
  head_in c false true w (Some a) None t is h k = absurd (no_head refl is)
  head_in c false false w (Some a) None t is h k = absurd (false≢true k)

  pub head_has : (d : Effects) (a s t : Option Node) → Region d a s t → is_some a ≡ true → is_some (landed_at m d a s t) ≡ true → is_some s ≡ true
  head_has d = head_in d.touched d.deleted d.rewritten d.props_changed

  -- where the base has a node that is gone and one comes, the transaction has it
  own_in : (c g r w : Bool) (a s t : Option Node) → is_some a ≡ true → g ≡ true → is_some (landed_at m (said c g r w) a s t) ≡ true → is_some t ≡ true
  own_in c false r w a s t h e k = absurd (false≢true e)
  own_in c true r w None s t h e k = absurd (false≢true h)
  own_in c true r w (Some a) s None h e k = absurd (false≢true k)
  own_in c true r w (Some a) s (Some t) h e k = refl

  pub own_has : (d : Effects) (a s t : Option Node) → is_some a ≡ true → d.deleted ≡ true → is_some (landed_at m d a s t) ≡ true → is_some t ≡ true
  own_has d = own_in d.touched d.deleted d.rewritten d.props_changed

  pub head_only : (d : Effects) (a s t : Option Node) → is_some a ≡ false → is_some t ≡ false → is_some (landed_at m d a s t) ≡ true → is_some s ≡ true
  head_only d (Some a) s t n k h = absurd (false≢true (sym n))
  head_only d None s (Some t) n k h = absurd (false≢true (sym k))
  head_only d None None None n k h = absurd (false≢true h)
  head_only d None (Some s) None n k h = refl

-- what is gone and was in neither the base nor comes from elsewhere
pub not_gone_new : (d : Effects) (a s t : Option Node) → Region d a s t → is_some a ≡ false → is_some s ≡ true → d.deleted ≡ true → ⊥
not_gone_new d None (Some s) t is n h g = no_base (ap (λ b. b || d.rewritten) g) is
not_gone_new d None None t is n h g = false≢true h
not_gone_new d (Some a) s t is n h g = false≢true (sym n)
