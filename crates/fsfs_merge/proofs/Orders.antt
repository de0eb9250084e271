-- The lesser of two paths, and the paths that are not before it.
use Rattle.std.proofs.Common.{◌≡◌, ◌∙◌, sym, ap, subst, Option, Some, None, Bool, true, false, refl}
use Rattle.std.specs.Prelude.{if◌then◌else◌}
use Rattle.std.specs.Ordering.{is_lt, ordering_reverse}
use Rattle.std.specs.declared.cmp.Ordering.{Ordering}
use Rattle.std.specs.declared.cmp.Ordering.TheVariants.{Less, Equal, Greater}
use Rattle.fsfs_base.specs.Paths.{Path, path_cmp, path_cmp_total}
use Rattle.fsfs_merge.specs.declared.clash.walk.Found.{Found}
use Rattle.fsfs_merge.specs.Clash.UnderWay.{NotAfter}
use Rattle.fsfs_merge.specs.Clash.Walks.{least}

-- a path that is not after a second, where the second is not after q, is not after q
pub not_after : (a c q : Path) (o : Ordering) → path_cmp a c ≡ o → (o ≡ Less → ⊥) → NotAfter a q → NotAfter c q
not_after a c q Less e n h less = n refl
not_after a c q Equal e n h less = h (path_cmp_total.antisymm q a ∙ ap ordering_reverse (path_cmp_total.congr a c q e) ∙ sym (path_cmp_total.antisymm q c) ∙ less)
not_after a c q Greater e n h less = h (path_cmp_total.trans q c a less (path_cmp_total.antisymm c a ∙ ap ordering_reverse e))

-- the lesser of two is not after what one of them is not after
pub least_new : (first : Option Found) (p : Found) (q : Path) → NotAfter p.path q → NotAfter (least first p).path q
least_new None p q h = h
least_new (Some c) p q h = by (path_cmp p.path c.path) refl
  where
    by : (o : Ordering) → path_cmp p.path c.path ≡ o → NotAfter (least (Some c) p).path q
    by Less e = subst (λ (o : Ordering). NotAfter (if is_lt o then p else c).path q) (sym e) h
    by Equal e = subst (λ (o : Ordering). NotAfter (if is_lt o then p else c).path q) (sym e) (not_after p.path c.path q Equal e (λ f. absurd (let g : Equal ≡ Less = f in cc)) h)
    by Greater e = subst (λ (o : Ordering). NotAfter (if is_lt o then p else c).path q) (sym e) (not_after p.path c.path q Greater e (λ f. absurd (let g : Greater ≡ Less = f in cc)) h)

pub least_old : (p c : Found) (q : Path) → NotAfter c.path q → NotAfter (least (Some c) p).path q
least_old p c q h = by (path_cmp p.path c.path) refl
  where
    by : (o : Ordering) → path_cmp p.path c.path ≡ o → NotAfter (least (Some c) p).path q
    by Less e = subst (λ (o : Ordering). NotAfter (if is_lt o then p else c).path q) (sym e) (λ less. h (path_cmp_total.trans q p.path c.path less e))
    by Equal e = subst (λ (o : Ordering). NotAfter (if is_lt o then p else c).path q) (sym e) h
    by Greater e = subst (λ (o : Ordering). NotAfter (if is_lt o then p else c).path q) (sym e) h

-- it is one of the two
pub least_is : (P : Found → Type 0) (first : Option Found) (p : Found) → P p → ((c : Found) → first ≡ Some c → P c) → P (least first p)
least_is P None p h old = h
least_is P (Some c) p h old = by (is_lt (path_cmp p.path c.path))
  where
    by : (b : Bool) → P (if b then p else c)
    by true = h
    by false = old c refl
