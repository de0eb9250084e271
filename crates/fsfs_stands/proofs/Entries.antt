-- The entries of a map from paths are what it has.
use Rattle.std.proofs.Common.{◌≡◌, ℕ, zero, suc, ◌<◌, Bool, true, false, cond, List, [], ◌∷◌, length, Option, Some, None, refl, sym, ap, subst, ◌∙◌, arith}
use Rattle.std.specs.Prelude.{◌&&◌, T, Contains}
use Rattle.std.specs.Cmp.{tied_itself}
use Rattle.std.specs.declared.cmp.Ordering.{Ordering}
use Rattle.std.specs.declared.cmp.Ordering.TheVariants.{Less, Equal, Greater}
use Rattle.std.specs.Ordering.{is_eq, is_lt, eq_by_cmp, ordering_reverse}
use Rattle.std.specs.FinMap.{FinMap, get, entries, get-entries, entries_sorted, nat_cmp-IsAntisymmetric, slice_cmp-IsAntisymmetric}
use Rattle.std.specs.FinMap.Entries.{find, is_sorted, below_all}
use Rattle.std.proofs.lemmas.Option.{same_Some}
use Rattle.fsfs_base.specs.Paths.{Path, path_cmp, path_cmp_total}

exact : (p q : Path) → path_cmp p q ≡ Equal → p ≡ q
exact = slice_cmp-IsAntisymmetric (slice_cmp-IsAntisymmetric nat_cmp-IsAntisymmetric)

tied : (p q : Path) (o : Ordering) → path_cmp p q ≡ o → is_eq o ≡ true → p ≡ q
tied p q Less e h = absurd cc
tied p q Equal e h = exact p q e
tied p q Greater e h = absurd cc

first : (a b : Bool) → T (a && b) → T a
first true b h = tt
first false b h = absurd h

second : (a b : Bool) → T (a && b) → T b
second true b h = h
second false b h = absurd h

apart : (x k : Path) → T (is_lt (path_cmp x k)) → eq_by_cmp path_cmp k x ≡ false
apart x k h = ap is_eq (path_cmp_total.antisymm k x) ∙ by (path_cmp x k) h
  where
    by : (o : Ordering) → T (is_lt o) → is_eq (ordering_reverse o) ≡ false
    by Less h = refl
    by Equal h = absurd h
    by Greater h = absurd h

module _ {V : Type 0} where
  found_in : (k : Path) (es : List (Path × V)) (v : V) → find path_cmp k es ≡ Some v → Contains es (k, v)
  found_in k [] v e = absurd cc
  found_in k (x ∷ es) v e = by (eq_by_cmp path_cmp k x.0) refl (found_in k es v) e
    where
      by : (b : Bool) → eq_by_cmp path_cmp k x.0 ≡ b → (find path_cmp k es ≡ Some v → Contains es (k, v)) → cond b (Some x.1) (find path_cmp k es) ≡ Some v → Contains (x ∷ es) (k, v)
      by true tie more e = let key = tied k x.0 (path_cmp k x.0) refl tie in let value = same_Some x.1 v e in (0, omega arith, λ i. (sym key i, value i))
      by false tie more e = let c = more e in (suc c.0, omega (arith, c.1), c.2)

  below_in : (x : Path) (es : List (Path × V)) (k : Path) (v : V) → T (below_all path_cmp x es) → Contains es (k, v) → T (is_lt (path_cmp x k))
  below_in x [] k v h (n, less, is) = absurd (omega (arith, less))
  below_in x (e ∷ es) k v h (zero, less, is) = subst (λ (f : Path × V). T (is_lt (path_cmp x f.0))) is (first (is_lt (path_cmp x e.0)) (below_all path_cmp x es) h)
  below_in x (e ∷ es) k v h (suc n, less, is) = below_in x es k v (second (is_lt (path_cmp x e.0)) (below_all path_cmp x es) h) (n, omega (arith, less), is)

  in_found : (es : List (Path × V)) (k : Path) (v : V) → T (is_sorted path_cmp es) → Contains es (k, v) → find path_cmp k es ≡ Some v
  in_found [] k v h (n, less, is) = absurd (omega (arith, less))
  in_found (e ∷ es) k v h (zero, less, is) =
      let keys : e.0 ≡ k = ap (λ (f : Path × V). f.0) is in
      let values : e.1 ≡ v = ap (λ (f : Path × V). f.1) is in
      ap (λ (b : Bool). cond b (Some e.1) (find path_cmp k es)) (ap (eq_by_cmp path_cmp k) keys ∙ ap is_eq (tied_itself path_cmp_total k)) ∙ ap (λ (z : V). Some z) values
  in_found (e ∷ es) k v h (suc n, less, is) =
      let c : Contains es (k, v) = (n, omega (arith, less), is) in
      let other = apart e.0 k (below_in e.0 es k v (first (below_all path_cmp e.0 es) (is_sorted path_cmp es) h) c) in
      ap (λ (b : Bool). cond b (Some e.1) (find path_cmp k es)) other ∙ in_found es k v (second (below_all path_cmp e.0 es) (is_sorted path_cmp es) h) c

  pub got_in : (m : FinMap path_cmp V) (k : Path) (v : V) → get m k ≡ Some v → Contains (entries m) (k, v)
  got_in m k v e = found_in k (entries m) v (sym (get-entries m k) ∙ e)

  pub in_got : (m : FinMap path_cmp V) (k : Path) (v : V) → Contains (entries m) (k, v) → get m k ≡ Some v
  in_got m k v c = get-entries m k ∙ in_found (entries m) k v (entries_sorted m) c
