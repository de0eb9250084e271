-- Lists of entries in the order of their keys, one behind another.
use Rattle.std.proofs.Common.{◌≡◌, Bool, true, false, cond, ◌&&◌, T, List, [], ◌∷◌, ◌++◌, Option, Some, is_some, refl, sym, ap, subst, Ordering, Less, is_lt, is_eq}
use Rattle.std.specs.Option.{option_or}
use Rattle.std.specs.List.{AllByRecursion}
use Rattle.std.specs.Ordering.{eq_by_cmp}
use Rattle.std.specs.Cmp.{IsTotalOrder, tied_itself}
use Rattle.std.specs.FinMap.Entries.{find, below_all, is_sorted}
use Rattle.fsfs_base.proofs.TwoTests.{both_hold, left_holds, right_holds}

pub all_append : {A : Type 0} (P : A → Type 0) (xs ys : List A) → AllByRecursion P xs → AllByRecursion P ys → AllByRecursion P (xs ++ ys)
all_append P [] ys a b = b
all_append P (x ∷ xs) ys a b = (a.0, all_append P xs ys a.1 b)

pub all_weaker : {A : Type 0} (P Q : A → Type 0) (xs : List A) → ((x : A) → P x → Q x) → AllByRecursion P xs → AllByRecursion Q xs
all_weaker P Q [] f a = tt
all_weaker P Q (x ∷ xs) f a = (f x a.0, all_weaker P Q xs f a.1)

module _ {K X : Type 0} (R : K → K → Ordering) where
  -- the key is below that of each entry
  abbrev pub IsBelow : K → List (K × X) → Type 0
  IsBelow k es = AllByRecursion (λ e. R k e.0 ≡ Less) es

  pub below_is : (k : K) (es : List (K × X)) → IsBelow k es → T (below_all R k es)
  below_is k [] h = tt
  below_is k (e ∷ es) h = both_hold (is_lt (R k e.0)) (below_all R k es) (subst (λ (o : Ordering). T (is_lt o)) (sym h.0) tt) (below_is k es h.1)

  below_append : (k : K) (es fs : List (K × X)) → T (below_all R k es) → T (below_all R k fs) → T (below_all R k (es ++ fs))
  below_append k [] fs g h = h
  below_append k (e ∷ es) fs g h =
      both_hold (is_lt (R k e.0)) (below_all R k (es ++ fs)) (left_holds (is_lt (R k e.0)) (below_all R k es) g) (below_append k es fs (right_holds (is_lt (R k e.0)) (below_all R k es) g) h)

  pub sorted_append : (es fs : List (K × X)) → T (is_sorted R es) → T (is_sorted R fs) → AllByRecursion (λ e. IsBelow e.0 fs) es → T (is_sorted R (es ++ fs))
  sorted_append [] fs g h below = h
  sorted_append (e ∷ es) fs g h below =
      both_hold (below_all R e.0 (es ++ fs)) (is_sorted R (es ++ fs))
      (below_append e.0 es fs (left_holds (below_all R e.0 es) (is_sorted R es) g) (below_is e.0 fs below.0))
      (sorted_append es fs (right_holds (below_all R e.0 es) (is_sorted R es) g) h below.1)

  pub find_append : (q : K) (es fs : List (K × X)) → find R q (es ++ fs) ≡ option_or (find R q es) (find R q fs)
  find_append q [] fs = refl
  find_append q (e ∷ es) fs = by (eq_by_cmp R q e.0) (find_append q es fs)
    where
      by : (b : Bool) → find R q (es ++ fs) ≡ option_or (find R q es) (find R q fs) → cond b (Some e.1) (find R q (es ++ fs)) ≡ option_or (cond b (Some e.1) (find R q es)) (find R q fs)
      by true rest = refl
      by false rest = rest

  -- what holds of each key that is found holds of each key
  pub keys_found : IsTotalOrder R → (P : K → Type 0) (es : List (K × X)) → ((q : K) → is_some (find R q es) ≡ true → P q) → AllByRecursion (λ e. P e.0) es
  keys_found total P [] h = tt
  keys_found total P (e ∷ es) h = (
    h e.0 (ap (λ (o : Ordering). is_some (cond (is_eq o) (Some e.1) (find R e.0 es))) (tied_itself total e.0)),
    keys_found total P es (λ q some. h q (behind (eq_by_cmp R q e.0) e.1 (find R q es) some)),
  )
    where
      behind : (b : Bool) (x : X) (o : Option X) → is_some o ≡ true → is_some (cond b (Some x) o) ≡ true
      behind true x o some = refl
      behind false x o some = some
