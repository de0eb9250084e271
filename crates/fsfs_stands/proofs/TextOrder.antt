-- Things that were put by their texts stand in the order of these, and each is found.
use Rattle.std.proofs.Common.{◌≡◌, ℕ, zero, suc, ◌+◌, ◌<◌, Bool, true, false, cond, List, [], ◌∷◌, length, Option, Some, None, refl, sym, ap, subst, ◌∙◌, arith, inl, inr}
use Rattle.std.specs.Prelude.{◌⊎◌, ◌&&◌, T, Contains, map, option_map}
use Rattle.std.specs.List.{AllByRecursion}
use Rattle.std.specs.Cmp.{tied_itself}
use Rattle.std.specs.Cmp.Lexicographic.{slice_cmp, nat_list_cmp_total}
use Rattle.std.specs.declared.cmp.Ordering.{Ordering}
use Rattle.std.specs.declared.cmp.Ordering.TheVariants.{Less, Equal, Greater}
use Rattle.std.specs.Ordering.{nat_cmp, match_ordering, is_eq, is_lt, eq_by_cmp}
use Rattle.std.specs.BTreeMap.{insert_entry, is_at}
use Rattle.std.specs.Map.{lookup}
use Rattle.std.specs.FinMap.Entries.{by_order, find, put, is_sorted, below_all, is_sorted-put, find-put}
use Rattle.std.proofs.lemmas.Map.Lookups.{exact_bytes}
use Rattle.std.proofs.lemmas.Option.{same_Some}
use Rattle.fsfs_tree.specs.ChangedTexts.{put_by}

abbrev pub text_cmp : List ℕ → List ℕ → Ordering
text_cmp = slice_cmp nat_cmp

-- texts that tie are one
ties : (q k : List ℕ) (o : Ordering) → text_cmp q k ≡ o → is_eq o ≡ true → q ≡ k
ties q k Less e h = absurd cc
ties q k Equal e h = exact_bytes q k e
ties q k Greater e h = absurd cc

pub tied : (q k : List ℕ) → eq_by_cmp text_cmp q k ≡ true → q ≡ k
tied q k h = ties q k (text_cmp q k) refl h

ties_itself : (q : List ℕ) → eq_by_cmp text_cmp q q ≡ true
ties_itself q = ap is_eq (tied_itself nat_list_cmp_total q)

module _ {A : Type 0} (text : A → List ℕ) where
  insert_is_put : (es : List (List ℕ × A)) (k : List ℕ) (v : A) → insert_entry text_cmp es k v ≡ put text_cmp k v es
  insert_is_put [] k v = refl
  insert_is_put (e ∷ es) k v = by (text_cmp k e.0) (insert_is_put es k v)
    where
      by : (o : Ordering) → insert_entry text_cmp es k v ≡ put text_cmp k v es
          → match_ordering o ((k, v) ∷ e ∷ es) ((e.0, v) ∷ es) (e ∷ insert_entry text_cmp es k v) ≡ by_order o ((k, v) ∷ e ∷ es) ((e.0, v) ∷ es) (e ∷ put text_cmp k v es)
      by Less same = refl
      by Equal same = refl
      by Greater same = ap (λ (xs : List (List ℕ × A)). e ∷ xs) same

  found_put : (es : List (List ℕ × A)) (k : List ℕ) (v : A) (q : List ℕ) → find text_cmp q (insert_entry text_cmp es k v) ≡ cond (eq_by_cmp text_cmp q k) (Some v) (find text_cmp q es)
  found_put es k v q = ap (λ (fs : List (List ℕ × A)). find text_cmp q fs) (insert_is_put es k v) ∙ find-put text_cmp nat_list_cmp_total q k v es

  pub put_sorted : (es : List (List ℕ × A)) (xs : List A) → T (is_sorted text_cmp es) → T (is_sorted text_cmp (put_by text es xs))
  put_sorted es [] h = h
  put_sorted es (x ∷ xs) h =
      put_sorted (insert_entry text_cmp es (text x) x) xs (subst (λ (fs : List (List ℕ × A)). T (is_sorted text_cmp fs)) (sym (insert_is_put es (text x) x)) (is_sorted-put text_cmp nat_list_cmp_total (text x) x es h))

  -- ---- what is found was put

  abbrev IsPut : List A → List ℕ → A → Type 0
  IsPut xs q x = Contains xs x × (text x ≡ q)

  in_rest : (y : A) (xs : List A) (q : List ℕ) (x : A) → IsPut xs q x → IsPut (y ∷ xs) q x
  in_rest y xs q x ((k, less, is), e) = ((suc k, omega (arith, less), is), e)

  from_one : (es : List (List ℕ × A)) (y : A) (xs : List A) (q : List ℕ) (x : A) (b : Bool) → eq_by_cmp text_cmp q (text y) ≡ b → cond b (Some y) (find text_cmp q es) ≡ Some x → (find text_cmp q es ≡ Some x) ⊎ IsPut (y ∷ xs) q x
  from_one es y xs q x true tie e = let same = same_Some y x e in inr ((0, omega arith, same), sym (ap text same) ∙ sym (tied q (text y) tie))
  from_one es y xs q x false tie e = inl e

  found_from : (es : List (List ℕ × A)) (xs : List A) (q : List ℕ) (x : A) → find text_cmp q (put_by text es xs) ≡ Some x → (find text_cmp q es ≡ Some x) ⊎ IsPut xs q x
  found_from es [] q x e = inl e
  found_from es (y ∷ xs) q x e =
      elim (found_from (insert_entry text_cmp es (text y) y) xs q x e) [
        | inl h ↦ from_one es y xs q x (eq_by_cmp text_cmp q (text y)) refl (sym (found_put es (text y) y q) ∙ h)
        | inr h ↦ inr (in_rest y xs q x h)
      ]

  pub found_is : (xs : List A) (q : List ℕ) (x : A) → find text_cmp q (put_by text [] xs) ≡ Some x → IsPut xs q x
  found_is xs q x e = elim (found_from [] xs q x e) [ inl h ↦ absurd cc | inr h ↦ h ]

  -- ---- what was put is found

  abbrev IsThere : List (List ℕ × A) → List ℕ → Type 0
  IsThere es q = (y : A) × (find text_cmp q es ≡ Some y)

  stays_one : (es : List (List ℕ × A)) (x : A) (q : List ℕ) (b : Bool) → IsThere es q → (y : A) × (cond b (Some x) (find text_cmp q es) ≡ Some y)
  stays_one es x q true h = (x, refl)
  stays_one es x q false h = h

  stays : (es : List (List ℕ × A)) (xs : List A) (q : List ℕ) → IsThere es q → IsThere (put_by text es xs) q
  stays es [] q h = h
  stays es (x ∷ xs) q h =
      let one = stays_one es x q (eq_by_cmp text_cmp q (text x)) h in
      stays (insert_entry text_cmp es (text x) x) xs q (one.0, found_put es (text x) x q ∙ one.1)

  put_there : (es : List (List ℕ × A)) (x : A) → IsThere (insert_entry text_cmp es (text x) x) (text x)
  put_there es x = (x, found_put es (text x) x (text x) ∙ ap (λ (b : Bool). cond b (Some x) (find text_cmp (text x) es)) (ties_itself (text x)))

  is_there : (es : List (List ℕ × A)) (xs : List A) (x : A) → Contains xs x → IsThere (put_by text es xs) (text x)
  is_there es [] x (k, less, is) = absurd (omega (arith, less))
  is_there es (y ∷ xs) x (zero, less, is) =
      subst (λ (z : A). IsThere (put_by text (insert_entry text_cmp es (text y) y) xs) (text z)) is (stays (insert_entry text_cmp es (text y) y) xs (text y) (put_there es y))
  is_there es (y ∷ xs) x (suc k, less, is) = is_there (insert_entry text_cmp es (text y) y) xs x (k, omega (arith, less), is)

  pub put_found : (xs : List A) (x : A) → Contains xs x → IsThere (put_by text [] xs) (text x)
  put_found xs x h = is_there [] xs x h

  -- ---- what holds of all that is put

  abbrev AllPut : (A → Type 0) → List (List ℕ × A) → Type 0
  AllPut P = AllByRecursion (λ e. P e.1)

  insert_all : (P : A → Type 0) (es : List (List ℕ × A)) (k : List ℕ) (v : A) → P v → AllPut P es → AllPut P (insert_entry text_cmp es k v)
  insert_all P [] k v h all = (h, tt)
  insert_all P (e ∷ es) k v h all = by (text_cmp k e.0) (insert_all P es k v h all.1)
    where
      by : (o : Ordering) → AllPut P (insert_entry text_cmp es k v) → AllPut P (match_ordering o ((k, v) ∷ e ∷ es) ((e.0, v) ∷ es) (e ∷ insert_entry text_cmp es k v))
      by Less rest = (h, all)
      by Equal rest = (h, all.1)
      by Greater rest = (all.0, rest)

  pub all_put : (P : A → Type 0) (es : List (List ℕ × A)) (xs : List A) → AllPut P es → AllByRecursion P xs → AllPut P (put_by text es xs)
  all_put P es [] all h = all
  all_put P es (x ∷ xs) all h = all_put P (insert_entry text_cmp es (text x) x) xs (insert_all P es (text x) x h.0 all) h.1

-- each element of a list is in it
pub each_in : {A : Type 0} (P : A → Type 0) (xs : List A) → ((x : A) → Contains xs x → P x) → AllByRecursion P xs
each_in P [] h = tt
each_in P (x ∷ xs) h = (h x (0, omega arith, refl), each_in P xs (λ y c. h y (suc c.0, omega (arith, c.1), c.2)))

-- ---- maps of two lists that rise

-- with other values at the same keys
module _ {A B : Type 0} (f : A → B) where
  abbrev pub valued : List (List ℕ × A) → List (List ℕ × B)
  valued es = map (λ e. (e.0, f e.1)) es

  below_valued : (k : List ℕ) (es : List (List ℕ × A)) → below_all text_cmp k (valued es) ≡ below_all text_cmp k es
  below_valued k [] = refl
  below_valued k (e ∷ es) = ap (λ (b : Bool). is_lt (text_cmp k e.0) && b) (below_valued k es)

  pub sorted_valued : (es : List (List ℕ × A)) → is_sorted text_cmp (valued es) ≡ is_sorted text_cmp es
  sorted_valued [] = refl
  sorted_valued (e ∷ es) = λ i. below_valued e.0 es i && sorted_valued es i

  pub find_valued : (q : List ℕ) (es : List (List ℕ × A)) → find text_cmp q (valued es) ≡ option_map f (find text_cmp q es)
  find_valued q [] = refl
  find_valued q (e ∷ es) = by (eq_by_cmp text_cmp q e.0) (find_valued q es)
    where
      by : (b : Bool) → find text_cmp q (valued es) ≡ option_map f (find text_cmp q es) → cond b (Some (f e.1)) (find text_cmp q (valued es)) ≡ option_map f (cond b (Some e.1) (find text_cmp q es))
      by true rest = refl
      by false rest = rest

-- a look-up by a test finds the same
pub lookup_find : {A : Type 0} (q : List ℕ) (es : List (List ℕ × A)) → lookup (is_at (text_cmp q)) es ≡ find text_cmp q es
lookup_find q [] = refl
lookup_find q (e ∷ es) = ap (cond (eq_by_cmp text_cmp q e.0) (Some e.1)) (lookup_find q es)
