-- Lists: what is among their elements, and what is at an index.
use Rattle.std.proofs.Common.{◌≡◌, ◌≤◌, ◌<◌, ◌⊎◌, ◌++◌, ℕ, zero, suc, List, [], ◌∷◌, length, take, refl, sym, ap, ◌∙◌, inl, inr, arith}
use Rattle.std.specs.Prelude.{Contains, Option, Some, None, slice_get}
use Rattle.std.proofs.lemmas.List.Elements.{Contains-append_cases, Contains-append_left, Contains-append_right, Contains-push, Contains-push_cases}

-- ---- among the elements

pub contains_nil : {X : Type 0} (x : X) → Contains [] x → ⊥
contains_nil x there = let lt = there.1 in omega (arith, lt)

pub contains_cons : {X : Type 0} (y : X) (xs : List X) (x : X) → Contains (y ∷ xs) x → (y ≡ x) ⊎ Contains xs x
contains_cons {X = X} y xs x there = by (Contains-append_cases (y ∷ []) xs x there)
  where
    first : Contains [] x ⊎ (y ≡ x) → (y ≡ x) ⊎ Contains xs x
    first (inl none) = absurd (contains_nil x none)
    first (inr same) = inl same

    by : Contains (y ∷ []) x ⊎ Contains xs x → (y ≡ x) ⊎ Contains xs x
    by (inl one) = first (Contains-push_cases [] y x one)
    by (inr rest) = inr rest

pub contains_first : {X : Type 0} (y : X) (xs : List X) → Contains (y ∷ xs) y
contains_first y xs = Contains-append_left (y ∷ []) xs y (Contains-push [] y)

pub contains_rest : {X : Type 0} (y : X) (xs : List X) (x : X) → Contains xs x → Contains (y ∷ xs) x
contains_rest y xs x there = Contains-append_right (y ∷ []) xs x there

-- ---- at an index

pub get_push : {X : Type 0} (xs ys : List X) (i : ℕ) (x : X) → slice_get xs i ≡ Some x → slice_get (xs ++ ys) i ≡ Some x
get_push [] ys i x is = absurd cc
get_push (y ∷ xs) ys zero x is = is
get_push (y ∷ xs) ys (suc i) x is = get_push xs ys i x is

pub get_last : {X : Type 0} (xs : List X) (y : X) → slice_get (xs ++ y ∷ []) (length xs) ≡ Some y
get_last [] y = refl
get_last (x ∷ xs) y = get_last xs y

pub get_push_cases : {X : Type 0} (xs : List X) (y : X) (i : ℕ) (x : X) → slice_get (xs ++ y ∷ []) i ≡ Some x → (slice_get xs i ≡ Some x) ⊎ ((i ≡ length xs) × (y ≡ x))
get_push_cases [] y zero x is = inr (refl, (let e : y ≡ x = cc in e))
get_push_cases [] y (suc i) x is = absurd cc
get_push_cases (z ∷ xs) y zero x is = inl is
get_push_cases (z ∷ xs) y (suc i) x is = by (get_push_cases xs y i x is)
  where
    by : (slice_get xs i ≡ Some x) ⊎ ((i ≡ length xs) × (y ≡ x)) → (slice_get xs i ≡ Some x) ⊎ ((suc i ≡ length (z ∷ xs)) × (y ≡ x))
    by (inl h) = inl h
    by (inr h) = inr (ap suc h.0, h.1)

pub get_taken : {X : Type 0} (n : ℕ) (xs : List X) (i : ℕ) (x : X) → slice_get (take n xs) i ≡ Some x → slice_get xs i ≡ Some x
get_taken zero [] i x is = absurd cc
get_taken (suc n) [] i x is = absurd cc
get_taken zero (y ∷ xs) i x is = absurd cc
get_taken (suc n) (y ∷ xs) zero x is = is
get_taken (suc n) (y ∷ xs) (suc i) x is = get_taken n xs i x is

pub get_kept : {X : Type 0} (n : ℕ) (xs : List X) (i : ℕ) (x : X) → i < n → slice_get xs i ≡ Some x → slice_get (take n xs) i ≡ Some x
get_kept zero xs i x less is = absurd (omega (arith, less))
get_kept (suc n) [] i x less is = absurd cc
get_kept (suc n) (y ∷ xs) zero x less is = is
get_kept (suc n) (y ∷ xs) (suc i) x less is = get_kept n xs i x (omega (arith, less)) is

pub get_one : {X : Type 0} (xs : List X) (i : ℕ) (x y : X) → slice_get xs i ≡ Some x → slice_get xs i ≡ Some y → x ≡ y
get_one {X = X} xs i x y a b = let e : (let o : Option X = Some x in o) ≡ Some y = sym a ∙ b in cc
