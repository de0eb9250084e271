-- Lists that differ in their order alone have parts that do.
use Rattle.std.proofs.Common.{ℕ, zero, suc, ◌<◌, List, [], ◌∷◌, ◌++◌, length, subst, arith, append_assoc}
use Rattle.std.proofs.lemmas.List.Sorted.{IsPermutation-refl, IsPermutation-trans, IsPermutation-append_left, IsPermutation-append_right, IsPermutation-append_comm, IsPermutation-keeps}
use Rattle.std.proofs.lemmas.List.Edits.{swap_is}
use Rattle.std.specs.Prelude.{slice_index_or}
use Rattle.std.specs.List.{flat_map, slice_set, swap}
use Rattle.std.specs.List.Sorted.{IsPermutation}

-- two parts change places
past : (a b c : List (List ℕ)) → IsPermutation (a ++ (b ++ c)) (b ++ (a ++ c))
past a b c = simp append_assoc at (IsPermutation-append_left c (a ++ b) (b ++ a) (IsPermutation-append_comm a b))

module _ (f : List ℕ → List (List ℕ)) where
  abbrev parts : List (List ℕ) → List (List ℕ)
  parts xs = flat_map f xs

  -- an element is exchanged for the one at a place
  exchanged : (l : List (List ℕ)) (j : ℕ) (v d : List ℕ) → j < length l → IsPermutation (f v ++ parts l) (f (slice_index_or l j d) ++ parts (slice_set l j v))
  exchanged [] j v d lt = absurd (omega arith)
  exchanged (y ∷ l) zero v d lt = past (f v) (f y) (parts l)
  exchanged (y ∷ l) (suc j) v d lt =
      IsPermutation-trans (f v ++ (f y ++ parts l)) (f y ++ (f v ++ parts l)) (f (slice_index_or l j d) ++ (f y ++ parts (slice_set l j v)))
      (past (f v) (f y) (parts l))
      (IsPermutation-trans (f y ++ (f v ++ parts l)) (f y ++ (f (slice_index_or l j d) ++ parts (slice_set l j v))) (f (slice_index_or l j d) ++ (f y ++ parts (slice_set l j v)))
      (IsPermutation-append_right (f y) (f v ++ parts l) (f (slice_index_or l j d) ++ parts (slice_set l j v)) (exchanged l j v d (omega arith)))
      (past (f y) (f (slice_index_or l j d)) (parts (slice_set l j v))))

  swapped : (l : List (List ℕ)) (i j : ℕ) (d : List ℕ) → i < length l → j < length l → IsPermutation (parts l) (parts (slice_set (slice_set l i (slice_index_or l j d)) j (slice_index_or l i d)))
  swapped [] i j d li lj = absurd (omega arith)
  swapped (x ∷ l) zero zero d li lj = IsPermutation-refl (f x ++ parts l)
  swapped (x ∷ l) zero (suc j) d li lj = exchanged l j x d (omega arith)
  swapped (x ∷ l) (suc i) zero d li lj = exchanged l i x d (omega arith)
  swapped (x ∷ l) (suc i) (suc j) d li lj =
      IsPermutation-append_right (f x) (parts l) (parts (slice_set (slice_set l i (slice_index_or l j d)) j (slice_index_or l i d))) (swapped l i j d (omega arith) (omega arith))

  pub parts_permuted : (xs ys : List (List ℕ)) → IsPermutation xs ys → IsPermutation (flat_map f xs) (flat_map f ys)
  parts_permuted xs ys same =
      IsPermutation-keeps xs (λ l. IsPermutation (parts xs) (parts l)) (IsPermutation-refl (parts xs))
      (λ l i j li lj h. IsPermutation-trans (parts xs) (parts l) (parts (swap l i j)) h (subst (λ (s : List (List ℕ)). IsPermutation (parts l) (parts s)) (swap_is l i j [] li lj) (swapped l i j [] li lj))) ys same
