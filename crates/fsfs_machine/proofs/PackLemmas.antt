-- The parts of a shard, one after another.
use Rattle.std.proofs.Common.{◌≡◌, ◌≤◌, ◌+◌, ◌-◌, ℕ, suc, zero, List, [], ◌∷◌, ◌++◌, length, map, take, drop, refl, sym, ap, ◌∙◌, arith}
use Rattle.std.proofs.lemmas.List.{length-drop}
use Rattle.std.specs.Prelude.{Some, None, slice_get, min}
use Rattle.fsfs_machine.specs.declared.contents.Part.{Part}
use Rattle.fsfs_machine.specs.declared.machine.Recorded.{Recorded}
use Rattle.fsfs_machine.specs.Machine.{part_of, part_at, parts_from}
use Rattle.fsfs_machine.proofs.Standing.{get_drop}

mapped_more : (k : ℕ) (xs : List Recorded) (y : Part) → part_at (slice_get xs k) ≡ Some y → map part_of (take k xs) ++ y ∷ [] ≡ map part_of (take (suc k) xs)
mapped_more k [] y e = let f : None ≡ Some y = e in absurd cc
mapped_more zero (x ∷ xs) y e = let f : Some (part_of x) ≡ Some y = e in let same : part_of x ≡ y = cc in ap (λ z. z ∷ []) (sym same)
mapped_more (suc k) (x ∷ xs) y e = ap (λ zs. part_of x ∷ zs) (mapped_more k xs y e)

-- with the next revision there is one part more
pub parts_more : (h : List Recorded) (f n : ℕ) (y : Part) → f ≤ n → Some y ≡ part_at (slice_get h n) → parts_from (n - f) f h ++ y ∷ [] ≡ parts_from ((n + 1) - f) f h
parts_more h f n y le e =
    let back : f + (n - f) ≡ n = omega (arith, le) in
    let next : suc (n - f) ≡ (n + 1) - f = omega (arith, le) in
    mapped_more (n - f) (drop f h) y (ap part_at (get_drop f h (n - f) ∙ ap (λ k. slice_get h k) back) ∙ sym e) ∙ ap (λ k. parts_from k f h) next

-- within the history there is always one
pub part_there : (h : List Recorded) (n : ℕ) → None ≡ part_at (slice_get h n) → length h ≤ n
part_there [] n e = omega arith
part_there (x ∷ h) zero e = let f : None ≡ Some (part_of x) = e in absurd cc
part_there (x ∷ h) (suc n) e = omega (arith, part_there h n e)

drop_most : (n m : ℕ) (xs : List Recorded) → m ≡ min n (length xs) → drop m xs ≡ drop n xs
drop_most zero zero xs e = refl
drop_most zero (suc m) xs e = absurd (omega (arith, e))
drop_most (suc n) zero [] e = refl
drop_most (suc n) zero (x ∷ xs) e = absurd (omega (arith, e))
drop_most (suc n) (suc m) [] e = refl
drop_most (suc n) (suc m) (x ∷ xs) e = drop_most n m xs (omega (arith, e))

take_most : (n m : ℕ) (xs : List Recorded) → m ≡ min (length xs) n → take m xs ≡ take n xs
take_most zero zero xs e = refl
take_most zero (suc m) xs e = absurd (omega (arith, e))
take_most (suc n) zero [] e = refl
take_most (suc n) zero (x ∷ xs) e = absurd (omega (arith, e))
take_most (suc n) (suc m) [] e = refl
take_most (suc n) (suc m) (x ∷ xs) e = ap (λ ys. x ∷ ys) (take_most n m xs (omega (arith, e)))

-- no more than there are is as many as are asked for
pub parts_all : (h : List Recorded) (n f first k : ℕ) → first ≡ min f (length h) → k ≡ min (length h - first) n → parts_from k first h ≡ parts_from n f h
parts_all h n f first k e g =
    let most : k ≡ min (length (drop first h)) n = g ∙ ap (λ m. min m n) (sym (length-drop first h)) in
    ap (λ xs. map part_of xs) (take_most n k (drop first h) most) ∙ ap (λ xs. map part_of (take n xs)) (drop_most f first h e)
