-- Items read one after the other, as a loop does.
use Rattle.std.proofs.Common.{◌≡◌, ℕ, suc, ◌-◌, ◌+◌, ◌≤◌, ◌<◌, true, false, List, [], ◌∷◌, ◌++◌, Result, Ok, Err, refl, sym, ap, ◌∙◌, append_assoc, arith}
use Rattle.std.proofs.lemmas.List.{append-nil}
use Rattle.fsfs_base.specs.Grammar.Reading.{◌>>=◌, until_at}
use Rattle.fsfs_base.specs.Grammar.Relations.{begins}

-- what was read before, and what is still read
abbrev pub with_front : {X : Type 0} → List X → Result (List X × List ℕ) ℕ → Result (List X × List ℕ) ℕ
with_front {X} front read = read >>= λ x. Ok (front ++ x.0, x.1)

regroup : {X : Type 0} (front : List X) (n : X) (read : Result (List X × List ℕ) ℕ) → with_front front (read >>= λ x. Ok (n ∷ x.0, x.1)) ≡ with_front (front ++ n ∷ []) read
regroup {X} front n (Ok x) = ap (λ (ns : List X). Ok (ns, x.1)) (simp append_assoc)
regroup front n (Err f) = refl

module _ {X Z : Type 0} (item : List ℕ → Result (X × List ℕ) ℕ) (stop : List ℕ → Result (Z × List ℕ) ℕ) (k : ℕ) (front : List X) (count i : ℕ) (bytes : List ℕ) (total : Result (List X × List ℕ) ℕ) (so_far : with_front front (until_at item stop k (count - i) bytes) ≡ total) where
  pub until_more : (x : X) (after : List ℕ) → i < count → begins k bytes ≡ true → item bytes ≡ Ok (x, after) → with_front (front ++ x ∷ []) (until_at item stop k (count - (i + 1)) after) ≡ total
  unfolding until_at
  until_more x after lt is read =
      let n : count - i ≡ suc (count - (i + 1)) = omega arith in
      let one : with_front front (until_at item stop k (count - i) bytes) ≡ with_front (front ++ x ∷ []) (until_at item stop k (count - (i + 1)) after) = rw (n, is, read) (regroup front x (until_at item stop k (count - (i + 1)) after)) in
      sym one ∙ so_far

  pub until_fault : (left : ℕ) → i < count → begins k bytes ≡ true → item bytes ≡ Err left → total ≡ Err left
  unfolding until_at
  until_fault left lt is read =
      let n : count - i ≡ suc (count - (i + 1)) = omega arith in
      let one : with_front front (until_at item stop k (count - i) bytes) ≡ Err left = rw (n, is, read) refl in
      sym so_far ∙ one

  pub until_end : (z : Z) (after : List ℕ) → i < count → begins k bytes ≡ false → stop bytes ≡ Ok (z, after) → total ≡ Ok (front, after)
  unfolding until_at
  until_end z after lt is read =
      let n : count - i ≡ suc (count - (i + 1)) = omega arith in
      let one : with_front front (until_at item stop k (count - i) bytes) ≡ Ok (front, after) = rw (n, is, read) (ap (λ (ns : List X). Ok (ns, after)) (append-nil front)) in
      sym so_far ∙ one

  pub until_end_fault : (left : ℕ) → i < count → begins k bytes ≡ false → stop bytes ≡ Err left → total ≡ Err left
  unfolding until_at
  until_end_fault left lt is read =
      let n : count - i ≡ suc (count - (i + 1)) = omega arith in
      let one : with_front front (until_at item stop k (count - i) bytes) ≡ Err left = rw (n, is, read) refl in
      sym so_far ∙ one

  pub until_out : count ≤ i → total ≡ Err 0
  unfolding until_at
  until_out le =
      let n : count - i ≡ 0 = omega arith in
      let one : with_front front (until_at item stop k (count - i) bytes) ≡ Err 0 = rw n refl in
      sym so_far ∙ one
