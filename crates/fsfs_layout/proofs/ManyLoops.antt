-- Changes read one after another to the end, as a loop does, and laid over pairs.
use Rattle.std.proofs.Common.{◌≡◌, ℕ, suc, ◌-◌, ◌+◌, ◌≤◌, ◌<◌, eqb, true, false, List, [], ◌∷◌, ◌++◌, length, Option, Some, None, Result, Ok, Err, refl, sym, ap, ◌∙◌, append_assoc, arith, inl, inr}
use Rattle.std.proofs.lemmas.List.{append-nil}
use Rattle.fsfs_base.specs.Grammar.Relations.{Appends, Many}
use Rattle.fsfs_base.specs.Grammar.Reading.{◌>>=◌, many_at}
use Rattle.fsfs_layout.specs.Hash.Dump.{Field, Pair, put, put_all}
use Rattle.fsfs_layout.specs.Hash.Children.{ChildrenChange, change, change_all, without, IsChildren}

abbrev pub with_all : {X : Type 0} → List X → Result (List X) ℕ → Result (List X) ℕ
with_all {X} front read = read >>= λ xs. Ok (front ++ xs)

regroup : {X : Type 0} (front : List X) (n : X) (read : Result (List X) ℕ) → with_all front (read >>= λ xs. Ok (n ∷ xs)) ≡ with_all (front ++ n ∷ []) read
regroup {X} front n (Ok xs) = ap (λ (ns : List X). Ok ns) (simp append_assoc)
regroup front n (Err f) = refl

module _ {X : Type 0} (item : List ℕ → Result (X × List ℕ) ℕ) (front : List X) (count i : ℕ) (bytes : List ℕ) (total : Result (List X) ℕ) (so_far : with_all front (many_at item (count - i) bytes) ≡ total) where
  pub many_more : (x : X) (after : List ℕ) → i < count → eqb (length bytes) 0 ≡ false → item bytes ≡ Ok (x, after) → with_all (front ++ x ∷ []) (many_at item (count - (i + 1)) after) ≡ total
  unfolding many_at
  many_more x after lt is read =
      let n : count - i ≡ suc (count - (i + 1)) = omega arith in
      let one : with_all front (many_at item (count - i) bytes) ≡ with_all (front ++ x ∷ []) (many_at item (count - (i + 1)) after) = rw (n, is, read) (regroup front x (many_at item (count - (i + 1)) after)) in
      sym one ∙ so_far

  pub many_fault : (left : ℕ) → i < count → eqb (length bytes) 0 ≡ false → item bytes ≡ Err left → total ≡ Err left
  unfolding many_at
  many_fault left lt is read =
      let n : count - i ≡ suc (count - (i + 1)) = omega arith in
      let one : with_all front (many_at item (count - i) bytes) ≡ Err left = rw (n, is, read) refl in
      sym so_far ∙ one

  pub many_end : i < count → eqb (length bytes) 0 ≡ true → total ≡ Ok front
  unfolding many_at
  many_end lt is =
      let n : count - i ≡ suc (count - (i + 1)) = omega arith in
      let one : with_all front (many_at item (count - i) bytes) ≡ Ok front = rw (n, is) (ap (λ (ns : List X). Ok ns) (append-nil front)) in
      sym so_far ∙ one

  pub many_out : count ≤ i → total ≡ Err 0
  unfolding many_at
  many_out le =
      let n : count - i ≡ 0 = omega arith in
      let one : with_all front (many_at item (count - i) bytes) ≡ Err 0 = rw n refl in
      sym so_far ∙ one

-- ---- one change more

abbrev Changed : Type 0
Changed = List ℕ × Option (List ℕ)

pub change_all-push : (pairs : List (List ℕ × List ℕ)) (cs : List Changed) (c : Changed) → change_all pairs (cs ++ c ∷ []) ≡ change (change_all pairs cs) c
change_all-push pairs [] c = refl
change_all-push pairs (d ∷ cs) c = change_all-push (change pairs d) cs c

many_push : (t u : List ℕ) (cs : List Changed) (c : Changed) → Many ChildrenChange t cs → ChildrenChange u c → Many ChildrenChange (t ++ u) (cs ++ c ∷ [])
many_push t u [] c w v = (u, [], v, refl, ap (λ (x : List ℕ). x ++ u) w ∙ sym (append-nil u))
many_push t u (d ∷ cs) c w v = (w.0, w.1 ++ u, w.2, many_push w.1 u cs c w.3 v, ap (λ (x : List ℕ). x ++ u) w.4 ∙ append_assoc w.0 w.1 u)

-- a children file with one change more at its end
pub children_more : (old new : List ℕ) (pairs : List (List ℕ × List ℕ)) (c : Changed) → IsChildren old pairs → Appends ChildrenChange old new c → IsChildren new (change pairs c)
children_more old new pairs c w v =
    let tail = w.second_is in
    record {
      first = w.first;
      second = w.second ++ v.text;
      between = w.between;
      first_is = w.first_is;
      second_is = record { inner = tail.inner ++ c ∷ []; inner_is = many_push w.second v.text tail.inner c tail.inner_is v.text_is; value_is = ap (λ (p : List (List ℕ × List ℕ)). change p c) tail.value_is ∙ sym (change_all-push (put_all [] w.between) tail.inner c) };
      parts = v.parts ∙ ap (λ (t : List ℕ). t ++ v.text) w.parts ∙ append_assoc w.first w.second v.text;
    }

pub children_put : (old new name value : List ℕ) (pairs : List (List ℕ × List ℕ)) → IsChildren old pairs → Appends Pair old new (name, value) → IsChildren new (put pairs (name, value))
children_put old new name value pairs w v =
    children_more old new pairs (name, Some value) w (record { text = v.text; text_is = inr (record { inner = (name, value); inner_is = v.text_is; value_is = refl }); parts = v.parts })

pub children_without : (old new name : List ℕ) (pairs : List (List ℕ × List ℕ)) → IsChildren old pairs → Appends (Field 68) old new name → IsChildren new (without pairs name)
children_without old new name pairs w v =
    children_more old new pairs (name, None) w (record { text = v.text; text_is = inl (record { inner = name; inner_is = v.text_is; value_is = refl }); parts = v.parts })
