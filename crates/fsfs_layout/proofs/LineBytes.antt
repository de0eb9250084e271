-- Bytes of which none ends a line are read exactly.
use Rattle.std.proofs.Common.{◌≡◌, ℕ, zero, suc, Bool, true, false, eqb, List, [], ◌∷◌, ◌++◌, length, take, Ok, Err, refl, sym, ap, subst, arith, inl, inr}
use Rattle.std.proofs.lemmas.List.{take_at}
use Rattle.fsfs_base.specs.Grammar.Relations.{GoesOn, IsBlocked, Stops}
use Rattle.fsfs_base.proofs.Readers.{Reads, bind_ok, bind_err, pair_same, ok_is, chosen, err_same}
use Rattle.fsfs_base.specs.Grammar.Cuts.{Lacks}
use Rattle.fsfs_layout.specs.Small.{AreLineBytes}
use Rattle.fsfs_layout.specs.Reading.{line_rest_at, line_bytes_at}

abbrev zeros : ℕ → List ℕ
zeros zero = []
zeros (suc n) = 0 ∷ zeros n

zeros_lack : (n : ℕ) → (length (zeros n) ≡ n) × Lacks 10 (zeros n)
zeros_lack zero = (refl, tt)
zeros_lack (suc n) = let w = zeros_lack n in (ap suc w.0, (refl, w.1))

line_some : (n : ℕ) → GoesOn (AreLineBytes n) []
line_some n = let w = zeros_lack n in record { more = zeros n; value = zeros n; text = (refl, w.0, w.1) }

-- what was read
pub record IsLine (n : ℕ) (bytes rest : List ℕ) : Type 0 where
  pub parts : bytes ≡ take n bytes ++ rest
  pub size : length (take n bytes) ≡ n
  pub lacks : Lacks 10 (take n bytes)

pub line_found : (n : ℕ) (bytes rest : List ℕ) → line_rest_at n bytes ≡ Ok rest → IsLine n bytes rest
unfolding line_rest_at
line_found zero bytes rest e = record { parts = ok_is bytes rest e; size = refl; lacks = tt }
line_found (suc n) [] rest e = absurd cc
line_found (suc n) (b ∷ bs) rest e = elim (chosen (eqb b 10) (Err (suc (length bs))) (line_rest_at n bs) (Ok rest) e) [
  | inl w ↦ absurd cc
  | inr w ↦ let more = line_found n bs rest w.1 in record { parts = ap (λ (t : List ℕ). b ∷ t) more.parts; size = ap suc more.size; lacks = (w.0, more.lacks) }
]

line_again : (n : ℕ) (value rest : List ℕ) → length value ≡ n → Lacks 10 value → line_rest_at n (value ++ rest) ≡ Ok rest
unfolding line_rest_at
line_again zero [] rest size lacks = refl
line_again zero (b ∷ bs) rest size lacks = absurd (omega (arith, size))
line_again (suc n) [] rest size lacks = absurd (omega (arith, size))
line_again (suc n) (b ∷ bs) rest size lacks = rw lacks.0 (line_again n bs rest (omega (arith, size)) lacks.1)

blocked_more : (n b : ℕ) (front after : List ℕ) → IsBlocked (AreLineBytes n) front after → IsBlocked (AreLineBytes (suc n)) (b ∷ front) after
blocked_more n b front [] blocked = tt
blocked_more n b front (x ∷ xs) blocked = λ g.
    let whole = subst (λ (t : List ℕ). (length t ≡ suc n) × Lacks 10 t) (sym g.text.0) (g.text.1, g.text.2) in
    blocked (record { more = g.more; value = (front ++ x ∷ []) ++ g.more; text = (refl, omega (arith, whole.0), whole.1.1) })

line_fault : (n : ℕ) (bytes : List ℕ) (left : ℕ) → line_rest_at n bytes ≡ Err left → Stops (AreLineBytes n) bytes left
unfolding line_rest_at
line_fault zero bytes left e = absurd cc
line_fault (suc n) [] left e = record { front = []; after = []; parts = refl; count = err_same 0 left e; goes_on = line_some (suc n); blocked = tt }
line_fault (suc n) (b ∷ bs) left e = elim (chosen (eqb b 10) (Err (suc (length bs))) (line_rest_at n bs) (Err left) e) [
  | inl w ↦ record {
    front = [];
    after = b ∷ bs;
    parts = refl;
    count = err_same (suc (length bs)) left w.1;
    goes_on = line_some (suc n);
    blocked = λ g. let lacks = subst (λ (t : List ℕ). Lacks 10 t) (sym g.text.0) g.text.2 in clash w.0 lacks.0;
  }
  | inr w ↦
      let f = line_fault n bs left w.1 in
      record {
        front = b ∷ f.front;
        after = f.after;
        parts = ap (λ (t : List ℕ). b ∷ t) f.parts;
        count = f.count;
        goes_on = record { more = f.goes_on.more; value = b ∷ f.goes_on.value; text = (ap (λ (t : List ℕ). b ∷ t) f.goes_on.text.0, ap suc f.goes_on.text.1, (w.0, f.goes_on.text.2)) };
        blocked = blocked_more n b f.front f.after f.blocked;
      }
]
  where
    clash : {t : Bool} → t ≡ true → t ≡ false → ⊥
    clash a b = cc

pub line_reads : (count n : ℕ) → Reads n (AreLineBytes count) (line_bytes_at count)
line_reads count n = record {
  some = line_some count;
  found = λ bytes x rest lt e.
      let b = bind_ok (line_rest_at count bytes) (λ rest. Ok (take count bytes, rest)) (x, rest) e in
      let same = pair_same (take count bytes) x b.0 rest b.2 in
      let w = line_found count bytes b.0 b.1 in
      record { front = x; text = (let is = subst (λ (t : List ℕ). (length t ≡ count) × Lacks 10 t) same.0 (w.size, w.lacks) in (refl, is.0, is.1)); parts = rw (← same.0, ← same.1) w.parts };
  again = λ text x rest lt g.
      let lacks = subst (λ (t : List ℕ). (length t ≡ count) × Lacks 10 t) (sym g.0) (g.1, g.2) in
      rw (line_again count text rest lacks.0 lacks.1, take_at text rest count lacks.0, g.0) refl;
  fault = λ bytes left lt e. elim (bind_err (line_rest_at count bytes) (λ rest. Ok (take count bytes, rest)) left e) [
    | inl w ↦ line_fault count bytes left w
    | inr w ↦ let f = w.2 in absurd cc
  ];
}
