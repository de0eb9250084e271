-- Numbers are read exactly.
use Rattle.std.proofs.Common.{◌≡◌, ℕ, suc, ◌+◌, ◌-◌, ◌*◌, ◌<◌, ◌≤◌, Bool, true, false, cond, eqb, ltb, leb, ◌&&◌, List, [], ◌∷◌, ◌++◌, length, Option, Some, None, Ok, Err, refl, sym, ap, subst, ◌∙◌, append_assoc, arith, inl, inr}
use Rattle.std.proofs.lemmas.Bool.{ltb-true, lt-ltb, leb-true, le-leb, eqb-true, eqb-false, eq-eqb, ne_eqb, and_parts, and_from, both_ways}
use Rattle.std.proofs.lemmas.Bool.Decides.{nat_tests}
use Rattle.std.proofs.Math.Nat.{mul-le-mul_left}
use Rattle.std.specs.List.{AllByRecursion}
use Rattle.std.specs.Prelude.{IfSome}
use Rattle.fsfs_base.specs.Grammar.Relations.{Begins, IsBlocked, Stops}
use Rattle.fsfs_base.specs.Grammar.Numeral.{digit, value_after, IsNumeral, IsNumber, IsRest, digits_at, number_at, plain_at, numeral_at, AppendsNumeral, IsPlain}
use Rattle.fsfs_base.proofs.Readers.{Reads, chosen, pair_same, err_same}

-- digits behind a number never make it smaller
pub value_grows : (base n : ℕ) → 1 ≤ base → (ds : List ℕ) → n ≤ value_after base n ds
unfolding value_after
value_grows base n one [] = omega arith
value_grows base n one (c ∷ cs) = omega (arith, value_grows base (n * base + digit c) one cs, mul-le-mul_left n one)

-- a digit may follow
abbrev Follows : (base limit n c : ℕ) → Bool
Follows base limit n c = ltb (digit c) base && ltb 0 n && leb (n * base + digit c) limit

goes : (base limit n c : ℕ) → Follows base limit n c ≡ true → (digit c < base) × (0 < n) × (n * base + digit c ≤ limit)
goes base limit n c e =
    let a = and_parts (ltb (digit c) base && ltb 0 n) (leb (n * base + digit c) limit) e in
    let b = and_parts (ltb (digit c) base) (ltb 0 n) a.0 in
    (ltb-true _ _ b.0, ltb-true _ _ b.1, leb-true _ _ a.1)

may_go : (base limit n c : ℕ) → digit c < base → 0 < n → n * base + digit c ≤ limit → Follows base limit n c ≡ true
may_go base limit n c a b d = and_from (ltb (digit c) base && ltb 0 n) (leb (n * base + digit c) limit) (and_from (ltb (digit c) base) (ltb 0 n) (lt-ltb _ _ a) (lt-ltb _ _ b)) (le-leb _ _ d)

-- the first byte of what is behind a number: the end, or a digit
record Peeled (base limit end n c : ℕ) (text : List ℕ) (m : ℕ) : Type 0 where
  pub is_digit : digit c < base
  pub some : 0 < n
  pub below : n * base + digit c ≤ limit
  pub rest : IsRest base limit end (n * base + digit c) text m

peel : (base limit end n c : ℕ) (text : List ℕ) (m : ℕ) → 1 ≤ base → IsRest base limit end n (c ∷ text) m → (c ≡ end → ⊥) → Peeled base limit end n c text m
unfolding value_after
peel base limit end n c text m one w other = go w.digits w.all w.start w.value w.parts
  where
    zero_of : (n base d : ℕ) → 1 ≤ base → n * base + d ≡ 0 → n ≡ 0
    zero_of n base d one e = omega (arith, mul-le-mul_left n one, e)

    go : (ds : List ℕ) → AllByRecursion (λ d. digit d < base) ds → (n ≡ 0 → ds ≡ []) → value_after base n ds ≡ m → (c ∷ text) ≡ ds ++ end ∷ [] → Peeled base limit end n c text m
    go [] all start value parts = absurd (other cc)
    go (d ∷ ds) all start value parts =
        let same : d ≡ c = cc in
        let rest : text ≡ ds ++ end ∷ [] = cc in
        let some : n ≡ 0 → ⊥ = (λ z. let e = start z in cc) in
        let next : n * base + digit d ≡ n * base + digit c = ap (λ k. n * base + digit k) same in
        record {
          is_digit = subst (λ (k : ℕ). digit k < base) same all.0;
          some = omega (arith, some);
          below = omega (arith, value_grows base (n * base + digit d) one ds, value, w.fits, next);
          rest = record { digits = ds; all = all.1; start = λ z. absurd (some (zero_of n base (digit c) one z)); value = ap (λ (k : ℕ). value_after base k ds) (sym next) ∙ value; fits = w.fits; parts = rest };
        }

-- one digit more
push : (base limit end n c : ℕ) (text : List ℕ) (m : ℕ) → digit c < base → 0 < n → IsRest base limit end (n * base + digit c) text m → IsRest base limit end n (c ∷ text) m
unfolding value_after
push base limit end n c text m is some w = record { digits = c ∷ w.digits; all = (is, w.all); start = λ z. absurd (omega (arith, z, some)); value = w.value; fits = w.fits; parts = ap (λ (t : List ℕ). c ∷ t) w.parts }

ended : (base limit end n : ℕ) → n ≤ limit → IsRest base limit end n (end ∷ []) n
unfolding value_after
ended base limit end n fits = record { digits = []; all = tt; start = λ z. refl; value = refl; fits = fits; parts = refl }

digits_found : (base limit end n : ℕ) (bytes : List ℕ) (m : ℕ) (rest : List ℕ) → n ≤ limit → digits_at base limit end n bytes ≡ Ok (m, rest) → Begins (IsRest base limit end n) bytes m rest
unfolding digits_at
digits_found base limit end n [] m rest fits e = absurd cc
digits_found base limit end n (c ∷ cs) m rest fits e = elim (chosen (eqb c end) (Ok (n, cs)) (cond (Follows base limit n c) (digits_at base limit end (n * base + digit c) cs) (Err (suc (length cs)))) (Ok (m, rest)) e) [
  | inl w ↦
      let same = pair_same n m cs rest w.1 in
      record { front = end ∷ []; text = subst (λ (k : ℕ). IsRest base limit end n (end ∷ []) k) same.0 (ended base limit end n fits); parts = rw (eqb-true c end w.0, same.1) refl }
  | inr w ↦ elim (chosen (Follows base limit n c) (digits_at base limit end (n * base + digit c) cs) (Err (suc (length cs))) (Ok (m, rest)) w.1) [
    | inl v ↦
        let g = goes base limit n c v.0 in
        let f = digits_found base limit end (n * base + digit c) cs m rest g.2 v.1 in
        record { front = c ∷ f.front; text = push base limit end n c f.front m g.0 g.1 f.text; parts = ap (λ (t : List ℕ). c ∷ t) f.parts }
    | inr v ↦ absurd cc
  ]
]

-- what was read is not above the limit
pub number_fits : (base limit end : ℕ) (bytes : List ℕ) (m : ℕ) (rest : List ℕ) → number_at base limit end bytes ≡ Ok (m, rest) → m ≤ limit
unfolding number_at
number_fits base limit end [] m rest e = absurd cc
number_fits base limit end (c ∷ cs) m rest e = elim (chosen (ltb (digit c) base && leb (digit c) limit) (digits_at base limit end (digit c) cs) (Err (suc (length cs))) (Ok (m, rest)) e) [
  | inl v ↦ (digits_found base limit end (digit c) cs m rest (leb-true _ _ (and_parts (ltb (digit c) base) (leb (digit c) limit) v.0).1) v.1).text.fits
  | inr v ↦ absurd cc
]

digits_again : (base limit end : ℕ) → 1 ≤ base → base ≤ digit end → (ds : List ℕ) (n m : ℕ) (rest : List ℕ) → AllByRecursion (λ d. digit d < base) ds → (n ≡ 0 → ds ≡ []) → value_after base n ds ≡ m → m ≤ limit → digits_at base limit end n ((ds ++ end ∷ []) ++ rest) ≡ Ok (m, rest)
unfolding digits_at value_after
digits_again base limit end one high [] n m rest all start value fits = rw (eq-eqb end end refl) (ap (λ (k : ℕ). Ok (k, rest)) value)
digits_again base limit end one high (d ∷ ds) n m rest all start value fits =
    let other : eqb d end ≡ false = ne_eqb d end (λ s. omega (arith, ap digit s, high, all.0)) in
    let some : n ≡ 0 → ⊥ = (λ z. let e = start z in cc) in
    let follows : Follows base limit n d ≡ true = may_go base limit n d all.0 (omega (arith, some)) (omega (arith, value_grows base (n * base + digit d) one ds, value, fits)) in
    rw (other, follows) (digits_again base limit end one high ds (n * base + digit d) m rest all.1 (λ z. absurd (some (omega (arith, mul-le-mul_left n one, z)))) value fits)

digits_fault : (base limit end : ℕ) → 1 ≤ base → (n : ℕ) (bytes : List ℕ) (left : ℕ) → n ≤ limit → digits_at base limit end n bytes ≡ Err left → Stops (IsRest base limit end n) bytes left
unfolding digits_at
digits_fault base limit end one n [] left fits e = record { front = []; after = []; parts = refl; count = err_same 0 left e; goes_on = record { more = end ∷ []; value = n; text = ended base limit end n fits }; blocked = tt }
digits_fault base limit end one n (c ∷ cs) left fits e = elim (chosen (eqb c end) (Ok (n, cs)) (cond (Follows base limit n c) (digits_at base limit end (n * base + digit c) cs) (Err (suc (length cs)))) (Err left) e) [
  | inl w ↦ absurd cc
  | inr w ↦ elim (chosen (Follows base limit n c) (digits_at base limit end (n * base + digit c) cs) (Err (suc (length cs))) (Err left) w.1) [
    | inl v ↦
        let g = goes base limit n c v.0 in
        let f = digits_fault base limit end one (n * base + digit c) cs left g.2 v.1 in
        record {
          front = c ∷ f.front;
          after = f.after;
          parts = ap (λ (t : List ℕ). c ∷ t) f.parts;
          count = f.count;
          goes_on = record { more = f.goes_on.more; value = f.goes_on.value; text = push base limit end n c (f.front ++ f.goes_on.more) f.goes_on.value g.0 g.1 f.goes_on.text };
          blocked = behind n c f.front f.after (eqb-false c end w.0) f.blocked;
        }
    | inr v ↦ record {
      front = [];
      after = c ∷ cs;
      parts = refl;
      count = err_same (suc (length cs)) left v.1;
      goes_on = record { more = end ∷ []; value = n; text = ended base limit end n fits };
      blocked = λ g. let p = peel base limit end n c g.more g.value one g.text (eqb-false c end w.0) in both_ways _ v.0 (may_go base limit n c p.is_digit p.some p.below);
    }
  ]
]
  where
    behind : (n c : ℕ) (front after : List ℕ) → (c ≡ end → ⊥) → IsBlocked (IsRest base limit end (n * base + digit c)) front after → IsBlocked (IsRest base limit end n) (c ∷ front) after
    behind n c front [] other blocked = tt
    behind n c front (b ∷ bs) other blocked = λ g. blocked (record { more = g.more; value = g.value; text = (peel base limit end n c ((front ++ b ∷ []) ++ g.more) g.value one g.text other).rest })

-- ---- a whole number

May : (base limit c : ℕ) → Bool
May base limit c = ltb (digit c) base && leb (digit c) limit

number_of : (base limit end c : ℕ) (text : List ℕ) (n : ℕ) → digit c < base → IsRest base limit end (digit c) text n → IsNumber base limit end (c ∷ text) n
unfolding value_after
number_of base limit end c text n is w = record { digits = c ∷ w.digits; numeral = ((is, w.all), w.start, ap (λ (k : ℕ). value_after base k w.digits) (zero_times base (digit c)) ∙ w.value); fits = w.fits; parts = ap (λ (t : List ℕ). c ∷ t) w.parts }
  where
    zero_times : (base d : ℕ) → 0 * base + d ≡ d
    zero_times base d = omega arith

record Begun (base limit end c : ℕ) (text : List ℕ) (n : ℕ) : Type 0 where
  pub is_digit : digit c < base
  pub below : digit c ≤ limit
  pub rest : IsRest base limit end (digit c) text n

number_rest : (base limit end c : ℕ) (text : List ℕ) (n : ℕ) → 1 ≤ base → IsNumber base limit end (c ∷ text) n → Begun base limit end c text n
unfolding value_after
number_rest base limit end c text n one w = go w.digits w.numeral w.parts
  where
    go : (ds : List ℕ) → IsNumeral base ds n → (c ∷ text) ≡ ds ++ end ∷ [] → Begun base limit end c text n
    go [] numeral parts = absurd numeral
    go (d ∷ ds) numeral parts =
        let same : d ≡ c = cc in
        let rest : text ≡ ds ++ end ∷ [] = cc in
        let zeroed : 0 * base + digit d ≡ digit c = omega (arith, ap digit same) in
        let value : value_after base (digit c) ds ≡ n = ap (λ (k : ℕ). value_after base k ds) (sym zeroed) ∙ numeral.2 in
        record {
          is_digit = subst (λ (k : ℕ). digit k < base) same numeral.0.0;
          below = omega (arith, value_grows base (digit c) one ds, value, w.fits);
          rest = record { digits = ds; all = numeral.0.1; start = λ z. numeral.1 (ap digit same ∙ z); value = value; fits = w.fits; parts = rest };
        }

pub no_number : (base limit end n : ℕ) → IsNumber base limit end [] n → ⊥
no_number base limit end n w = go w.digits w.numeral w.parts
  where
    go : (ds : List ℕ) → IsNumeral base ds n → [] ≡ ds ++ end ∷ [] → ⊥
    go [] numeral parts = numeral
    go (d ∷ ds) numeral parts = absurd cc

-- 0 is a number
zero_number : (base limit end : ℕ) → 1 ≤ base → IsNumber base limit end (48 ∷ end ∷ []) 0
unfolding value_after
zero_number base limit end one = record { digits = 48 ∷ []; numeral = ((omega (arith, one), tt), λ z. refl, omega arith); fits = omega arith; parts = refl }

pub number_reads : (base limit end n : ℕ) → 1 ≤ base → base ≤ digit end → Reads n (IsNumber base limit end) (number_at base limit end)
unfolding number_at May
number_reads base limit end n one high = record {
  some = record { more = 48 ∷ end ∷ []; value = 0; text = zero_number base limit end one };
  found = λ bytes m rest lt e. found bytes m rest e;
  again = λ text m rest lt w. again text m rest w;
  fault = λ bytes left lt e. fault bytes left e;
}
  where
    found : (bytes : List ℕ) (m : ℕ) (rest : List ℕ) → number_at base limit end bytes ≡ Ok (m, rest) → Begins (IsNumber base limit end) bytes m rest
    found [] m rest e = absurd cc
    found (c ∷ cs) m rest e = elim (chosen (May base limit c) (digits_at base limit end (digit c) cs) (Err (suc (length cs))) (Ok (m, rest)) e) [
      | inl v ↦
          let t = and_parts (ltb (digit c) base) (leb (digit c) limit) v.0 in
          let f = digits_found base limit end (digit c) cs m rest (leb-true _ _ t.1) v.1 in
          record { front = c ∷ f.front; text = number_of base limit end c f.front m (ltb-true _ _ t.0) f.text; parts = ap (λ (t : List ℕ). c ∷ t) f.parts }
      | inr v ↦ absurd cc
    ]

    again : (text : List ℕ) (m : ℕ) (rest : List ℕ) → IsNumber base limit end text m → number_at base limit end (text ++ rest) ≡ Ok (m, rest)
    again [] m rest w = absurd (no_number base limit end m w)
    again (c ∷ text) m rest w =
        let b = number_rest base limit end c text m one w in
        let r = b.rest in
        rw (lt-ltb (digit c) base b.is_digit, le-leb (digit c) limit b.below, r.parts) (digits_again base limit end one high r.digits (digit c) m rest r.all r.start r.value r.fits)

    behind : (c : ℕ) (front after : List ℕ) → IsBlocked (IsRest base limit end (digit c)) front after → IsBlocked (IsNumber base limit end) (c ∷ front) after
    behind c front [] blocked = tt
    behind c front (b ∷ bs) blocked = λ g. blocked (record { more = g.more; value = g.value; text = (number_rest base limit end c ((front ++ b ∷ []) ++ g.more) g.value one g.text).rest })

    fault : (bytes : List ℕ) (left : ℕ) → number_at base limit end bytes ≡ Err left → Stops (IsNumber base limit end) bytes left
    fault [] left e = record { front = []; after = []; parts = refl; count = err_same 0 left e; goes_on = record { more = 48 ∷ end ∷ []; value = 0; text = zero_number base limit end one }; blocked = tt }
    fault (c ∷ cs) left e = elim (chosen (May base limit c) (digits_at base limit end (digit c) cs) (Err (suc (length cs))) (Err left) e) [
      | inl v ↦
          let t = and_parts (ltb (digit c) base) (leb (digit c) limit) v.0 in
          let f = digits_fault base limit end one (digit c) cs left (leb-true _ _ t.1) v.1 in
          record {
            front = c ∷ f.front;
            after = f.after;
            parts = ap (λ (t : List ℕ). c ∷ t) f.parts;
            count = f.count;
            goes_on = record { more = f.goes_on.more; value = f.goes_on.value; text = number_of base limit end c (f.front ++ f.goes_on.more) f.goes_on.value (ltb-true _ _ t.0) f.goes_on.text };
            blocked = behind c f.front f.after f.blocked;
          }
      | inr v ↦ record {
        front = [];
        after = c ∷ cs;
        parts = refl;
        count = err_same (suc (length cs)) left v.1;
        goes_on = record { more = 48 ∷ end ∷ []; value = 0; text = zero_number base limit end one };
        blocked = λ g. let p = number_rest base limit end c g.more g.value one g.text in both_ways (May base limit c) v.0 (and_from (ltb (digit c) base) (leb (digit c) limit) (lt-ltb _ _ p.is_digit) (le-leb _ _ p.below));
      }
    ]

-- ---- a text that is a number

some_chosen : {A : Type 0} (b : Bool) (x : Option A) (y : A) → cond b x None ≡ Some y → (b ≡ true) × (x ≡ Some y)
some_chosen true x y e = (refl, e)
some_chosen false x y e = absurd cc

-- the digits behind n
record IsTail (base limit n : ℕ) (ds : List ℕ) (m : ℕ) : Type 0 where
  pub all : AllByRecursion (λ d. digit d < base) ds
  pub start : n ≡ 0 → ds ≡ []
  pub value : value_after base n ds ≡ m
  pub fits : m ≤ limit

plain_found : (base limit n : ℕ) (ds : List ℕ) (m : ℕ) → n ≤ limit → plain_at base limit n ds ≡ Some m → IsTail base limit n ds m
unfolding plain_at value_after
plain_found base limit n [] m fits e = let same : n ≡ m = cc in record { all = tt; start = λ z. refl; value = same; fits = omega (arith, same) }
plain_found base limit n (c ∷ cs) m fits e =
    let w = some_chosen (Follows base limit n c) (plain_at base limit (n * base + digit c) cs) m e in
    let g = goes base limit n c w.0 in
    let f = plain_found base limit (n * base + digit c) cs m g.2 w.1 in
    record { all = (g.0, f.all); start = λ z. absurd (omega (arith, z, g.1)); value = f.value; fits = f.fits }

plain_again : (base limit n : ℕ) (ds : List ℕ) (m : ℕ) → 1 ≤ base → IsTail base limit n ds m → plain_at base limit n ds ≡ Some m
unfolding plain_at value_after
plain_again base limit n [] m one w = ap (λ (k : ℕ). Some k) w.value
plain_again base limit n (d ∷ ds) m one w =
    let some : n ≡ 0 → ⊥ = (λ z. let e = w.start z in cc) in
    let all = w.all in
    let value = w.value in
    let follows : Follows base limit n d ≡ true = may_go base limit n d all.0 (omega (arith, some)) (omega (arith, value_grows base (n * base + digit d) one ds, value, w.fits)) in
    rw follows (plain_again base limit (n * base + digit d) ds m one (record { all = all.1; start = λ z. absurd (some (omega (arith, mul-le-mul_left n one, z))); value = value; fits = w.fits }))

pub numeral_found : (base limit : ℕ) (text : List ℕ) (n : ℕ) → numeral_at base limit text ≡ Some n → IsPlain base limit text n
unfolding numeral_at value_after
numeral_found base limit [] n e = absurd cc
numeral_found base limit (c ∷ cs) n e =
    let w = some_chosen (ltb (digit c) base && leb (digit c) limit) (plain_at base limit (digit c) cs) n e in
    let t = and_parts (ltb (digit c) base) (leb (digit c) limit) w.0 in
    let f = plain_found base limit (digit c) cs n (leb-true _ _ t.1) w.1 in
    let zeroed : 0 * base + digit c ≡ digit c = omega arith in
    (((ltb-true _ _ t.0, f.all), f.start, ap (λ (k : ℕ). value_after base k cs) zeroed ∙ f.value), f.fits)

pub numeral_again : (base limit : ℕ) (text : List ℕ) (n : ℕ) → 1 ≤ base → IsPlain base limit text n → numeral_at base limit text ≡ Some n
unfolding numeral_at value_after
numeral_again base limit [] n one w = absurd w.0
numeral_again base limit (c ∷ cs) n one w =
    let zeroed : 0 * base + digit c ≡ digit c = omega arith in
    let value : value_after base (digit c) cs ≡ n = ap (λ (k : ℕ). value_after base k cs) (sym zeroed) ∙ w.0.2 in
    let low : digit c ≤ limit = omega (arith, value_grows base (digit c) one cs, value, w.1) in
    rw (lt-ltb (digit c) base w.0.0.0, le-leb (digit c) limit low) (plain_again base limit (digit c) cs n one (record { all = w.0.0.1; start = w.0.1; value = value; fits = w.1 }))

-- ---- writing

value_push : (base n : ℕ) (ds : List ℕ) (c : ℕ) → value_after base n (ds ++ c ∷ []) ≡ value_after base n ds * base + digit c
unfolding value_after
value_push base n [] c = refl
value_push base n (d ∷ ds) c = value_push base (n * base + digit d) ds c

all_push : (base : ℕ) (ds : List ℕ) (c : ℕ) → AllByRecursion (λ d. digit d < base) ds → digit c < base → AllByRecursion (λ d. digit d < base) (ds ++ c ∷ [])
all_push base [] c all is = (is, tt)
all_push base (d ∷ ds) c all is = (all.0, all_push base ds c all.1 is)

pub numeral_one : (base c : ℕ) → digit c < base → IsNumeral base (c ∷ []) (digit c)
unfolding value_after
numeral_one base c is = ((is, tt), λ z. refl, omega arith)

pub numeral_push : (base : ℕ) (ds : List ℕ) (n c : ℕ) → 1 ≤ base → 0 < n → IsNumeral base ds n → digit c < base → IsNumeral base (ds ++ c ∷ []) (n * base + digit c)
unfolding value_after
numeral_push base [] n c one some w is = absurd w
numeral_push base (d ∷ ds) n c one some w is =
    ((w.0.0, all_push base ds c w.0.1 is), λ z. absurd (not_zero z), value_push base (0 * base + digit d) ds c ∙ ap (λ (k : ℕ). k * base + digit c) w.2)
  where
    not_zero : digit d ≡ 0 → ⊥
    not_zero z =
        let none = w.1 z in
        let zeroed : 0 * base + digit d ≡ 0 = omega (arith, z) in
        let value : value_after base (0 * base + digit d) [] ≡ n = ap (value_after base (0 * base + digit d)) (sym none) ∙ w.2 in
        omega (arith, some, value, zeroed)

pub digit-decimal : (d : ℕ) → d < 10 → digit (48 + d) ≡ d
digit-decimal d lt = grind (arith, nat_tests)

pub appends_one : (base n c : ℕ) (old new : List ℕ) → n < base → digit c ≡ n → new ≡ old ++ c ∷ [] → AppendsNumeral base old new n
appends_one base n c old new lt is parts = record { digits = c ∷ []; numeral = subst (λ (k : ℕ). IsNumeral base (c ∷ []) k) is (numeral_one base c (omega (arith, is, lt))); parts = parts }

pub appends_more : (base n high c : ℕ) (old mid new : List ℕ) → 1 ≤ base → 0 < high → digit c < base → high * base + digit c ≡ n → AppendsNumeral base old mid high → new ≡ mid ++ c ∷ [] → AppendsNumeral base old new n
appends_more base n high c old mid new one some is value w parts = record {
  digits = w.digits ++ c ∷ [];
  numeral = subst (λ (k : ℕ). IsNumeral base (w.digits ++ c ∷ []) k) value (numeral_push base w.digits high c one some w.numeral is);
  parts = parts ∙ ap (λ (t : List ℕ). t ++ c ∷ []) w.parts ∙ append_assoc old w.digits (c ∷ []);
}

pub read_found : (base limit : ℕ) (text : List ℕ) (r : Option ℕ) → r ≡ numeral_at base limit text → IfSome r (IsPlain base limit text)
read_found base limit text None e = tt
read_found base limit text (Some n) e = numeral_found base limit text n (sym e)

-- a number of one digit
pub number_some : (base limit end c : ℕ) → digit c < base → digit c ≤ limit → IsNumber base limit end (c ∷ end ∷ []) (digit c)
number_some base limit end c is fits = record { digits = c ∷ []; numeral = numeral_one base c is; fits = fits; parts = refl }
