-- The number of a line, from a bound on, is read exactly: its digits go on just where a number from low to limit begins with them.
use Rattle.std.proofs.Common.{◌≡◌, ℕ, zero, suc, ◌+◌, ◌*◌, ◌/◌, ◌%◌, ◌<◌, ◌≤◌, ◌^◌, Bool, true, false, cond, eqb, ltb, leb, ◌&&◌, List, [], ◌∷◌, ◌++◌, length, Ok, Err, refl, sym, ap, subst, ◌∙◌, arith, inl, inr}
use Rattle.std.proofs.lemmas.Bool.{ltb-true, ltb-false, lt-ltb, le-ltb, leb-true, leb-false, le-leb, eqb-true, eqb-false, eq-eqb, ne_eqb, and_parts, and_from, both_ways}
use Rattle.std.specs.List.{AllByRecursion}
use Rattle.std.specs.Fmt.{decimal}
use Rattle.fsfs_base.specs.Grammar.Relations.{GoesOn, Begins, IsBlocked, Stops}
use Rattle.fsfs_base.specs.Grammar.Numeral.{digit, value_after, IsNumeral, IsNumber, IsRest, number_at}
use Rattle.fsfs_base.proofs.Readers.{Reads, chosen, pair_same, err_same}
use Rattle.fsfs_base.proofs.Numerals.{value_grows, no_number, number_reads, digit-decimal}
use Rattle.fsfs_base.proofs.Unique.{decimal_numeral}
use Rattle.fsfs_layout.specs.ManifestReading.{reaches_at, starts_at, follows_at, offset_rest_at, offset_at}

-- b with so many digits 0 behind it
abbrev pub tens : ℕ → ℕ → ℕ
tens zero b = b
tens (suc k) b = tens k (b * 10)

tens_grow : (k a b : ℕ) → a ≤ b → tens k a ≤ tens k b
tens_grow zero a b le = le
tens_grow (suc k) a b le = tens_grow k (a * 10) (b * 10) (omega arith)

-- ---- which digits may go on

-- digits that make of v a number from low to limit
record Reached (limit low v : ℕ) : Type 0 where
  pub digits : List ℕ
  pub all : AllByRecursion (λ d. digit d < 10) digits
  pub start : v ≡ 0 → digits ≡ []
  pub enough : low ≤ value_after 10 v digits
  pub fits : value_after 10 v digits ≤ limit

reached_now : (limit low v : ℕ) → low ≤ v → v ≤ limit → Reached limit low v
unfolding value_after
reached_now limit low v enough fits = record { digits = []; all = tt; start = λ z. refl; enough = enough; fits = fits }

reached_before : (limit low v : ℕ) → 0 < v / 10 → Reached limit low v → Reached limit low (v / 10)
unfolding value_after
reached_before limit low v some w =
    let d = digit-decimal (v % 10) (omega arith) in
    let same : v ≡ v / 10 * 10 + digit (48 + v % 10) = omega (arith, d) in
    record {
      digits = (48 + v % 10) ∷ w.digits;
      all = (omega (arith, d), w.all);
      start = λ z. absurd (omega (arith, z, some));
      enough = subst (λ (k : ℕ). low ≤ value_after 10 k w.digits) same w.enough;
      fits = subst (λ (k : ℕ). value_after 10 k w.digits ≤ limit) same w.fits;
    }

reached_fits : (limit low v : ℕ) → Reached limit low v → v ≤ limit
reached_fits limit low v w = omega (arith, value_grows 10 v (omega arith) w.digits, w.fits)

record Among (limit low least greatest : ℕ) : Type 0 where
  pub number : ℕ
  pub lower : least ≤ number
  pub upper : number ≤ greatest
  pub reached : Reached limit low number

among_now : (limit low least greatest : ℕ) → low ≤ limit → least ≤ greatest → least ≤ limit → low ≤ greatest → Among limit low least greatest
among_now limit low least greatest small order fits enough = go (leb low least) refl
  where
    go : (b : Bool) → leb low least ≡ b → Among limit low least greatest
    go true e = record { number = least; lower = omega arith; upper = order; reached = reached_now limit low least (leb-true low least e) fits }
    go false e = record { number = low; lower = omega (arith, leb-false low least e); upper = enough; reached = reached_now limit low low (omega arith) small }

among : (limit k low least greatest : ℕ) → low ≤ limit → 0 < least → least ≤ greatest → reaches_at limit k low least greatest ≡ true → Among limit low least greatest
unfolding reaches_at
among limit zero low least greatest small some order e = absurd cc
among limit (suc k) low least greatest small some order e =
    elim (chosen (ltb limit least) false (cond (leb low greatest) true (reaches_at limit k low (least * 10) (greatest * 10 + 9))) true e) [
      | inl w ↦ absurd cc
      | inr w ↦ elim (chosen (leb low greatest) true (reaches_at limit k low (least * 10) (greatest * 10 + 9)) true w.1) [
        | inl u ↦ among_now limit low least greatest small order (ltb-false limit least w.0) (leb-true low greatest u.0)
        | inr u ↦
            let r = among limit k low (least * 10) (greatest * 10 + 9) small (omega arith) (omega arith) u.1 in
            let lower = r.lower in
            let upper = r.upper in
            record { number = r.number / 10; lower = omega arith; upper = omega arith; reached = reached_before limit low r.number (omega arith) r.reached }
      ]
    ]

either_true : (b x : Bool) → x ≡ true → cond b true x ≡ true
either_true true x e = refl
either_true false x e = e

reaches : (limit k low least greatest v : ℕ) (ds : List ℕ) → limit < tens k least → least ≤ v → v ≤ greatest → AllByRecursion (λ d. digit d < 10) ds → low ≤ value_after 10 v ds → value_after 10 v ds ≤ limit → reaches_at limit k low least greatest ≡ true
unfolding reaches_at value_after
reaches limit zero low least greatest v ds over lower upper all enough fits = absurd (omega (arith, over, lower, value_grows 10 v (omega arith) ds, fits))
reaches limit (suc k) low least greatest v [] over lower upper all enough fits = rw (le-ltb limit least (omega (arith, lower, fits)), le-leb low greatest (omega (arith, enough, upper))) refl
reaches limit (suc k) low least greatest v (d ∷ ds) over lower upper all enough fits =
    let within : least ≤ limit = omega (arith, lower, value_grows 10 (v * 10 + digit d) (omega arith) ds, fits) in
    let more = reaches limit k low (least * 10) (greatest * 10 + 9) (v * 10 + digit d) ds over (omega (arith, lower)) (omega (arith, all.0, upper)) all.1 enough fits in
    rw (le-ltb limit least within) (either_true (leb low greatest) (reaches_at limit k low (least * 10) (greatest * 10 + 9)) more)

reaches_one : (limit k low v : ℕ) → limit < tens k 1 → 0 < v → Reached limit low v → reaches_at limit k low v v ≡ true
reaches_one limit k low v bound some w = reaches limit k low v v v w.digits (omega (arith, bound, tens_grow k 1 v some)) (omega arith) (omega arith) w.all w.enough w.fits

reached_one : (limit k low v : ℕ) → low ≤ limit → 0 < v → reaches_at limit k low v v ≡ true → Reached limit low v
reached_one limit k low v small some e =
    let r = among limit k low v v small some (omega arith) e in
    let lower = r.lower in
    let upper = r.upper in
    let same : r.number ≡ v = omega arith in
    subst (λ (n : ℕ). Reached limit low n) same r.reached

-- ---- the first digit, and one more

starts_true : (limit k low c : ℕ) → low ≤ limit → starts_at limit k low c ≡ true → (digit c < 10) × Reached limit low (digit c)
unfolding starts_at
starts_true limit k low c small e =
    let t = and_parts (ltb (digit c) 10) (cond (eqb (digit c) 0) (eqb low 0) (reaches_at limit k low (digit c) (digit c))) e in
    elim (chosen (eqb (digit c) 0) (eqb low 0) (reaches_at limit k low (digit c) (digit c)) true t.1) [
      | inl w ↦ let none = eqb-true low 0 w.1 in (ltb-true _ _ t.0, reached_now limit low (digit c) (omega (arith, none)) (omega (arith, eqb-true (digit c) 0 w.0)))
      | inr w ↦ (ltb-true _ _ t.0, reached_one limit k low (digit c) small (omega (arith, eqb-false (digit c) 0 w.0)) w.1)
    ]

may_start : (limit k low c : ℕ) → limit < tens k 1 → digit c < 10 → Reached limit low (digit c) → starts_at limit k low c ≡ true
unfolding starts_at value_after
may_start limit k low c bound is w = and_from (ltb (digit c) 10) (cond (eqb (digit c) 0) (eqb low 0) (reaches_at limit k low (digit c) (digit c))) (lt-ltb _ _ is) (go (eqb (digit c) 0) refl)
  where
    none : (v : ℕ) (ds : List ℕ) → v ≡ 0 → ds ≡ [] → low ≤ value_after 10 v ds → low ≡ 0
    none v [] z e le = omega (arith, le, z)
    none v (d ∷ ds) z e le = absurd cc

    go : (b : Bool) → eqb (digit c) 0 ≡ b → cond b (eqb low 0) (reaches_at limit k low (digit c) (digit c)) ≡ true
    go true e = let z = eqb-true (digit c) 0 e in eq-eqb low 0 (none (digit c) w.digits z (w.start z) w.enough)
    go false e = reaches_one limit k low (digit c) bound (omega (arith, eqb-false (digit c) 0 e)) w

record Follows (limit low n c : ℕ) : Type 0 where
  pub is_digit : digit c < 10
  pub some : 0 < n
  pub reached : Reached limit low (n * 10 + digit c)

follows_true : (limit k low n c : ℕ) → low ≤ limit → follows_at limit k low n c ≡ true → Follows limit low n c
unfolding follows_at
follows_true limit k low n c small e =
    let a = and_parts (ltb (digit c) 10 && ltb 0 n) (reaches_at limit k low (n * 10 + digit c) (n * 10 + digit c)) e in
    let b = and_parts (ltb (digit c) 10) (ltb 0 n) a.0 in
    let some : 0 < n = ltb-true _ _ b.1 in
    record { is_digit = ltb-true _ _ b.0; some = some; reached = reached_one limit k low (n * 10 + digit c) small (omega arith) a.1 }

may_follow : (limit k low n c : ℕ) → limit < tens k 1 → digit c < 10 → 0 < n → Reached limit low (n * 10 + digit c) → follows_at limit k low n c ≡ true
unfolding follows_at
may_follow limit k low n c bound is some w =
    and_from (ltb (digit c) 10 && ltb 0 n) (reaches_at limit k low (n * 10 + digit c) (n * 10 + digit c)) (and_from (ltb (digit c) 10) (ltb 0 n) (lt-ltb _ _ is) (lt-ltb _ _ some)) (reaches_one limit k low (n * 10 + digit c) bound (omega arith) w)

-- ---- the rest of a number

-- digits behind n and the end of the line, that make a number from low on
abbrev LowRest : (limit low n : ℕ) → List ℕ → ℕ → Type 0
LowRest limit low n text m = IsRest 10 limit 10 n text m × (low ≤ m)

-- a number from low on, and the end of the line
abbrev pub LowNumber : (limit low : ℕ) → List ℕ → ℕ → Type 0
LowNumber limit low text m = IsNumber 10 limit 10 text m × (low ≤ m)

rest_reached : (limit low n : ℕ) (text : List ℕ) (m : ℕ) → LowRest limit low n text m → Reached limit low n
rest_reached limit low n text m w =
    let r = w.0 in
    record { digits = r.digits; all = r.all; start = r.start; enough = subst (λ (k : ℕ). low ≤ k) (sym r.value) w.1; fits = subst (λ (k : ℕ). k ≤ limit) (sym r.value) r.fits }

reached_goes : (limit low n : ℕ) → Reached limit low n → GoesOn (LowRest limit low n) []
reached_goes limit low n w = record { more = w.digits ++ 10 ∷ []; value = value_after 10 n w.digits; text = (record { digits = w.digits; all = w.all; start = w.start; value = refl; fits = w.fits; parts = refl }, w.enough) }

ended : (limit n : ℕ) → n ≤ limit → IsRest 10 limit 10 n (10 ∷ []) n
unfolding value_after
ended limit n fits = record { digits = []; all = tt; start = λ z. refl; value = refl; fits = fits; parts = refl }

push : (limit n c : ℕ) (text : List ℕ) (m : ℕ) → digit c < 10 → 0 < n → IsRest 10 limit 10 (n * 10 + digit c) text m → IsRest 10 limit 10 n (c ∷ text) m
unfolding value_after
push limit n c text m is some w = record { digits = c ∷ w.digits; all = (is, w.all); start = λ z. absurd (omega (arith, z, some)); value = w.value; fits = w.fits; parts = ap (λ (t : List ℕ). c ∷ t) w.parts }

record Peeled (limit n c : ℕ) (text : List ℕ) (m : ℕ) : Type 0 where
  pub is_digit : digit c < 10
  pub some : 0 < n
  pub rest : IsRest 10 limit 10 (n * 10 + digit c) text m

peel : (limit n c : ℕ) (text : List ℕ) (m : ℕ) → IsRest 10 limit 10 n (c ∷ text) m → (c ≡ 10 → ⊥) → Peeled limit n c text m
unfolding value_after
peel limit n c text m w other = go w.digits w.all w.start w.value w.parts
  where
    go : (ds : List ℕ) → AllByRecursion (λ d. digit d < 10) ds → (n ≡ 0 → ds ≡ []) → value_after 10 n ds ≡ m → (c ∷ text) ≡ ds ++ 10 ∷ [] → Peeled limit n c text m
    go [] all start value parts = absurd (other cc)
    go (d ∷ ds) all start value parts =
        let same : d ≡ c = cc in
        let rest : text ≡ ds ++ 10 ∷ [] = cc in
        let some : n ≡ 0 → ⊥ = (λ z. let e = start z in cc) in
        let next : n * 10 + digit d ≡ n * 10 + digit c = ap (λ (k : ℕ). n * 10 + digit k) same in
        record {
          is_digit = subst (λ (k : ℕ). digit k < 10) same all.0;
          some = omega (arith, some);
          rest = record { digits = ds; all = all.1; start = λ z. absurd (some (omega (arith, z))); value = ap (λ (k : ℕ). value_after 10 k ds) (sym next) ∙ value; fits = w.fits; parts = rest };
        }

ends_there : (limit n c : ℕ) (text : List ℕ) (m : ℕ) → c ≡ 10 → IsRest 10 limit 10 n (c ∷ text) m → n ≡ m
unfolding value_after
ends_there limit n c text m end w = go w.digits w.all w.value w.parts
  where
    go : (ds : List ℕ) → AllByRecursion (λ d. digit d < 10) ds → value_after 10 n ds ≡ m → (c ∷ text) ≡ ds ++ 10 ∷ [] → n ≡ m
    go [] all value parts = value
    go (d ∷ ds) all value parts = let same : d ≡ 10 = cc in absurd (omega (arith, ap digit same, all.0))

rest_found : (limit k low n : ℕ) (bytes : List ℕ) (m : ℕ) (rest : List ℕ) → low ≤ limit → n ≤ limit → offset_rest_at limit k low n bytes ≡ Ok (m, rest) → Begins (LowRest limit low n) bytes m rest
unfolding offset_rest_at
rest_found limit k low n [] m rest small fits e = absurd cc
rest_found limit k low n (c ∷ cs) m rest small fits e =
    elim (chosen (eqb c 10) (cond (leb low n) (Ok (n, cs)) (Err (suc (length cs)))) (cond (follows_at limit k low n c) (offset_rest_at limit k low (n * 10 + digit c) cs) (Err (suc (length cs)))) (Ok (m, rest)) e) [
      | inl w ↦ elim (chosen (leb low n) (Ok (n, cs)) (Err (suc (length cs))) (Ok (m, rest)) w.1) [
        | inl u ↦
            let same = pair_same n m cs rest u.1 in
            record { front = 10 ∷ []; text = subst (λ (j : ℕ). LowRest limit low n (10 ∷ []) j) same.0 (ended limit n fits, leb-true low n u.0); parts = rw (eqb-true c 10 w.0, same.1) refl }
        | inr u ↦ absurd cc
      ]
      | inr w ↦ elim (chosen (follows_at limit k low n c) (offset_rest_at limit k low (n * 10 + digit c) cs) (Err (suc (length cs))) (Ok (m, rest)) w.1) [
        | inl v ↦
            let g = follows_true limit k low n c small v.0 in
            let f = rest_found limit k low (n * 10 + digit c) cs m rest small (reached_fits limit low (n * 10 + digit c) g.reached) v.1 in
            record { front = c ∷ f.front; text = (push limit n c f.front m g.is_digit g.some f.text.0, f.text.1); parts = ap (λ (t : List ℕ). c ∷ t) f.parts }
        | inr v ↦ absurd cc
      ]
    ]

rest_again : (limit k low : ℕ) → limit < tens k 1 → (ds : List ℕ) (n m : ℕ) (rest : List ℕ) → AllByRecursion (λ d. digit d < 10) ds → (n ≡ 0 → ds ≡ []) → value_after 10 n ds ≡ m → m ≤ limit → low ≤ m → offset_rest_at limit k low n ((ds ++ 10 ∷ []) ++ rest) ≡ Ok (m, rest)
unfolding offset_rest_at value_after
rest_again limit k low bound [] n m rest all start value fits enough = rw (le-leb low n (omega (arith, value, enough))) (ap (λ (j : ℕ). Ok (j, rest)) value)
rest_again limit k low bound (d ∷ ds) n m rest all start value fits enough =
    let other : eqb d 10 ≡ false = ne_eqb d 10 (λ s. omega (arith, ap digit s, all.0)) in
    let some : n ≡ 0 → ⊥ = (λ z. let e = start z in cc) in
    let next : n * 10 + digit d ≡ 0 → ds ≡ [] = (λ z. absurd (some (omega (arith, z)))) in
    let reached : Reached limit low (n * 10 + digit d) = record { digits = ds; all = all.1; start = next; enough = subst (λ (j : ℕ). low ≤ j) (sym value) enough; fits = subst (λ (j : ℕ). j ≤ limit) (sym value) fits } in
    let follows : follows_at limit k low n d ≡ true = may_follow limit k low n d bound all.0 (omega (arith, some)) reached in
    rw (other, follows) (rest_again limit k low bound ds (n * 10 + digit d) m rest all.1 next value fits enough)

rest_behind : (limit low n c : ℕ) (front after : List ℕ) → (c ≡ 10 → ⊥) → IsBlocked (LowRest limit low (n * 10 + digit c)) front after → IsBlocked (LowRest limit low n) (c ∷ front) after
rest_behind limit low n c front [] other blocked = tt
rest_behind limit low n c front (b ∷ bs) other blocked = λ g. blocked (record { more = g.more; value = g.value; text = ((peel limit n c ((front ++ b ∷ []) ++ g.more) g.value g.text.0 other).rest, g.text.1) })

rest_fault : (limit k low : ℕ) → limit < tens k 1 → low ≤ limit → (n : ℕ) (bytes : List ℕ) (left : ℕ) → Reached limit low n → offset_rest_at limit k low n bytes ≡ Err left → Stops (LowRest limit low n) bytes left
unfolding offset_rest_at
rest_fault limit k low bound small n [] left r e = record { front = []; after = []; parts = refl; count = err_same 0 left e; goes_on = reached_goes limit low n r; blocked = tt }
rest_fault limit k low bound small n (c ∷ cs) left r e =
    elim (chosen (eqb c 10) (cond (leb low n) (Ok (n, cs)) (Err (suc (length cs)))) (cond (follows_at limit k low n c) (offset_rest_at limit k low (n * 10 + digit c) cs) (Err (suc (length cs)))) (Err left) e) [
      | inl w ↦ elim (chosen (leb low n) (Ok (n, cs)) (Err (suc (length cs))) (Err left) w.1) [
        | inl u ↦ absurd cc
        | inr u ↦ record {
          front = [];
          after = c ∷ cs;
          parts = refl;
          count = err_same (suc (length cs)) left u.1;
          goes_on = reached_goes limit low n r;
          blocked = λ g. let same = ends_there limit n c g.more g.value (eqb-true c 10 w.0) g.text.0 in omega (arith, same, g.text.1, leb-false low n u.0);
        }
      ]
      | inr w ↦ elim (chosen (follows_at limit k low n c) (offset_rest_at limit k low (n * 10 + digit c) cs) (Err (suc (length cs))) (Err left) w.1) [
        | inl v ↦
            let g = follows_true limit k low n c small v.0 in
            let f = rest_fault limit k low bound small (n * 10 + digit c) cs left g.reached v.1 in
            record {
              front = c ∷ f.front;
              after = f.after;
              parts = ap (λ (t : List ℕ). c ∷ t) f.parts;
              count = f.count;
              goes_on = record { more = f.goes_on.more; value = f.goes_on.value; text = (push limit n c (f.front ++ f.goes_on.more) f.goes_on.value g.is_digit g.some f.goes_on.text.0, f.goes_on.text.1) };
              blocked = rest_behind limit low n c f.front f.after (eqb-false c 10 w.0) f.blocked;
            }
        | inr v ↦ record {
          front = [];
          after = c ∷ cs;
          parts = refl;
          count = err_same (suc (length cs)) left v.1;
          goes_on = reached_goes limit low n r;
          blocked = λ g.
              let p = peel limit n c g.more g.value g.text.0 (eqb-false c 10 w.0) in
              both_ways _ v.0 (may_follow limit k low n c bound p.is_digit p.some (rest_reached limit low (n * 10 + digit c) g.more g.value (p.rest, g.text.1)));
        }
      ]
    ]

-- ---- a whole number

number_of : (limit c : ℕ) (text : List ℕ) (n : ℕ) → digit c < 10 → IsRest 10 limit 10 (digit c) text n → IsNumber 10 limit 10 (c ∷ text) n
unfolding value_after
number_of limit c text n is w =
    let zeroed : 0 * 10 + digit c ≡ digit c = omega arith in
    record { digits = c ∷ w.digits; numeral = ((is, w.all), w.start, ap (λ (k : ℕ). value_after 10 k w.digits) zeroed ∙ w.value); fits = w.fits; parts = ap (λ (t : List ℕ). c ∷ t) w.parts }

record Begun (limit c : ℕ) (text : List ℕ) (n : ℕ) : Type 0 where
  pub is_digit : digit c < 10
  pub rest : IsRest 10 limit 10 (digit c) text n

number_rest : (limit c : ℕ) (text : List ℕ) (n : ℕ) → IsNumber 10 limit 10 (c ∷ text) n → Begun limit c text n
unfolding value_after
number_rest limit c text n w = go w.digits w.numeral w.parts
  where
    go : (ds : List ℕ) → IsNumeral 10 ds n → (c ∷ text) ≡ ds ++ 10 ∷ [] → Begun limit c text n
    go [] numeral parts = absurd numeral
    go (d ∷ ds) numeral parts =
        let same : d ≡ c = cc in
        let rest : text ≡ ds ++ 10 ∷ [] = cc in
        let zeroed : 0 * 10 + digit d ≡ digit c = omega (arith, ap digit same) in
        record {
          is_digit = subst (λ (k : ℕ). digit k < 10) same numeral.0.0;
          rest = record { digits = ds; all = numeral.0.1; start = λ z. numeral.1 (ap digit same ∙ z); value = ap (λ (k : ℕ). value_after 10 k ds) (sym zeroed) ∙ numeral.2; fits = w.fits; parts = rest };
        }

pub decimal_line : (limit n : ℕ) → n ≤ limit → n < 2 ^ 64 → IsNumber 10 limit 10 (decimal n ++ 10 ∷ []) n
decimal_line limit n fits lt = record { digits = decimal n; numeral = decimal_numeral n lt; fits = fits; parts = refl }

pub offset_reads : (limit k low : ℕ) → limit < tens k 1 → limit < 2 ^ 64 → low ≤ limit → (n : ℕ) → Reads n (LowNumber limit low) (offset_at limit k low)
unfolding offset_at
offset_reads limit k low bound sized small n = record {
  some = some;
  found = λ bytes m rest lt e. found bytes m rest e;
  again = λ text m rest lt w. again text m rest w;
  fault = λ bytes left lt e. fault bytes left e;
}
  where
    some : GoesOn (LowNumber limit low) []
    some = record { more = decimal low ++ 10 ∷ []; value = low; text = (decimal_line limit low small (omega (arith, small, sized)), omega arith) }

    found : (bytes : List ℕ) (m : ℕ) (rest : List ℕ) → offset_at limit k low bytes ≡ Ok (m, rest) → Begins (LowNumber limit low) bytes m rest
    found [] m rest e = absurd cc
    found (c ∷ cs) m rest e = elim (chosen (starts_at limit k low c) (offset_rest_at limit k low (digit c) cs) (Err (suc (length cs))) (Ok (m, rest)) e) [
      | inl v ↦
          let g = starts_true limit k low c small v.0 in
          let f = rest_found limit k low (digit c) cs m rest small (reached_fits limit low (digit c) g.1) v.1 in
          record { front = c ∷ f.front; text = (number_of limit c f.front m g.0 f.text.0, f.text.1); parts = ap (λ (t : List ℕ). c ∷ t) f.parts }
      | inr v ↦ absurd cc
    ]

    again : (text : List ℕ) (m : ℕ) (rest : List ℕ) → LowNumber limit low text m → offset_at limit k low (text ++ rest) ≡ Ok (m, rest)
    again [] m rest w = absurd (no_number 10 limit 10 m w.0)
    again (c ∷ text) m rest w =
        let b = number_rest limit c text m w.0 in
        let r = b.rest in
        let starts : starts_at limit k low c ≡ true = may_start limit k low c bound b.is_digit (rest_reached limit low (digit c) text m (r, w.1)) in
        rw (starts, r.parts) (rest_again limit k low bound r.digits (digit c) m rest r.all r.start r.value r.fits w.1)

    behind : (c : ℕ) (front after : List ℕ) → IsBlocked (LowRest limit low (digit c)) front after → IsBlocked (LowNumber limit low) (c ∷ front) after
    behind c front [] blocked = tt
    behind c front (b ∷ bs) blocked = λ g. blocked (record { more = g.more; value = g.value; text = ((number_rest limit c ((front ++ b ∷ []) ++ g.more) g.value g.text.0).rest, g.text.1) })

    fault : (bytes : List ℕ) (left : ℕ) → offset_at limit k low bytes ≡ Err left → Stops (LowNumber limit low) bytes left
    fault [] left e = record { front = []; after = []; parts = refl; count = err_same 0 left e; goes_on = some; blocked = tt }
    fault (c ∷ cs) left e = elim (chosen (starts_at limit k low c) (offset_rest_at limit k low (digit c) cs) (Err (suc (length cs))) (Err left) e) [
      | inl v ↦
          let g = starts_true limit k low c small v.0 in
          let f = rest_fault limit k low bound small (digit c) cs left g.1 v.1 in
          record {
            front = c ∷ f.front;
            after = f.after;
            parts = ap (λ (t : List ℕ). c ∷ t) f.parts;
            count = f.count;
            goes_on = record { more = f.goes_on.more; value = f.goes_on.value; text = (number_of limit c (f.front ++ f.goes_on.more) f.goes_on.value g.0 f.goes_on.text.0, f.goes_on.text.1) };
            blocked = behind c f.front f.after f.blocked;
          }
      | inr v ↦ record {
        front = [];
        after = c ∷ cs;
        parts = refl;
        count = err_same (suc (length cs)) left v.1;
        goes_on = some;
        blocked = λ g.
            let p = number_rest limit c g.more g.value g.text.0 in
            both_ways (starts_at limit k low c) v.0 (may_start limit k low c bound p.is_digit (rest_reached limit low (digit c) g.more g.value (p.rest, g.text.1)));
      }
    ]

-- a line that is a number from low on is read at once
pub offset_plain : (limit k low : ℕ) → limit < tens k 1 → limit < 2 ^ 64 → low ≤ limit → (bytes : List ℕ) (n : ℕ) (rest : List ℕ) → number_at 10 limit 10 bytes ≡ Ok (n, rest) → low ≤ n → offset_at limit k low bytes ≡ Ok (n, rest)
offset_plain limit k low bound sized small bytes n rest e enough =
    let w = (number_reads 10 limit 10 (suc (length bytes)) (omega arith) (omega arith)).found bytes n rest (omega arith) e in
    ap (offset_at limit k low) w.parts ∙ (offset_reads limit k low bound sized small (suc (length (w.front ++ rest)))).again w.front n rest (omega arith) (w.text, enough)
