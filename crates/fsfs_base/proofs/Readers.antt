-- Laws of exact readers, for each way to put parts together.
use Rattle.std.proofs.Common.{◌≡◌, ℕ, zero, suc, ◌+◌, ◌-◌, ◌<◌, ◌≤◌, Bool, true, false, cond, eqb, ltb, List, [], ◌∷◌, ◌++◌, length, take, drop, replicate, Result, Ok, Err, refl, sym, ap, subst, ◌∙◌, append_assoc, arith, inl, inr, ◌⊎◌}
use Rattle.std.proofs.lemmas.List.{append-nil, nil_from_length, length-append, take_at, drop_at, take-append-drop, length-take, length-replicate}
use Rattle.std.proofs.lemmas.Bool.{ltb-false, ltb-true, le-ltb, eqb-true, eqb-false, eq-eqb, ne_eqb}
use Rattle.fsfs_base.specs.Grammar.Relations.{GoesOn, IsFaultAt, Begins, IsBlocked, Stops, Then, IsText, AreBytes, Mapped, Either, Until, Maybe, Appends, begins, Except, Choice, Anything, Many}
use Rattle.fsfs_base.specs.Grammar.Reading.{◌>>=◌, text_at, bytes_at, whole, until_at, many_at}

-- r reads G exactly, of fewer than n bytes
pub record Reads {X : Type 0} (n : ℕ) (G : List ℕ → X → Type 0) (r : List ℕ → Result (X × List ℕ) ℕ) : Type 0 where
  pub found : (bytes : List ℕ) (x : X) (rest : List ℕ) → length bytes < n → r bytes ≡ Ok (x, rest) → Begins G bytes x rest
  pub again : (text : List ℕ) (x : X) (rest : List ℕ) → length (text ++ rest) < n → G text x → r (text ++ rest) ≡ Ok (x, rest)
  pub fault : (bytes : List ℕ) (left : ℕ) → length bytes < n → r bytes ≡ Err left → Stops G bytes left
  pub some : GoesOn G []

-- the value of a step that did not fail, or where it failed
pub bind_ok : {A B : Type 0} (r : Result A ℕ) (f : A → Result B ℕ) (y : B) → (r >>= f) ≡ Ok y → (x : A) × (r ≡ Ok x) × (f x ≡ Ok y)
bind_ok (Ok x) f y e = (x, refl, e)
bind_ok (Err d) f y e = absurd cc

pub bind_err : {A B : Type 0} (r : Result A ℕ) (f : A → Result B ℕ) (left : ℕ) → (r >>= f) ≡ Err left → (r ≡ Err left) ⊎ ((x : A) × (r ≡ Ok x) × (f x ≡ Err left))
bind_err (Ok x) f left e = inr (x, refl, e)
bind_err {A} {B} (Err d) f left e = inl (ap (λ (s : Result B ℕ). elim s as (λ _. Result A ℕ) [ Ok y ↦ Err 0 | Err k ↦ Err k ]) e)

-- two fronts of one list: one goes on to the other
pub fronts : (p q s t : List ℕ) → p ++ q ≡ s ++ t → ((m : List ℕ) × (s ≡ p ++ m) × (q ≡ m ++ t)) ⊎ ((m : List ℕ) × (p ≡ s ++ m) × (t ≡ m ++ q))
fronts [] q s t e = inl (s, refl, e)
fronts (a ∷ p) q [] t e = inr (a ∷ p, refl, sym e)
fronts (a ∷ p) q (b ∷ s) t e =
    let same : a ≡ b = cc in
    let rest : p ++ q ≡ s ++ t = cc in
    elim (fronts p q s t rest) [
      | inl w ↦ inl (w.0, rw (sym same, w.1) refl, w.2)
      | inr w ↦ inr (w.0, rw (same, w.1) refl, w.2)
    ]

abbrev done : {A : Type 0} → A → Result A ℕ
done x = Ok x

pub ok_is : {A : Type 0} (x y : A) → done x ≡ done y → x ≡ y
ok_is x y e = cc

pub pair_same : {A B : Type 0} (a c : A) (b d : B) → done {A = A × B} (a, b) ≡ done {A = A × B} (c, d) → (a ≡ c) × (b ≡ d)
pair_same {A} {B} a c b d e = let p = ok_is {A = A × B} (a, b) (c, d) e in (ap (λ (q : A × B). q.0) p, ap (λ (q : A × B). q.1) p)

-- no text begins another
pub one_front : {X : Type 0} {G : List ℕ → X → Type 0} {r : List ℕ → Result (X × List ℕ) ℕ} → ((n : ℕ) → Reads n G r) → (s t p q : List ℕ) (x y : X) → G s x → G t y → s ++ p ≡ t ++ q → (x ≡ y) × (p ≡ q)
one_front {X} {G} {r} reads s t p q x y gs gt e =
    let n = suc (length (s ++ p)) in
    let one : r (s ++ p) ≡ Ok (x, p) = (reads n).again s x p (omega arith) gs in
    let short : length (t ++ q) < n = omega (arith, ap length e) in
    let two : r (t ++ q) ≡ Ok (y, q) = (reads n).again t y q short gt in
    pair_same x y p q (sym one ∙ ap r e ∙ two)

-- a choice that is known
pub chosen : {A : Type 0} (b : Bool) (x y z : A) → cond b x y ≡ z → ((b ≡ true) × (x ≡ z)) ⊎ ((b ≡ false) × (y ≡ z))
chosen true x y z e = inl (refl, e)
chosen false x y z e = inr (refl, e)

pub err_same : {A : Type 0} (j k : ℕ) → (let l : Result A ℕ = Err j in l) ≡ Err k → j ≡ k
err_same {A} j k e = ap (λ (s : Result A ℕ). elim s as (λ _. ℕ) [ Ok y ↦ 0 | Err m ↦ m ]) e

-- ---- one part after another

blocked_first : {X Y : Type 0} (n : ℕ) (G : List ℕ → X → Type 0) (r : List ℕ → Result (X × List ℕ) ℕ) (H : X → List ℕ → Y → Type 0)
    → Reads n G r → (bytes front after : List ℕ) (left : ℕ) → length bytes < n → r bytes ≡ Err left → bytes ≡ front ++ after → IsBlocked G front after → IsBlocked (Then G H) front after
blocked_first n G r H reads bytes front [] left lt e parts blocked = tt
blocked_first n G r H reads bytes front (b ∷ bs) left lt e parts blocked = λ goes.
    let w = goes.text in
    elim (fronts (front ++ b ∷ []) goes.more w.first w.second w.parts) [
      | inl m ↦ blocked (record { more = m.0; value = w.between; text = subst (λ (t : List ℕ). G t w.between) m.1 w.first_is })
      | inr m ↦
          let regroup : bytes ≡ w.first ++ (m.0 ++ bs) = parts ∙ sym (append_assoc front (b ∷ []) bs) ∙ ap (λ (t : List ℕ). t ++ bs) m.1 ∙ append_assoc w.first m.0 bs in
          let read : r (w.first ++ (m.0 ++ bs)) ≡ Ok (w.between, m.0 ++ bs) = reads.again w.first w.between (m.0 ++ bs) (omega (arith, lt, ap length regroup)) w.first_is in
          let clash : r bytes ≡ Ok (w.between, m.0 ++ bs) = ap r regroup ∙ read in
          cc
    ]

blocked_second : {X Y : Type 0} (G : List ℕ → X → Type 0) (r : List ℕ → Result (X × List ℕ) ℕ) (H : X → List ℕ → Y → Type 0)
    → ((k : ℕ) → Reads k G r) → (text front after : List ℕ) (x : X) → G text x → IsBlocked (H x) front after → IsBlocked (Then G H) (text ++ front) after
blocked_second {X} {Y} G r H reads text front [] x g blocked = tt
blocked_second {X} {Y} G r H reads text front (b ∷ bs) x g blocked = λ goes.
    let w = goes.text in
    let regroup : text ++ ((front ++ b ∷ []) ++ goes.more) ≡ w.first ++ w.second =
    sym (append_assoc text (front ++ b ∷ []) goes.more) ∙ ap (λ (t : List ℕ). t ++ goes.more) (sym (append_assoc text front (b ∷ []))) ∙ w.parts in
    let same = one_front reads text w.first ((front ++ b ∷ []) ++ goes.more) w.second x w.between g w.first_is regroup in
    blocked (record { more = goes.more; value = goes.value; text = subst (λ (p : X × List ℕ). H p.0 p.1 goes.value) (let e : (w.between, w.second) ≡ (x, (front ++ b ∷ []) ++ goes.more) = cc in e) w.second_is })

then_some : {X Y : Type 0} {G : List ℕ → X → Type 0} {H : X → List ℕ → Y → Type 0} → GoesOn G [] → ((x : X) → GoesOn (H x) []) → GoesOn (Then G H) []
then_some g h = let w = h g.value in record { more = g.more ++ w.more; value = w.value; text = record { first = g.more; second = w.more; between = g.value; first_is = g.text; second_is = w.text; parts = refl } }

pub then_reads : {X Y : Type 0} {m n : ℕ} {G : List ℕ → X → Type 0} {r : List ℕ → Result (X × List ℕ) ℕ} {H : X → List ℕ → Y → Type 0} {s : X → List ℕ → Result (Y × List ℕ) ℕ}
    → ((k : ℕ) → Reads k G r) → ((x : X) → Reads m (H x) (s x)) → ((t : List ℕ) (x : X) (k : ℕ) → G t x → length t + k < n → k < m)
    → Reads n (Then G H) (λ bytes. r bytes >>= λ p. s p.0 p.1)
then_reads {X} {Y} {m} {n} {G} {r} {H} {s} first second shrinks = record {
  some = then_some (first n).some (λ x. (second x).some);
  found = λ bytes y rest lt e.
      let b = bind_ok (r bytes) (λ p. s p.0 p.1) (y, rest) e in
      let f = (first n).found bytes b.0.0 b.0.1 lt b.1 in
      let short = shrinks f.front b.0.0 (length b.0.1) f.text (omega (arith, lt, ap length f.parts, length-append f.front b.0.1)) in
      let g = (second b.0.0).found b.0.1 y rest short b.2 in
      record {
        front = f.front ++ g.front;
        text = record { first = f.front; second = g.front; between = b.0.0; first_is = f.text; second_is = g.text; parts = refl };
        parts = f.parts ∙ ap (λ (t : List ℕ). f.front ++ t) g.parts ∙ sym (append_assoc f.front g.front rest);
      };
  again = λ text y rest lt w.
      let regroup : text ++ rest ≡ w.first ++ (w.second ++ rest) = ap (λ (t : List ℕ). t ++ rest) w.parts ∙ append_assoc w.first w.second rest in
      let size : length w.first + length (w.second ++ rest) < n = omega (arith, lt, ap length regroup, length-append w.first (w.second ++ rest)) in
      let one : r (w.first ++ (w.second ++ rest)) ≡ Ok (w.between, w.second ++ rest) = (first n).again w.first w.between (w.second ++ rest) (omega (arith, lt, ap length regroup)) w.first_is in
      let two : s w.between (w.second ++ rest) ≡ Ok (y, rest) = (second w.between).again w.second y rest (shrinks w.first w.between (length (w.second ++ rest)) w.first_is size) w.second_is in
      ap (λ (t : List ℕ). r t >>= λ p. s p.0 p.1) regroup ∙ rw one two;
  fault = λ bytes left lt e.
      elim (bind_err (r bytes) (λ p. s p.0 p.1) left e) [
        | inl stop ↦
            let f = (first n).fault bytes left lt stop in
            let g = f.goes_on in
            let c = (second g.value).some in
            record {
              front = f.front;
              after = f.after;
              parts = f.parts;
              count = f.count;
              goes_on = record {
                more = g.more ++ c.more;
                value = c.value;
                text = record { first = f.front ++ g.more; second = c.more; between = g.value; first_is = g.text; second_is = c.text; parts = sym (append_assoc f.front g.more c.more) };
              };
              blocked = blocked_first n G r H (first n) bytes f.front f.after left lt stop f.parts f.blocked;
            }
        | inr b ↦
            let f = (first n).found bytes b.0.0 b.0.1 lt b.1 in
            let short = shrinks f.front b.0.0 (length b.0.1) f.text (omega (arith, lt, ap length f.parts, length-append f.front b.0.1)) in
            let g = (second b.0.0).fault b.0.1 left short b.2 in
            record {
              front = f.front ++ g.front;
              after = g.after;
              parts = f.parts ∙ ap (λ (t : List ℕ). f.front ++ t) g.parts ∙ sym (append_assoc f.front g.front g.after);
              count = g.count;
              goes_on = record {
                more = g.goes_on.more;
                value = g.goes_on.value;
                text = record { first = f.front; second = g.front ++ g.goes_on.more; between = b.0.0; first_is = f.text; second_is = g.goes_on.text; parts = append_assoc f.front g.front g.goes_on.more };
              };
              blocked = blocked_second G r H first f.front g.front g.after b.0.0 f.text g.blocked;
            }
      ];
}

-- what blocks a wider grammar blocks a narrower one
pub blocked_by : {X Y : Type 0} (G : List ℕ → X → Type 0) (H : List ℕ → Y → Type 0) (front after : List ℕ) → ((t : List ℕ) (x : X) → G t x → (y : Y) × H t y) → IsBlocked H front after → IsBlocked G front after
blocked_by G H front [] to h = tt
blocked_by G H front (b ∷ bs) to h = λ g. let w = to ((front ++ b ∷ []) ++ g.more) g.value g.text in h (record { more = g.more; value = w.0; text = w.1 })

-- ---- another value, another name, a choice by the first byte

pub mapped_reads : {X Y : Type 0} {n : ℕ} {G : List ℕ → X → Type 0} {r : List ℕ → Result (X × List ℕ) ℕ} → (f : X → Y) → Reads n G r → Reads n (Mapped f G) (λ bytes. r bytes >>= λ p. Ok (f p.0, p.1))
mapped_reads {X} {Y} {n} {G} {r} f reads = record {
  some = let g = reads.some in record { more = g.more; value = f g.value; text = record { inner = g.value; inner_is = g.text; value_is = refl } };
  found = λ bytes y rest lt e.
      let b = bind_ok (r bytes) (λ p. Ok (f p.0, p.1)) (y, rest) e in
      let same = pair_same (f b.0.0) y b.0.1 rest b.2 in
      let w = reads.found bytes b.0.0 b.0.1 lt b.1 in
      record { front = w.front; text = record { inner = b.0.0; inner_is = w.text; value_is = sym same.0 }; parts = w.parts ∙ ap (λ (t : List ℕ). w.front ++ t) same.1 };
  again = λ text y rest lt w. rw (reads.again text w.inner rest lt w.inner_is) (ap (λ (z : Y). Ok (z, rest)) (sym w.value_is));
  fault = λ bytes left lt e.
      elim (bind_err (r bytes) (λ p. Ok (f p.0, p.1)) left e) [
        | inl stop ↦
            let w = reads.fault bytes left lt stop in
            record {
              front = w.front;
              after = w.after;
              parts = w.parts;
              count = w.count;
              goes_on = record { more = w.goes_on.more; value = f w.goes_on.value; text = record { inner = w.goes_on.value; inner_is = w.goes_on.text; value_is = refl } };
              blocked = blocked_by (Mapped f G) G w.front w.after (λ t y g. (g.inner, g.inner_is)) w.blocked;
            }
        | inr b ↦ absurd cc
      ];
}

pub same_reads : {X : Type 0} {n : ℕ} {G : List ℕ → X → Type 0} {r : List ℕ → Result (X × List ℕ) ℕ} → (H : List ℕ → X → Type 0) → ((t : List ℕ) (x : X) → G t x → H t x) → ((t : List ℕ) (x : X) → H t x → G t x) → Reads n G r → Reads n H r
same_reads {X} {n} {G} {r} H to from reads = record {
  some = let g = reads.some in record { more = g.more; value = g.value; text = to g.more g.value g.text };
  found = λ bytes x rest lt e. let w = reads.found bytes x rest lt e in record { front = w.front; text = to w.front x w.text; parts = w.parts };
  again = λ text x rest lt h. reads.again text x rest lt (from text x h);
  fault = λ bytes left lt e.
      let w = reads.fault bytes left lt e in
      record {
        front = w.front;
        after = w.after;
        parts = w.parts;
        count = w.count;
        goes_on = record { more = w.goes_on.more; value = w.goes_on.value; text = to (w.front ++ w.goes_on.more) w.goes_on.value w.goes_on.text };
        blocked = blocked_by H G w.front w.after (λ t x h. (x, from t x h)) w.blocked;
      };
}

begins_more : (k : ℕ) (text rest : List ℕ) → begins k text ≡ true → begins k (text ++ rest) ≡ true
begins_more k [] rest e = absurd cc
begins_more k (b ∷ bs) rest e = e

begins_some : (k : ℕ) (text : List ℕ) → begins k text ≡ true → 0 < length text
begins_some k [] e = absurd cc
begins_some k (b ∷ bs) e = omega arith

begins_not : (k : ℕ) (text rest : List ℕ) → (b : ℕ) (bs : List ℕ) → text ≡ b ∷ bs → eqb b k ≡ false → begins k (text ++ rest) ≡ false
begins_not k text rest b bs e ne = rw e ne

-- the first byte of a text that goes on from bytes which are not at their end is the first byte of the bytes
same_first : (k b : ℕ) (front bs more : List ℕ) → begins k ((front ++ b ∷ []) ++ more) ≡ begins k (front ++ b ∷ bs)
same_first k b [] bs more = refl
same_first k b (c ∷ front) bs more = refl

blocked_left : {X : Type 0} (k : ℕ) (G H : List ℕ → X → Type 0)
    → ((t : List ℕ) (x : X) → G t x → begins k t ≡ true)
    → ((t : List ℕ) (x : X) → H t x → (b : ℕ) × (bs : List ℕ) × (t ≡ b ∷ bs) × (eqb b k ≡ false))
    → (bytes front after : List ℕ) → begins k bytes ≡ true → bytes ≡ front ++ after → IsBlocked G front after → IsBlocked (Either G H) front after
blocked_left k G H left_first right_first bytes front [] is parts blocked = tt
blocked_left k G H left_first right_first bytes front (b ∷ bs) is parts blocked = λ goes.
    elim goes.text [
      | inl g ↦ blocked (record { more = goes.more; value = goes.value; text = g })
      | inr h ↦
          let w = right_first ((front ++ b ∷ []) ++ goes.more) goes.value h in
          let not_k : begins k ((front ++ b ∷ []) ++ goes.more) ≡ false = rw w.2 w.3 in
          let is_k : begins k ((front ++ b ∷ []) ++ goes.more) ≡ true = same_first k b front bs goes.more ∙ ap (begins k) (sym parts) ∙ is in
          cc
    ]

blocked_right : {X : Type 0} (k : ℕ) (G H : List ℕ → X → Type 0)
    → ((t : List ℕ) (x : X) → G t x → begins k t ≡ true)
    → ((t : List ℕ) (x : X) → H t x → (b : ℕ) × (bs : List ℕ) × (t ≡ b ∷ bs) × (eqb b k ≡ false))
    → (bytes front after : List ℕ) → begins k bytes ≡ false → bytes ≡ front ++ after → IsBlocked H front after → IsBlocked (Either G H) front after
blocked_right k G H left_first right_first bytes front [] is parts blocked = tt
blocked_right k G H left_first right_first bytes front (b ∷ bs) is parts blocked = λ goes.
    elim goes.text [
      | inl g ↦
          let is_k = left_first ((front ++ b ∷ []) ++ goes.more) goes.value g in
          let not_k : begins k ((front ++ b ∷ []) ++ goes.more) ≡ false = same_first k b front bs goes.more ∙ ap (begins k) (sym parts) ∙ is in
          cc
      | inr h ↦ blocked (record { more = goes.more; value = goes.value; text = h })
    ]

-- a text that begins with k, or one that begins with another byte
pub either_reads : {X : Type 0} {n : ℕ} {G H : List ℕ → X → Type 0} {r s : List ℕ → Result (X × List ℕ) ℕ} → (k : ℕ)
    → ((t : List ℕ) (x : X) → G t x → begins k t ≡ true)
    → ((t : List ℕ) (x : X) → H t x → (b : ℕ) × (bs : List ℕ) × (t ≡ b ∷ bs) × (eqb b k ≡ false))
    → Reads n G r → Reads n H s → Reads n (Either G H) (λ bytes. cond (begins k bytes) (r bytes) (s bytes))
either_reads {X} {n} {G} {H} {r} {s} k left_first right_first left_reads right_reads = record {
  some = let g = left_reads.some in record { more = g.more; value = g.value; text = inl g.text };
  found = λ bytes x rest lt e. elim (chosen (begins k bytes) (r bytes) (s bytes) (Ok (x, rest)) e) [
    | inl c ↦ let w = left_reads.found bytes x rest lt c.1 in record { front = w.front; text = inl w.text; parts = w.parts }
    | inr c ↦ let w = right_reads.found bytes x rest lt c.1 in record { front = w.front; text = inr w.text; parts = w.parts }
  ];
  again = λ text x rest lt g. elim g [
    | inl g ↦ rw (begins_more k text rest (left_first text x g)) (left_reads.again text x rest lt g)
    | inr h ↦ let w = right_first text x h in rw (begins_not k text rest w.0 w.1 w.2 w.3) (right_reads.again text x rest lt h)
  ];
  fault = λ bytes left lt e. elim (chosen (begins k bytes) (r bytes) (s bytes) (Err left) e) [
    | inl c ↦
        let w = left_reads.fault bytes left lt c.1 in
        record {
          front = w.front;
          after = w.after;
          parts = w.parts;
          count = w.count;
          goes_on = record { more = w.goes_on.more; value = w.goes_on.value; text = inl w.goes_on.text };
          blocked = blocked_left k G H left_first right_first bytes w.front w.after c.0 w.parts w.blocked;
        }
    | inr c ↦
        let w = right_reads.fault bytes left lt c.1 in
        record {
          front = w.front;
          after = w.after;
          parts = w.parts;
          count = w.count;
          goes_on = record { more = w.goes_on.more; value = w.goes_on.value; text = inr w.goes_on.text };
          blocked = blocked_right k G H left_first right_first bytes w.front w.after c.0 w.parts w.blocked;
        }
  ];
}

-- ---- a given text, and so many bytes

text_found : (given bytes : List ℕ) (x : Unit {0}) (rest : List ℕ) → text_at given bytes ≡ Ok (x, rest) → bytes ≡ given ++ rest
unfolding text_at
text_found [] bytes x rest e = (pair_same _ _ _ _ e).1
text_found (c ∷ cs) [] x rest e = absurd cc
text_found (c ∷ cs) (b ∷ bs) x rest e = elim (chosen (eqb b c) (text_at cs bs) (Err (suc (length bs))) (Ok (x, rest)) e) [
  | inl w ↦ rw (eqb-true b c w.0, text_found cs bs x rest w.1) refl
  | inr w ↦ absurd cc
]

text_again : (given rest : List ℕ) → text_at given (given ++ rest) ≡ Ok (tt, rest)
unfolding text_at
text_again [] rest = refl
text_again (c ∷ cs) rest = rw (eq-eqb c c refl) (text_again cs rest)

text_fault : (given bytes : List ℕ) (left : ℕ) → text_at given bytes ≡ Err left → Stops (IsText given) bytes left
unfolding text_at
text_fault [] bytes left e = absurd cc
text_fault (c ∷ cs) [] left e = record { front = []; after = []; parts = refl; count = err_same 0 left e; goes_on = record { more = c ∷ cs; value = tt; text = refl }; blocked = tt }
text_fault (c ∷ cs) (b ∷ bs) left e = elim (chosen (eqb b c) (text_at cs bs) (Err (suc (length bs))) (Err left) e) [
  | inl w ↦
      let f = text_fault cs bs left w.1 in
      record {
        front = b ∷ f.front;
        after = f.after;
        parts = ap (λ (t : List ℕ). b ∷ t) f.parts;
        count = f.count;
        goes_on = record { more = f.goes_on.more; value = tt; text = rw (eqb-true b c w.0, f.goes_on.text) refl };
        blocked = text_blocked c cs b f.front f.after f.blocked;
      }
  | inr w ↦
      record {
        front = [];
        after = b ∷ bs;
        parts = refl;
        count = err_same (suc (length bs)) left w.1;
        goes_on = record { more = c ∷ cs; value = tt; text = refl };
        blocked = λ g. let same : b ≡ c = (let t = g.text in cc) in eqb-false b c w.0 same;
      }
]
  where
    text_blocked : (c : ℕ) (cs : List ℕ) (b : ℕ) (front after : List ℕ) → IsBlocked (IsText cs) front after → IsBlocked (IsText (c ∷ cs)) (b ∷ front) after
    text_blocked c cs b front [] blocked = tt
    text_blocked c cs b front (d ∷ ds) blocked = λ g. blocked (record { more = g.more; value = tt; text = let t = g.text in cc })

pub text_reads : (given : List ℕ) (n : ℕ) → Reads n (IsText given) (text_at given)
text_reads given n = record {
  some = record { more = given; value = tt; text = refl };
  found = λ bytes x rest lt e. record { front = given; text = refl; parts = text_found given bytes x rest e };
  again = λ text x rest lt g. rw g (text_again given rest);
  fault = λ bytes left lt e. text_fault given bytes left e;
}

pub bytes_reads : (count n : ℕ) → Reads n (AreBytes count) (bytes_at count)
bytes_reads count n = record {
  some = record { more = replicate count 0; value = replicate count 0; text = (refl, length-replicate {A = ℕ} count 0) };
  found = λ bytes x rest lt e. elim (chosen (ltb (length bytes) count) (Err 0) (Ok (take count bytes, drop count bytes)) (Ok (x, rest)) e) [
    | inl w ↦ absurd cc
    | inr w ↦
        let same = pair_same (take count bytes) x (drop count bytes) rest w.1 in
        let enough : count ≤ length bytes = ltb-false _ _ w.0 in
        record { front = x; text = (refl, rw (← same.0) (omega (arith, length-take count bytes))); parts = rw (← same.0, ← same.1) (sym (take-append-drop count bytes)) }
  ];
  again = λ text x rest lt g.
      let size : length text ≡ count = ap length g.0 ∙ g.1 in
      let enough : ltb (length (text ++ rest)) count ≡ false = le-ltb _ _ (omega (arith, length-append text rest)) in
      rw (enough, take_at text rest count size, drop_at text rest count size, g.0) refl;
  fault = λ bytes left lt e. elim (chosen (ltb (length bytes) count) (Err 0) (Ok (take count bytes, drop count bytes)) (Err left) e) [
    | inl w ↦
        let short : length bytes < count = ltb-true _ _ w.0 in
        record {
          front = bytes;
          after = [];
          parts = sym (append-nil bytes);
          count = err_same 0 left w.1;
          goes_on = record { more = replicate (count - length bytes) 0; value = bytes ++ replicate (count - length bytes) 0; text = (refl, omega (arith, length-append bytes (replicate (count - length bytes) 0), length-replicate {A = ℕ} (count - length bytes) 0)) };
          blocked = tt;
        }
    | inr w ↦ absurd cc
  ];
}

-- ---- items, and then the end

until_none : {X Z : Type 0} (G : List ℕ → X → Type 0) (S : List ℕ → Z → Type 0) (t : List ℕ) (xs : List X) → Either (Then G (λ x. Mapped (λ ys. x ∷ ys) (Until G S))) (Mapped (λ _. []) S) t xs → Until G S t xs
until_none {X} {Z} G S t [] (inl w) = let e = w.second_is.value_is in absurd cc
until_none {X} {Z} G S t (x ∷ xs) (inl w) =
    let e : (x ∷ xs) ≡ (w.between ∷ w.second_is.inner) = w.second_is.value_is in
    let one : w.between ≡ x = cc in
    let others : w.second_is.inner ≡ xs = cc in
    (w.first, w.second, subst (λ (y : X). G w.first y) one w.first_is, subst (λ (ys : List X). Until G S w.second ys) others w.second_is.inner_is, w.parts)
until_none {X} {Z} G S t [] (inr w) = (w.inner, w.inner_is)
until_none {X} {Z} G S t (x ∷ xs) (inr w) = let e = w.value_is in absurd cc

until_either : {X Z : Type 0} (G : List ℕ → X → Type 0) (S : List ℕ → Z → Type 0) (t : List ℕ) (xs : List X) → Until G S t xs → Either (Then G (λ x. Mapped (λ ys. x ∷ ys) (Until G S))) (Mapped (λ _. []) S) t xs
until_either G S t [] w = inr (record { inner = w.0; inner_is = w.1; value_is = refl })
until_either G S t (x ∷ xs) w = inl (record { first = w.0; second = w.1; between = x; first_is = w.2; second_is = record { inner = xs; inner_is = w.3; value_is = refl }; parts = w.4 })

pub until_reads : {X Z : Type 0} {G : List ℕ → X → Type 0} {S : List ℕ → Z → Type 0} {item : List ℕ → Result (X × List ℕ) ℕ} {stop : List ℕ → Result (Z × List ℕ) ℕ} → (k : ℕ)
    → ((t : List ℕ) (x : X) → G t x → begins k t ≡ true)
    → ((t : List ℕ) (z : Z) → S t z → (b : ℕ) × (bs : List ℕ) × (t ≡ b ∷ bs) × (eqb b k ≡ false))
    → ((n : ℕ) → Reads n G item) → ((n : ℕ) → Reads n S stop) → (n : ℕ) → Reads n (Until G S) (until_at item stop k n)
unfolding until_at
until_reads k item_first stop_first items stops zero = record {
  some = let g = (stops 1).some in record { more = g.more; value = []; text = (g.value, g.text) };
  found = λ bytes x rest lt e. absurd (omega (arith, lt));
  again = λ text x rest lt g. absurd (omega (arith, lt));
  fault = λ bytes left lt e. absurd (omega (arith, lt));
}
until_reads {X} {Z} {G} {S} {item} {stop} k item_first stop_first items stops (suc n) =
    let rest : Reads n (Until G S) (until_at item stop k n) = until_reads k item_first stop_first items stops n in
    let more = λ (x : X). mapped_reads (λ (ys : List X). x ∷ ys) rest in
    let one : Reads (suc n) (Then G (λ x. Mapped (λ ys. x ∷ ys) (Until G S))) (λ bytes. item bytes >>= λ p. until_at item stop k n p.1 >>= λ q. Ok (p.0 ∷ q.0, q.1)) =
    then_reads items more
    (λ t x k' g lt. let some = begins_some k t (item_first t x g) in omega (arith, lt, some)) in
    same_reads (Until G S) (until_none G S) (until_either G S)
    (either_reads k (λ t xs w. rw w.parts (begins_more k w.first w.second (item_first w.first w.between w.first_is))) (λ t xs w. stop_first t w.inner w.inner_is) one (mapped_reads (λ (_ : Z). []) (stops (suc n))))

-- ---- all of the bytes

-- nothing goes on behind a whole text
trailing : {X : Type 0} (G : List ℕ → X → Type 0) (r : List ℕ → Result (X × List ℕ) ℕ) → ((n : ℕ) → Reads n G r) → (front after : List ℕ) (x : X) → G front x → IsBlocked G front after
trailing G r reads front [] x g = tt
trailing G r reads front (b ∷ bs) x g = λ goes.
    let regroup : front ++ (b ∷ goes.more) ≡ ((front ++ b ∷ []) ++ goes.more) ++ [] = sym (append_assoc front (b ∷ []) goes.more) ∙ sym (append-nil ((front ++ b ∷ []) ++ goes.more)) in
    let same = one_front reads front ((front ++ b ∷ []) ++ goes.more) (b ∷ goes.more) [] x goes.value g goes.text regroup in
    let none = same.1 in
    absurd cc

-- r reads G exactly, to the end of the bytes
pub record ReadsAll {X : Type 0} (n : ℕ) (G : List ℕ → X → Type 0) (r : List ℕ → Result X ℕ) : Type 0 where
  pub found : (bytes : List ℕ) (x : X) → length bytes < n → r bytes ≡ Ok x → G bytes x
  pub again : (bytes : List ℕ) (x : X) → length bytes < n → G bytes x → r bytes ≡ Ok x
  pub fault : (bytes : List ℕ) (left : ℕ) → length bytes < n → r bytes ≡ Err left → Stops G bytes left
  pub some : GoesOn G []

pub fault_at : {X : Type 0} (G : List ℕ → X → Type 0) (bytes : List ℕ) (left : ℕ) → Stops G bytes left → (left ≤ length bytes) × IsFaultAt G bytes (length bytes - left)
fault_at {X} G bytes left s =
    let size : length bytes ≡ length s.front + left = omega (arith, ap length s.parts, length-append s.front s.after, s.count) in
    let at : length s.front ≡ length bytes - left = omega arith in
    let front : take (length bytes - left) bytes ≡ s.front = ap (take (length bytes - left)) s.parts ∙ take_at s.front s.after (length bytes - left) at in
    (omega (arith, size), record { within = omega (arith, size); before = rw front s.goes_on; behind = λ lt. behind s.front s.after s.parts (omega (arith, lt, s.count)) at s.blocked })
  where
    behind : (front after : List ℕ) → bytes ≡ front ++ after → 0 < length after → length front ≡ length bytes - left → IsBlocked G front after → ¬ GoesOn G (take (length bytes - left + 1) bytes)
    behind front [] parts some at blocked = absurd (omega (arith, some))
    behind front (b ∷ bs) parts some at blocked = λ g.
        let regroup : bytes ≡ (front ++ b ∷ []) ++ bs = parts ∙ sym (append_assoc front (b ∷ []) bs) in
        let e : take (length bytes - left + 1) bytes ≡ front ++ b ∷ [] = ap (take (length bytes - left + 1)) regroup ∙ take_at (front ++ b ∷ []) bs (length bytes - left + 1) (omega (arith, length-append front (b ∷ []), at)) in
        blocked (subst (λ (t : List ℕ). GoesOn G t) e g)

pub whole_reads : {X : Type 0} {G : List ℕ → X → Type 0} {r : List ℕ → Result (X × List ℕ) ℕ} → ((n : ℕ) → Reads n G r) → (n : ℕ) → ReadsAll n G (λ bytes. whole (r bytes))
whole_reads {X} {G} {r} reads n = record {
  some = (reads 1).some;
  found = λ bytes x lt e.
      let b = bind_ok (r bytes) (λ p. cond (eqb (length p.1) 0) (Ok p.0) (Err (length p.1))) x e in
      elim (chosen (eqb (length b.0.1) 0) (Ok b.0.0) (Err (length b.0.1)) (Ok x) b.2) [
        | inl c ↦
            let w = (reads (suc (length bytes))).found bytes b.0.0 b.0.1 (omega arith) b.1 in
            let none : b.0.1 ≡ [] = nil_from_length b.0.1 (eqb-true _ _ c.0) in
            let front : bytes ≡ w.front = w.parts ∙ ap (λ (t : List ℕ). w.front ++ t) none ∙ append-nil w.front in
            subst (λ (y : X). G bytes y) (ok_is b.0.0 x c.1) (subst (λ (t : List ℕ). G t b.0.0) (sym front) w.text)
        | inr c ↦ absurd cc
      ];
  again = λ bytes x lt g.
      let e : r bytes ≡ Ok (x, []) = ap r (sym (append-nil bytes)) ∙ (reads (suc (length (bytes ++ [])))).again bytes x [] (omega arith) g in
      rw e refl;
  fault = λ bytes left lt e. elim (bind_err (r bytes) (λ p. cond (eqb (length p.1) 0) (Ok p.0) (Err (length p.1))) left e) [
    | inl stop ↦ (reads (suc (length bytes))).fault bytes left (omega arith) stop
    | inr b ↦ elim (chosen (eqb (length b.0.1) 0) (Ok b.0.0) (Err (length b.0.1)) (Err left) b.2) [
      | inl c ↦ absurd cc
      | inr c ↦
          let w = (reads (suc (length bytes))).found bytes b.0.0 b.0.1 (omega arith) b.1 in
          record {
            front = w.front;
            after = b.0.1;
            parts = w.parts;
            count = err_same (length b.0.1) left c.1;
            goes_on = record { more = []; value = b.0.0; text = rw append-nil w.text };
            blocked = trailing G r reads w.front b.0.1 b.0.0 w.text;
          }
    ]
  ];
}

-- a part, and then all of the rest
pub then_all : {X Y : Type 0} {m n : ℕ} {G : List ℕ → X → Type 0} {r : List ℕ → Result (X × List ℕ) ℕ} {H : X → List ℕ → Y → Type 0} {s : X → List ℕ → Result Y ℕ}
    → ((k : ℕ) → Reads k G r) → ((x : X) → ReadsAll m (H x) (s x)) → ((t : List ℕ) (x : X) (k : ℕ) → G t x → length t + k < n → k < m)
    → ReadsAll n (Then G H) (λ bytes. r bytes >>= λ p. s p.0 p.1)
then_all {X} {Y} {m} {n} {G} {r} {H} {s} first second shrinks = record {
  some = then_some (first 1).some (λ x. (second x).some);
  found = λ bytes y lt e.
      let b = bind_ok (r bytes) (λ p. s p.0 p.1) y e in
      let f = (first (suc (length bytes))).found bytes b.0.0 b.0.1 (omega arith) b.1 in
      record { first = f.front; second = b.0.1; between = b.0.0; first_is = f.text; second_is = (second b.0.0).found b.0.1 y (shrinks f.front b.0.0 (length b.0.1) f.text (omega (arith, lt, ap length f.parts, length-append f.front b.0.1))) b.2; parts = f.parts };
  again = λ bytes y lt w.
      let one : r (w.first ++ w.second) ≡ Ok (w.between, w.second) = (first (suc (length (w.first ++ w.second)))).again w.first w.between w.second (omega arith) w.first_is in
      ap (λ (t : List ℕ). r t >>= λ p. s p.0 p.1) w.parts ∙ rw one ((second w.between).again w.second y (shrinks w.first w.between (length w.second) w.first_is (omega (arith, lt, ap length w.parts, length-append w.first w.second))) w.second_is);
  fault = λ bytes left lt e.
      elim (bind_err (r bytes) (λ p. s p.0 p.1) left e) [
        | inl stop ↦
            let n = suc (length bytes) in
            let f = (first n).fault bytes left (omega arith) stop in
            let g = f.goes_on in
            let c = (second g.value).some in
            record {
              front = f.front;
              after = f.after;
              parts = f.parts;
              count = f.count;
              goes_on = record {
                more = g.more ++ c.more;
                value = c.value;
                text = record { first = f.front ++ g.more; second = c.more; between = g.value; first_is = g.text; second_is = c.text; parts = sym (append_assoc f.front g.more c.more) };
              };
              blocked = blocked_first n G r H (first n) bytes f.front f.after left (omega arith) stop f.parts f.blocked;
            }
        | inr b ↦
            let f = (first (suc (length bytes))).found bytes b.0.0 b.0.1 (omega arith) b.1 in
            let g = (second b.0.0).fault b.0.1 left (shrinks f.front b.0.0 (length b.0.1) f.text (omega (arith, lt, ap length f.parts, length-append f.front b.0.1))) b.2 in
            record {
              front = f.front ++ g.front;
              after = g.after;
              parts = f.parts ∙ ap (λ (t : List ℕ). f.front ++ t) g.parts ∙ sym (append_assoc f.front g.front g.after);
              count = g.count;
              goes_on = record {
                more = g.goes_on.more;
                value = g.goes_on.value;
                text = record { first = f.front; second = g.front ++ g.goes_on.more; between = b.0.0; first_is = f.text; second_is = g.goes_on.text; parts = append_assoc f.front g.front g.goes_on.more };
              };
              blocked = blocked_second G r H first f.front g.front g.after b.0.0 f.text g.blocked;
            }
      ];
}

-- nothing, or a whole text
pub maybe_all : {X : Type 0} {n : ℕ} {G : List ℕ → X → Type 0} {r : List ℕ → Result X ℕ} → (none : X) → ((x : X) → ¬ G [] x) → ReadsAll n G r → ReadsAll n (Maybe none G) (λ bytes. cond (eqb (length bytes) 0) (Ok none) (r bytes))
maybe_all {X} {n} {G} {r} none some reads = record {
  some = record { more = []; value = none; text = inl (refl, refl) };
  found = λ bytes x lt e. elim (chosen (eqb (length bytes) 0) (Ok none) (r bytes) (Ok x) e) [
    | inl c ↦ inl (nil_from_length bytes (eqb-true _ _ c.0), sym (ok_is none x c.1))
    | inr c ↦ inr (reads.found bytes x lt c.1)
  ];
  again = λ bytes x lt g. elim g [
    | inl g ↦ rw (g.0, g.1) refl
    | inr g ↦ rw (ne_eqb (length bytes) 0 (λ z. some x (subst (λ (t : List ℕ). G t x) (nil_from_length bytes z) g))) (reads.again bytes x lt g)
  ];
  fault = λ bytes left lt e. elim (chosen (eqb (length bytes) 0) (Ok none) (r bytes) (Err left) e) [
    | inl c ↦ absurd cc
    | inr c ↦
        let w = reads.fault bytes left lt c.1 in
        record {
          front = w.front;
          after = w.after;
          parts = w.parts;
          count = w.count;
          goes_on = record { more = w.goes_on.more; value = w.goes_on.value; text = inr w.goes_on.text };
          blocked = maybe_blocked none w.front w.after w.blocked;
        }
  ];
}
  where
    maybe_blocked : (none : X) (front after : List ℕ) → IsBlocked G front after → IsBlocked (Maybe none G) front after
    maybe_blocked none front [] blocked = tt
    maybe_blocked none front (b ∷ bs) blocked = λ g. elim g.text [
      | inl h ↦ let e = h.0 in absurd (omega (arith, ap length e, length-append (front ++ b ∷ []) g.more, length-append front (b ∷ [])))
      | inr h ↦ blocked (record { more = g.more; value = g.value; text = h })
    ]

-- the public clauses of a reader of all bytes
pub all_exact : {X : Type 0} {G : List ℕ → X → Type 0} {r : List ℕ → Result X ℕ} → ((n : ℕ) → ReadsAll n G r) → (bytes : List ℕ) (left : ℕ) → r bytes ≡ Err left → (left ≤ length bytes) × IsFaultAt G bytes (length bytes - left)
all_exact {X} {G} {r} reads bytes left e = fault_at G bytes left ((reads (suc (length bytes))).fault bytes left (omega arith) e)

-- the same where the first part may be empty
pub next_reads : {X Y : Type 0} {G : List ℕ → X → Type 0} {r : List ℕ → Result (X × List ℕ) ℕ} {H : X → List ℕ → Y → Type 0} {s : X → List ℕ → Result (Y × List ℕ) ℕ}
    → ((k : ℕ) → Reads k G r) → ((x : X) (k : ℕ) → Reads k (H x) (s x)) → (n : ℕ) → Reads n (Then G H) (λ bytes. r bytes >>= λ p. s p.0 p.1)
next_reads first second n = then_reads first (λ x. second x n) (λ t x k g lt. omega (arith, lt))

-- a reader whose number of steps is made of the bytes
pub from_steps : {X : Type 0} {G : List ℕ → X → Type 0} {r : ℕ → List ℕ → Result (X × List ℕ) ℕ} → ((n : ℕ) → Reads n G (r n)) → (n : ℕ) → Reads n G (λ bytes. r (suc (length bytes)) bytes)
from_steps {X} {G} {r} reads n = record {
  found = λ bytes x rest lt e. (reads (suc (length bytes))).found bytes x rest (omega arith) e;
  again = λ text x rest lt g. (reads (suc (length (text ++ rest)))).again text x rest (omega arith) g;
  fault = λ bytes left lt e. (reads (suc (length bytes))).fault bytes left (omega arith) e;
  some = (reads 1).some;
}

-- ---- writing

pub appends_then : {X Y : Type 0} {G : List ℕ → X → Type 0} {H : X → List ℕ → Y → Type 0} {a b c : List ℕ} {x : X} {y : Y} → Appends G a b x → Appends (H x) b c y → Appends (Then G H) a c y
appends_then {X} {Y} {G} {H} {a} {b} {c} {x} {y} p q = record {
  text = p.text ++ q.text;
  text_is = record { first = p.text; second = q.text; between = x; first_is = p.text_is; second_is = q.text_is; parts = refl };
  parts = q.parts ∙ ap (λ (t : List ℕ). t ++ q.text) p.parts ∙ append_assoc a p.text q.text;
}

pub appends_mapped : {X Y : Type 0} {G : List ℕ → X → Type 0} {a b : List ℕ} {x : X} (f : X → Y) → Appends G a b x → Appends (Mapped f G) a b (f x)
appends_mapped {x = x} f p = record { text = p.text; text_is = record { inner = x; inner_is = p.text_is; value_is = refl }; parts = p.parts }

pub appends_text : (given a b : List ℕ) → b ≡ a ++ given → Appends (IsText given) a b tt
appends_text given a b e = record { text = given; text_is = refl; parts = e }

pub appends_bytes : (n : ℕ) (bytes a b : List ℕ) → length bytes ≡ n → b ≡ a ++ bytes → Appends (AreBytes n) a b bytes
appends_bytes n bytes a b size e = record { text = bytes; text_is = (refl, size); parts = e }

-- ---- a text that doesn't begin with k, one grammar or another, anything, and items to the end

except_goes : {X : Type 0} (k : ℕ) (G : List ℕ → X → Type 0) (bytes front after : List ℕ) → GoesOn (Except k G) [] → begins k bytes ≡ false → bytes ≡ front ++ after → GoesOn G front → GoesOn (Except k G) front
except_goes k G bytes [] after some not_k parts g = some
except_goes k G bytes (c ∷ front) after some not_k parts g = record { more = g.more; value = g.value; text = (g.text, ap (begins k) (sym parts) ∙ not_k) }

pub except_reads : {X : Type 0} {n : ℕ} {G : List ℕ → X → Type 0} {r : List ℕ → Result (X × List ℕ) ℕ} → (k : ℕ) → ((x : X) → ¬ G [] x) → GoesOn (Except k G) [] → Reads n G r → Reads n (Except k G) (λ bytes. cond (begins k bytes) (Err (length bytes)) (r bytes))
except_reads {X} {n} {G} {r} k filled some reads = record {
  some = some;
  found = λ bytes x rest lt e. elim (chosen (begins k bytes) (Err (length bytes)) (r bytes) (Ok (x, rest)) e) [
    | inl c ↦ absurd cc
    | inr c ↦ let w = reads.found bytes x rest lt c.1 in record { front = w.front; text = (w.text, front_not k w.front rest bytes (λ z. filled x (subst (λ (t : List ℕ). G t x) z w.text)) w.parts c.0); parts = w.parts }
  ];
  again = λ text x rest lt g. rw (keeps_not k text rest (λ z. filled x (subst (λ (t : List ℕ). G t x) z g.0)) g.1) (reads.again text x rest lt g.0);
  fault = λ bytes left lt e. elim (chosen (begins k bytes) (Err (length bytes)) (r bytes) (Err left) e) [
    | inl c ↦ record { front = []; after = bytes; parts = refl; count = err_same (length bytes) left c.1; goes_on = some; blocked = first_blocked bytes c.0 }
    | inr c ↦
        let w = reads.fault bytes left lt c.1 in
        record {
          front = w.front;
          after = w.after;
          parts = w.parts;
          count = w.count;
          goes_on = except_goes k G bytes w.front w.after some c.0 w.parts w.goes_on;
          blocked = blocked_by (Except k G) G w.front w.after (λ t x g. (x, g.0)) w.blocked;
        }
  ];
}
  where
    front_not : (k : ℕ) (front rest bytes : List ℕ) → (front ≡ [] → ⊥) → bytes ≡ front ++ rest → begins k bytes ≡ false → begins k front ≡ false
    front_not k [] rest bytes some parts e = absurd (some refl)
    front_not k (b ∷ bs) rest bytes some parts e = ap (begins k) (sym parts) ∙ e

    keeps_not : (k : ℕ) (text rest : List ℕ) → (text ≡ [] → ⊥) → begins k text ≡ false → begins k (text ++ rest) ≡ false
    keeps_not k [] rest some e = absurd (some refl)
    keeps_not k (b ∷ bs) rest some e = e

    first_blocked : (bytes : List ℕ) → begins k bytes ≡ true → IsBlocked (Except k G) [] bytes
    first_blocked [] is = tt
    first_blocked (b ∷ bs) is = λ g. let e = g.text.1 in absurd cc

pub mapped_all : {X Y : Type 0} {n : ℕ} {G : List ℕ → X → Type 0} {r : List ℕ → Result X ℕ} → (f : X → Y) → ReadsAll n G r → ReadsAll n (Mapped f G) (λ bytes. r bytes >>= λ x. Ok (f x))
mapped_all {X} {Y} {n} {G} {r} f reads = record {
  some = let g = reads.some in record { more = g.more; value = f g.value; text = record { inner = g.value; inner_is = g.text; value_is = refl } };
  found = λ bytes y lt e. let b = bind_ok (r bytes) (λ x. Ok (f x)) y e in record { inner = b.0; inner_is = reads.found bytes b.0 lt b.1; value_is = sym (ok_is (f b.0) y b.2) };
  again = λ bytes y lt w. rw (reads.again bytes w.inner lt w.inner_is) (ap (λ (z : Y). Ok z) (sym w.value_is));
  fault = λ bytes left lt e. elim (bind_err (r bytes) (λ x. Ok (f x)) left e) [
    | inl stop ↦
        let w = reads.fault bytes left lt stop in
        record {
          front = w.front;
          after = w.after;
          parts = w.parts;
          count = w.count;
          goes_on = record { more = w.goes_on.more; value = f w.goes_on.value; text = record { inner = w.goes_on.value; inner_is = w.goes_on.text; value_is = refl } };
          blocked = blocked_by (Mapped f G) G w.front w.after (λ t y g. (g.inner, g.inner_is)) w.blocked;
        }
    | inr b ↦ absurd cc
  ];
}

pub same_all : {X : Type 0} {n : ℕ} {G : List ℕ → X → Type 0} {r : List ℕ → Result X ℕ} → (H : List ℕ → X → Type 0) → ((t : List ℕ) (x : X) → G t x → H t x) → ((t : List ℕ) (x : X) → H t x → G t x) → ReadsAll n G r → ReadsAll n H r
same_all {X} {n} {G} {r} H to from reads = record {
  some = let g = reads.some in record { more = g.more; value = g.value; text = to g.more g.value g.text };
  found = λ bytes x lt e. to bytes x (reads.found bytes x lt e);
  again = λ bytes x lt h. reads.again bytes x lt (from bytes x h);
  fault = λ bytes left lt e.
      let w = reads.fault bytes left lt e in
      record {
        front = w.front;
        after = w.after;
        parts = w.parts;
        count = w.count;
        goes_on = record { more = w.goes_on.more; value = w.goes_on.value; text = to (w.front ++ w.goes_on.more) w.goes_on.value w.goes_on.text };
        blocked = blocked_by H G w.front w.after (λ t x h. (x, from t x h)) w.blocked;
      };
}

many_to : {X : Type 0} (G : List ℕ → X → Type 0) (t : List ℕ) (xs : List X) → Maybe [] (Then G (λ x. Mapped (λ ys. x ∷ ys) (Many G))) t xs → Many G t xs
many_to G t [] (inl w) = w.0
many_to G t (x ∷ xs) (inl w) = let e = w.1 in absurd cc
many_to G t [] (inr w) = let e = w.second_is.value_is in absurd cc
many_to {X} G t (x ∷ xs) (inr w) =
    let e : (x ∷ xs) ≡ (w.between ∷ w.second_is.inner) = w.second_is.value_is in
    let one : w.between ≡ x = cc in
    let others : w.second_is.inner ≡ xs = cc in
    (w.first, w.second, subst (λ (y : X). G w.first y) one w.first_is, subst (λ (ys : List X). Many G w.second ys) others w.second_is.inner_is, w.parts)

many_from : {X : Type 0} (G : List ℕ → X → Type 0) (t : List ℕ) (xs : List X) → Many G t xs → Maybe [] (Then G (λ x. Mapped (λ ys. x ∷ ys) (Many G))) t xs
many_from G t [] w = inl (w, refl)
many_from G t (x ∷ xs) w = inr (record { first = w.0; second = w.1; between = x; first_is = w.2; second_is = record { inner = xs; inner_is = w.3; value_is = refl }; parts = w.4 })

filled_length : {X : Type 0} (G : List ℕ → X → Type 0) → ((x : X) → ¬ G [] x) → (t : List ℕ) (x : X) → G t x → 0 < length t
filled_length G filled [] x g = absurd (filled x g)
filled_length G filled (b ∷ bs) x g = omega arith

pub many_reads : {X : Type 0} {G : List ℕ → X → Type 0} {item : List ℕ → Result (X × List ℕ) ℕ} → ((x : X) → ¬ G [] x) → ((n : ℕ) → Reads n G item) → (n : ℕ) → ReadsAll n (Many G) (many_at item n)
unfolding many_at
many_reads filled items zero = record {
  some = record { more = []; value = []; text = refl };
  found = λ bytes x lt e. absurd (omega (arith, lt));
  again = λ bytes x lt g. absurd (omega (arith, lt));
  fault = λ bytes left lt e. absurd (omega (arith, lt));
}
many_reads {X} {G} {item} filled items (suc n) =
    let rest = many_reads filled items n in
    let one : ReadsAll (suc n) (Then G (λ x. Mapped (λ ys. x ∷ ys) (Many G))) (λ bytes. item bytes >>= λ p. many_at item n p.1 >>= λ xs. Ok (p.0 ∷ xs)) =
    then_all items (λ x. mapped_all (λ (ys : List X). x ∷ ys) rest) (λ t x k g lt. omega (arith, lt, filled_length G filled t x g)) in
    same_all (Many G) (many_to G) (many_from G) (maybe_all [] (λ xs w. absurd (no_empty w)) one)
  where
    no_empty : {xs : List X} → Then G (λ x. Mapped (λ ys. x ∷ ys) (Many G)) [] xs → ⊥
    no_empty w = let e = ap length w.parts in omega (arith, filled_length G filled w.first w.between w.first_is, length-append w.first w.second, e)

-- the same where the first part may be empty
pub next_all : {X Y : Type 0} {G : List ℕ → X → Type 0} {r : List ℕ → Result (X × List ℕ) ℕ} {H : X → List ℕ → Y → Type 0} {s : X → List ℕ → Result Y ℕ}
    → ((k : ℕ) → Reads k G r) → ((x : X) (k : ℕ) → ReadsAll k (H x) (s x)) → (n : ℕ) → ReadsAll n (Then G H) (λ bytes. r bytes >>= λ p. s p.0 p.1)
next_all first second n = then_all first (λ x. second x n) (λ t x k g lt. omega (arith, lt))

-- the three clauses of a reader of all bytes
pub all_found : {X : Type 0} {G : List ℕ → X → Type 0} {r : List ℕ → Result X ℕ} → ((n : ℕ) → ReadsAll n G r) → (bytes : List ℕ) (x : X) → r bytes ≡ Ok x → G bytes x
all_found reads bytes x e = (reads (suc (length bytes))).found bytes x (omega arith) e

pub all_again : {X : Type 0} {G : List ℕ → X → Type 0} {r : List ℕ → Result X ℕ} → ((n : ℕ) → ReadsAll n G r) → (bytes : List ℕ) (x : X) → G bytes x → r bytes ≡ Ok x
all_again reads bytes x g = (reads (suc (length bytes))).again bytes x (omega arith) g

pub from_steps_all : {X : Type 0} {G : List ℕ → X → Type 0} {r : ℕ → List ℕ → Result X ℕ} → ((n : ℕ) → ReadsAll n G (r n)) → (n : ℕ) → ReadsAll n G (λ bytes. r (suc (length bytes)) bytes)
from_steps_all {X} {G} {r} reads n = record {
  found = λ bytes x lt e. (reads (suc (length bytes))).found bytes x (omega arith) e;
  again = λ bytes x lt g. (reads (suc (length bytes))).again bytes x (omega arith) g;
  fault = λ bytes left lt e. (reads (suc (length bytes))).fault bytes left (omega arith) e;
  some = (reads 1).some;
}
