-- A text, one piece after another, and the newline behind it; and empty lines.
use Rattle.std.proofs.Common.{◌≡◌, ◌<◌, ◌≤◌, ◌+◌, ℕ, Bool, true, false, eqb, ltb, List, [], ◌∷◌, ◌++◌, length, take, drop, get_or, Option, Some, None, refl, sym, ap, subst, ◌∙◌, arith}
use Rattle.std.proofs.lemmas.List.{append-nil, drop_all}
use Rattle.std.proofs.Math.Seq.{take-append_seam, drop-append_seam}
use Rattle.std.proofs.lemmas.Bool.{lt-ltb, eq-eqb, ne_eqb}
use Rattle.std.specs.Prelude.{Ok, Err}
use Rattle.fsfs_script.specs.declared.job_lines.refusal.Refusal.TheVariants.{Bad}
use Rattle.fsfs_script.specs.declared.job_lines.refusal.Why.TheVariants as why
use Rattle.fsfs_script.specs.Places.{Place, newlines, passed, place_of, Keeps, Passes, IsAtEnd, behind_newlines, behind_empty_lines}
use Rattle.fsfs_script.specs.Reading.{newline_at, newline_on, text_at, skipped_at, IsStop, Reads, TakesSome}
use Rattle.fsfs_script.specs.declared.stop.Stop.{Stop}
use Rattle.fsfs_script.specs.declared.stop.Stop.TheVariants as stops
use Rattle.fsfs_script.proofs.PlaceLemmas.{told_parts, told_again, passes_more, passes_kept, passes_place}

-- ---- a newline

pub newline_on_ten : (line b : ℕ) (bs bytes : List ℕ) → bytes ≡ b ∷ bs → b ≡ 10 → newline_on line bytes ≡ Ok (tt, record { line = line + 1; bytes = bs })
newline_on_ten line b bs bytes e is = rw (e, eq-eqb b 10 is) refl

pub newline_short : (a new : Option Place) {X : Type 0} (view : X → Unit {0}) → IsAtEnd a → Reads view newline_at a new (Err (stops.Refused (Bad why.Short)))
unfolding newline_at
newline_short None new view end = tt
newline_short (Some p) new view end = rw end refl

-- the byte that stands here, of bytes of which some are here
pub newline_here : (rem : Option (List ℕ)) (a : Place) (old : Option Place) (d : ℕ) → Keeps old (place_of rem a) → 0 < length a.bytes → get_or a.bytes 0 d ≡ 10 → Reads (λ (u : Unit {0}). tt) newline_at old (place_of rem (passed 1 a)) (Ok tt)
unfolding newline_at
newline_here rem a None d kept some is = tt
newline_here rem a (Some p) d kept some is = go a.bytes refl some is
  where
    go : (bs : List ℕ) → a.bytes ≡ bs → 0 < length bs → get_or bs 0 d ≡ 10 → (q : Place) × (newline_on p.line p.bytes ≡ Ok (tt, q)) × (place_of rem (passed 1 a) ≡ Some q)
    go [] e some is = absurd (omega (arith, some))
    go (b ∷ bs) e some is =
        let t = told_parts rem a p kept in
        let here : p.bytes ≡ b ∷ (bs ++ t.0) = sym t.3 ∙ ap (λ (s : List ℕ). s ++ t.0) e in
        let line : (passed 1 a).line ≡ p.line + 1 = ap (λ (s : List ℕ). a.line + newlines (take 1 s)) e ∙ one b bs is ∙ ap (λ (n : ℕ). n + 1) t.2 in
        let bytes : (passed 1 a).bytes ++ t.0 ≡ bs ++ t.0 = ap (λ (s : List ℕ). drop 1 s ++ t.0) e in
        (record { line = p.line + 1; bytes = bs ++ t.0 }, newline_on_ten p.line b (bs ++ t.0) p.bytes here is, told_again rem (passed 1 a) (record { line = p.line + 1; bytes = bs ++ t.0 }) t.0 t.1 line bytes)
      where
        one : (b : ℕ) (bs : List ℕ) → b ≡ 10 → a.line + newlines (take 1 (b ∷ bs)) ≡ a.line + 1
        one b bs is = rw (eq-eqb b 10 is) refl

pub newline_other : (rem : Option (List ℕ)) (a : Place) (old new : Option Place) (d : ℕ) {X : Type 0} (view : X → Unit {0}) → Keeps old (place_of rem a) → 0 < length a.bytes → (get_or a.bytes 0 d ≡ 10 → ⊥) → Reads view newline_at old new (Err (stops.Refused (Bad why.NoNewline)))
unfolding newline_at
newline_other rem a None new d view kept some other = tt
newline_other rem a (Some p) new d view kept some other = go a.bytes refl some other
  where
    go : (bs : List ℕ) → a.bytes ≡ bs → 0 < length bs → (get_or bs 0 d ≡ 10 → ⊥) → newline_on p.line p.bytes ≡ Err (Bad why.NoNewline)
    go [] e some other = absurd (omega (arith, some))
    go (b ∷ bs) e some other =
        let t = told_parts rem a p kept in
        let here : p.bytes ≡ b ∷ (bs ++ t.0) = sym t.3 ∙ ap (λ (s : List ℕ). s ++ t.0) e in
        rw (here, ne_eqb b 10 other) refl

-- ---- a text

-- so much of a text was read
pub record IsTaking (from now : Option Place) (count : ℕ) (text : List ℕ) : Type 0 where
  pub passes : Passes from now text
  pub fits : length text ≤ count

pub taking_kept : (from now next : Option Place) (count : ℕ) (text : List ℕ) → IsTaking from now count text → Keeps now next → IsTaking from next count text
taking_kept from now next count text w k = record { passes = passes_kept from now next text w.passes k; fits = w.fits }

pub taking_more : (rem : Option (List ℕ)) (from : Option Place) (count : ℕ) (a b : Place) (text more : List ℕ) → IsTaking from (place_of rem a) count text → TakesSome count text more a b → IsTaking from (place_of rem b) count more
taking_more rem from count a b text more w t = record { passes = passes; fits = t.fits }
  where
    both : Passes from (place_of rem (passed t.some a)) (text ++ take t.some a.bytes)
    both = passes_more from (place_of rem a) (place_of rem (passed t.some a)) text (take t.some a.bytes) w.passes (passes_place rem t.some a)

    passes : Passes from (place_of rem b) more
    passes = subst (λ (q : Place). Passes from (place_of rem q) more) (sym t.new_is) (subst (λ (s : List ℕ). Passes from (place_of rem (passed t.some a)) s) (sym t.text_is) both)

-- the source ends within the text
pub taking_short : (from now new : Option Place) (count : ℕ) (text : List ℕ) {X : Type 0} (view : X → List ℕ) → IsTaking from now count text → length text < count → IsAtEnd now → Reads view (text_at count) from new (Err (stops.Refused (Bad why.Short)))
unfolding text_at newline_at
taking_short None now new count text view w less end = tt
taking_short (Some p) now new count text view w less end =
    let v = w.passes in
    let rest : v.0 ≡ [] = subst IsAtEnd v.2 end in
    let bytes : p.bytes ≡ text = v.1 ∙ ap (λ (t : List ℕ). text ++ t) rest ∙ append-nil text in
    let none : drop count p.bytes ≡ [] = drop_all count p.bytes (omega (arith, ap length bytes, less)) in
    rw none refl

pub front_of : (bytes text rest : List ℕ) (count : ℕ) → bytes ≡ text ++ rest → length text ≡ count → (take count bytes ≡ text) × (drop count bytes ≡ rest)
front_of bytes text rest count e size = (rw (e, sym size) (take-append_seam text rest), rw (e, sym size) (drop-append_seam text rest))

-- the text is whole
pub taking_ends : (from now new : Option Place) (count : ℕ) (text : List ℕ) {X U : Type 0} (view : X → List ℕ) (unit : U → Unit {0}) (x : X) (u : U) → view x ≡ text → IsTaking from now count text → count ≤ length text → Reads unit newline_at now new (Ok u) → Reads view (text_at count) from new (Ok x)
unfolding text_at
taking_ends None now new count text view unit x u same w more read = tt
taking_ends (Some p) now new count text view unit x u same w more read =
    let v = w.passes in
    let there : Reads unit newline_at (Some (record { line = p.line + newlines text; bytes = v.0 })) new (Ok u) = subst (λ (o : Option Place). Reads unit newline_at o new (Ok u)) v.2 read in
    let size : length text ≡ count = omega (arith, w.fits, more) in
    let front = front_of p.bytes text v.0 count v.1 size in
    let at : passed count p ≡ record { line = p.line + newlines text; bytes = v.0 } = λ i. record { line = p.line + newlines (front.0 i); bytes = front.1 i } in
    (there.0, rw (at, there.1, front.0) (ap (λ (t : List ℕ). Ok (t, there.0)) (sym same)), there.2)

pub taking_fails : (from now new : Option Place) (count : ℕ) (text : List ℕ) {X U : Type 0} (view : X → List ℕ) (unit : U → Unit {0}) (stop : Stop) → IsTaking from now count text → count ≤ length text → Reads unit newline_at now new (Err stop) → Reads view (text_at count) from new (Err stop)
unfolding text_at
taking_fails None now new count text view unit stop w more read = tt
taking_fails (Some p) now new count text view unit stop w more read = go stop there
  where
    there : IsStop (newline_at (record { line = p.line + newlines text; bytes = w.passes.0 })) stop
    there = subst (λ (o : Option Place). Reads unit newline_at o new (Err stop)) w.passes.2 read

    go : (stop : Stop) → IsStop (newline_at (record { line = p.line + newlines text; bytes = w.passes.0 })) stop → IsStop (text_at count p) stop
    go (stops.Refused refusal) e =
        let front = front_of p.bytes text w.passes.0 count w.passes.1 (omega (arith, w.fits, more)) in
        let at : passed count p ≡ record { line = p.line + newlines text; bytes = w.passes.0 } = λ i. record { line = p.line + newlines (front.0 i); bytes = front.1 i } in
        rw (at, e) refl
    go stops.ReadFault e = tt
    go stops.OutOfMemory e = tt

-- ---- empty lines

behind_none : (line : ℕ) (bytes : List ℕ) → bytes ≡ [] → behind_newlines line bytes ≡ record { line = line; bytes = bytes }
behind_none line bytes e = subst (λ (bs : List ℕ). behind_newlines line bs ≡ record { line = line; bytes = bs }) (sym e) refl

behind_other : (line b : ℕ) (bs bytes : List ℕ) → bytes ≡ b ∷ bs → eqb b 10 ≡ false → behind_newlines line bytes ≡ record { line = line; bytes = bytes }
behind_other line b bs bytes e other = subst (λ (t : List ℕ). behind_newlines line t ≡ record { line = line; bytes = t }) (sym e) (rw other refl)

-- what follows the empty lines is still the same
abbrev pub Skips : Option Place → Option Place → Type 0
Skips None now = Unit {0}
Skips (Some p) now = (q : Place) × (now ≡ Some q) × (behind_empty_lines p ≡ behind_empty_lines q)

pub skips_kept : (from now next : Option Place) → Skips from now → Keeps now next → Skips from next
skips_kept None now next w k = tt
skips_kept (Some p) now next w k = (w.0, subst (λ (o : Option Place). Keeps o next) w.1 k, w.2)

pub skips_end : (from now : Option Place) → Skips from now → IsAtEnd now → Reads (λ (b : Bool). b) skipped_at from now (Ok false)
unfolding skipped_at
skips_end None now w end = tt
skips_end (Some p) now w end =
    let none : w.0.bytes ≡ [] = subst IsAtEnd w.1 end in
    let here : behind_empty_lines w.0 ≡ w.0 = behind_none w.0.line w.0.bytes none in
    let all = w.2 ∙ here in
    (w.0, rw (all, none) refl, w.1)

-- the end, behind a reading that kept the place
pub skips_to_end : (from now next : Option Place) → Skips from now → Keeps now next → IsAtEnd now → Reads (λ (b : Bool). b) skipped_at from next (Ok false)
skips_to_end None now next w k end = tt
skips_to_end (Some p) now next w k end =
    let there = skips_kept (Some p) now next w k in
    let none : IsAtEnd (Some w.0) = subst IsAtEnd w.1 end in
    let same : next ≡ Some w.0 = subst (λ (o : Option Place). Keeps o next) w.1 k in
    skips_end (Some p) next there (subst IsAtEnd (sym same) none)

pub skips_some : (rem : Option (List ℕ)) (a : Place) (from : Option Place) (d : ℕ) → Skips from (place_of rem a) → 0 < length a.bytes → (get_or a.bytes 0 d ≡ 10 → ⊥) → Reads (λ (b : Bool). b) skipped_at from (place_of rem a) (Ok true)
unfolding skipped_at
skips_some rem a None d w some other = tt
skips_some rem a (Some p) d w some other = go a.bytes refl some other
  where
    go : (bs : List ℕ) → a.bytes ≡ bs → 0 < length bs → (get_or bs 0 d ≡ 10 → ⊥) → (q : Place) × (skipped_at p ≡ Ok (true, q)) × (place_of rem a ≡ Some q)
    go [] e some other = absurd (omega (arith, some))
    go (b ∷ bs) e some other =
        let t = told_parts rem a w.0 w.1 in
        let here : w.0.bytes ≡ b ∷ (bs ++ t.0) = sym t.3 ∙ ap (λ (s : List ℕ). s ++ t.0) e in
        let stays : behind_empty_lines w.0 ≡ w.0 = behind_other w.0.line b (bs ++ t.0) w.0.bytes here (ne_eqb b 10 other) in
        let all = w.2 ∙ stays in
        let size : ltb 0 (length w.0.bytes) ≡ true = lt-ltb 0 (length w.0.bytes) (omega (arith, ap length here)) in
        (w.0, rw (all, size) refl, w.1)
