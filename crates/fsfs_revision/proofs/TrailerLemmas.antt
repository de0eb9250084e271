-- A revision ends with one trailer at most, and it begins within the last 64 bytes.
use Rattle.std.proofs.Common.{◌≡◌, ◌≤◌, ◌<◌, ◌+◌, ◌-◌, ◌^◌, ℕ, suc, List, [], ◌∷◌, ◌++◌, length, take, drop, Option, Some, None, refl, sym, ap, subst, ◌∙◌, append_assoc, arith, inl, inr, ⊎_elim}
use Rattle.std.specs.Prelude.{Result, Ok, Err, ◌==◌, false, IfSome}
use Rattle.std.proofs.lemmas.List.{length-append, length-drop, length-take, take-append-drop, drop-append-le, take_all}
use Rattle.std.proofs.lemmas.Fmt.{length-decimal-le}
use Rattle.std.specs.Fmt.{decimal}
use Rattle.fsfs_base.specs.Grammar.Relations.{Then, IsText, Mapped, Appends}
use Rattle.fsfs_base.specs.Grammar.Numeral.{IsNumber, IsNumeral}
use Rattle.fsfs_base.specs.Grammar.Cuts.{Lacks}
use Rattle.fsfs_base.proofs.Readers.{ReadsAll, next_reads, mapped_reads, whole_reads, text_reads, all_found, all_again, ok_is}
use Rattle.fsfs_base.proofs.Numerals.{number_reads}
use Rattle.fsfs_base.proofs.Spelling.{plain_lacks}
use Rattle.fsfs_base.proofs.Unique.{numeral_decimal}
use Rattle.fsfs_revision.specs.Trailers.{IsOffset, IsTrailer, EndsWith, trailer_at}
use Rattle.fsfs_revision.specs.declared.trailer.Trailer.{Trailer}

pub trailer_reads : (n : ℕ) → ReadsAll n IsTrailer trailer_at
unfolding trailer_at
trailer_reads = whole_reads (next_reads (text_reads (10 ∷ [])) (λ _ k. next_reads (λ j. number_reads 10 18446744073709551615 32 j (omega arith) (omega arith))
    (λ root j. mapped_reads (λ (changes : ℕ). (root, changes)) (number_reads 10 18446744073709551615 10 j (omega arith) (omega arith))) k))

-- a trailer is a newline, bytes without one, and a newline
pub record IsLine (text : List ℕ) : Type 0 where
  pub inner : List ℕ
  pub lacks : Lacks 10 inner
  pub parts : text ≡ 10 ∷ (inner ++ 10 ∷ [])

lacks_append : (s t : List ℕ) → Lacks 10 s → Lacks 10 t → Lacks 10 (s ++ t)
lacks_append [] t a b = b
lacks_append (c ∷ s) t a b = (a.0, lacks_append s t a.1 b)

pub line_of : (text : List ℕ) (p : ℕ × ℕ) → IsTrailer text p → IsLine text
line_of text p w =
    let root = w.second_is.first_is in
    let changes = w.second_is.second_is.inner_is in
    let first : Lacks 10 root.digits = plain_lacks 10 18446744073709551615 10 (omega arith) root.digits w.second_is.between (root.numeral, root.fits) in
    let second : Lacks 10 changes.digits = plain_lacks 10 18446744073709551615 10 (omega arith) changes.digits w.second_is.second_is.inner (changes.numeral, changes.fits) in
    record {
      inner = root.digits ++ 32 ∷ changes.digits;
      lacks = lacks_append root.digits (32 ∷ changes.digits) first (refl, second);
      parts = w.parts ∙ (λ i. w.first_is i ++ (w.second_is.parts ∙ (λ j. root.parts j ++ changes.parts j)) i)
          ∙ ap (λ (t : List ℕ). 10 ∷ t) (simp append_assoc);
    }

-- the last newline of a line is its end
no_other : (inner f u : List ℕ) → Lacks 10 inner → f ++ 10 ∷ u ≡ inner ++ 10 ∷ [] → u ≡ []
no_other [] [] u lacks e = cc
no_other [] (c ∷ f) u lacks e = let g : f ++ 10 ∷ u ≡ [] = cc in absurd (omega (arith, ap length g, length-append f (10 ∷ u)))
no_other (c ∷ inner) [] u lacks e = let g : 10 ≡ c = cc in let h : (10 == 10) ≡ false = subst (λ (k : ℕ). (k == 10) ≡ false) (sym g) lacks.0 in absurd cc
no_other (c ∷ inner) (d ∷ f) u lacks e = no_other inner f u lacks.1 (let g : f ++ 10 ∷ u ≡ inner ++ 10 ∷ [] = cc in g)

-- no trailer ends another
pub one_trailer : (text t f : List ℕ) (c : ℕ) (p q : ℕ × ℕ) → IsTrailer text p → IsTrailer t q → text ≡ c ∷ (f ++ t) → ⊥
one_trailer text t f c p q a b e =
    let x = line_of text p a in
    let y = line_of t q b in
    let same : c ∷ (f ++ (10 ∷ (y.inner ++ 10 ∷ []))) ≡ 10 ∷ (x.inner ++ 10 ∷ []) = ap (λ (s : List ℕ). c ∷ (f ++ s)) (sym y.parts) ∙ sym e ∙ x.parts in
    let tail : f ++ 10 ∷ (y.inner ++ 10 ∷ []) ≡ x.inner ++ 10 ∷ [] = cc in
    let none = no_other x.inner f (y.inner ++ 10 ∷ []) x.lacks tail in
    omega (arith, ap length none, length-append y.inner (10 ∷ []))

-- ---- looking from the left

pub ends_here : (begins : ℕ) (bytes : List ℕ) (t : Trailer) → length bytes ≤ 64 → trailer_at bytes ≡ Ok (t.root, t.changes) → t.root < begins → t.changes ≤ begins → EndsWith begins bytes t
ends_here begins bytes t few e root changes = record {
  front = [];
  text = bytes;
  text_is = all_found trailer_reads bytes (t.root, t.changes) e;
  parts = refl;
  within = few;
  root = omega arith;
  changes = omega arith;
}

pub ends_later : (begins c : ℕ) (bytes : List ℕ) (t : Trailer) → EndsWith (begins + 1) bytes t → EndsWith begins (c ∷ bytes) t
ends_later begins c bytes t w = record {
  front = c ∷ w.front;
  text = w.text;
  text_is = w.text_is;
  parts = ap (λ (s : List ℕ). c ∷ s) w.parts;
  within = w.within;
  root = omega (arith, w.root);
  changes = omega (arith, w.changes);
}

same_trailer : (s t : Trailer) → s.root ≡ t.root → s.changes ≡ t.changes → s ≡ t
same_trailer s t a b = λ i. record { root = a i; changes = b i }

-- where the bytes are a trailer, they end with no other
pub only_here : (begins : ℕ) (bytes : List ℕ) (s t : Trailer) → trailer_at bytes ≡ Ok (s.root, s.changes) → EndsWith begins bytes t → (s ≡ t) × (t.root < begins) × (t.changes ≤ begins)
only_here begins bytes s t e w = by_front w.front w.parts w.root w.changes
  where
    by_front : (f : List ℕ) → bytes ≡ f ++ w.text → t.root < begins + length f → t.changes ≤ begins + length f → (s ≡ t) × (t.root < begins) × (t.changes ≤ begins)
    by_front [] parts root changes =
        let again = all_again trailer_reads bytes (t.root, t.changes) (subst (λ (x : List ℕ). IsTrailer x (t.root, t.changes)) (sym parts) w.text_is) in
        let both = ok_is {A = ℕ × ℕ} (s.root, s.changes) (t.root, t.changes) (sym e ∙ again) in
        (same_trailer s t (ap (λ (p : ℕ × ℕ). p.0) both) (ap (λ (p : ℕ × ℕ). p.1) both), omega arith, omega arith)
    by_front (c ∷ f) parts root changes = absurd (one_trailer bytes w.text f c (s.root, s.changes) (t.root, t.changes) (all_found trailer_reads bytes (s.root, s.changes) e) w.text_is parts)

-- where they are none, one begins later
pub only_later : (begins c left : ℕ) (bytes : List ℕ) (t : Trailer) → trailer_at (c ∷ bytes) ≡ Err left → EndsWith begins (c ∷ bytes) t → EndsWith (begins + 1) bytes t
only_later begins c left bytes t e w = by_front w.front w.parts w.root w.changes
  where
    by_front : (f : List ℕ) → c ∷ bytes ≡ f ++ w.text → t.root < begins + length f → t.changes ≤ begins + length f → EndsWith (begins + 1) bytes t
    by_front [] parts root changes =
        let again = all_again trailer_reads (c ∷ bytes) (t.root, t.changes) (subst (λ (x : List ℕ). IsTrailer x (t.root, t.changes)) (sym parts) w.text_is) in
        absurd (let h : Result (ℕ × ℕ) ℕ = Err left in let g : h ≡ Ok (t.root, t.changes) = sym e ∙ again in cc)
    by_front (d ∷ f) parts root changes = record {
      front = f;
      text = w.text;
      text_is = w.text_is;
      parts = (let g : bytes ≡ f ++ w.text = cc in g);
      within = w.within;
      root = omega (arith, root);
      changes = omega (arith, changes);
    }

-- ---- the last bytes are enough

pub from_tail : (begins cut : ℕ) (bytes : List ℕ) (t : Trailer) → cut ≤ length bytes → EndsWith (begins + cut) (drop cut bytes) t → EndsWith begins bytes t
from_tail begins cut bytes t le w = record {
  front = take cut bytes ++ w.front;
  text = w.text;
  text_is = w.text_is;
  parts = sym (take-append-drop cut bytes) ∙ ap (λ (s : List ℕ). take cut bytes ++ s) w.parts ∙ sym (append_assoc (take cut bytes) w.front w.text);
  within = w.within;
  root = omega (arith, w.root, length-append (take cut bytes) w.front, length-take cut bytes);
  changes = omega (arith, w.changes, length-append (take cut bytes) w.front, length-take cut bytes);
}

pub in_tail : (begins cut : ℕ) (bytes : List ℕ) (t : Trailer) → cut ≡ length bytes - 64 → EndsWith begins bytes t → EndsWith (begins + cut) (drop cut bytes) t
in_tail begins cut bytes t is w =
    let room : cut ≤ length w.front = omega (arith, is, ap length w.parts, length-append w.front w.text, w.within) in
    record {
      front = drop cut w.front;
      text = w.text;
      text_is = w.text_is;
      parts = ap (drop cut) w.parts ∙ drop-append-le cut w.front w.text room;
      within = w.within;
      root = omega (arith, w.root, length-drop cut w.front);
      changes = omega (arith, w.changes, length-drop cut w.front);
    }

-- ---- writing

digits_few : (digits : List ℕ) (n : ℕ) → IsNumeral 10 digits n → n ≤ 18446744073709551615 → length digits ≤ 20
digits_few digits n w le =
    let small : n < 2 ^ 64 = omega arith in
    let long : length (decimal n) ≤ 20 = length-decimal-le 20 n (omega arith) (omega arith) small in
    omega (arith, ap length (numeral_decimal digits n small w), long)

-- a trailer has few bytes
pub trailer_few : (text : List ℕ) (p : ℕ × ℕ) → IsTrailer text p → length text ≤ 64
trailer_few text p w =
    let root = w.second_is.first_is in
    let changes = w.second_is.second_is.inner_is in
    omega (
      arith,
      ap length w.parts,
      length-append w.first w.second,
      ap length w.first_is,
      ap length w.second_is.parts,
      length-append w.second_is.first w.second_is.second,
      ap length root.parts,
      length-append root.digits (32 ∷ []),
      ap length changes.parts,
      length-append changes.digits (10 ∷ []),
      digits_few root.digits w.second_is.between root.numeral root.fits,
      digits_few changes.digits w.second_is.second_is.inner changes.numeral changes.fits,
    )

-- the parts of a trailer, written one after another
pub written : (old a b new : List ℕ) (root changes : ℕ) → a ≡ old ++ 10 ∷ [] → Appends (IsOffset 32) a b root → Appends (IsOffset 10) b new changes → Appends IsTrailer old new (root, changes)
written old a b new root changes e r c = record {
  text = 10 ∷ (r.text ++ c.text);
  text_is = record {
    first = 10 ∷ [];
    second = r.text ++ c.text;
    between = tt;
    first_is = refl;
    second_is = record { first = r.text; second = c.text; between = root; first_is = r.text_is; second_is = record { inner = changes; inner_is = c.text_is; value_is = refl }; parts = refl };
    parts = refl;
  };
  parts = c.parts ∙ ap (λ (s : List ℕ). s ++ c.text) (r.parts ∙ ap (λ (s : List ℕ). s ++ r.text) e) ∙ simp append_assoc;
}

pub written_ends : (old new : List ℕ) (t : Trailer) → t.root < length old → t.changes ≤ length old → Appends IsTrailer old new (t.root, t.changes) → EndsWith 0 new t
written_ends old new t root changes w = record {
  front = old;
  text = w.text;
  text_is = w.text_is;
  parts = w.parts;
  within = trailer_few w.text (t.root, t.changes) w.text_is;
  root = omega (arith, root);
  changes = omega (arith, changes);
}

-- ---- of slices

pub if_more : (P Q : Trailer → Type 0) (r : Option Trailer) → IfSome r P → ((t : Trailer) → P t → Q t) → IfSome r Q
if_more P Q None h f = tt
if_more P Q (Some t) h f = f t h

rest_of : (c : ℕ) (bytes : List ℕ) → take (length (c ∷ bytes) - 1) (drop 1 (c ∷ bytes)) ≡ bytes
rest_of c bytes = take_all (length (c ∷ bytes) - 1) bytes (omega arith)

pub ends_behind : (begins : ℕ) (bytes : List ℕ) (t : Trailer) → 1 ≤ length bytes → EndsWith (begins + 1) (take (length bytes - 1) (drop 1 bytes)) t → EndsWith begins bytes t
ends_behind begins [] t le w = absurd (omega (arith, le))
ends_behind begins (c ∷ bytes) t le w = ends_later begins c bytes t (subst (λ (s : List ℕ). EndsWith (begins + 1) s t) (rest_of c bytes) w)

pub only_behind : (begins left : ℕ) (bytes : List ℕ) (t : Trailer) → 1 ≤ length bytes → trailer_at bytes ≡ Err left → EndsWith begins bytes t → EndsWith (begins + 1) (take (length bytes - 1) (drop 1 bytes)) t
only_behind begins left [] t le e w = absurd (omega (arith, le))
only_behind begins left (c ∷ bytes) t le e w = subst (λ (s : List ℕ). EndsWith (begins + 1) s t) (sym (rest_of c bytes)) (only_later begins c left bytes t e w)

slice_from : (cut : ℕ) (bytes : List ℕ) → take (length bytes - cut) (drop cut bytes) ≡ drop cut bytes
slice_from cut bytes = take_all (length bytes - cut) (drop cut bytes) (omega (arith, length-drop cut bytes))

pub from_slice : (begins cut : ℕ) (bytes : List ℕ) (t : Trailer) → cut ≡ length bytes - 64 → EndsWith (begins + cut) (take (length bytes - cut) (drop cut bytes)) t → EndsWith begins bytes t
from_slice begins cut bytes t is w = from_tail begins cut bytes t (omega (arith, is)) (subst (λ (s : List ℕ). EndsWith (begins + cut) s t) (slice_from cut bytes) w)

pub in_slice : (begins cut : ℕ) (bytes : List ℕ) (t : Trailer) → cut ≡ length bytes - 64 → EndsWith begins bytes t → EndsWith (begins + cut) (take (length bytes - cut) (drop cut bytes)) t
in_slice begins cut bytes t is w = subst (λ (s : List ℕ). EndsWith (begins + cut) s t) (sym (slice_from cut bytes)) (in_tail begins cut bytes t is w)
