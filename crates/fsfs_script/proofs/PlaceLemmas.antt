-- Passing bytes, one piece after another.
use Rattle.std.proofs.Common.{◌≡◌, ℕ, ◌+◌, ◌-◌, ◌≤◌, eqb, List, [], ◌∷◌, ◌++◌, length, take, drop, Option, Some, None, refl, sym, ap, subst, ◌∙◌, append_assoc, arith}
use Rattle.std.proofs.lemmas.Option.{same_Some}
use Rattle.std.proofs.lemmas.List.{take-append-drop, length-take-le, length-drop, drop-take, drop-drop}
use Rattle.std.proofs.lemmas.List.Sums.{sum_by-append}
use Rattle.std.proofs.Common.{cond}
use Rattle.fsfs_base.specs.Grammar.Cuts.{Lacks}
use Rattle.fsfs_base.specs.Streams.{Takes}
use Rattle.fsfs_script.specs.Places.{Place, newlines, passed, place_of, Fills, Keeps, Passes, IsAtEnd}

pub newlines-append : (s t : List ℕ) → newlines (s ++ t) ≡ newlines s + newlines t
newlines-append s t = sum_by-append (λ b. cond (eqb b 10) 1 0) s t

pub newlines_lacking : (t : List ℕ) → Lacks 10 t → newlines t ≡ 0
newlines_lacking [] lacks = refl
newlines_lacking (b ∷ bs) lacks = rw (lacks.0) (newlines_lacking bs lacks.1)

-- ---- a place that is told

pub told_parts : (rem : Option (List ℕ)) (a q : Place) → place_of rem a ≡ Some q → (more : List ℕ) × (rem ≡ Some more) × (a.line ≡ q.line) × (a.bytes ++ more ≡ q.bytes)
told_parts None a q e = absurd cc
told_parts (Some more) a q e =
    let s = same_Some {A = Place} (record { line = a.line; bytes = a.bytes ++ more }) q e in
    (more, refl, ap (λ (p : Place). p.line) s, ap (λ (p : Place). p.bytes) s)

pub told_again : (rem : Option (List ℕ)) (b q : Place) (more : List ℕ) → rem ≡ Some more → b.line ≡ q.line → b.bytes ++ more ≡ q.bytes → place_of rem b ≡ Some q
told_again rem b q more e line bytes = ap (λ (o : Option (List ℕ)). place_of o b) e ∙ (λ i. Some (record { line = line i; bytes = bytes i }))

-- ---- passing

pub passes_none : (a : Option Place) → Passes a a []
passes_none None = tt
passes_none (Some p) = let e : p.line ≡ p.line + 0 = omega arith in (p.bytes, refl, λ i. Some (record { line = e i; bytes = p.bytes }))

pub passes_more : (a b c : Option Place) (s t : List ℕ) → Passes a b s → Passes b c t → Passes a c (s ++ t)
passes_more None b c s t v w = tt
passes_more (Some p) b c s t v w =
    let next : Passes (Some (record { line = p.line + newlines s; bytes = v.0 })) c t = subst (λ (o : Option Place). Passes o c t) v.2 w in
    let lines : (p.line + newlines s) + newlines t ≡ p.line + newlines (s ++ t) = omega (arith, newlines-append s t) in
    (next.0, v.1 ∙ ap (λ (r : List ℕ). s ++ r) next.1 ∙ sym (append_assoc s t next.0), next.2 ∙ (λ i. Some (record { line = lines i; bytes = next.0 })))

pub passes_kept : (a b c : Option Place) (s : List ℕ) → Passes a b s → Keeps b c → Passes a c s
passes_kept None b c s v k = tt
passes_kept (Some p) b c s v k = let e = subst (λ (o : Option Place). Keeps o c) v.2 k in (v.0, v.1, e)

pub passes_place : (rem : Option (List ℕ)) (n : ℕ) (a : Place) → Passes (place_of rem a) (place_of rem (passed n a)) (take n a.bytes)
passes_place None n a = tt
passes_place (Some more) n a = (
  drop n a.bytes ++ more,
  ap (λ (t : List ℕ). t ++ more) (sym (take-append-drop n a.bytes)) ∙ append_assoc (take n a.bytes) (drop n a.bytes) more,
  refl,
)

-- bytes from one index of a piece to another, of which the first are passed
pub passed_is : (piece : List ℕ) (from to count line more new : ℕ) → from ≤ to → to ≤ length piece → count ≤ length (take (to - from) (drop from piece)) → more ≡ newlines (take count (take (to - from) (drop from piece))) → new ≡ line + more
    → (let p : Place = record { line = new; bytes = take (to - (from + count)) (drop (from + count) piece) } in p) ≡ passed count (record { line = line; bytes = take (to - from) (drop from piece) })
passed_is piece from to count line more new order within here lines sum =
    let size : length (take (to - from) (drop from piece)) ≡ to - from = length-take-le (to - from) (drop from piece) (omega (arith, length-drop from piece, order, within)) in
    let parts : to - from ≡ count + (to - (from + count)) = omega (arith, order, size, here) in
    let bytes : drop count (take (to - from) (drop from piece)) ≡ take (to - (from + count)) (drop (from + count) piece) = ap (λ (n : ℕ). drop count (take n (drop from piece))) parts ∙ drop-take count (to - (from + count)) (drop from piece) ∙ ap (λ (s : List ℕ). take (to - (from + count)) s) (drop-drop count from piece) in
    let number : new ≡ line + newlines (take count (take (to - from) (drop from piece))) = sum ∙ ap (λ (n : ℕ). line + n) lines in
    λ i. record { line = number i; bytes = sym bytes i }

-- ---- a piece of the source

pub keeps_same : (a : Option Place) → Keeps a a
keeps_same None = tt
keeps_same (Some p) = refl
