-- A line, one piece after another.
use Rattle.std.proofs.Common.{◌≡◌, ◌<◌, ◌≤◌, ◌+◌, ℕ, List, [], ◌∷◌, ◌++◌, length, Option, Some, None, refl, sym, ap, subst, ◌∙◌, append_assoc, arith, true, false, ltb}
use Rattle.std.proofs.lemmas.List.{append-nil, length-append}
use Rattle.std.proofs.lemmas.Bool.{lt-ltb, le-ltb}
use Rattle.std.proofs.lemmas.Option.{some_pair_parts}
use Rattle.std.specs.Prelude.{Ok, Err}
use Rattle.fsfs_base.specs.Grammar.Cuts.{Lacks, cut, cut_on}
use Rattle.fsfs_base.proofs.CutLemmas.{cut_again, cut_lacking, lacks_from}
use Rattle.fsfs_script.specs.declared.job_lines.refusal.Refusal.{Refusal}
use Rattle.fsfs_script.specs.declared.job_lines.refusal.Refusal.TheVariants.{Bad}
use Rattle.fsfs_script.specs.declared.job_lines.refusal.Why.TheVariants as why
use Rattle.fsfs_script.specs.Places.{Place, newlines, place_of, Keeps, Passes, IsAtEnd}
use Rattle.fsfs_script.specs.Reading.{line_at, line_on, Reads, EndsLine, GrowsLine, IsLong}
use Rattle.fsfs_script.specs.declared.stop.Stop.TheVariants as stops
use Rattle.fsfs_script.proofs.PlaceLemmas.{told_parts, told_again, passes_kept, newlines_lacking}

-- so much of a line was read
pub record IsReading (from now : Option Place) (line : List ℕ) : Type 0 where
  pub passes : Passes from now line
  pub lacks : Lacks 10 line
  pub short : length line ≤ 8192

-- ---- lines at a place

pub line_short : (p : Place) (line : List ℕ) → p.bytes ≡ line → Lacks 10 line → length line ≤ 8192 → line_at p ≡ Err (Bad why.Short)
unfolding line_at
line_short p line e lacks short =
    let none : cut 10 p.bytes ≡ None = ap (cut 10) e ∙ cut_lacking 10 line lacks in
    let size : ltb 8192 (length p.bytes) ≡ false = le-ltb 8192 (length p.bytes) (omega (arith, ap length e, short)) in
    rw (none, size) refl

pub line_whole : (p : Place) (line rest : List ℕ) → p.bytes ≡ line ++ 10 ∷ rest → Lacks 10 line → length line ≤ 8192 → line_at p ≡ Ok (line, record { line = p.line + 1; bytes = rest })
unfolding line_at
line_whole p line rest e lacks short =
    let some : cut 10 p.bytes ≡ Some (line, rest) = ap (cut 10) e ∙ cut_again 10 line rest lacks in
    let size : ltb 8192 (length line) ≡ false = le-ltb 8192 (length line) short in
    rw (some, size) refl

-- a cut is not before the end of what lacks the byte
cut_behind : (front rest a b : List ℕ) → Lacks 10 front → cut 10 (front ++ rest) ≡ Some (a, b) → length front ≤ length a
cut_behind [] rest a b lacks e = omega arith
cut_behind (x ∷ front) rest a b lacks e = by (λ f r. cut_behind front rest f r lacks.1) (cut 10 (front ++ rest)) refl (rw lacks.0 at e)
  where
    by : ((f r : List ℕ) → cut 10 (front ++ rest) ≡ Some (f, r) → length front ≤ length f) → (o : Option (List ℕ × List ℕ)) → cut 10 (front ++ rest) ≡ o → cut_on (x ∷ []) (cut 10 (front ++ rest)) ≡ Some (a, b) → length (x ∷ front) ≤ length a
    by more None is e = let none : cut_on (x ∷ []) None ≡ Some (a, b) = rw is at e in absurd cc
    by more (Some q) is e =
        let some : cut_on (x ∷ []) (Some q) ≡ Some (a, b) = rw is at e in
        let s = some_pair_parts (x ∷ q.0) a q.1 b some in
        omega (arith, ap length s.0, more q.0 q.1 is)

pub line_long : (p : Place) (front rest : List ℕ) → p.bytes ≡ front ++ rest → Lacks 10 front → 8192 < length front → line_at p ≡ Err (Bad why.LongLine)
unfolding line_at
line_long p front rest e lacks long = by (cut 10 p.bytes) refl
  where
    by : (o : Option (List ℕ × List ℕ)) → cut 10 p.bytes ≡ o → line_on p (cut 10 p.bytes) ≡ Err (Bad why.LongLine)
    by None is =
        let size : ltb 8192 (length p.bytes) ≡ true = lt-ltb 8192 (length p.bytes) (omega (arith, ap length e, length-append front rest, long)) in
        rw (is, size) refl
    by (Some q) is =
        let le = cut_behind front rest q.0 q.1 lacks (sym (ap (cut 10) e) ∙ is) in
        let size : ltb 8192 (length q.0) ≡ true = lt-ltb 8192 (length q.0) (omega (arith, le, long)) in
        rw (is, size) refl

-- ---- what was read of a line, and what comes

pub reading_kept : (from now next : Option Place) (line : List ℕ) → IsReading from now line → Keeps now next → IsReading from next line
reading_kept from now next line w k = record { passes = passes_kept from now next line w.passes k; lacks = w.lacks; short = w.short }

pub reading_ends_short : (from now new : Option Place) (line : List ℕ) {X : Type 0} (view : X → List ℕ) → IsReading from now line → IsAtEnd now → Reads view line_at from new (Err (stops.Refused (Bad why.Short)))
reading_ends_short None now new line view w end = tt
reading_ends_short (Some p) now new line view w end =
    let v = w.passes in
    let rest : v.0 ≡ [] = subst IsAtEnd v.2 end in
    line_short p line (v.1 ∙ ap (λ (t : List ℕ). line ++ t) rest ∙ append-nil line) w.lacks w.short

pub reading_grows : (rem : Option (List ℕ)) (a b : Place) (start : Option Place) (line text : List ℕ) → IsReading start (place_of rem a) line → length text ≤ 8192 → GrowsLine line text a b → IsReading start (place_of rem b) text
reading_grows rem a b start line text w short g = record { passes = go start w.passes; lacks = subst (Lacks 10) (sym g.text_is) (lacks_from 10 line a.bytes w.lacks g.lacks); short = short }
  where
    go : (start : Option Place) → Passes start (place_of rem a) line → Passes start (place_of rem b) text
    go None v = tt
    go (Some p) v =
        let t = told_parts rem a (record { line = p.line + newlines line; bytes = v.0 }) v.2 in
        let bytes : p.bytes ≡ text ++ t.0 = v.1 ∙ ap (λ (r : List ℕ). line ++ r) (sym t.3) ∙ sym (append_assoc line a.bytes t.0) ∙ ap (λ (s : List ℕ). s ++ t.0) (sym g.text_is) in
        let none = newlines_lacking text (subst (Lacks 10) (sym g.text_is) (lacks_from 10 line a.bytes w.lacks g.lacks)) in
        let before = newlines_lacking line w.lacks in
        let b_line : b.line ≡ p.line + newlines text = ap (λ (q : Place). q.line) g.new_is ∙ omega (arith, t.2, none, before) in
        let b_bytes : b.bytes ++ t.0 ≡ t.0 = ap (λ (q : Place). q.bytes ++ t.0) g.new_is in
        (t.0, bytes, told_again rem b (record { line = p.line + newlines text; bytes = t.0 }) t.0 t.1 b_line b_bytes)

pub reading_ends : (rem : Option (List ℕ)) (a b : Place) (start : Option Place) (line : List ℕ) {X : Type 0} (view : X → List ℕ) (x : X) → IsReading start (place_of rem a) line → length (view x) ≤ 8192 → EndsLine line (view x) a b → Reads view line_at start (place_of rem b) (Ok x)
reading_ends rem a b None line view x w short g = tt
reading_ends rem a b (Some p) line view x w short g =
    let v = w.passes in
    let t = told_parts rem a (record { line = p.line + newlines line; bytes = v.0 }) v.2 in
    let lacks : Lacks 10 (view x) = subst (Lacks 10) (sym g.text_is) (lacks_from 10 line g.end w.lacks g.lacks) in
    let here : v.0 ≡ g.end ++ 10 ∷ (b.bytes ++ t.0) = sym t.3 ∙ ap (λ (s : List ℕ). s ++ t.0) g.bytes ∙ append_assoc g.end (10 ∷ b.bytes) t.0 in
    let bytes : p.bytes ≡ view x ++ 10 ∷ (b.bytes ++ t.0) = v.1 ∙ ap (λ (r : List ℕ). line ++ r) here ∙ sym (append_assoc line g.end (10 ∷ (b.bytes ++ t.0))) ∙ ap (λ (s : List ℕ). s ++ 10 ∷ (b.bytes ++ t.0)) (sym g.text_is) in
    let b_line : b.line ≡ p.line + 1 = g.line_is ∙ omega (arith, t.2, newlines_lacking line w.lacks) in
    (record { line = p.line + 1; bytes = b.bytes ++ t.0 }, line_whole p (view x) (b.bytes ++ t.0) bytes lacks short, told_again rem b (record { line = p.line + 1; bytes = b.bytes ++ t.0 }) t.0 t.1 b_line refl)

pub reading_long : (rem : Option (List ℕ)) (a : Place) (start new : Option Place) (line : List ℕ) (refusal : Refusal) {X : Type 0} (view : X → List ℕ) → IsReading start (place_of rem a) line → IsLong line a refusal → Reads view line_at start new (Err (stops.Refused refusal))
reading_long rem a None new line refusal view w g = tt
reading_long rem a (Some p) new line refusal view w g =
    let v = w.passes in
    let t = told_parts rem a (record { line = p.line + newlines line; bytes = v.0 }) v.2 in
    let here : v.0 ≡ g.front ++ (g.rest ++ t.0) = sym t.3 ∙ ap (λ (s : List ℕ). s ++ t.0) g.bytes ∙ append_assoc g.front g.rest t.0 in
    let bytes : p.bytes ≡ (line ++ g.front) ++ (g.rest ++ t.0) = v.1 ∙ ap (λ (r : List ℕ). line ++ r) here ∙ sym (append_assoc line g.front (g.rest ++ t.0)) in
    line_long p (line ++ g.front) (g.rest ++ t.0) bytes (lacks_from 10 line g.front w.lacks g.lacks) (omega (arith, g.long, length-append line g.front)) ∙ ap (λ (r : Refusal). Err r) (sym g.why_is)
