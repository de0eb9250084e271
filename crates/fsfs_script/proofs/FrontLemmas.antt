-- What one call adds to a line.
use Rattle.std.proofs.Common.{◌≡◌, ◌≤◌, ◌+◌, ℕ, List, [], ◌∷◌, ◌++◌, length, take, drop, Option, Some, None, sym, ap, subst, ◌∙◌, append_assoc, arith}
use Rattle.std.proofs.lemmas.List.{append-nil, length-append, take_all, drop_all}
use Rattle.std.specs.Prelude.{Err}
use Rattle.fsfs_base.specs.Grammar.Cuts.{Lacks, cut}
use Rattle.fsfs_base.proofs.CutLemmas.{cut_found, cut_none}
use Rattle.fsfs_script.specs.Places.{Place, newlines, passed, place_of}
use Rattle.fsfs_script.specs.Reading.{line_at, Reads, Grows, IsTooMuch, IsFrontStop, EndsLine, GrowsLine}
use Rattle.fsfs_script.specs.declared.stop.Stop.{Stop}
use Rattle.fsfs_script.specs.declared.stop.Stop.TheVariants as stops
use Rattle.fsfs_script.proofs.PlaceLemmas.{newlines_lacking}
use Rattle.fsfs_script.proofs.LineLemmas.{IsReading, reading_long}
use Rattle.fsfs_script.proofs.TextLemmas.{front_of}
use Rattle.fsfs_script.proofs.Standing.{newlines_line}

stops_by : (line more rest bytes : List ℕ) (p : Place) (stop : Stop) → bytes ≡ p.bytes → Lacks 10 more → bytes ≡ more ++ rest → IsTooMuch line more stop → IsFrontStop line p stop
stops_by line more rest bytes p (stops.Refused refusal) same lacks parts w = record { front = more; rest = rest; lacks = lacks; bytes = sym same ∙ parts; long = w.1; why_is = w.0 }
stops_by line more rest bytes p stops.ReadFault same lacks parts w = w
stops_by line more rest bytes p stops.OutOfMemory same lacks parts w = tt

-- the line would be too long: by all bytes that are here
pub stops_in_line : (line bytes : List ℕ) (p : Place) (stop : Stop) → bytes ≡ p.bytes → cut 10 bytes ≡ None → IsTooMuch line bytes stop → IsFrontStop line p stop
stops_in_line line bytes p stop same none w = stops_by line bytes [] bytes p stop same (cut_none 10 bytes none) (sym (append-nil bytes)) w

-- by those before the newline
pub stops_at_end : (line bytes end rest : List ℕ) (p : Place) (stop : Stop) → bytes ≡ p.bytes → cut 10 bytes ≡ Some (end, rest) → IsTooMuch line end stop → IsFrontStop line p stop
stops_at_end line bytes end rest p stop same some w =
    let c = cut_found 10 bytes end rest some in
    stops_by line end (10 ∷ rest) bytes p stop same c.lacks c.parts w

pub end_within : (bytes end rest all : List ℕ) → bytes ≡ all → cut 10 bytes ≡ Some (end, rest) → length end + 1 ≤ length all
end_within bytes end rest all same some = omega (arith, ap length (sym same ∙ (cut_found 10 bytes end rest some).parts), length-append end (10 ∷ rest))

-- the line goes on
pub grows_line : (line text bytes : List ℕ) (a b : Place) → bytes ≡ a.bytes → cut 10 bytes ≡ None → Grows line bytes text → b ≡ passed (length bytes) a → (length text ≤ 8192) × GrowsLine line text a b
grows_line line text bytes a b same none w e =
    let lacks : Lacks 10 a.bytes = subst (Lacks 10) same (cut_none 10 bytes none) in
    let size : length a.bytes ≤ length bytes = omega (arith, ap length same) in
    let number : a.line + newlines (take (length bytes) a.bytes) ≡ a.line = ap (λ (t : List ℕ). a.line + newlines t) (take_all (length bytes) a.bytes size) ∙ omega (arith, newlines_lacking a.bytes lacks) in
    let empty : drop (length bytes) a.bytes ≡ [] = drop_all (length bytes) a.bytes size in
    (w.1, record { lacks = lacks; text_is = w.0 ∙ ap (λ (t : List ℕ). line ++ t) same; new_is = e ∙ (λ i. record { line = number i; bytes = empty i }) })

-- the line ends
pub ends_line : (line text bytes end rest : List ℕ) (a b : Place) → bytes ≡ a.bytes → cut 10 bytes ≡ Some (end, rest) → Grows line end text → b ≡ passed (length end + 1) a → (length text ≤ 8192) × EndsLine line text a b
ends_line line text bytes end rest a b same some w e =
    let c = cut_found 10 bytes end rest some in
    let parts : a.bytes ≡ end ++ 10 ∷ rest = sym same ∙ c.parts in
    let whole : a.bytes ≡ (end ++ 10 ∷ []) ++ rest = parts ∙ sym (append_assoc end (10 ∷ []) rest) in
    let f = front_of a.bytes (end ++ 10 ∷ []) rest (length end + 1) whole (omega (arith, length-append end (10 ∷ []))) in
    let left : b.bytes ≡ rest = ap (λ (q : Place). q.bytes) e ∙ f.1 in
    let number : b.line ≡ a.line + 1 = ap (λ (q : Place). q.line) e ∙ ap (λ (t : List ℕ). a.line + newlines t) f.0 ∙ ap (λ (n : ℕ). a.line + n) (newlines_line end c.lacks) in
    (w.1, record { end = end; lacks = c.lacks; bytes = parts ∙ ap (λ (t : List ℕ). end ++ 10 ∷ t) (sym left); text_is = w.0; line_is = number })

-- a line that stops
pub reading_stops : (rem : Option (List ℕ)) (a : Place) (start new : Option Place) (line : List ℕ) {X : Type 0} (view : X → List ℕ) (stop : Stop) → IsReading start (place_of rem a) line → IsFrontStop line a stop → Reads view line_at start new (Err stop)
reading_stops rem a start new line view (stops.Refused refusal) w f = reading_long rem a start new line refusal view w f
reading_stops rem a start new line view stops.ReadFault w f = absurd f
reading_stops rem a None new line view stops.OutOfMemory w f = tt
reading_stops rem a (Some p) new line view stops.OutOfMemory w f = tt
