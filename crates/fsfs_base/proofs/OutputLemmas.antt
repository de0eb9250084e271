-- A text that is printed in pieces.
use Rattle.std.proofs.Common.{◌≡◌, ◌≤◌, ℕ, List, ◌++◌, refl, ap, sym, subst, ◌∙◌, take, drop, append_assoc, arith}
use Rattle.std.proofs.lemmas.List.{take-append-drop}
use Rattle.std.specs.Prelude.{Option, Result, Ok, Err, IsErr}
use Rattle.fsfs_base.specs.Failures.{Rose}
use Rattle.fsfs_base.specs.Streams.{Adds}
use Rattle.fsfs_base.proofs.StreamLemmas.{adds_then}
use Rattle.fsfs_base.specs.Output.{AddsFront, Prints}

-- one piece more
pub printed_more : {E : Type 0} (old mid new : Option (List ℕ)) (text piece : List ℕ) (before then_ now : ℕ) (r : Result (Unit {0}) E)
    → Adds old mid text → before ≤ then_ → Prints mid new piece then_ now r → Prints old new (text ++ piece) before now r
printed_more old mid new text piece before then_ now (Ok x) a le p = record { whole = adds_then old mid new text piece a p.whole; part = tt; later = omega (arith, le, p.later); failed = tt }
printed_more old mid new text piece before then_ now (Err e) a le p = record {
  whole = tt;
  part = front p.part;
  later = omega (arith, le, p.later);
  failed = omega (arith, le, p.failed);
}
  where
    front : AddsFront mid new piece → AddsFront old new (text ++ piece)
    front (f, rest, is, adds) = (text ++ f, rest, ap (λ q. text ++ q) is ∙ sym (append_assoc text f rest), adds_then old mid new text f a adds)

-- a failure stops the printing, so that the rest is left
pub printed_less : {E : Type 0} (old new : Option (List ℕ)) (text rest : List ℕ) (before now : ℕ) (r : Result (Unit {0}) E) → IsErr r → Prints old new text before now r → Prints old new (text ++ rest) before now r
printed_less old new text rest before now (Ok x) bad p = cc
printed_less old new text rest before now (Err e) bad p = record { whole = tt; part = front p.part; later = p.later; failed = p.failed } where
  front : AddsFront old new text → AddsFront old new (text ++ rest)
  front (g, left, is, adds) = (g, left ++ rest, ap (λ t. t ++ rest) is ∙ append_assoc g left rest, adds)

-- the same failure, as it is passed on
pub passed_on : {E : Type 0} (old new : Option (List ℕ)) (text : List ℕ) (before now : ℕ) (r s : Result (Unit {0}) E) → IsErr r → IsErr s → Prints old new text before now r → Prints old new text before now s
passed_on old new text before now (Ok x) s bad h p = cc
passed_on old new text before now (Err e) (Ok x) bad h p = cc
passed_on old new text before now (Err e) (Err f) bad h p = record { whole = tt; part = p.part; later = p.later; failed = p.failed }

-- a write failed after so many bytes
pub printed_front : {E : Type 0} (old new : Option (List ℕ)) (text : List ℕ) (k before now : ℕ) (r : Result (Unit {0}) E) → IsErr r → Adds old new (take k text) → before ≤ now → Rose before now → Prints old new text before now r
printed_front old new text k before now (Ok x) bad a le rose = cc
printed_front old new text k before now (Err e) bad a le rose = record {
  whole = tt;
  part = (take k text, drop k text, sym (take-append-drop k text), a);
  later = le;
  failed = rose;
}
