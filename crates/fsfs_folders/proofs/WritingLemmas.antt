-- What stands after bytes were written piece by piece at the end of a file.
use Rattle.std.proofs.Common.{◌≡◌, ◌⊎◌, ℕ, List, [], ◌∷◌, ◌++◌, ◌+◌, Bool, true, false, cond, take, drop, length, inl, inr, ⊎_elim, refl, sym, ap, subst, ◌∙◌, arith}
use Rattle.std.proofs.Math.Seq.{take-add}
use Rattle.std.proofs.lemmas.Bool.{eq-eqb, ne_eqb}
use Rattle.std.proofs.lemmas.List.{drop-drop, length-drop, length-take, length-append, take_all, append-nil, append_assoc}
use Rattle.std.specs.Prelude.{◌≤◌, ◌<◌, ◌-◌, nat_eq, Option, Some, None, option_map, Result, Ok, Err, OnErr}
use Rattle.fsfs_folders.specs.System.CallRecord.{CallRecord, Append, Contents, Does, add_call, names_now, contents_now, new_number, more_bytes}
use Rattle.fsfs_folders.specs.Writing.{joined, with_pieces, Writes, WritesSome}

mapped_itself : (o : Option CallRecord) → option_map (λ r. r) o ≡ o
mapped_itself None = refl
mapped_itself (Some r) = refl

pub wrote_none : (number : ℕ) (old : Option CallRecord) → Writes number [] old old
wrote_none number old = ([], refl, sym (mapped_itself old))

-- one piece more
pub wrote_more : (number : ℕ) (front piece : List ℕ) (a b c : Option CallRecord) → Writes number front a b → Does (Append number piece) b c → Writes number (front ++ piece) a c
wrote_more number front piece a b c w e = (
  piece ∷ w.0,
  ap (λ (f : List ℕ). f ++ piece) w.1,
  e ∙ ap (λ o. option_map (add_call (Append number piece)) o) w.2 ∙ twice a,
)
  where
    twice : (o : Option CallRecord) → option_map (add_call (Append number piece)) (option_map (with_pieces number w.0) o) ≡ option_map (with_pieces number (piece ∷ w.0)) o
    twice None = refl
    twice (Some r) = refl

-- so many bytes more of a text
pub went_on : (number : ℕ) (a b c : Option CallRecord) (text rest : List ℕ) (k n : ℕ) → k ≤ length text → rest ≡ drop k text → n ≤ length rest → Writes number (take k text) a b
    → Does (Append number (take n rest)) b c → (j : ℕ) × (j ≤ length text) × (drop n rest ≡ drop j text) × Writes number (take j text) a c
went_on number a b c text rest k n fits is within w e = (
  k + n,
  omega (arith, fits, within, ap length is, length-drop k text),
  ap (drop n) is ∙ drop-drop n k text,
  subst (λ z. Writes number z a c) (ap (λ r. take k text ++ take n r) is ∙ sym (take-add k n text)) (wrote_more number (take k text) (take n rest) a b c w e),
)

-- all of it
pub ended : (k : ℕ) (text rest : List ℕ) → k ≤ length text → rest ≡ drop k text → length rest ≡ 0 → take k text ≡ text
ended k text rest fits is none = take_all k text (omega (arith, length-drop k text, ap length is, none))

-- a piece that failed
pub wrote_some : (number : ℕ) (a b c : Option CallRecord) (text rest : List ℕ) (k : ℕ) → k ≤ length text → rest ≡ drop k text → Writes number (take k text) a b
    → (c ≡ b) ⊎ ((any : List ℕ) × (length any ≤ length rest) × Does (Append number any) b c) → WritesSome number (length text) a c
wrote_some number a b c text rest k fits is w failed =
    ⊎_elim (λ same. (take k text, omega (arith, length-take k text, fits), subst (λ o. Writes number (take k text) a o) (sym same) w))
    (λ any. (
      take k text ++ any.0,
      omega (arith, length-append (take k text) any.0, length-take k text, fits, any.1, ap length is, length-drop k text),
      wrote_more number (take k text) any.0 a b c w any.2,
    )) failed

pub pieces_names : (number : ℕ) (pieces : List (List ℕ)) (r : CallRecord) → names_now (with_pieces number pieces r) ≡ names_now r
pieces_names number [] r = refl
pieces_names number (piece ∷ pieces) r = pieces_names number pieces r

-- the file has these bytes more
pub pieces_bytes : (number : ℕ) (pieces : List (List ℕ)) (r : CallRecord) → contents_now (with_pieces number pieces r) number ≡ more_bytes (joined pieces) (contents_now r number)
pieces_bytes number [] r = ap {B = Contents} (λ x. record (contents_now r number) { bytes = x }) (sym (append-nil (contents_now r number).bytes))
pieces_bytes number (piece ∷ pieces) r =
    ap (λ b. cond b (more_bytes piece (contents_now (with_pieces number pieces r) number)) (contents_now (with_pieces number pieces r) number)) (eq-eqb number number refl)
    ∙ ap (λ (f : Contents). more_bytes piece f) (pieces_bytes number pieces r)
    ∙ ap {B = Contents} (λ x. record (contents_now r number) { bytes = x }) (append_assoc (contents_now r number).bytes (joined pieces) piece)

-- and all others what they had
pub pieces_others : (number : ℕ) (pieces : List (List ℕ)) (r : CallRecord) (k : ℕ) → (k ≡ number → ⊥) → contents_now (with_pieces number pieces r) k ≡ contents_now r k
pieces_others number [] r k other = refl
pieces_others number (piece ∷ pieces) r k other =
    ap (λ b. cond b (more_bytes piece (contents_now (with_pieces number pieces r) k)) (contents_now (with_pieces number pieces r) k)) (ne_eqb k number other) ∙ pieces_others number pieces r k other

-- what holds anyhow holds of an error
pub on_err : {T E : Type 0} {P : Type 0} (r : Result T E) → P → OnErr r P
on_err (Ok x) p = tt
on_err (Err e) p = p
