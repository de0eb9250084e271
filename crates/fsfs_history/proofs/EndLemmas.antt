-- The end of a revision, and the changed-path data before its trailer.
use Rattle.std.proofs.Common.{◌≡◌, ℕ, ◌+◌, ◌-◌, ◌<◌, ◌≤◌, ◌^◌, List, [], ◌∷◌, ◌++◌, length, take, drop, Result, Ok, Err, refl, sym, ap, subst, ◌∙◌, arith, inl, inr}
use Rattle.std.specs.Fmt.{decimal}
use Rattle.std.proofs.lemmas.List.{length-append, length-take, length-drop, drop-append-le, drop-drop}
use Rattle.std.proofs.Math.Seq.{take-append_seam}
use Rattle.fsfs_base.proofs.Unique.{numeral_decimal}
use Rattle.fsfs_revision.specs.declared.damage.DamageKind.TheVariants as what
use Rattle.fsfs_revision.specs.declared.wrong.Refusal.{Refusal}
use Rattle.fsfs_revision.specs.declared.wrong.Wrong.{Wrong}
use Rattle.fsfs_revision.specs.declared.wrong.ReadError.{ReadError}
use Rattle.fsfs_revision.specs.declared.wrong.ReadError.TheVariants as errors
use Rattle.fsfs_revision.specs.Damage.Damages.{place_of, damaged}
use Rattle.fsfs_revision.specs.Damage.Readings.{Answers}
use Rattle.fsfs_revision.specs.Told.{RevisionBytes}
use Rattle.fsfs_revision.specs.declared.trailer.Trailer.{Trailer}
use Rattle.fsfs_revision.specs.Trailers.{IsTrailer, EndsWith}
use Rattle.fsfs_history.proofs.PiecesRead.{further_front, further_whole}
use Rattle.fsfs_dag.specs.Told.{LengthOf, WindowAt}
use Rattle.fsfs_dag.proofs.Windows.{one_bytes, tail_ends, tail_seen, window_end, window_part}
use Rattle.fsfs_stands.specs.Items.{IsData, DataOf}
use Rattle.fsfs_history.specs.Ends.{TrailerOf, RestOf}

-- ---- the trailer

module _ (look : RevisionBytes) (rev len cut : ℕ) (seen : List ℕ) (size : LengthOf look rev (Ok len)) (is : cut ≡ len - 64) (window : WindowAt look (place_of rev cut) 64 (Ok seen)) where
  pub trailer_found : (t : Trailer) → EndsWith cut seen t → TrailerOf look rev (Ok t)
  trailer_found t h = (size.0, size.1, tail_ends size.0 seen cut t (window_end look rev len cut seen size is window) (window_part look rev len cut seen size is window) h)

  pub trailer_missing : ((t : Trailer) → EndsWith cut seen t → ⊥) → TrailerOf look rev (Err (damaged (place_of rev len) what.Trailer))
  trailer_missing none = inr (size.0, size.1, inl ((λ h. none h.0 (tail_seen size.0 seen cut h.0 (window_end look rev len cut seen size is window) (window_part look rev len cut seen size is window) h.1)), ap (λ (n : ℕ). damaged (place_of rev n) what.Trailer) size.2))

-- how many bytes a trailer takes
pub trailer_length : (text : List ℕ) (root changes : ℕ) → IsTrailer text (root, changes) → length text ≡ length (decimal root) + length (decimal changes) + 3
trailer_length text root changes w =
    let a = w.second_is.first_is in
    let b = w.second_is.second_is.inner_is in
    let root_is : w.second_is.between ≡ root = sym (ap (λ (p : ℕ × ℕ). p.0) w.second_is.second_is.value_is) in
    let changes_is : w.second_is.second_is.inner ≡ changes = sym (ap (λ (p : ℕ × ℕ). p.1) w.second_is.second_is.value_is) in
    let one = numeral_decimal a.digits w.second_is.between (omega (arith, a.fits)) a.numeral ∙ ap decimal root_is in
    let two = numeral_decimal b.digits w.second_is.second_is.inner (omega (arith, b.fits)) b.numeral ∙ ap decimal changes_is in
    omega (
      arith,
      ap length w.parts,
      length-append w.first w.second,
      ap length w.first_is,
      ap length w.second_is.parts,
      length-append w.second_is.first w.second_is.second,
      ap length a.parts,
      length-append a.digits (32 ∷ []),
      ap length b.parts,
      length-append b.digits (10 ∷ []),
      ap length one,
      ap length two,
    )

-- ---- the bytes from a place on

abbrev Rest : RevisionBytes → ℕ → ℕ → List ℕ → Type 0
Rest look rev from items = (bytes : List ℕ) → look rev ≡ Ok bytes → from ≤ length bytes → items ≡ take (length items) (drop from bytes)

-- no window, no bytes
pub rest_stops : {A B : Type 0} (first : A → List ℕ) (second : B → List ℕ) (look : RevisionBytes) (rev at count from : ℕ) (e : ReadError) → Answers first (WindowAt look (place_of rev at) count) (Err e) → Answers second (RestOf look rev from) (Err e)
rest_stops first second look rev at count from (errors.Wrong w) h = h
rest_stops first second look rev at count from errors.OutOfMemory h = tt
rest_stops first second look rev at count from errors.DiskFault h = tt

module _ (look : RevisionBytes) (rev from : ℕ) (items old piece : List ℕ) (offset count : ℕ) (so_far : Rest look rev from items) (short : (bytes : List ℕ) → look rev ≡ Ok bytes → length bytes < 2 ^ 64)
    (at : from + length items < 2 ^ 64 → offset ≡ from + length items) (window : WindowAt look (place_of rev offset) (length old) (Ok (take count piece))) where
  stands : (bytes : List ℕ) → look rev ≡ Ok bytes → from ≤ length bytes → offset ≡ from + length items
  stands bytes is le = at (omega (arith, short bytes is, le, ap length (so_far bytes is le), length-take (length items) (drop from bytes), length-drop from bytes))

  behind : (bytes : List ℕ) → look rev ≡ Ok bytes → from ≤ length bytes → take count piece ≡ take (length old) (drop (length items) (drop from bytes))
  behind bytes is le =
      window.2 ∙ ap (λ (xs : List ℕ). take (length old) (drop offset xs)) (one_bytes (look rev) window.0 bytes window.1 is)
      ∙ ap (λ (n : ℕ). take (length old) (drop n bytes)) (stands bytes is le) ∙ ap (take (length old)) (sym (drop-drop (length items) from bytes))

  pub rest_further : Rest look rev from (items ++ take count piece)
  rest_further bytes is le = further_front (drop from bytes) items old piece (length items) count (so_far bytes is le) refl (behind bytes is le)

  pub rest_whole : count < length old → RestOf look rev from (Ok (items ++ take count piece))
  rest_whole less = (window.0, window.1, λ le. further_whole (drop from window.0) items old piece (length items) count (so_far window.0 window.1 le) refl (behind window.0 window.1 le) less)

pub none_yet : (look : RevisionBytes) (rev from : ℕ) (items : List ℕ) → items ≡ [] → Rest look rev from items
none_yet look rev from items none bytes is le = none ∙ sym (ap (λ (xs : List ℕ). take (length xs) (drop from bytes)) none)

-- ---- the data

pub no_trailer : {A B : Type 0} (first : A → Trailer) (second : B → ℕ × List ℕ) (look : RevisionBytes) (rev : ℕ) (e : ReadError) → Answers first (TrailerOf look rev) (Err e) → Answers second (DataOf look rev) (Err e)
no_trailer first second look rev (errors.Wrong w) (inl h) = inl h
no_trailer first second look rev (errors.Wrong w) (inr h) = inr (h.0, h.1, h.2)
no_trailer first second look rev errors.OutOfMemory h = tt
no_trailer first second look rev errors.DiskFault h = tt

pub no_rest : {A B : Type 0} (first : A → List ℕ) (second : B → ℕ × List ℕ) (look : RevisionBytes) (rev from : ℕ) (e : ReadError) → Answers first (RestOf look rev from) (Err e) → Answers second (DataOf look rev) (Err e)
no_rest first second look rev from (errors.Wrong w) h = inl h
no_rest first second look rev from errors.OutOfMemory h = tt
no_rest first second look rev from errors.DiskFault h = tt

module _ (look : RevisionBytes) (rev : ℕ) (t : Trailer) (rest items : List ℕ) (cut : ℕ) (trailer : TrailerOf look rev (Ok t)) (read : RestOf look rev t.changes (Ok rest)) (is : items ≡ take (length rest - cut) rest) (long : (text : List ℕ) → IsTrailer text (t.root, t.changes) → cut ≡ length text) where
  abbrev front : List ℕ
  front = trailer.2.front

  abbrev text : List ℕ
  text = trailer.2.text

  rest_is : rest ≡ drop t.changes front ++ text
  rest_is =
      let same = one_bytes (look rev) read.0 trailer.0 read.1 trailer.1 in
      let le : t.changes ≤ length read.0 = omega (arith, ap length same, ap length trailer.2.parts, length-append front text, trailer.2.changes) in
      read.2 le ∙ ap (drop t.changes) (same ∙ trailer.2.parts) ∙ drop-append-le t.changes front text (omega (arith, trailer.2.changes))

  data_is : items ≡ drop t.changes front
  data_is =
      let count : length rest - cut ≡ length (drop t.changes front) = omega (arith, long text trailer.2.text_is, ap length rest_is, length-append (drop t.changes front) text) in
      is ∙ ap (λ (n : ℕ). take n rest) count ∙ ap (take (length (drop t.changes front))) rest_is ∙ take-append_seam (drop t.changes front) text

  pub data_found : DataOf look rev (Ok (t.changes, items))
  data_found = (trailer.0, trailer.1, record { trailer = t; ends = trailer.2; begins = refl; data_is = data_is })
