-- The pieces of a text that is read, and what follows it.
use Rattle.std.proofs.Common.{◌≡◌, ℕ, ◌+◌, ◌-◌, ◌<◌, ◌≤◌, true, false, List, ◌++◌, length, take, drop, Option, Some, Ok, Err, refl, sym, ap, subst, ◌∙◌, arith}
use Rattle.std.specs.Prelude.{unwrap_or, codes, not}
use Rattle.std.specs.Str.{bytes_eq}
use Rattle.std.proofs.lemmas.Slice.Eq.{bytes_eq-Decides}
use Rattle.std.proofs.lemmas.List.{length-take, length-drop, take-append-drop, take-take, take_all, drop-take, drop-drop}
use Rattle.std.proofs.Math.Seq.{take-append_seam}
use Rattle.fsfs_base.proofs.Readers.{text_reads}
use Rattle.fsfs_base.specs.Grammar.Reading.{text_at}
use Rattle.fsfs_revision.specs.Rep.Headers.{StandsAt}
use Rattle.fsfs_revision.proofs.HeaderLemmas.{stands_found, stands_not, stands_in, stands_within, stands_fits}

-- what is told of the representation's revision
pub at_rev : {A : Type 0} (told : ℕ → A) (rev : Option ℕ) (r : ℕ) (a : A) → rev ≡ Some r → told (unwrap_or rev 0) ≡ a → told r ≡ a
at_rev told rev r a is e = ap (λ (o : Option ℕ). told (unwrap_or o 0)) (sym is) ∙ e

pub differ : (xs ys : List ℕ) → true ≡ not (bytes_eq xs ys) → xs ≡ ys → ⊥
differ xs ys h e =
    let same : bytes_eq xs ys ≡ true = (bytes_eq-Decides xs ys).1 e in
    let clash : true ≡ false = h ∙ ap not same in
    cc

abbrev trailer : List ℕ
trailer = codes "ENDREP\n"

-- a window that lacks some of its bytes ends where the bytes do
pub text_ends : (offset size done position count want : ℕ) (piece bytes : List ℕ) → count ≤ length piece → take count piece ≡ take want (drop position bytes) → count < want → position ≡ offset + 6 + done → done + want ≤ size → StandsAt trailer (offset + 6 + size) bytes → ⊥
text_ends offset size done position count want piece bytes bound window less is fits stands =
    omega (arith, ap length window, length-take count piece, length-take want (drop position bytes), length-drop position bytes, stands_fits trailer (offset + 6 + size) bytes (omega arith) stands)

pub trailer_not : (seen : List ℕ) (left position : ℕ) (bytes : List ℕ) → seen ≡ take 7 (drop position bytes) → text_at trailer seen ≡ Err left → StandsAt trailer position bytes → ⊥
trailer_not seen left position bytes window e stands =
    stands_not (text_reads trailer) seen left e trailer refl (subst (λ (w : List ℕ). StandsAt trailer 0 w) (sym window) (stands_within 7 trailer position bytes (omega arith) stands))

pub trailer_found : (seen rest : List ℕ) (position : ℕ) (bytes : List ℕ) → seen ≡ take 7 (drop position bytes) → text_at trailer seen ≡ Ok (tt, rest) → StandsAt trailer position bytes
trailer_found seen rest position bytes window e =
    let w = stands_found (text_reads trailer) seen rest e in
    let here : StandsAt trailer 0 seen = subst (λ (line : List ℕ). StandsAt line 0 seen) w.1 w.2 in
    stands_in 7 trailer position bytes (subst (λ (s : List ℕ). StandsAt trailer 0 s) window here)

pub take_more_of : (xs : List ℕ) (done want : ℕ) → take (done + want) xs ≡ take done xs ++ take want (drop done xs)
take_more_of xs done want =
    let all : List ℕ = take (done + want) xs in
    sym (take-append-drop done all) ∙ ap (λ (t : List ℕ). t ++ drop done all) (take-take done (done + want) xs (omega arith)) ∙ ap (λ (t : List ℕ). take done xs ++ t) (drop-take done want xs)

-- a whole piece is the next of the text
module _ (offset size done position count want : ℕ) (piece bytes : List ℕ) (room : length piece ≡ want) (bound : count ≤ length piece)
    (window : take count piece ≡ take want (drop position bytes)) (whole : want ≤ count) (is : position ≡ offset + 6 + done) where
  pub piece_is : piece ≡ take want (drop done (drop (offset + 6) bytes))
  piece_is = sym (take_all count piece (omega arith)) ∙ window ∙ ap (λ (p : ℕ). take want (drop p bytes)) is ∙ ap (take want) (sym (drop-drop done (offset + 6) bytes))

  pub piece_within : 0 < want → offset + 6 + (done + want) ≤ length bytes
  piece_within some = omega (arith, ap length window, length-take count piece, length-take want (drop position bytes), length-drop position bytes)

  pub piece_adds : take (done + want) (drop (offset + 6) bytes) ≡ take done (drop (offset + 6) bytes) ++ piece
  piece_adds = take_more_of (drop (offset + 6) bytes) done want ∙ ap (λ (t : List ℕ). take done (drop (offset + 6) bytes) ++ t) (sym piece_is)

  pub piece_read : (after : List ℕ) → done + want ≤ size → take want (piece ++ after) ≡ take want (drop done (take size (drop (offset + 6) bytes)))
  piece_read after fits =
      let xs : List ℕ = drop (offset + 6) bytes in
      let rest : ℕ = size - done in
      let all : size ≡ done + rest = omega arith in
      let front : take want (piece ++ after) ≡ piece = ap (λ (n : ℕ). take n (piece ++ after)) (sym room) ∙ take-append_seam piece after in
      let back : take want (drop done (take size xs)) ≡ take want (drop done xs) =
      ap (λ (n : ℕ). take want (drop done (take n xs))) all ∙ ap (take want) (drop-take done rest xs) ∙ take-take want rest (drop done xs) (omega arith) in
      front ∙ piece_is ∙ sym back
