-- A piece of a text that was checked, as a book gives it.
use Rattle.std.proofs.Common.{◌≡◌, ℕ, ◌+◌, ◌-◌, ◌^◌, ◌≤◌, ◌<◌, List, ◌++◌, length, take, drop, ap, subst, sym, ◌∙◌, arith}
use Rattle.std.specs.Prelude.{codes, min}
use Rattle.std.proofs.lemmas.List.{length-take, length-drop}
use Rattle.fsfs_noderev.specs.declared.rep.Rep.{Rep}
use Rattle.fsfs_revision.specs.Rep.Frames.{text_of, IsWhole}
use Rattle.fsfs_revision.proofs.HeaderLemmas.{stands_fits}
use Rattle.fsfs_revision.proofs.ReadingLemmas.{piece_read}

-- the bytes reach beyond the text
text_within : (rep : Rep) (bytes : List ℕ) → IsWhole rep bytes → rep.offset + 6 + rep.length < length bytes
text_within rep bytes whole =
    let ends = stands_fits (codes "ENDREP\n") (rep.offset + 6 + rep.length) bytes (omega arith) whole.framed.trailer in
    omega arith

module _ (rep : Rep) (bytes : List ℕ) (whole : IsWhole rep bytes) (long : length bytes < 2 ^ 64) (done position want : ℕ) (buffer : List ℕ)
    (left : done < rep.length) (some : 0 < length buffer) (at : rep.offset + 6 + done < 2 ^ 64 → position ≡ rep.offset + 6 + done) (fitting : want ≡ min (length buffer) (rep.length - done)) where
  here : position ≡ rep.offset + 6 + done
  here = at (omega (arith, text_within rep bytes whole))

  room : length (take want buffer) ≡ want
  room = omega (arith, length-take want buffer)

  module _ (piece : List ℕ) (count : ℕ) (same : length piece ≡ length (take want buffer)) (bound : count ≤ length piece) (given : take count piece ≡ take (length (take want buffer)) (drop position bytes)) where
    window : take count piece ≡ take want (drop position bytes)
    window = subst (λ (n : ℕ). take count piece ≡ take n (drop position bytes)) room given

    full : count ≡ want
    full = omega (arith, here, room, ap length window, length-take count piece, length-take want (drop position bytes), length-drop position bytes, text_within rep bytes whole)

    pub piece_some : 0 < count
    piece_some = omega (arith, full)

    pub piece_next : (after : List ℕ) → take count (piece ++ after) ≡ take count (drop done (text_of rep bytes))
    piece_next after =
        subst (λ (n : ℕ). take n (piece ++ after) ≡ take n (drop done (text_of rep bytes))) (sym full)
        (piece_read rep.offset rep.length done position count want piece bytes (same ∙ room) bound window (omega (arith, full)) here after (omega arith))
