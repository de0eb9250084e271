-- The bytes of a file that were read so far, piece by piece, are its first, and with a piece that is not full they are all.
use Rattle.std.proofs.Common.{◌≡◌, ℕ, ◌+◌, ◌<◌, ◌≤◌, List, ◌++◌, length, take, drop, sym, ap, ◌∙◌, arith}
use Rattle.std.proofs.Math.Seq.{take-add, take-length}
use Rattle.std.proofs.lemmas.List.{take-take, take_all, length-take, length-drop}

-- the bytes so far are the first of the file, and a piece was read behind them
module _ (file items old piece : List ℕ) (offset count : ℕ) (front : items ≡ take (length items) file) (at : offset ≡ length items) (read : take count piece ≡ take (length old) (drop offset file)) where
  next : take count piece ≡ take (length old) (drop (length items) file)
  next = read ∙ ap (λ (n : ℕ). take (length old) (drop n file)) at

  further : items ++ take count piece ≡ take (length items + length old) file
  further = ap (λ (xs : List ℕ). xs ++ take count piece) front ∙ ap (λ (xs : List ℕ). take (length items) file ++ xs) next ∙ sym (take-add (length items) (length old) file)

  -- they and the piece are, too
  pub further_front : items ++ take count piece ≡ take (length (items ++ take count piece)) file
  further_front = cut (items ++ take count piece) (length items + length old) further
    where
      cut : (xs : List ℕ) (n : ℕ) → xs ≡ take n file → xs ≡ take (length xs) file
      cut xs n is =
          let short : length xs ≤ n = omega (arith, ap length is, length-take n file) in
          sym (take-length xs) ∙ ap (take (length xs)) is ∙ take-take (length xs) n file short

  -- and are the whole file, where the piece is not full
  pub further_whole : count < length old → items ++ take count piece ≡ file
  further_whole less =
      let got : length (take (length old) (drop (length items) file)) ≤ count = omega (arith, ap length next, length-take count piece) in
      let all : length file ≤ length items + length old = omega (arith, less, got, length-take (length old) (drop (length items) file), length-drop (length items) file) in
      further ∙ take_all (length items + length old) file all
