-- A pack that is made of its revisions one behind another is cut into them by where each begins.
use Rattle.std.proofs.Common.{◌≡◌, ◌<◌, ◌+◌, ◌-◌, ℕ, suc, zero, List, [], ◌∷◌, ◌++◌, length, take, drop, refl, sym, ap, subst, ◌∙◌, arith, length-append, append_assoc, append-nil}
use Rattle.std.specs.Prelude.{Some, None, min, slice_get, slice_index, slice_index_or}
use Rattle.std.proofs.Math.Seq.{take-append_seam, drop-append_seam}
use Rattle.fsfs_machine.specs.declared.contents.Part.{Part}
use Rattle.fsfs_machine.specs.Machine.{starts}
use Rattle.fsfs_images.specs.Shown.{IsCut}
use Rattle.fsfs_pack.specs.Copies.{together}

-- the ith part of a pack by these offsets: from its offset to the next one's, or to the end, no further than the pack goes
abbrev part_at : List ℕ → ℕ → List ℕ → List ℕ
part_at os i bytes = take (min (slice_index_or os (suc i) (length bytes)) (length bytes) - slice_index os i) (drop (slice_index os i) bytes)

-- how long the first part is
first_long : (before : ℕ) (y : Part) (ys : List Part) (size : ℕ) → size ≡ before + (length y.bytes + length (together ys)) → min (slice_index_or (starts (before + length y.bytes) ys) zero size) size - before ≡ length y.bytes
first_long before y [] size is = let all : size ≡ before + (length y.bytes + 0) = is in omega (arith, all)
first_long before y (z ∷ zs) size is = omega (arith, is)

first_part : (front : List ℕ) (y : Part) (ys : List Part) → part_at (starts (length front) (y ∷ ys)) zero (front ++ together (y ∷ ys)) ≡ y.bytes
first_part front y ys =
    let whole : length (front ++ (y.bytes ++ together ys)) ≡ length front + length (y.bytes ++ together ys) = length-append front (y.bytes ++ together ys) in
    let rest : length (y.bytes ++ together ys) ≡ length y.bytes + length (together ys) = length-append y.bytes (together ys) in
    let sum : length (front ++ (y.bytes ++ together ys)) ≡ length front + (length y.bytes + length (together ys)) = omega (arith, whole, rest) in
    ap (λ n. take n (drop (length front) (front ++ (y.bytes ++ together ys)))) (first_long (length front) y ys (length (front ++ (y.bytes ++ together ys))) sum)
    ∙ ap (λ l. take (length y.bytes) l) (drop-append_seam front (y.bytes ++ together ys))
    ∙ take-append_seam y.bytes (together ys)

cut_into_parts : (front : List ℕ) (xs : List Part) (i : ℕ) (x : Part) → slice_get xs i ≡ Some x → part_at (starts (length front) xs) i (front ++ together xs) ≡ x.bytes
cut_into_parts front [] i x e = let f : None ≡ Some x = e in absurd cc
cut_into_parts front (y ∷ ys) zero x e = let f : Some y ≡ Some x = e in let same : y ≡ x = cc in subst (λ z. part_at (starts (length front) (y ∷ ys)) zero (front ++ together (y ∷ ys)) ≡ z.bytes) same (first_part front y ys)
cut_into_parts front (y ∷ ys) (suc i) x e =
    let further : length (front ++ y.bytes) ≡ length front + length y.bytes = length-append front y.bytes in
    let bytes : (front ++ y.bytes) ++ together ys ≡ front ++ (y.bytes ++ together ys) = append_assoc front y.bytes (together ys) in
    ap (λ b. part_at (starts (length front + length y.bytes) ys) i b) (sym bytes)
    ∙ ap (λ n. part_at (starts n ys) i ((front ++ y.bytes) ++ together ys)) (sym further)
    ∙ cut_into_parts (front ++ y.bytes) ys i x e

pub starts_many : (at : ℕ) (xs : List Part) → length xs ≡ length (starts at xs)
starts_many at [] = refl
starts_many at (x ∷ xs) = ap (λ n. suc n) (starts_many (at + length x.bytes) xs)

-- A PACK IS CUT INTO ITS REVISIONS by where each begins
pub packs_are_cut : (xs : List Part) → IsCut (starts 0 xs) (together xs) xs
packs_are_cut xs = record {
  many = starts_many 0 xs;
  each = λ i x at.
      let next : i + 1 ≡ suc i = omega arith in
      ap (λ n. take (min (slice_index_or (starts 0 xs) n (length (together xs))) (length (together xs)) - slice_index (starts 0 xs) i) (drop (slice_index (starts 0 xs) i) (together xs))) next
      ∙ cut_into_parts [] xs i x at;
}

-- ---- one revision more

pub starts_more : (at : ℕ) (xs : List Part) (y : Part) → starts at (xs ++ y ∷ []) ≡ starts at xs ++ (at + length (together xs)) ∷ []
starts_more at [] y = let none : at ≡ at + 0 = omega arith in ap (λ n. n ∷ []) none
starts_more at (x ∷ xs) y =
    let sum : (at + length x.bytes) + length (together xs) ≡ at + length (x.bytes ++ together xs) = omega (arith, length-append x.bytes (together xs)) in
    ap (λ l. at ∷ l) (starts_more (at + length x.bytes) xs y ∙ ap (λ n. starts (at + length x.bytes) xs ++ n ∷ []) sum)

pub together_more : (xs : List Part) (y : Part) → together (xs ++ y ∷ []) ≡ together xs ++ y.bytes
together_more [] y = append-nil y.bytes
together_more (x ∷ xs) y = ap (λ l. x.bytes ++ l) (together_more xs y) ∙ sym (append_assoc x.bytes (together xs) y.bytes)

-- the first n of them and the next one are the first n + 1
pub take_more : (n : ℕ) (xs : List Part) (y : Part) → slice_get xs n ≡ Some y → take (suc n) xs ≡ take n xs ++ y ∷ []
take_more n [] y e = let f : None ≡ Some y = e in absurd cc
take_more zero (x ∷ xs) y e = let f : Some x ≡ Some y = e in let same : x ≡ y = cc in ap (λ z. z ∷ []) same
take_more (suc n) (x ∷ xs) y e = ap (λ l. x ∷ l) (take_more n xs y e)

-- there is one behind the first n, where there are more
pub part_there : (n : ℕ) (xs : List Part) → n < length xs → (y : Part) × (slice_get xs n ≡ Some y)
part_there n [] less = absurd (omega (arith, less))
part_there zero (x ∷ xs) less = (x, refl)
part_there (suc n) (x ∷ xs) less = part_there n xs (omega (arith, less))
