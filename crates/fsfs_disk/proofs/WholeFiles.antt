-- A file that is read as a whole, piece by piece.
use Rattle.std.proofs.Common.{◌≡◌, ◌≤◌, ◌<◌, ℕ, ◌+◌, ◌-◌, List, [], ◌++◌, length, take, drop, min, refl, sym, ap, ◌∙◌, arith}
use Rattle.std.specs.Prelude.{Option, Some, None}
use Rattle.std.proofs.lemmas.Option.{same_Some}
use Rattle.std.proofs.Math.Seq.{take-add}
use Rattle.std.proofs.lemmas.List.{length-take, length-drop, take-append-le, take_all, length-append}
use Rattle.fsfs_disk.specs.Fronts.{IsFrontOf}
use Rattle.fsfs_disk.specs.Trace.{IsRead}

-- the bytes that one read puts in front of the buffer
pub read_bytes : (bytes old : List ℕ) (offset n : ℕ) → n ≤ length bytes - offset → take n (take n (drop offset bytes) ++ drop n old) ≡ take n (drop offset bytes)
read_bytes bytes old offset n le =
    take-append-le n (take n (drop offset bytes)) (drop n old) (omega (arith, length-take n (drop offset bytes), length-drop offset bytes, le))
    ∙ take_all n (take n (drop offset bytes)) (omega (arith, length-take n (drop offset bytes)))

front_of : (bytes items old new : List ℕ) (offset count n : ℕ) → items ≡ take (length items) bytes → offset ≡ length items → n ≡ min (length old) (length bytes - offset) → new ≡ take n (drop offset bytes) ++ drop n old → n ≡ count
    → items ++ take count new ≡ take (length (items ++ take count new)) bytes
front_of bytes items old new offset count n front at is read same =
    let le : n ≤ length bytes - offset = omega (arith, is) in
    let got : take count new ≡ take n (drop offset bytes) = ap (λ k. take k new) (sym same) ∙ ap (take n) read ∙ read_bytes bytes old offset n le in
    let here : items ≡ take offset bytes = front ∙ ap (λ k. take k bytes) (sym at) in
    let whole : items ++ take count new ≡ take (offset + n) bytes = ap (λ xs. xs ++ take count new) here ∙ ap (λ xs. take offset bytes ++ xs) got ∙ sym (take-add offset n bytes) in
    let count_is : length (items ++ take count new) ≡ offset + n =
    length-append items (take count new) ∙ omega (arith, at, ap length got, length-take n (drop offset bytes), length-drop offset bytes, le) in
    whole ∙ ap (λ k. take k bytes) (sym count_is)

pub front_more : (file : Option (List ℕ)) (items old new : List ℕ) (offset count : ℕ) (found : Option ℕ) → IsFrontOf items file → offset ≡ length items → IsRead file offset old new found → found ≡ Some count
    → IsFrontOf (items ++ take count new) file
front_more None items old new offset count found front at read is = let h : None ≡ Some count = sym read.0 ∙ is in cc
front_more (Some bytes) items old new offset count found front at read is =
    front_of bytes items old new offset count (min (length old) (length bytes - offset)) front at refl read.1 (same_Some (min (length old) (length bytes - offset)) count (sym read.0 ∙ is))

-- a read of nothing into some room, behind all that there is
no_more : (bytes items : List ℕ) (offset room n : ℕ) → 0 < room → items ≡ take (length items) bytes → offset ≡ length items → n ≡ min room (length bytes - offset) → n ≡ 0 → items ≡ bytes
no_more bytes items offset room n some front at is none =
    let all : length bytes ≤ length items = omega (arith, some, at, is, none) in
    front ∙ take_all (length items) bytes all

-- a file is read as a whole where a read gives nothing
pub whole_file : (file : Option (List ℕ)) (items old new : List ℕ) (offset : ℕ) (found : Option ℕ) → 0 < length old → IsFrontOf items file → offset ≡ length items → IsRead file offset old new found → found ≡ Some 0 → Some items ≡ file
whole_file None items old new offset found some front at read is = let h : None ≡ Some 0 = sym read.0 ∙ is in cc
whole_file (Some bytes) items old new offset found some front at read is =
    ap (λ (b : List ℕ). Some b) (no_more bytes items offset (length old) (min (length old) (length bytes - offset)) some front at refl (same_Some (min (length old) (length bytes - offset)) 0 (sym read.0 ∙ is)))

-- a read finds no file where there is none
pub no_file : (file : Option (List ℕ)) (offset : ℕ) (old new : List ℕ) (found : Option ℕ) → IsRead file offset old new found → found ≡ None → None ≡ file
no_file None offset old new found read is = refl
no_file (Some bytes) offset old new found read is = let h : ◌≡◌ {A = Option ℕ} (Some (min (length old) (length bytes - offset))) None = sym read.0 ∙ is in cc
