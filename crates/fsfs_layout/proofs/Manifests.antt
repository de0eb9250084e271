-- A manifest is read exactly, line after line.
use Rattle.std.proofs.Common.{◌≡◌, ℕ, zero, suc, ◌+◌, ◌-◌, ◌<◌, ◌≤◌, ◌^◌, Bool, true, false, cond, leb, List, [], ◌∷◌, ◌++◌, length, take, get_or, Result, Ok, Err, refl, sym, ap, subst, ◌∙◌, append_assoc, arith}
use Rattle.std.specs.Prelude.{slice_index}
use Rattle.std.specs.List.{AllByRecursion, flat_map}
use Rattle.std.proofs.lemmas.Bool.{leb-true, le-leb}
use Rattle.std.proofs.lemmas.List.{append-nil, take_more, take_all}
use Rattle.std.proofs.lemmas.Grind.{flat_map-append}
use Rattle.fsfs_base.specs.Grammar.Relations.{Then, IsText, Mapped, Appends}
use Rattle.fsfs_base.specs.Grammar.Numeral.{IsNumber}
use Rattle.fsfs_base.specs.Grammar.Reading.{◌>>=◌, text_at}
use Rattle.fsfs_base.proofs.Readers.{Reads, ReadsAll, next_reads, mapped_reads, same_reads, same_all, text_reads, whole_reads}
use Rattle.fsfs_base.proofs.Numerals.{numeral_one}
use Rattle.fsfs_base.proofs.Unique.{numeral_decimal}
use Rattle.fsfs_base.proofs.Loops.{with_front}
use Rattle.fsfs_layout.specs.Folders.{AreSized, size_of}
use Rattle.fsfs_layout.specs.Layouts.{shard_size}
use Rattle.fsfs_layout.specs.declared.folders.Folders.{Folders}
use Rattle.fsfs_layout.specs.declared.folders.Folders.TheVariants.{Shards, OneFolder}
use Rattle.fsfs_layout.specs.declared.layout.Layout.{Layout}
use Rattle.fsfs_layout.specs.Manifest.{offset_line, DontFall, IsManifest}
use Rattle.fsfs_layout.specs.ManifestReading.{offset_at, offsets_at, lines_at, manifest_at}
use Rattle.fsfs_layout.proofs.Offsets.{LowNumber, decimal_line, offset_reads}

-- so many lines, from low on, that don't fall
abbrev AreOffsets : (count low : ℕ) → List ℕ → List ℕ → Type 0
AreOffsets zero low = Mapped (λ _. []) (IsText [])
AreOffsets (suc count) low = Then (LowNumber 18446744073709551615 low) (λ n. Mapped (λ more. n ∷ more) (AreOffsets count n))

reads_as : {X : Type 0} {n : ℕ} {G : List ℕ → X → Type 0} {r : List ℕ → Result (X × List ℕ) ℕ} → (s : List ℕ → Result (X × List ℕ) ℕ) → ((bytes : List ℕ) → r bytes ≡ s bytes) → Reads n G r → Reads n G s
reads_as s same reads = record {
  some = reads.some;
  found = λ bytes x rest lt e. reads.found bytes x rest lt (same bytes ∙ e);
  again = λ text x rest lt g. sym (same (text ++ rest)) ∙ reads.again text x rest lt g;
  fault = λ bytes left lt e. reads.fault bytes left lt (same bytes ∙ e);
}

-- a number of 64 bits, or else 0
abbrev cap : ℕ → ℕ
cap n = cond (leb n 18446744073709551615) n 0

cap_fits : (n : ℕ) → cap n ≤ 18446744073709551615
cap_fits n = go (leb n 18446744073709551615) refl
  where
    go : (b : Bool) → leb n 18446744073709551615 ≡ b → cond b n 0 ≤ 18446744073709551615
    go true e = leb-true n 18446744073709551615 e
    go false e = omega arith

cap_is : (n : ℕ) → n ≤ 18446744073709551615 → cap n ≡ n
cap_is n fits = rw (le-leb n 18446744073709551615 fits) refl

low_reads : (low n : ℕ) → low ≤ 18446744073709551615 → Reads n (LowNumber 18446744073709551615 low) (offset_at 18446744073709551615 20 low)
low_reads low n small = offset_reads 18446744073709551615 20 low (omega arith) (omega arith) small n

-- a line that was read, and what is made of the lines behind it
abbrev with_more : (ℕ → List ℕ → Result (List ℕ × List ℕ) ℕ) → Result (ℕ × List ℕ) ℕ → Result (List ℕ × List ℕ) ℕ
with_more rest read = read >>= λ p. rest p.0 p.1 >>= λ q. Ok (p.0 ∷ q.0, q.1)

abbrev one_more : ℕ → (ℕ → List ℕ → Result (List ℕ × List ℕ) ℕ) → List ℕ → Result (List ℕ × List ℕ) ℕ
one_more low rest bytes = with_more rest (offset_at 18446744073709551615 20 low bytes)

offsets_reads : (count low : ℕ) → low ≤ 18446744073709551615 → (n : ℕ) → Reads n (AreOffsets count low) (offsets_at count low)
unfolding offsets_at text_at
offsets_reads zero low small n = mapped_reads (λ (_ : Unit {0}). []) (text_reads [] n)
offsets_reads (suc count) low small n =
    let step : Reads n (Then (LowNumber 18446744073709551615 low) (λ v. Mapped (λ more. v ∷ more) (AreOffsets count (cap v)))) (one_more low (λ v. offsets_at count (cap v))) =
    next_reads (λ k. low_reads low k small) (λ v k. mapped_reads (λ (more : List ℕ). v ∷ more) (offsets_reads count (cap v) (cap_fits v) k)) n in
    reads_as (one_more low (offsets_at count)) (λ bytes. same bytes (offset_at 18446744073709551615 20 low bytes) refl) (same_reads (AreOffsets (suc count) low) to from step)
  where
    to : (t xs : List ℕ) → Then (LowNumber 18446744073709551615 low) (λ v. Mapped (λ more. v ∷ more) (AreOffsets count (cap v))) t xs → AreOffsets (suc count) low t xs
    to t xs w = record { first = w.first; second = w.second; between = w.between; first_is = w.first_is; second_is = subst (λ (v : ℕ). Mapped (λ more. w.between ∷ more) (AreOffsets count v) w.second xs) (cap_is w.between w.first_is.0.fits) w.second_is; parts = w.parts }

    from : (t xs : List ℕ) → AreOffsets (suc count) low t xs → Then (LowNumber 18446744073709551615 low) (λ v. Mapped (λ more. v ∷ more) (AreOffsets count (cap v))) t xs
    from t xs w = record { first = w.first; second = w.second; between = w.between; first_is = w.first_is; second_is = subst (λ (v : ℕ). Mapped (λ more. w.between ∷ more) (AreOffsets count v) w.second xs) (sym (cap_is w.between w.first_is.0.fits)) w.second_is; parts = w.parts }

    same : (bytes : List ℕ) (r : Result (ℕ × List ℕ) ℕ) → offset_at 18446744073709551615 20 low bytes ≡ r → with_more (λ v. offsets_at count (cap v)) r ≡ with_more (offsets_at count) r
    same bytes (Err left) e = refl
    same bytes (Ok (v, rest)) e =
        let w = (low_reads low (suc (length bytes)) small).found bytes v rest (omega arith) e in
        ap (λ (u : ℕ). with_more (λ x. offsets_at count u) (Ok (v, rest))) (cap_is v w.text.0.fits)

pub lines_reads : (shard_size n : ℕ) → Reads n (Then (IsText (48 ∷ 10 ∷ [])) (λ _. Mapped (λ more. 0 ∷ more) (AreOffsets (shard_size - 1) 0))) (lines_at shard_size)
unfolding lines_at
lines_reads shard_size n = next_reads (text_reads (48 ∷ 10 ∷ [])) (λ _ k. mapped_reads (λ (more : List ℕ). 0 ∷ more) (offsets_reads (shard_size - 1) 0 (omega arith) k)) n

-- ---- the lines in words

abbrev Rises : ℕ → List ℕ → Type 0
Rises low [] = Unit {0}
Rises low (n ∷ ns) = (low ≤ n) × Rises n ns

record AreLines (count low : ℕ) (text offsets : List ℕ) : Type 0 where
  pub number : length offsets ≡ count
  pub rising : Rises low offsets
  pub fit : AllByRecursion (λ n. n ≤ 18446744073709551615) offsets
  pub lines : text ≡ flat_map offset_line offsets

low_line : (low : ℕ) (t : List ℕ) (n : ℕ) → LowNumber 18446744073709551615 low t n → t ≡ offset_line n
low_line low t n w = let r = w.0 in r.parts ∙ ap (λ (ds : List ℕ). ds ++ 10 ∷ []) (numeral_decimal r.digits n (omega (arith, r.fits)) r.numeral)

offsets_lines : (count low : ℕ) (t xs : List ℕ) → AreOffsets count low t xs → AreLines count low t xs
offsets_lines zero low t xs w = subst (λ (ys : List ℕ). AreLines zero low t ys) (sym w.value_is) (record { number = refl; rising = tt; fit = tt; lines = w.inner_is })
offsets_lines (suc count) low t xs w =
    let rest = offsets_lines count w.between w.second w.second_is.inner w.second_is.inner_is in
    subst (λ (ys : List ℕ). AreLines (suc count) low t ys) (sym w.second_is.value_is) (record {
      number = ap suc rest.number;
      rising = (w.first_is.1, rest.rising);
      fit = (w.first_is.0.fits, rest.fit);
      lines = w.parts ∙ (λ i. low_line low w.first w.between w.first_is i ++ rest.lines i);
    })

lines_offsets : (count low : ℕ) (xs : List ℕ) → length xs ≡ count → Rises low xs → AllByRecursion (λ n. n ≤ 18446744073709551615) xs → AreOffsets count low (flat_map offset_line xs) xs
lines_offsets zero low [] size rising fit = record { inner = tt; inner_is = refl; value_is = refl }
lines_offsets zero low (x ∷ xs) size rising fit = absurd (omega (arith, size))
lines_offsets (suc count) low [] size rising fit = absurd (omega (arith, size))
lines_offsets (suc count) low (x ∷ xs) size rising fit = record {
  first = offset_line x;
  second = flat_map offset_line xs;
  between = x;
  first_is = (decimal_line 18446744073709551615 x fit.0 (omega (arith, fit.0)), rising.0);
  second_is = record { inner = xs; inner_is = lines_offsets count x xs (omega (arith, size)) rising.1 fit.1; value_is = refl };
  parts = refl;
}

rises_dont : (low : ℕ) (xs : List ℕ) → Rises low xs → DontFall (low ∷ xs)
rises_dont low [] w i lt = absurd (omega (arith, lt))
rises_dont low (x ∷ xs) w zero lt = w.0
rises_dont low (x ∷ xs) w (suc i) lt =
    let one : suc i + 1 ≡ suc (i + 1) = omega arith in
    rw one (rises_dont x xs w.1 i (omega (arith, lt)))

dont_rises : (low : ℕ) (xs : List ℕ) → DontFall (low ∷ xs) → Rises low xs
dont_rises low [] w = tt
dont_rises low (x ∷ xs) w = (
  w 0 (omega arith),
  dont_rises x xs (λ i lt.
      let one : suc i + 1 ≡ suc (i + 1) = omega arith in
      let at = w (suc i) (omega (arith, lt)) in
      rw one at at),
)

first_line : offset_line 0 ≡ 48 ∷ 10 ∷ []
first_line = ap (λ (ds : List ℕ). ds ++ 10 ∷ []) (sym (numeral_decimal (48 ∷ []) 0 (omega arith) (numeral_one 10 48 (omega arith))))

to_manifest : (shard_size : ℕ) → 0 < shard_size → (t xs : List ℕ) → Then (IsText (48 ∷ 10 ∷ [])) (λ _. Mapped (λ more. 0 ∷ more) (AreOffsets (shard_size - 1) 0)) t xs → IsManifest shard_size t xs
to_manifest shard_size some t xs w =
    let rest = offsets_lines (shard_size - 1) 0 w.second w.second_is.inner w.second_is.inner_is in
    subst (λ (ys : List ℕ). IsManifest shard_size t ys) (sym w.second_is.value_is) (record {
      count = omega (arith, rest.number);
      first = refl;
      rising = rises_dont 0 w.second_is.inner rest.rising;
      fit = (omega arith, rest.fit);
      lines = w.parts ∙ (λ i. (w.first_is ∙ sym first_line) i ++ rest.lines i);
    })

from_manifest : (shard_size : ℕ) → 0 < shard_size → (t xs : List ℕ) → IsManifest shard_size t xs → Then (IsText (48 ∷ 10 ∷ [])) (λ _. Mapped (λ more. 0 ∷ more) (AreOffsets (shard_size - 1) 0)) t xs
from_manifest shard_size some t xs w = go xs w.count w.first w.rising w.fit w.lines
  where
    go : (ys : List ℕ) → length ys ≡ shard_size → slice_index ys 0 ≡ 0 → DontFall ys → AllByRecursion (λ n. n ≤ 18446744073709551615) ys → t ≡ flat_map offset_line ys → Then (IsText (48 ∷ 10 ∷ [])) (λ _. Mapped (λ more. 0 ∷ more) (AreOffsets (shard_size - 1) 0)) t ys
    go [] count first rising fit lines = absurd (omega (arith, count, some))
    go (y ∷ ys) count first rising fit lines = record {
      first = offset_line y;
      second = flat_map offset_line ys;
      between = tt;
      first_is = ap offset_line first ∙ first_line;
      second_is = record {
        inner = ys;
        inner_is = lines_offsets (shard_size - 1) 0 ys (omega (arith, count)) (subst (λ (low : ℕ). Rises low ys) first (dont_rises y ys rising)) fit.1;
        value_is = ap (λ (low : ℕ). low ∷ ys) first;
      };
      parts = lines;
    }

pub manifest_reads : (shard_size : ℕ) → 0 < shard_size → (n : ℕ) → ReadsAll n (IsManifest shard_size) (manifest_at shard_size)
manifest_reads shard_size some n = same_all (IsManifest shard_size) (to_manifest shard_size some) (from_manifest shard_size some) (whole_reads (lines_reads shard_size) n)

-- a shard has revisions
pub size_some : (layout : Layout) → 0 < shard_size layout
size_some layout = some layout.folders layout.sized
  where
    some : (f : Folders) → AreSized f → 0 < size_of f
    some (Shards n) sized = sized.0
    some OneFolder sized = omega arith

pub layout_manifest : (layout : Layout) (n : ℕ) → ReadsAll n (IsManifest (shard_size layout)) (manifest_at (shard_size layout))
layout_manifest layout = manifest_reads (shard_size layout) (size_some layout)

-- ---- the loop

regroup : (front : List ℕ) (n : ℕ) (read : Result (List ℕ × List ℕ) ℕ) → with_front front (read >>= λ x. Ok (n ∷ x.0, x.1)) ≡ with_front (front ++ n ∷ []) read
regroup front n (Ok x) = ap (λ (ns : List ℕ). Ok (ns, x.1)) (simp append_assoc)
regroup front n (Err f) = refl

module _ (front : List ℕ) (count i low : ℕ) (bytes : List ℕ) (total : Result (List ℕ × List ℕ) ℕ) (so_far : with_front front (offsets_at (count - i) low bytes) ≡ total) where
  pub lines_more : (n : ℕ) (after : List ℕ) → i < count → offset_at 18446744073709551615 20 low bytes ≡ Ok (n, after) → with_front (front ++ n ∷ []) (offsets_at (count - (i + 1)) n after) ≡ total
  unfolding offsets_at
  lines_more n after lt read =
      let step : count - i ≡ suc (count - (i + 1)) = omega arith in
      let one : with_front front (offsets_at (count - i) low bytes) ≡ with_front (front ++ n ∷ []) (offsets_at (count - (i + 1)) n after) = rw (step, read) (regroup front n (offsets_at (count - (i + 1)) n after)) in
      sym one ∙ so_far

  pub lines_fault : (left : ℕ) → i < count → offset_at 18446744073709551615 20 low bytes ≡ Err left → total ≡ Err left
  unfolding offsets_at
  lines_fault left lt read =
      let step : count - i ≡ suc (count - (i + 1)) = omega arith in
      let one : with_front front (offsets_at (count - i) low bytes) ≡ Err left = rw (step, read) refl in
      sym so_far ∙ one

  pub lines_end : count ≤ i → total ≡ Ok (front, bytes)
  unfolding offsets_at
  lines_end le =
      let none : count - i ≡ 0 = omega arith in
      let one : with_front front (offsets_at (count - i) low bytes) ≡ Ok (front, bytes) = rw none (ap (λ (ns : List ℕ). Ok (ns, bytes)) (append-nil front)) in
      sym so_far ∙ one

pub lines_begin : (shard_size : ℕ) (bytes rest items : List ℕ) → text_at (48 ∷ 10 ∷ []) bytes ≡ Ok (tt, rest) → items ≡ 0 ∷ [] → with_front items (offsets_at (shard_size - 1 - 0) 0 rest) ≡ lines_at shard_size bytes
unfolding lines_at
lines_begin shard_size bytes rest items first is =
    let all : shard_size - 1 - 0 ≡ shard_size - 1 = omega arith in
    rw (first, is, all) refl

-- ---- writing

-- one line more
pub line_more : (old new offsets : List ℕ) (i : ℕ) → i < length offsets → get_or offsets i 0 < 2 ^ 64 → old ≡ flat_map offset_line (take i offsets) → Appends (IsNumber 10 18446744073709551615 10) old new (get_or offsets i 0) → new ≡ flat_map offset_line (take (i + 1) offsets)
line_more old new offsets i lt sized so_far w =
    let r = w.text_is in
    let line : w.text ≡ offset_line (get_or offsets i 0) = r.parts ∙ ap (λ (ds : List ℕ). ds ++ 10 ∷ []) (numeral_decimal r.digits (get_or offsets i 0) sized r.numeral) in
    let more : flat_map offset_line (take (i + 1) offsets) ≡ flat_map offset_line (take i offsets) ++ offset_line (get_or offsets i 0) =
    ap (flat_map offset_line) (take_more offsets i 0 lt) ∙ flat_map-append offset_line (take i offsets) (get_or offsets i 0 ∷ []) ∙ ap (λ (t : List ℕ). flat_map offset_line (take i offsets) ++ t) (append-nil (offset_line (get_or offsets i 0))) in
    w.parts ∙ (λ j. so_far j ++ line j) ∙ sym more

pub all_fit : (offsets : List ℕ) → ((i : ℕ) → get_or offsets i 0 < 2 ^ 64) → AllByRecursion (λ n. n ≤ 18446744073709551615) offsets
all_fit [] fit = tt
all_fit (x ∷ xs) fit = (omega (arith, fit 0), all_fit xs (λ i. fit (suc i)))

pub all_lines : (text offsets : List ℕ) (i : ℕ) → length offsets ≤ i → text ≡ flat_map offset_line (take i offsets) → text ≡ flat_map offset_line offsets
all_lines text offsets i le so_far = so_far ∙ ap (flat_map offset_line) (take_all i offsets le)
