-- Where each revision of a shard begins in its pack: one more.
use Rattle.std.proofs.Common.{◌≡◌, ◌<◌, ◌≤◌, ◌+◌, ◌^◌, ℕ, suc, List, [], ◌∷◌, ◌++◌, length, take, refl, sym, ap, subst, ◌∙◌, arith, length-append, ◌⊎◌, ⊎_elim}
use Rattle.std.specs.Prelude.{Option, Some, None, min, IsSome, IfSome, slice_get, slice_index}
use Rattle.std.proofs.lemmas.List.{get_or_append_left, get_or_at, take_all}
use Rattle.fsfs_base.specs.Files.{Files}
use Rattle.fsfs_disk.specs.Benches.{HasShortFiles}
use Rattle.fsfs_machine.specs.declared.contents.Part.{Part}
use Rattle.fsfs_machine.specs.Machine.{starts}
use Rattle.fsfs_pack.specs.Copies.{together, HasFile, AreOffsets}
use Rattle.fsfs_pack.specs.Sections.{pack_text}
use Rattle.fsfs_pack.proofs.Cutting.{starts_more, together_more, take_more}

-- ---- they don't fall

before : (os : List ℕ) (at i : ℕ) → i < length os → slice_index (os ++ at ∷ []) i ≡ slice_index os i
before os at i less = get_or_append_left os (at ∷ []) 0 i less

last_one : (os : List ℕ) (at i : ℕ) → length os ≡ i → slice_index (os ++ at ∷ []) i ≡ at
last_one os at i e = get_or_at os at [] 0 i e

one_more : (os : List ℕ) (at : ℕ) → length (os ++ at ∷ []) ≡ length os + 1
one_more os at = length-append os (at ∷ [])

first_more : (os : List ℕ) (at : ℕ) → AreOffsets os at → slice_index (os ++ at ∷ []) 0 ≡ 0
first_more [] at a = a.none refl
first_more (x ∷ os) at a = a.first (omega arith)

data_before : (os : List ℕ) (at i : ℕ) → AreOffsets os at → (i < length os) → slice_index (os ++ at ∷ []) i ≤ at
data_before os at i a less = omega (arith, before os at i less, a.last i less)

lt_or : (x y : ℕ) → (x < y) ⊎ (y ≤ x)
lt_or x y = grind arith

step_rises : (os : List ℕ) (at i : ℕ) → AreOffsets os at → i + 1 < length (os ++ at ∷ []) → slice_index (os ++ at ∷ []) i ≤ slice_index (os ++ at ∷ []) (i + 1)
step_rises os at i a less = ⊎_elim
    (λ (inside : i + 1 < length os). omega (arith, before os at i (omega (arith, inside)), before os at (i + 1) inside, a.rising i inside))
    (λ (outside : length os ≤ i + 1). omega (arith, data_before os at i a (omega (arith, less, one_more os at)), last_one os at (i + 1) (omega (arith, less, outside, one_more os at))))
    (lt_or (i + 1) (length os))

no_further : (os : List ℕ) (at next i : ℕ) → AreOffsets os at → at ≤ next → i < length (os ++ at ∷ []) → slice_index (os ++ at ∷ []) i ≤ next
no_further os at next i a le less = ⊎_elim
    (λ (inside : i < length os). omega (arith, le, data_before os at i a inside))
    (λ (outside : length os ≤ i). omega (arith, le, last_one os at i (omega (arith, less, outside, one_more os at))))
    (lt_or i (length os))

-- one more, where the last one stood
pub offsets_more : (os : List ℕ) (at next : ℕ) → AreOffsets os at → at ≤ next → AreOffsets (os ++ at ∷ []) next
offsets_more os at next a le = record {
  first = λ some. first_more os at a;
  none = λ none. absurd (omega (arith, none, one_more os at));
  rising = λ i less. step_rises os at i a less;
  last = λ i less. no_further os at next i a le less;
}

pub offsets_none : AreOffsets [] 0
offsets_none = record { first = λ some. absurd (omega (arith, some)); none = λ none. refl; rising = λ i less. absurd (omega (arith, less)); last = λ i less. absurd (omega (arith, less)) }

-- ---- the revisions of the shard, so many of them

-- so many of these are copied
pub record AreCopied (parts : List Part) (done : ℕ) (offsets : List ℕ) (at : ℕ) (held : Option Files) : Type 0 where
  pub begin : offsets ≡ starts 0 (take done parts)
  pub long : at ≡ length (together (take done parts))
  pub pack : HasFile held pack_text (together (take done parts))

pub none_copied : (parts : List Part) (held : Option Files) → HasFile held pack_text [] → AreCopied parts 0 [] 0 held
none_copied parts held has = record { begin = refl; long = refl; pack = has }

-- no pack is longer than a file of a bench
pack_short : (held : Option Files) (bytes : List ℕ) → IsSome held → HasFile held pack_text bytes → IfSome held HasShortFiles → length bytes ≤ 2 ^ 62
pack_short None bytes tells has short = absurd cc
pack_short (Some m) bytes tells has short = short pack_text bytes has

pub one_copied : (parts : List Part) (done : ℕ) (y : Part) (offsets : List ℕ) (at next size : ℕ) (old new : Option Files) → slice_get parts done ≡ Some y → AreCopied parts done offsets at old → size ≡ length y.bytes → next ≡ min (size + at) 18446744073709551615
    → HasFile new pack_text (together (take done parts) ++ y.bytes) → IsSome new → IfSome new HasShortFiles → AreCopied parts (suc done) (offsets ++ at ∷ []) next new
one_copied parts done y offsets at next size old new there c size_is sum has tells short =
    let more : take (suc done) parts ≡ take done parts ++ y ∷ [] = take_more done parts y there in
    let bytes : together (take (suc done) parts) ≡ together (take done parts) ++ y.bytes = ap together more ∙ together_more (take done parts) y in
    let long : length (together (take (suc done) parts)) ≡ length (together (take done parts)) + length y.bytes = ap length bytes ∙ length-append (together (take done parts)) y.bytes in
    let whole : HasFile new pack_text (together (take (suc done) parts)) = subst (λ l. HasFile new pack_text l) (sym bytes) has in
    let room : length (together (take (suc done) parts)) ≤ 2 ^ 62 = pack_short new (together (take (suc done) parts)) tells whole short in
    let here : 0 + length (together (take done parts)) ≡ at = omega (arith, c.long) in
    record {
      begin = ap (λ l. l ++ at ∷ []) c.begin ∙ ap (λ n. starts 0 (take done parts) ++ n ∷ []) (sym here) ∙ sym (ap (λ l. starts 0 l) more ∙ starts_more 0 (take done parts) y);
      long = omega (arith, sum, size_is, c.long, long, room);
      pack = whole;
    }

pub all_copied : (parts : List Part) (done : ℕ) (offsets : List ℕ) (at : ℕ) (held : Option Files) → length parts ≤ done → AreCopied parts done offsets at held → (offsets ≡ starts 0 parts) × HasFile held pack_text (together parts)
all_copied parts done offsets at held le c =
    let all : take done parts ≡ parts = take_all done parts le in
    (c.begin ∙ ap (λ l. starts 0 l) all, subst (λ l. HasFile held pack_text (together l)) all c.pack)
