-- The small files are read exactly.
use Rattle.std.proofs.Common.{◌≡◌, ℕ, suc, ◌<◌, ◌≤◌, ◌-◌, eqb, List, [], ◌∷◌, ◌++◌, length, Result, Ok, Err, refl, sym, ap, ◌∙◌, arith, inl, inr, zero, true, false, subst, ⊎_elim}
use Rattle.std.specs.Prelude.{codes}
use Rattle.fsfs_base.proofs.Readers.{Reads, ReadsAll, next_reads, next_all, mapped_reads, either_reads, except_reads, whole_reads, text_reads, maybe_all, mapped_all, all_found, all_again, all_exact, one_front, chosen, ok_is, err_same}
use Rattle.std.proofs.lemmas.Fmt.{decimal_digit}
use Rattle.fsfs_base.proofs.Unique.{numeral_decimal}
use Rattle.fsfs_base.proofs.Numerals.{number_reads, no_number, number_some}
use Rattle.std.proofs.lemmas.Bool.{eqb-false, ne_eqb}
use Rattle.fsfs_base.specs.Grammar.Relations.{Maybe, Begins, IsFaultAt, begins}
use Rattle.fsfs_base.specs.Grammar.Numeral.{IsNumber, number_at}
use Rattle.fsfs_layout.proofs.LineBytes.{line_reads}
use Rattle.fsfs_layout.specs.declared.folders.Folders.{Folders}
use Rattle.fsfs_layout.specs.declared.folders.Folders.TheVariants.{Shards, OneFolder}
use Rattle.fsfs_layout.specs.declared.format.Format.{Format}
use Rattle.fsfs_layout.specs.declared.format.Format.TheVariants.{Four}
use Rattle.fsfs_layout.specs.declared.small_files.format_file.FormatFile.{FormatFile}
use Rattle.fsfs_layout.specs.declared.small_files.format_file.FormatFile.TheVariants.{Known, Other}
use Rattle.fsfs_layout.specs.declared.layout.Layout.{Layout}
use Rattle.fsfs_layout.specs.Small.{IsRevLine, IsBase36Line, IsNextIds, IsUuid}
use Rattle.fsfs_layout.specs.Folders.{AreSized, AreSized-prop}
use Rattle.fsfs_layout.specs.Formats.{IsCount, AreFolders, IsOurFormat, IsOtherFormat, IsFormat}
use Rattle.fsfs_layout.specs.Reading.{rev_line_at, base36_line_at, uuid_at, next_ids_at, count_at, folders_at, all_folders_at, our_format_at, FormatParts, Laid, Numbered, format_parts, other_at, or_other, format_at}

pub rev_line_reads : (n : ℕ) → ReadsAll n IsRevLine rev_line_at
rev_line_reads = whole_reads (λ k. number_reads 10 2147483647 10 k (omega arith) (omega arith))

pub base36_line_reads : (n : ℕ) → ReadsAll n IsBase36Line base36_line_at
base36_line_reads = whole_reads (λ k. number_reads 36 170581728179578208255 10 k (omega arith) (omega arith))

pub uuid_reads : (n : ℕ) → ReadsAll n IsUuid uuid_at
unfolding uuid_at
uuid_reads = whole_reads (next_reads (line_reads 36) (λ uuid k. mapped_reads (λ (_ : Unit {0}). uuid) (text_reads (10 ∷ []) k)))

pub next_ids_reads : (n : ℕ) → ReadsAll n IsNextIds next_ids_at
unfolding next_ids_at
next_ids_reads = whole_reads (next_reads (λ k. number_reads 36 170581728179578208255 32 k (omega arith) (omega arith))
    (λ node k. mapped_reads (λ (copy : ℕ). (node, copy)) (number_reads 36 170581728179578208255 10 k (omega arith) (omega arith))))

count_reads : (n : ℕ) → Reads n IsCount count_at
unfolding count_at
count_reads n = except_reads 48 (no_number 10 2147483647 10) (record { more = 49 ∷ 10 ∷ []; value = 1; text = (number_some 10 2147483647 10 49 (omega arith) (omega arith), refl) }) (number_reads 10 2147483647 10 n (omega arith) (omega arith))

pub count_fits : (bytes : List ℕ) (n : ℕ) (rest : List ℕ) → count_at bytes ≡ Ok (n, rest) → n ≤ 2147483647
count_fits bytes n rest e = let w = (count_reads (suc (length bytes))).found bytes n rest (omega arith) e in w.text.0.fits

folders_reads : (n : ℕ) → Reads n AreFolders folders_at
unfolding folders_at
folders_reads n = next_reads (text_reads (codes "layout ")) (λ _ k. either_reads 115
    (λ t x w. rw (w.parts, w.first_is) refl)
    (λ t x w. (108, codes "inear" ++ w.second, rw (w.parts, w.first_is) refl, refl))
    (next_reads (text_reads (codes "sharded ")) (λ _ k. mapped_reads (λ (n : ℕ). Shards n) (count_reads k)) k)
    (next_reads (text_reads (codes "linear")) (λ _ k. mapped_reads (λ (_ : Unit {0}). OneFolder) (text_reads (10 ∷ []) k)) k)) n

no_folders : (x : Folders) → ¬ AreFolders [] x
no_folders x w = absurd (empty w.first w.second w.parts w.first_is)
  where
    empty : (a b : List ℕ) → [] ≡ a ++ b → a ≡ codes "layout " → ⊥
    empty a b e f = let g : [] ≡ codes "layout " ++ b = e ∙ ap (λ (t : List ℕ). t ++ b) f in cc

all_folders_reads : (n : ℕ) → ReadsAll n (Maybe OneFolder AreFolders) all_folders_at
unfolding all_folders_at
all_folders_reads n = maybe_all OneFolder no_folders (whole_reads folders_reads n)

pub our_format_reads : (n : ℕ) → ReadsAll n IsOurFormat our_format_at
unfolding our_format_at
our_format_reads = next_all (text_reads (codes "4\n")) (λ _ k. mapped_all (λ (folders : Folders). (Four, folders)) (all_folders_reads k))

-- what is read has a size
count_some : (text : List ℕ) (n : ℕ) → IsCount text n → (0 < n) × (n ≤ 2147483647)
count_some text zero h =
    let digits : h.0.digits ≡ 48 ∷ [] = numeral_decimal h.0.digits 0 (omega arith) h.0.numeral ∙ decimal_digit 0 (omega arith) in
    let is : text ≡ 48 ∷ 10 ∷ [] = h.0.parts ∙ ap (λ d. d ++ 10 ∷ []) digits in
    let bad : true ≡ false = sym (ap (begins 48) is) ∙ h.1 in cc
count_some text (suc n) h = (omega arith, h.0.fits)

folders_sized : (text : List ℕ) (f : Folders) → AreFolders text f → AreSized f
folders_sized text f w = ⊎_elim
    (λ shards. subst AreSized (sym shards.second_is.value_is) (count_some shards.second shards.second_is.inner shards.second_is.inner_is))
    (λ linear. subst AreSized (sym linear.second_is.value_is) tt)
    w.second_is

pub all_folders_sized : (bytes : List ℕ) (f : Folders) → all_folders_at bytes ≡ Ok f → AreSized f
all_folders_sized bytes f e = ⊎_elim (λ none. subst AreSized (sym none.1) tt) (folders_sized bytes f) (all_found all_folders_reads bytes f e)

number_line : (n : ℕ) → Reads n (IsNumber 10 18446744073709551615 10) (number_at 10 18446744073709551615 10)
number_line n = number_reads 10 18446744073709551615 10 n (omega arith) (omega arith)

-- what `db/format` says, by its parts
abbrev SaysParts : List ℕ → FormatParts → Type 0
SaysParts text (Laid parts) = IsOurFormat text parts
SaysParts text (Numbered number) = IsOtherFormat text number

pub parts_said : (text : List ℕ) (f : FormatFile) → SaysParts text (format_parts f) → IsFormat text f
parts_said text (Known layout) w = w
parts_said text (Other number) w = w

said_parts : (text : List ℕ) (f : FormatFile) → IsFormat text f → SaysParts text (format_parts f)
said_parts text (Known layout) w = w
said_parts text (Other number) w = w

other_found : (bytes : List ℕ) (f : FormatParts) (left : ℕ) (r : Result (ℕ × List ℕ) ℕ) → number_at 10 18446744073709551615 10 bytes ≡ r → other_at left r ≡ Ok f → SaysParts bytes f
other_found bytes f left (Err e) is got = absurd cc
other_found bytes f left (Ok (n, rest)) is got = elim (chosen (eqb n 4) (Err left) (Ok (Numbered n)) (Ok f) got) [
  | inl w ↦ absurd cc
  | inr w ↦ subst (SaysParts bytes) (ok_is (Numbered n) f w.1) (record {
    rest = rest;
    line = (number_line (suc (length bytes))).found bytes n rest (omega arith) is;
    other = eqb-false n 4 w.0;
  })
]

parts_found : (bytes : List ℕ) (f : FormatParts) → format_at bytes ≡ Ok f → SaysParts bytes f
unfolding format_at
parts_found bytes f e = go (our_format_at bytes) refl e
  where
    go : (r : Result (Format × Folders) ℕ) → our_format_at bytes ≡ r → or_other bytes r ≡ Ok f → SaysParts bytes f
    go (Ok g) is got = subst (SaysParts bytes) (ok_is (Laid g) f got) (all_found our_format_reads bytes g is)
    go (Err left) is got = other_found bytes f left (number_at 10 18446744073709551615 10 bytes) refl got

pub format_found : (bytes : List ℕ) (f : FormatFile) → format_at bytes ≡ Ok (format_parts f) → IsFormat bytes f
format_found bytes f e = parts_said bytes f (parts_found bytes (format_parts f) e)

-- ours begins with the line of 4
our_number : (bytes : List ℕ) (f : Format × Folders) → IsOurFormat bytes f → (n : ℕ) (rest : List ℕ) → Begins (IsNumber 10 18446744073709551615 10) bytes n rest → n ≡ 4
our_number bytes f w n rest b =
    let parts : bytes ≡ codes "4\n" ++ w.second = w.parts ∙ ap (λ (t : List ℕ). t ++ w.second) w.first_is in
    let four : IsNumber 10 18446744073709551615 10 (codes "4\n") 4 = number_some 10 18446744073709551615 10 52 (omega arith) (omega arith) in
    (one_front number_line b.front (codes "4\n") rest w.second n 4 b.text four (sym b.parts ∙ parts)).0

parts_again : (bytes : List ℕ) (f : FormatParts) → SaysParts bytes f → format_at bytes ≡ Ok f
unfolding format_at
parts_again bytes (Laid parts) w = rw (all_again our_format_reads bytes parts w) refl
parts_again bytes (Numbered number) w = go (our_format_at bytes) refl
  where
    go : (r : Result (Format × Folders) ℕ) → our_format_at bytes ≡ r → or_other bytes r ≡ Ok (Numbered number)
    go (Ok g) is = absurd (w.other (our_number bytes g (all_found our_format_reads bytes g is) number w.rest w.line))
    go (Err left) is =
        let short : length (w.line.front ++ w.rest) < suc (length bytes) = omega (arith, ap length w.line.parts) in
        let e : number_at 10 18446744073709551615 10 bytes ≡ Ok (number, w.rest) = ap (number_at 10 18446744073709551615 10) w.line.parts ∙ (number_line (suc (length bytes))).again w.line.front number w.rest short w.line.text in
        rw (e, ne_eqb number 4 w.other) refl

pub format_again : (bytes : List ℕ) (f : FormatFile) → IsFormat bytes f → format_at bytes ≡ Ok (format_parts f)
format_again bytes f w = parts_again bytes (format_parts f) (said_parts bytes f w)

pub format_exact : (bytes : List ℕ) (left : ℕ) → format_at bytes ≡ Err left → (left ≤ length bytes) × IsFaultAt IsOurFormat bytes (length bytes - left)
unfolding format_at
format_exact bytes left e = all_exact our_format_reads bytes left (go (our_format_at bytes) e)
  where
    other : (d : ℕ) (r : Result (ℕ × List ℕ) ℕ) → other_at d r ≡ Err left → d ≡ left
    other d (Err x) got = err_same {A = FormatParts} d left got
    other d (Ok (n, rest)) got = elim (chosen (eqb n 4) (Err d) (Ok (Numbered n)) (Err left) got) [
      | inl w ↦ err_same {A = FormatParts} d left w.1
      | inr w ↦ absurd cc
    ]

    go : (r : Result (Format × Folders) ℕ) → or_other bytes r ≡ Err left → r ≡ Err left
    go (Ok g) got = absurd cc
    go (Err d) got = ap (λ (x : ℕ). Err x) (other d (number_at 10 18446744073709551615 10 bytes) got)

-- ---- a format by its parts

-- layouts of one format with the same folders are one layout
pub layout_same : (a b : Layout) → a.format ≡ b.format → a.folders ≡ b.folders → a ≡ b
layout_same a b e f = go b.format b.folders e f b.sized
  where
    go : (k : Format) (s : Folders) → a.format ≡ k → a.folders ≡ s → (sized : AreSized s) → a ≡ (let x : Layout = record { format = k; folders = s; sized = sized } in x)
    go k s e f = subst (λ (s : Folders). (sized : AreSized s) → a ≡ (let x : Layout = record { format = k; folders = s; sized = sized } in x)) f
        (λ sized i. let x : Layout = record { format = e i; folders = a.folders; sized = AreSized-prop a.folders a.sized sized i } in x)

laid_same : (p q : Format × Folders) → Laid p ≡ Laid q → (p.0 ≡ q.0) × (p.1 ≡ q.1)
laid_same p q e = let same : p ≡ q = cc in (ap (λ (x : Format × Folders). x.0) same, ap (λ (x : Format × Folders). x.1) same)

pub format_same : (f g : FormatFile) → format_parts f ≡ format_parts g → f ≡ g
format_same (Known a) (Known b) e = let p = laid_same (a.format, a.folders) (b.format, b.folders) e in ap (λ (l : Layout). Known l) (layout_same a b p.0 p.1)
format_same (Known a) (Other n) e = absurd cc
format_same (Other n) (Known a) e = absurd cc
format_same (Other m) (Other n) e = let same : m ≡ n = cc in ap (λ (k : ℕ). Other k) same

-- `db/format` says one thing
pub one_format : (text : List ℕ) (f g : FormatFile) → IsFormat text f → IsFormat text g → f ≡ g
one_format text f g a b = format_same f g (ok_is (format_parts f) (format_parts g) (sym (format_again text f a) ∙ format_again text g b))

pub never : {X : Type 0} {G : List ℕ → X → Type 0} {r : List ℕ → Result X ℕ} → ((n : ℕ) → ReadsAll n G r) → (bytes : List ℕ) (x : X) (left : ℕ) → G bytes x → r bytes ≡ Err left → ⊥
never reads bytes x left g e = let a = all_again reads bytes x g in cc
