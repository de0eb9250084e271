-- No text of a small file's format has 64 bytes.
use Rattle.std.proofs.Common.{◌≡◌, ℕ, ◌≤◌, ◌+◌, List, [], ◌∷◌, length, sym, ap, subst, ◌∙◌, ⊎_elim, arith}
use Rattle.std.proofs.lemmas.List.{length-append}
use Rattle.std.proofs.lemmas.Fmt.{length-decimal-le}
use Rattle.fsfs_base.specs.Grammar.Numeral.{IsNumber}
use Rattle.fsfs_base.proofs.Unique.{numeral_decimal}
use Rattle.fsfs_base.proofs.Base36Texts.{numeral_base36, length-last_digits}
use Rattle.fsfs_layout.specs.Formats.{AreFolders, IsOurFormat}
use Rattle.fsfs_layout.specs.Small.{IsUuid, IsRevLine, IsBase36Line}
use Rattle.fsfs_layout.specs.declared.folders.Folders.{Folders}
use Rattle.fsfs_disk.specs.WholeFiles.FirstBytes.{IsShorter}

-- a number of 64 bits has at most 20 digits
pub decimal_line_short : (limit end : ℕ) (text : List ℕ) (n : ℕ) → limit ≤ 18446744073709551615 → IsNumber 10 limit end text n → length text ≤ 21
decimal_line_short limit end text n most line =
    let digits : length line.digits ≤ 20 = subst (λ (t : List ℕ). length t ≤ 20) (sym (numeral_decimal line.digits n (omega (arith, line.fits)) line.numeral)) (length-decimal-le 20 n (omega arith) (omega (arith, line.fits)) (omega (arith, line.fits))) in
    omega (arith, ap length line.parts, length-append line.digits (end ∷ []), digits)

pub rev_line_short : IsShorter 64 IsRevLine
rev_line_short text n line = omega (arith, decimal_line_short 2147483647 10 text n (omega arith) line)

pub base36_line_short : IsShorter 64 IsBase36Line
base36_line_short text n line =
    let digits : length line.digits ≤ 13 = subst (λ (t : List ℕ). length t ≤ 13) (sym (numeral_base36 line.digits n (omega (arith, line.fits)) line.numeral)) (length-last_digits 13 n) in
    omega (arith, ap length line.parts, length-append line.digits (10 ∷ []), digits)

pub uuid_short : IsShorter 64 IsUuid
uuid_short text uuid w =
    let line : length w.first ≡ 36 = ap length w.first_is.0 ∙ w.first_is.1 in
    let end : length w.second ≡ 1 = ap length w.second_is.inner_is in
    omega (arith, ap length w.parts, length-append w.first w.second, line, end)

folders_short : (text : List ℕ) (f : Folders) → AreFolders text f → length text ≤ 36
folders_short text f w =
    let word : length w.first ≡ 7 = ap length w.first_is in
    let rest : length w.second ≤ 29 = ⊎_elim
    (λ s. let a : length s.first ≡ 8 = ap length s.first_is in
    let b : length s.second ≤ 21 = decimal_line_short 2147483647 10 s.second s.second_is.inner (omega arith) s.second_is.inner_is.0 in
    let c : length w.second ≡ length s.first + length s.second = ap length s.parts ∙ length-append s.first s.second in
    omega (arith, a, b, c))
    (λ l. let a : length l.first ≡ 6 = ap length l.first_is in
    let b : length l.second ≡ 1 = ap length l.second_is.inner_is in
    let c : length w.second ≡ length l.first + length l.second = ap length l.parts ∙ length-append l.first l.second in
    omega (arith, a, b, c)) w.second_is in
    omega (arith, ap length w.parts, length-append w.first w.second, word, rest)

pub our_format_short : IsShorter 64 IsOurFormat
our_format_short text f w =
    let line : length w.first ≡ 2 = ap length w.first_is in
    let rest : length w.second ≤ 36 = ⊎_elim (λ none. let a : length w.second ≡ 0 = ap length none.0 in omega (arith, a)) (λ line. folders_short w.second w.second_is.inner line) w.second_is.inner_is in
    omega (arith, ap length w.parts, length-append w.first w.second, line, rest)
