-- The floor, from what its file says.
use Rattle.std.proofs.Common.{◌≡◌, ◌≤◌, ℕ, ◌-◌, List, [], ◌∷◌, length, take, refl, sym, ap, subst, ◌∙◌, inl, inr, arith}
use Rattle.std.specs.Prelude.{Result, Ok, Err}
use Rattle.std.proofs.lemmas.Bool.{eq-eqb, ne_eqb}
use Rattle.fsfs_base.specs.declared.small_fault.SmallFile.TheVariants.{MinUnpackedRev}
use Rattle.fsfs_base.specs.declared.small_fault.SmallFault.{SmallFault}
use Rattle.std.proofs.lemmas.List.{take_all, length-append}
use Rattle.std.proofs.lemmas.Fmt.{length-decimal-le}
use Rattle.fsfs_base.proofs.Unique.{numeral_decimal}
use Rattle.fsfs_base.specs.Files.{Files}
use Rattle.fsfs_base.proofs.Readers.{all_found, all_again, all_exact}
use Rattle.fsfs_layout.specs.Reading.{rev_line_at}
use Rattle.fsfs_layout.specs.declared.format.Format.{Format}
use Rattle.fsfs_layout.specs.declared.format.Format.TheVariants.{Three, Four}
use Rattle.fsfs_layout.specs.declared.layout.Layout.{Layout}
use Rattle.fsfs_layout.specs.Layouts.{place_in_shard}
use Rattle.fsfs_layout.specs.Small.{IsRevLine, IsMinUnpackedRevIn, IsMinUnpackedRev, IsRefusedFile, IsInsideShard, IsMinUnpackedFaultIn, IsMinUnpackedFault}
use Rattle.fsfs_layout.proofs.Files.{rev_line_reads}
use Rattle.fsfs_revision.specs.RevBytes.{placed, of_whole_shards, floor_where, text_in, floor_of, floor_in}
use Rattle.fsfs_revision.proofs.ManifestLemmas.{fault_same, fault_is}

-- what the reading of a floor in format 4 comes to
abbrev four_at : Layout → List ℕ → Result ℕ SmallFault
four_at n text = of_whole_shards n (placed MinUnpackedRev text (rev_line_at text))

four_ok : (n : Layout) (rev : ℕ) (text : List ℕ) → IsMinUnpackedRevIn Four n text rev → four_at n text ≡ Ok rev
four_ok n rev text is = ap (λ r. of_whole_shards n (placed MinUnpackedRev text r)) (all_again rev_line_reads text rev is.0) ∙ rw (eq-eqb (place_in_shard n rev) 0 is.1) refl

pub floor_ok : (n : Layout) (rev : ℕ) (text : List ℕ) → IsMinUnpackedRev n text rev → floor_of n text ≡ Ok rev
unfolding floor_of
floor_ok n rev text is = go n.format is
  where
    go : (k : Format) → IsMinUnpackedRevIn k n text rev → floor_where k (four_at n text) ≡ Ok rev
    go Three none = ap (λ (r : ℕ). Ok r) (sym none)
    go Four line = four_ok n rev text line

inside_err : (n : Layout) (text : List ℕ) (fault : SmallFault) → IsInsideShard n text fault → four_at n text ≡ Err fault
inside_err n text fault w =
    ap (λ r. of_whole_shards n (placed MinUnpackedRev text r)) (all_again rev_line_reads text w.number w.line)
    ∙ rw (ne_eqb (place_in_shard n w.number) 0 w.inside) (ap (λ (f : SmallFault). Err f) (fault_is fault MinUnpackedRev 0 w.names w.place))

line_err : (n : Layout) (text : List ℕ) (fault : SmallFault) → IsRefusedFile MinUnpackedRev IsRevLine text fault → (r : Result ℕ ℕ) → rev_line_at text ≡ r → of_whole_shards n (placed MinUnpackedRev text r) ≡ Err fault
line_err n text fault w (Ok rev) e = absurd (w.0 rev (all_found rev_line_reads text rev e))
line_err n text fault w (Err left) e =
    let at : fault.at ≡ length text - left = fault_same IsRevLine text fault.at (length text - left) w.1.place (all_exact rev_line_reads text left e).1 in
    ap (λ (f : SmallFault). Err f) (fault_is fault MinUnpackedRev (length text - left) w.1.names at)

pub floor_err : (n : Layout) (text : List ℕ) (fault : SmallFault) → IsMinUnpackedFault n text fault → floor_of n text ≡ Err fault
unfolding floor_of
floor_err n text fault is = go n.format is
  where
    go : (k : Format) → IsMinUnpackedFaultIn k n text fault → floor_where k (four_at n text) ≡ Err fault
    go Three none = absurd none
    go Four (inl w) = line_err n text fault w (rev_line_at text) refl
    go Four (inr w) = inside_err n text fault w

-- the line of a revision is short
pub line_is_short : (text : List ℕ) (n : ℕ) → IsRevLine text n → length text ≤ 11
line_is_short text n line =
    let digits : length line.digits ≤ 10 = subst (λ (t : List ℕ). length t ≤ 10) (sym (numeral_decimal line.digits n (omega (arith, line.fits)) line.numeral)) (length-decimal-le 10 n (omega arith) (omega (arith, line.fits)) (omega (arith, line.fits))) in
    omega (arith, ap length line.parts, length-append line.digits (10 ∷ []), digits)

-- the floor of the files is that of the whole text
pub floor_is : (n : Layout) (rev : ℕ) (files : Files) → IsMinUnpackedRev n (text_in files MinUnpackedRev) rev → floor_in n files ≡ Ok rev
unfolding floor_in
floor_is n rev files is = floor_ok n rev (take 64 text) (first n.format is)
  where
    text : List ℕ
    text = text_in files MinUnpackedRev

    first : (k : Format) → IsMinUnpackedRevIn k n text rev → IsMinUnpackedRevIn k n (take 64 text) rev
    first Three none = none
    first Four line = (subst (λ (t : List ℕ). IsRevLine t rev) (sym (take_all 64 text (omega (arith, line_is_short text rev line.0)))) line.0, line.1)
