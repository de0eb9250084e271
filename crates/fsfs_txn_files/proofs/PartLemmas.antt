-- The text of a node part or a copy part is its only one, and has no dot.
use Rattle.std.proofs.Common.{◌≡◌, ◌≤◌, ℕ, List, ◌∷◌, ◌++◌, refl, sym, subst, ap, arith}
use Rattle.std.specs.Fmt.{decimal}
use Rattle.fsfs_base.specs.Grammar.Base36.{base36}
use Rattle.fsfs_base.specs.Grammar.Cuts.{Lacks}
use Rattle.fsfs_base.proofs.CutLemmas.{lacks_from}
use Rattle.fsfs_base.proofs.Base36Texts.{base36_numeral}
use Rattle.fsfs_base.proofs.Spelling.{plain_lacks, spells_one}
use Rattle.fsfs_base.proofs.Unique.{decimal_plain}
use Rattle.fsfs_base.specs.Fields.RevNums.{last_rev, IsRev}
use Rattle.fsfs_base.proofs.RevNumTexts.{rev_text_lacks}
use Rattle.fsfs_noderev.specs.Ids.{PartValue, New, Old, Made, In, IdValue, IsB36, IsPart, IsPlace, IsId}
use Rattle.fsfs_noderev.proofs.IdTexts.{id_spells}
use Rattle.fsfs_txn_files.specs.FileNames.{part_text, FitsPart}

b36 : (n : ℕ) → n ≤ 170581728179578208255 → IsB36 (base36 n) n
b36 n fits = (base36_numeral n (omega (arith, fits)), fits)

rev_text : (rev : ℕ) → rev ≤ last_rev → IsRev (decimal rev) rev
rev_text rev fits = decimal_plain last_rev rev fits (omega (arith, fits))

pub part_is : (p : PartValue) → FitsPart p → IsPart (part_text p) p
part_is (New n) fits = (base36 n, b36 n fits, refl)
part_is (Old n) fits = b36 n fits
part_is (Made n rev) fits = (base36 n, decimal rev, b36 n fits.0, rev_text rev fits.1, refl)

b36_lacks : (n : ℕ) → n ≤ 170581728179578208255 → Lacks 46 (base36 n)
b36_lacks n fits = plain_lacks 36 170581728179578208255 46 (omega arith) (base36 n) n (b36 n fits)

pub part_lacks : (p : PartValue) → FitsPart p → Lacks 46 (part_text p)
part_lacks (New n) fits = (refl, b36_lacks n fits)
part_lacks (Old n) fits = b36_lacks n fits
part_lacks (Made n rev) fits = lacks_from 46 (base36 n) (45 ∷ decimal rev) (b36_lacks n fits.0) (refl, rev_text_lacks 46 (omega arith) (decimal rev) rev (rev_text rev fits.1))

-- ---- parts with one text are one: they begin the same id

abbrev zero_text : List ℕ
zero_text = 116 ∷ (decimal 0 ++ 45 ∷ base36 0)

zero_place : IsPlace zero_text (In 0 0)
zero_place = (decimal 0 ++ 45 ∷ base36 0, (decimal 0, base36 0, rev_text 0 (omega arith), b36 0 (omega arith), refl), refl)

abbrev id_of : PartValue → IdValue
id_of p = record { node = p; copy = p; place = In 0 0 }

abbrev id_text : List ℕ → List ℕ
id_text t = t ++ 46 ∷ (t ++ 46 ∷ zero_text)

id_is : (t : List ℕ) (p : PartValue) → IsPart t p → IsId (id_text t) (id_of p)
id_is t p is = (t, t ++ 46 ∷ zero_text, is, (t, zero_text, is, zero_place, refl), refl)

pub part_one : (p q : PartValue) → FitsPart p → FitsPart q → part_text p ≡ part_text q → p ≡ q
part_one p q fp fq same =
    ap (λ (id : IdValue). id.node) (spells_one id_spells (id_text (part_text p)) (id_of p) (id_of q) (id_is (part_text p) p (part_is p fp))
    (id_is (part_text p) q (subst (λ (t : List ℕ). IsPart t q) (sym same) (part_is q fq))))
