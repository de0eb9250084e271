-- A property file, where nothing may be read but what it says.
use Rattle.std.proofs.Common.{◌≡◌, ◌≤◌, ℕ, List, Option, Some, None, inl, inr, arith, sym, ◌∙◌}
use Rattle.std.specs.Prelude.{Result, Ok, Err, option_map}
use Rattle.std.specs.Map.{lookup}
use Rattle.std.specs.BTreeMap.{is_at}
use Rattle.std.specs.Cmp.Lexicographic.{slice_cmp}
use Rattle.std.specs.Ordering.{nat_cmp}
use Rattle.jiff_core.specs.declared.civil.datetime.DateTime.{DateTime}
use Rattle.fsfs_base.specs.Fields.Dates.{IsDateText}
use Rattle.fsfs_tree.specs.Dated.{IsDated, date_name}
use Rattle.fsfs_revision.specs.Damage.Readings.{Answers, IfWrong}
use Rattle.fsfs_revision.specs.RevProps.{MayRead, ReadsOnly, FileRead, only}
use Rattle.fsfs_revision.specs.Told.{RevisionBytes}
use Rattle.fsfs_revision.specs.declared.wrong.ReadError.{ReadError}
use Rattle.fsfs_revision.specs.declared.wrong.ReadError.TheVariants as errors
use Rattle.fsfs_revision.specs.declared.wrong.Wrong.{Wrong}
use Rattle.fsfs_look.specs.Revprops.Files.{Pairs, RevPropsOf}
use Rattle.fsfs_sound.specs.Damaged.{IsDamaged, PropFile}

module _ (may : MayRead) (rev : ℕ) (props : RevisionBytes) (reads : ReadsOnly may rev props) where
  file_only : (r : Result (List ℕ) Wrong) → FileRead (may rev) r → FileRead (only props rev) r
  file_only (Ok bytes) h = reads rev (omega arith) (Ok bytes) h
  file_only (Err w) h = (h.0, reads rev (omega arith) (Err h.0) h.1, h.2)

  pub props_only : (r : Result Pairs Wrong) → RevPropsOf may rev r → RevPropsOf (only props) rev r
  props_only (Ok pairs) h = (h.0, file_only (Ok h.0) h.1, h.2)
  props_only (Err w) (inl h) = inl (file_only (Err w) h)
  props_only (Err w) (inr h) = inr (h.0, file_only (Ok h.0) h.1, h.2)

  pub file_wrong : (look : RevisionBytes) (e : ReadError) → Answers (λ (p : Pairs). p) (RevPropsOf may rev) (Err e) → IfWrong (IsDamaged look props rev) e
  file_wrong look errors.OutOfMemory h = tt
  file_wrong look errors.DiskFault h = tt
  file_wrong look (errors.Wrong w) h = PropFile w (props_only (Err w) h)

-- the date of the pairs is this text
abbrev pub HasDate : Pairs → List ℕ → Type 0
HasDate pairs text = Some text ≡ lookup (is_at (slice_cmp nat_cmp date_name)) pairs

pub dated : (pairs : Pairs) (text : List ℕ) (date : DateTime) → HasDate pairs text → IsDateText text date → IsDated pairs
dated pairs text date has is value e =
    let both : (let o : Option (List ℕ) = Some text in o) ≡ Some value = has ∙ e in
    let same : text ≡ value = cc in
    (date, rw same at is)

pub undated : (pairs : Pairs) (text : List ℕ) → HasDate pairs text → ((date : DateTime) → IsDateText text date → ⊥) → IsDated pairs → ⊥
undated pairs text has none dated = let d = dated text (sym has) in none d.0 d.1
