-- What is printed of a revision's properties, as it is read. (The texts are those of Subversion's own `svnlook author`, `date`, `log`
-- and `info`.)
use Rattle.std.specs.Prelude.{◌≡◌, ◌⊎◌, ℕ, List, [], ◌∷◌, ◌++◌, Option, Some, None, Result, Ok, Err, codes}
use Rattle.jiff_core.specs.declared.civil.datetime.DateTime.{DateTime}
use Rattle.fsfs_base.specs.Fields.Dates.{IsDateText}
use Rattle.fsfs_tree.specs.Dated.{date_name}
pub use Rattle.fsfs_tree.specs.PropTexts.{value_of, author_name, log_name, value_line, log_lines, info_lines}
use Rattle.fsfs_revision.specs.declared.damage.DamageKind.TheVariants as what
use Rattle.fsfs_revision.specs.declared.wrong.Wrong.{Wrong}
use Rattle.fsfs_revision.specs.Damage.Checks.{Check, must, Judged}
use Rattle.fsfs_revision.specs.Damage.Damages.{place_of, damaged}
use Rattle.fsfs_revision.specs.Damage.Readings.{AndThen}
use Rattle.fsfs_revision.specs.RevProps.{MayRead}
use Rattle.fsfs_look.specs.Revprops.Files.{Pairs, RevPropsOf}
use Rattle.fsfs_look.specs.Revprops.Dates.{shown_date}
use Rattle.fsfs_stands.specs.declared.look_fault.LookFault.TheVariants as faults
use Rattle.fsfs_stands.specs.Texts.{End, Whole, Refused, Stopped, Nothing}

-- ---- the date, as it is read

-- the line of the date that is stored, an empty one where there is none
abbrev pub IsDateLine : Option (List ℕ) → List ℕ → Type 0
IsDateLine None line = line ≡ codes "\n"
IsDateLine (Some stored) line = (dt : DateTime) × IsDateText stored dt × (line ≡ shown_date dt ++ codes "\n")

-- a stored date is in its form, or the revision is damaged
abbrev pub date_checks : ℕ → Option (List ℕ) → List Check
date_checks rev None = []
date_checks rev (Some stored) = must ((dt : DateTime) × IsDateText stored dt) (damaged (place_of rev 0) what.BadDate) ∷ []

abbrev pub DateLine : ℕ → Option (List ℕ) → Result (List ℕ) Wrong → Type 0
DateLine rev stored = Judged (IsDateLine stored) (date_checks rev stored)

-- ---- texts: whole, or nothing and why

abbrev pub ReadText : (Result (List ℕ) Wrong → Type 0) → List ℕ → End → Type 0
ReadText R text end =
    Nothing Stopped text end
    ⊎ ((R (Ok text) × (end ≡ Whole)) ⊎ ((w : Wrong) × R (Err w) × Nothing (Refused (faults.Wrong w)) text end))

-- what is read of the properties of a revision, by one text that may be read of its property file
abbrev pub PropText : (Pairs → Result (List ℕ) Wrong → Type 0) → MayRead → ℕ → List ℕ → End → Type 0
PropText R may rev = ReadText (AndThen (RevPropsOf may rev) R)

abbrev pub AuthorText : MayRead → ℕ → List ℕ → End → Type 0
AuthorText = PropText (λ pairs r. r ≡ Ok (value_line (value_of pairs author_name)))

abbrev pub LogText : MayRead → ℕ → List ℕ → End → Type 0
LogText = PropText (λ pairs r. r ≡ Ok (value_line (value_of pairs log_name)))

abbrev pub DateText : MayRead → ℕ → List ℕ → End → Type 0
DateText may rev = PropText (λ pairs. DateLine rev (value_of pairs date_name)) may rev

-- the date is read before anything is written, so a bad one leaves no line
abbrev pub InfoText : MayRead → ℕ → List ℕ → End → Type 0
InfoText may rev = PropText (λ pairs. AndThen (DateLine rev (value_of pairs date_name)) (λ line r. r ≡ Ok (info_lines pairs line))) may rev
