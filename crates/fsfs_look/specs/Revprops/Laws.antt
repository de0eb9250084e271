-- The laws of what is printed of a revision's properties.
use Rattle.std.specs.Prelude.{◌≡◌, ℕ, List, Ok}
use Rattle.fsfs_tree.specs.Dated.{IsDated}
use Rattle.fsfs_tree.specs.PropTexts.{author_text, date_text, log_text, info_text}
use Rattle.fsfs_layout.specs.Hash.Dump.{IsDump}
use Rattle.fsfs_revision.specs.Told.{RevisionBytes}
use Rattle.fsfs_revision.specs.RevProps.{MayRead, only}
use Rattle.fsfs_look.specs.Revprops.Files.{Pairs}
use Rattle.fsfs_stands.specs.Texts.{End}
use Rattle.fsfs_stands.specs.Agreeing.{HasOneText}
use Rattle.fsfs_stands.specs.ByTree.{IsOf}
use Rattle.fsfs_look.specs.Revprops.Texts.{AuthorText, DateText, LogText, InfoText}

-- ---- one text

abbrev pub HaveOneText : (MayRead → ℕ → List ℕ → End → Type 0) → Type 0
HaveOneText T = (files : RevisionBytes) (rev : ℕ) → HasOneText (T (only files) rev)

-- ---- by the properties

-- the property file of the revision shows these properties, and the date among them is in the form of stored dates
pub record ShowsProps (files : RevisionBytes) (rev : ℕ) (pairs : Pairs) : Type 0 where
  pub file : List ℕ
  pub file_is : files rev ≡ Ok file
  pub dump : IsDump file pairs
  pub dated : IsDated pairs

abbrev pub AreByProps : (MayRead → ℕ → List ℕ → End → Type 0) → (Pairs → List ℕ → End → Type 0) → Type 0
AreByProps T P = (files : RevisionBytes) (rev : ℕ) (pairs : Pairs) → ShowsProps files rev pairs → (text : List ℕ) (end : End) → T (only files) rev text end → P pairs text end

abbrev pub AuthorsAreByProps : Type 0
AuthorsAreByProps = AreByProps AuthorText (λ pairs. IsOf (author_text pairs))

abbrev pub LogsAreByProps : Type 0
LogsAreByProps = AreByProps LogText (λ pairs. IsOf (log_text pairs))

abbrev pub DatesAreByProps : Type 0
DatesAreByProps = AreByProps DateText (λ pairs. IsOf (date_text pairs))

abbrev pub InfosAreByProps : Type 0
InfosAreByProps = AreByProps InfoText (λ pairs. IsOf (info_text pairs))
