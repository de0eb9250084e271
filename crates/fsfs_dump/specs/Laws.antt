-- The laws of dumps.
use Rattle.std.specs.Prelude.{◌≡◌, ℕ, List, Some, None}
use Rattle.fsfs_base.specs.Files.{Files}
use Rattle.fsfs_tree.specs.Revisions.{Revision}
use Rattle.fsfs_revision.specs.Told.{RevisionBytes}
use Rattle.fsfs_revision.specs.RevProps.{only}
use Rattle.fsfs_revision.specs.RevBytes.{rev_bytes, props_bytes}
use Rattle.fsfs_revision.specs.Damage.Damages.{place_of}
use Rattle.fsfs_revision.specs.declared.wrong.Wrong.TheVariants as wrongs
use Rattle.fsfs_stands.specs.declared.look_fault.LookFault.TheVariants as faults
use Rattle.fsfs_stands.specs.Texts.{End, Whole, Refused, Stopped}
use Rattle.fsfs_stands.specs.Agreeing.{IsFront, HasOneText}
use Rattle.fsfs_stands.specs.ByTree.{IsOf}
use Rattle.fsfs_stands.specs.Files.{StandsFor}
use Rattle.fsfs_dump.specs.Flat.{CutText, history_dump}
use Rattle.fsfs_dump.specs.Texts.{DumpText}

abbrev pub DumpsHaveOneText : Type 0
DumpsHaveOneText = (look props : RevisionBytes) (uuid : List ℕ) (youngest : ℕ) → HasOneText (DumpText look (only props) uuid youngest)

-- this text; or all before the text that is not read, which is told at its place; or where a failure stopped it a first part
abbrev pub IsCut : CutText → List ℕ → End → Type 0
IsCut (whole, None) text end = IsOf whole text end
IsCut (front, Some at) text Whole = ⊥
IsCut (front, Some at) text (Refused fault) = (text ≡ front) × (fault ≡ faults.Wrong (wrongs.Delta (place_of at.0 at.1)))
IsCut (front, Some at) text Stopped = IsFront text front

-- what files that stand for a history give is the dump of that history
abbrev pub DumpsAreByTheHistory : Type 0
DumpsAreByTheHistory = (files : Files) (h : List Revision) (s : StandsFor files h) (uuid : List ℕ) (text : List ℕ) (end : End)
    → DumpText (rev_bytes s.opened.layout files) (only (props_bytes s.opened.layout files)) uuid s.opened.youngest text end → IsCut (history_dump uuid h) text end
