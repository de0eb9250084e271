-- The text of the history of a path, as it is read: the newest point first.
use Rattle.std.specs.Prelude.{◌≡◌, ℕ, List, ◌++◌, Some, None, Ok, Err}
use Rattle.fsfs_base.specs.Paths.{Path}
use Rattle.fsfs_revision.specs.Told.{RevisionBytes}
use Rattle.fsfs_revision.specs.declared.wrong.Wrong.{Wrong}
use Rattle.fsfs_revision.specs.Shows.Reading.{Met, Stands, Lacking, Blocked}
use Rattle.fsfs_stands.specs.declared.look_fault.LookFault.TheVariants as faults
use Rattle.fsfs_stands.specs.Texts.{End, Whole, Refused, Stopped, Nothing, AtPath}
use Rattle.fsfs_stands.specs.Steps.{Point, point_rev, IsPointIn, HistoryStep}
use Rattle.fsfs_tree.specs.HistoryTexts.{history_head, point_line}

abbrev pub line_of : Point → List ℕ
line_of at = point_line (point_rev at, at.path)

-- the line of a point, and those of all before it
pub data PointsText (look : RevisionBytes) : Point → List ℕ → End → Type 0 where
  OfLast : (at : Point) → HistoryStep look at (Ok None) → PointsText look at (line_of at) Whole
  OfNext : (at to : Point) (text : List ℕ) (end : End) → HistoryStep look at (Ok (Some to)) → PointsText look to text end → PointsText look at (line_of at ++ text) end
  OfWrong : (at : Point) (w : Wrong) → HistoryStep look at (Err w) → PointsText look at (line_of at) (Refused (faults.Wrong w))
  Stops : (at : Point) → PointsText look at (line_of at) Stopped

-- behind the heading
pub record HeadedText (look : RevisionBytes) (at : Point) (text : List ℕ) (end : End) : Type 0 where
  pub points : List ℕ
  pub points_are : PointsText look at points end
  pub text_is : text ≡ history_head ++ points

abbrev pub MetHistory : RevisionBytes → ℕ → Path → Met → List ℕ → End → Type 0
MetHistory look rev path (Stands v) text end = (at : Point) × IsPointIn look rev path (Stands v) (Ok (Some at)) × HeadedText look at text end
MetHistory look rev path (Lacking names) text end = Nothing (Refused (faults.NotFound names)) text end
MetHistory look rev path (Blocked names) text end = Nothing (Refused (faults.NotDir names)) text end

-- the history of a path from a revision on
abbrev pub HistoryText : RevisionBytes → ℕ → Path → List ℕ → End → Type 0
HistoryText look rev path = AtPath look rev path (MetHistory look rev path)
