-- The points of a history as the code has them.
use Rattle.std.specs.Prelude.{◌≡◌, ◌≤◌, ◌<◌, ◌⊎◌, ◌+◌, ◌*◌, ◌^◌, ◌++◌, ℕ, zero, suc, List, [], Option, Some, None, Result, Ok, Err}
use Rattle.fsfs_base.specs.Paths.{Path}
use Rattle.fsfs_revision.specs.Told.{RevisionBytes}
use Rattle.fsfs_dag.specs.Views.{home_of}
use Rattle.fsfs_revision.specs.declared.damage.RevOffset.{RevOffset}
use Rattle.fsfs_revision.specs.Shows.Reading.{offset_of, Met, Stands, Lacking, Blocked, MetAt}
use Rattle.fsfs_stands.specs.Texts.{End, Whole, Stopped, Nothing}
use Rattle.fsfs_revision.specs.Ancestry.CopyRoots.{IsRootedAt}
use Rattle.fsfs_stands.specs.Steps.{Point, Lead, Nowhere, Back, Across}
use Rattle.fsfs_stands.specs.HistoryTexts.{line_of, PointsText, HeadedText}
use Rattle.fsfs_history.specs.declared.history.CopyPlace.{CopyPlace}
use Rattle.fsfs_history.specs.declared.history.HistoryPoint.{HistoryPoint}
use Rattle.fsfs_history.specs.declared.history.Way.{Way}
use Rattle.fsfs_history.specs.declared.history.Way.TheVariants as ways
use Rattle.fsfs_history.specs.declared.history.Leading.{Leading}
use Rattle.fsfs_history.specs.declared.history.Leading.TheVariants as leadings
use Rattle.fsfs_look.specs.declared.look_error.LookError.{LookError}
use Rattle.fsfs_look.specs.declared.look_error.LookError.TheVariants as errors
use Rattle.fsfs_look.specs.Paths.{IsNotFound}
use Rattle.fsfs_dag.specs.TreeWalks.{rank}

abbrev pub root_value : CopyPlace → ℕ × Path
root_value root = (root.rev, root.path)

abbrev pub point_value : HistoryPoint → Point
point_value a = record { path = a.path; node = a.found.node; root = root_value a.root }

abbrev pub lead_value : Leading → Lead
lead_value leadings.Nowhere = Nowhere
lead_value (leadings.Back id) = Back id
lead_value leadings.Across = Across

-- ---- the way down a path

abbrev pub way_met : Way → Met
way_met (ways.Point a) = Stands a.found.node
way_met (ways.Absent names) = Lacking names
way_met (ways.File names) = Blocked names

abbrev pub IsRootedWay : RevisionBytes → ℕ → Path → Way → Type 0
IsRootedWay look r p (ways.Point a) = (a.path ≡ p) × IsRootedAt look r p a.found.node (root_value a.root)
IsRootedWay look r p (ways.Absent names) = Unit {0}
IsRootedWay look r p (ways.File names) = Unit {0}

-- all that it names is of revisions up to this one
pub record IsWithin (top : ℕ) (a : HistoryPoint) : Type 0 where
  pub own : (home_of a.found.node).rev ≤ top
  pub root : a.root.rev ≤ top

abbrev pub IsWayWithin : ℕ → Way → Type 0
IsWayWithin top (ways.Point a) = IsWithin top a
IsWayWithin top (ways.Absent names) = Unit {0}
IsWayWithin top (ways.File names) = Unit {0}

-- the point at a path, or why there is none
abbrev pub IsPointFound : RevisionBytes → ℕ → Path → Result HistoryPoint LookError → Type 0
IsPointFound look rev path (Ok a) = MetAt look rev path (Ok (Stands a.found.node)) × (a.path ≡ path) × IsRootedAt look rev path a.found.node (root_value a.root)
IsPointFound look rev path (Err (errors.Fault fault)) = IsNotFound look rev path fault
IsPointFound look rev path (Err errors.OutOfMemory) = Unit {0}
IsPointFound look rev path (Err errors.DiskFault) = Unit {0}
IsPointFound look rev path (Err errors.WriteFault) = ⊥

-- ---- texts

-- what is behind the line of a point
abbrev pub BehindText : RevisionBytes → Point → List ℕ → End → Type 0
BehindText look at text end = PointsText look at (line_of at ++ text) end

-- the line of the next point, if there is one
abbrev pub next_line : Option HistoryPoint → List ℕ
next_line None = []
next_line (Some a) = line_of (point_value a)

abbrev pub LeftBehind : RevisionBytes → Option HistoryPoint → List ℕ → End → Type 0
LeftBehind look None text end = (text ≡ []) × (end ≡ Whole)
LeftBehind look (Some a) text end = BehindText look (point_value a) text end

-- a history from a point on, or nothing yet where a failure stops before it
abbrev pub HistoryFrom : RevisionBytes → Point → List ℕ → End → Type 0
HistoryFrom look at text end = Nothing Stopped text end ⊎ HeadedText look at text end

-- ---- why a history ends

-- 1 + 2 + .. + n
abbrev pub steps_to : ℕ → ℕ
steps_to zero = 0
steps_to (suc n) = steps_to n + suc n

-- a step back leaves the copy root, and leads to a smaller place, or it leads to a smaller copy root
abbrev pub height : HistoryPoint → ℕ
height a = steps_to a.root.rev * 2 ^ 64 + rank (home_of a.found.node)

-- a predecessor stands before this place
abbrev pub LeadsLower : RevOffset → Leading → Type 0
LeadsLower home leadings.Nowhere = Unit {0}
LeadsLower home (leadings.Back id) = (rank (offset_of id.place) < rank home) × ((offset_of id.place).rev ≤ home.rev)
LeadsLower home leadings.Across = Unit {0}

-- nothing is left at the least height
abbrev pub left_height : Option HistoryPoint → ℕ
left_height None = 0
left_height (Some a) = suc (height a)
