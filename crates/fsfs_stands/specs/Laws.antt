-- The laws of histories that are read.
use Rattle.std.specs.Prelude.{◌≡◌, ◌≤◌, ◌<◌, ℕ, List, Option, Some, None, Result, Ok, Err}
use Rattle.fsfs_base.specs.Paths.{Path}
use Rattle.fsfs_tree.specs.Nodes.{Node, TreeFunction}
use Rattle.fsfs_tree.specs.PathHistories.{leads_to, path_history}
use Rattle.fsfs_revision.specs.Told.{RevisionBytes}
use Rattle.fsfs_tree.specs.Answers.{Found, Stands, Lacking, Blocked, found_at}
use Rattle.fsfs_revision.specs.Damage.Readings.{HasOneAnswer}
use Rattle.fsfs_revision.specs.declared.wrong.Wrong.{Wrong}
use Rattle.fsfs_stands.specs.Texts.{End}
use Rattle.fsfs_stands.specs.Agreeing.{HasOneText}
use Rattle.fsfs_stands.specs.ByTree.{IsOf, IsRefusedFor, IsNotFoundAt, IsNotDirAt}
use Rattle.fsfs_revision.specs.Ancestry.CopyRoots.{IsRootedAt}
use Rattle.fsfs_revision.specs.Ancestry.Trees.{ShowTrees}
use Rattle.fsfs_stands.specs.Steps.{Point, point_rev, HistoryStep}
use Rattle.fsfs_tree.specs.HistoryTexts.{history_text}
use Rattle.fsfs_stands.specs.HistoryTexts.{HistoryText}

-- ---- one text

abbrev pub StepsAreOne : Type 0
StepsAreOne = (look : RevisionBytes) (at : Point) → HasOneAnswer (HistoryStep look at)

abbrev pub HistoriesHaveOneText : Type 0
HistoriesHaveOneText = (look : RevisionBytes) (rev : ℕ) (path : Path) → HasOneText (HistoryText look rev path)

-- ---- by the trees

-- a point is at this revision and path
pub record IsAt (look : RevisionBytes) (r : ℕ) (p : Path) (at : Point) : Type 0 where
  pub path : at.path ≡ p
  pub rooted : IsRootedAt look r p at.node at.root

-- the flat history goes on where the step does, at a lower revision, or ends with it
abbrev pub IsStepByTrees : RevisionBytes → (ℕ → TreeFunction) → ℕ → Option (ℕ × Path) → Result (Option Point) Wrong → Type 0
IsStepByTrees look tree r None next = next ≡ Ok None
IsStepByTrees look tree r (Some to) (Ok None) = (to.0 < r) × (tree to.0 to.1 ≡ None)
IsStepByTrees look tree r (Some to) (Ok (Some at)) = (to.0 < r) × IsAt look to.0 to.1 at
IsStepByTrees look tree r (Some to) (Err w) = ⊥

pub record IsPointByTrees (look : RevisionBytes) (tree : ℕ → TreeFunction) (r : ℕ) (p : Path) (at : Point) : Type 0 where
  pub node : Node
  pub node_is : tree r p ≡ Some node
  pub rev : point_rev at ≡ node.last_changed
  pub step : (next : Result (Option Point) Wrong) → HistoryStep look at next → IsStepByTrees look tree r (leads_to p node) next

abbrev pub StepsAreByTrees : Type 0
StepsAreByTrees = (look : RevisionBytes) (top : ℕ) (tree : ℕ → TreeFunction) → ShowTrees look top tree
    → (r : ℕ) (p : Path) (at : Point) → r ≤ top → IsAt look r p at → IsPointByTrees look tree r p at

-- the text is that of the flat history
abbrev pub IsHistoryOf : Path → List (ℕ × Path) → Found → List ℕ → End → Type 0
IsHistoryOf path points (Stands node) = IsOf (history_text points)
IsHistoryOf path points (Lacking at) = IsRefusedFor (IsNotFoundAt path at)
IsHistoryOf path points (Blocked at) = IsRefusedFor (IsNotDirAt path at)

abbrev pub HistoriesAreByTrees : Type 0
HistoriesAreByTrees = (look : RevisionBytes) (top : ℕ) (tree : ℕ → TreeFunction) → ShowTrees look top tree
    → (rev : ℕ) (path : Path) → rev ≤ top → (text : List ℕ) (end : End) → HistoryText look rev path text end → IsHistoryOf path (path_history tree rev path) (found_at (tree rev) path) text end
