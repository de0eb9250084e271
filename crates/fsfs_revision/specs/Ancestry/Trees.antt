-- The trees that bytes show, one for each revision, and what follows where the rules of ids hold.
use Rattle.std.specs.Prelude.{◌≤◌, ◌<◌, ℕ}
use Rattle.fsfs_base.specs.Paths.{Path}
use Rattle.fsfs_tree.specs.Nodes.{TreeFunction}
use Rattle.fsfs_tree.specs.Histories.{AreRevisions}
use Rattle.fsfs_revision.specs.Told.{RevisionBytes}
use Rattle.fsfs_noderev.specs.declared.node_rev.NodeRev.{NodeRev}
use Rattle.fsfs_revision.specs.Shows.Reading.{StandsAt}
use Rattle.fsfs_revision.specs.Shows.Chains.{own_rev, IsPred}
use Rattle.fsfs_revision.specs.Shows.IdRules.{IdRule}
use Rattle.fsfs_revision.specs.Shows.Shown.{Shows}

-- the bytes show these trees up to a revision, and obey the rules of ids
pub record ShowTrees (look : RevisionBytes) (top : ℕ) (tree : ℕ → TreeFunction) : Type 0 where
  pub each : (r : ℕ) → r ≤ top → Shows look r (tree r)
  pub ids : IdRule look top

-- a predecessor is of an earlier revision
abbrev pub PredecessorsAreEarlier : Type 0
PredecessorsAreEarlier = (look : RevisionBytes) (top : ℕ) (tree : ℕ → TreeFunction) → ShowTrees look top tree
    → (r : ℕ) (p : Path) (v u : NodeRev) → r ≤ top → StandsAt look r p v → IsPred look v u → own_rev u < own_rev v

-- the trees are those of a history
abbrev pub ShownTreesAreRevisions : Type 0
ShownTreesAreRevisions = (look : RevisionBytes) (top : ℕ) (tree : ℕ → TreeFunction) → ShowTrees look top tree → AreRevisions tree top
