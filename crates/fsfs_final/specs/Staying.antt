-- A draft stays one while later revisions come.
use Rattle.std.specs.Prelude.{◌≤◌, ℕ}
use Rattle.fsfs_revision.specs.Told.{RevisionBytes}
use Rattle.fsfs_revision.specs.Ancestry.Bounded.{AreSameUpTo}
use Rattle.fsfs_draft.specs.OwnSides.{NodesAt}
use Rattle.fsfs_draft.specs.NodeDrafts.{IsDraft}

abbrev pub DraftsStay : Type 0
DraftsStay = (look other : RevisionBytes) (top more b : ℕ) (own : NodesAt) → AreSameUpTo top look other → top ≤ more → b ≤ top
    → IsDraft look top b own → IsDraft other more b own
