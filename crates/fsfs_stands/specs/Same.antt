-- That bytes show one history at most.
use Rattle.std.specs.Prelude.{◌≡◌, ℕ, List, length, Some, slice_get}
use Rattle.std.specs.FinMap.{get}
use Rattle.fsfs_base.specs.Files.{Files}
use Rattle.fsfs_base.specs.Paths.{Path}
use Rattle.fsfs_tree.specs.Revisions.{Revision}
use Rattle.fsfs_revision.specs.Told.{RevisionBytes}
use Rattle.fsfs_stands.specs.History.{ShowsHistory}
use Rattle.fsfs_stands.specs.Files.{StandsFor}

-- two revisions have the same nodes, changed paths and properties
pub record AreSame (a b : Revision) : Type 0 where
  pub tree : (p : Path) → get a.tree p ≡ get b.tree p
  pub changes : (p : Path) → get a.changes p ≡ get b.changes p
  pub properties : a.properties ≡ b.properties

abbrev pub AreSameRevisions : List Revision → List Revision → Type 0
AreSameRevisions g h = (r : ℕ) (a b : Revision) → slice_get g r ≡ Some a → slice_get h r ≡ Some b → AreSame a b

abbrev pub OneHistoryIsShown : Type 0
OneHistoryIsShown = (look props : RevisionBytes) (g h : List Revision) → ShowsHistory look props g → ShowsHistory look props h → AreSameRevisions g h

abbrev pub OneHistoryIsStoodFor : Type 0
OneHistoryIsStoodFor = (files : Files) (g h : List Revision) → StandsFor files g → StandsFor files h → (length g ≡ length h) × AreSameRevisions g h
