-- Histories of which all texts are read.
use Rattle.std.specs.Prelude.{◌≡◌, ℕ, List, Some, slice_get}
use Rattle.std.specs.FinMap.{get}
use Rattle.fsfs_base.specs.Paths.{Path}
use Rattle.fsfs_tree.specs.Nodes.{Node, Content, Bytes, Closed}
use Rattle.fsfs_tree.specs.Revisions.{Revision}

abbrev pub IsOpenText : Content → Type 0
IsOpenText (Bytes bytes) = Unit {0}
IsOpenText (Closed rev offset) = ⊥

-- no text of it is a delta
abbrev pub HasOpenTexts : List Revision → Type 0
HasOpenTexts h = (r : ℕ) (revision : Revision) (p : Path) (n : Node) → slice_get h r ≡ Some revision → get revision.tree p ≡ Some n → IsOpenText n.text
