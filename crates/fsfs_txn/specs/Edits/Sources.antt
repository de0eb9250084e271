-- The source of a copy.
use Rattle.std.specs.Prelude.{◌≡◌, ◌≤◌, ◌<◌, ℕ, Bool, true, false, not, Option, Some, is_some, Result, Ok, Err}
use Rattle.fsfs_tree.specs.Nodes.{TreeFunction}
use Rattle.fsfs_revision.specs.Told.{Told, RevisionBytes, Knows}
use Rattle.fsfs_noderev.specs.declared.node_rev.CopySource.{CopySource}
use Rattle.fsfs_revision.specs.Shows.ByTree.{LacksAt, IsBlockedAt}
use Rattle.fsfs_draft.specs.Drafts.{ShowTrees}
use Rattle.fsfs_draft.specs.Errors.{IsFailure}
use Rattle.fsfs_draft.specs.declared.error.EditError.{EditError}
use Rattle.fsfs_txn.specs.declared.edits.sources.Source.{Source}
use Rattle.fsfs_txn.specs.declared.edits.sources.Source.TheVariants as sources
use Rattle.fsfs_txn.specs.Edits.Mergeinfo.{RevisionHas}

abbrev pub IsSource : RevisionBytes → (ℕ → TreeFunction) → ℕ → CopySource → Source → Type 0
IsSource look trees top from (sources.NoRev youngest) = (youngest ≡ top) × (top < from.rev)
IsSource look trees top from (sources.NotFound depth) = (from.rev ≤ top) × LacksAt (trees from.rev) from.path depth
IsSource look trees top from (sources.NotDir depth) = (from.rev ≤ top) × IsBlockedAt (trees from.rev) from.path depth
IsSource look trees top from (sources.Node counted) = (from.rev ≤ top) × (is_some (trees from.rev from.path) ≡ true) × RevisionHas look from.rev from.path counted

abbrev pub IsSourceFound : RevisionBytes → (ℕ → TreeFunction) → ℕ → CopySource → Result Source EditError → Type 0
IsSourceFound look trees top from (Ok source) = IsSource look trees top from source
IsSourceFound look trees top from (Err e) = IsFailure e

-- over a book that has no younger revision
abbrev pub FindsSource : Told → Option ℕ → CopySource → Result Source EditError → Type 0
FindsSource told youngest from result = (look : RevisionBytes) (trees : ℕ → TreeFunction) (top : ℕ) → Knows told top look → ShowTrees look top trees → youngest ≡ Some top → IsSourceFound look trees top from result

-- it is there, and has no counts of mergeinfo
abbrev pub is_plain : Source → Bool
is_plain (sources.NoRev youngest) = false
is_plain (sources.NotFound depth) = false
is_plain (sources.NotDir depth) = false
is_plain (sources.Node counted) = not counted
