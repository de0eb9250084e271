-- A copy at a path: the revision and the source.
use Rattle.std.proofs.Common.{◌≡◌, ◌≤◌, ◌<◌, ℕ, arith}
use Rattle.std.specs.Prelude.{Option, Some, None, IsSomeAnd, Err}
use Rattle.fsfs_base.specs.Paths.{Path}
use Rattle.fsfs_tree.specs.Nodes.{Node, TreeFunction}
use Rattle.fsfs_revision.specs.Told.{RevisionBytes}
use Rattle.fsfs_noderev.specs.declared.node_rev.NodeRev.{NodeRev}
use Rattle.fsfs_revision.specs.Shows.Reading.{MetAt}
use Rattle.fsfs_revision.specs.Shows.Shown.{IsShown, Shows}
use Rattle.fsfs_revision.proofs.ByTree.{by_tree}
use Rattle.fsfs_revision.specs.Damage.Readings.{Answers}
use Rattle.fsfs_revision.specs.declared.wrong.ReadError.{ReadError}
use Rattle.fsfs_revision.specs.declared.wrong.ReadError.TheVariants as reads
use Rattle.fsfs_dag.specs.Views.{met_value}
use Rattle.fsfs_draft.specs.Errors.{of_read, IsFailure}
use Rattle.fsfs_draft.specs.Walks.{HasKind}

pub not_above : (youngest rev top : ℕ) → youngest ≡ top → rev ≤ youngest → rev ≤ top
not_above youngest rev top is e = omega (arith, is, e)

pub above_top : (youngest rev top : ℕ) → youngest ≡ top → youngest < rev → top < rev
above_top youngest rev top is e = omega (arith, is, e)

pub shown_kind : (look : RevisionBytes) (r : ℕ) (p : Path) (u : NodeRev) (o : Option Node) → IsSomeAnd o (IsShown look r p u) → HasKind o u.kind
shown_kind look r p u None h = absurd h
shown_kind look r p u (Some n) h = h.kind

-- over a sound revision no reading is wrong
pub read_fails : (look : RevisionBytes) (r : ℕ) (tree : TreeFunction) → Shows look r tree → (p : Path) (e : ReadError) → Answers met_value (MetAt look r p) (Err e) → IsFailure (of_read e)
read_fails look r tree shows p (reads.Wrong w) told = (by_tree look r tree shows).paths p (Err w) told
read_fails look r tree shows p reads.OutOfMemory told = tt
read_fails look r tree shows p reads.DiskFault told = tt
