-- The latest copy by which something came to stand at a path.
--
-- A node-revision names its copy root: the copy by which it, or something above it, came to where it stands. A directory is copied
-- without what is below it, so what stands below may name an older one: of the copy roots on the way to a path the latest counts.
-- (The libsvn_fs_fs structure file, the field `copyroot`; libsvn_fs_fs looks for it in the same way, `find_youngest_copyroot`.)
use Rattle.std.specs.Prelude.{◌≡◌, ℕ, nat_lt, [], ◌∷◌, Ok, Some, if◌then◌else◌}
use Rattle.fsfs_base.specs.Paths.{Path}
use Rattle.fsfs_base.specs.declared.kind.Kind.TheVariants.{Dir}
use Rattle.fsfs_revision.specs.Told.{RevisionBytes}
use Rattle.fsfs_noderev.specs.declared.node_rev.NodeRev.{NodeRev}
use Rattle.fsfs_revision.specs.Shows.Reading.{RootOf, ChildOf}
use Rattle.fsfs_revision.specs.Shows.Chains.{copy_root_of}

-- the later of two copy roots; of the same revision the one of what stands below
abbrev pub later_root : ℕ × Path → ℕ × Path → ℕ × Path
later_root above here = if nat_lt here.0 above.0 then above else here

-- from a node-revision down the names of a path: what stands at their end, and the latest copy root up to there
abbrev pub IsRootedFrom : RevisionBytes → NodeRev → ℕ × Path → Path → NodeRev → ℕ × Path → Type 0
IsRootedFrom look a root [] v last = (v ≡ a) × (last ≡ root)
IsRootedFrom look a root (name ∷ names) v last = (a.kind ≡ Dir) × (u : NodeRev) × ChildOf look a name (Ok (Some u)) × IsRootedFrom look u (later_root root (copy_root_of u)) names v last

-- v stands at the path of the revision, and this is the latest copy root of what stands there and above
abbrev pub IsRootedAt : RevisionBytes → ℕ → Path → NodeRev → ℕ × Path → Type 0
IsRootedAt look r p v last = (a : NodeRev) × RootOf look r (Ok a) × IsRootedFrom look a (copy_root_of a) p v last
