-- The directory that was read last.
use Rattle.std.specs.Prelude.{◌≡◌, ℕ, Bool, false, ◌==◌, ◌&&◌, List, Option, Some, None, Result, Ok, option_map}
use Rattle.std.specs.declared.vec.Vec.{Vec}
use Rattle.std.specs.declared.alloc.Global.{Global}
use Rattle.std.specs.BTreeMap.{is_at}
use Rattle.std.specs.Cmp.Lexicographic.{slice_cmp}
use Rattle.std.specs.Map.{lookup}
use Rattle.std.specs.Ordering.{nat_cmp}
use Rattle.fsfs_base.specs.Paths.{PathName, Path, same_path}
use Rattle.fsfs_base.specs.declared.kind.Kind.{Kind}
use Rattle.fsfs_base.specs.declared.kind.Kind.TheVariants.{Dir}
use Rattle.fsfs_revision.specs.declared.wrong.Wrong.{Wrong}
use Rattle.fsfs_revision.specs.Damage.Readings.{AndThen}
use Rattle.fsfs_revision.specs.Told.{RevisionBytes}
use Rattle.fsfs_noderev.specs.declared.node_rev.NodeRev.{NodeRev}
use Rattle.fsfs_revision.specs.Shows.Reading.{DirEntry as EntryValue, EntriesOf, OfEntry, StandsAt, named}
use Rattle.fsfs_dag.specs.Views.{entry_value}
use Rattle.fsfs_dag.specs.declared.directory.DirEntry.{DirEntry}
use Rattle.fsfs_history.specs.declared.entries_by_name.EntriesByName.{EntriesByName}
use Rattle.fsfs_history.specs.declared.kept_dir.KeptDir.{KeptDir}

abbrev pub found_in : PathName → List (Vec ℕ Global × DirEntry) → Option DirEntry
found_in name = lookup (λ (key : Vec ℕ Global). is_at (slice_cmp nat_cmp name) key.items)

abbrev pub by_name : EntriesByName → PathName → Option EntryValue
by_name found name = option_map entry_value (found_in name found.entries.entries)

-- the kind of what an entry names
abbrev pub EntryKind : RevisionBytes → EntryValue → Result Kind Wrong → Type 0
EntryKind look entry = AndThen (OfEntry look entry) (λ u r. r ≡ Ok u.kind)

-- a directory stands there, and these are its entries
abbrev pub IsDirAt : RevisionBytes → KeptDir → Type 0
IsDirAt look dir = (v : NodeRev) × StandsAt look dir.rev dir.path v × (v.kind ≡ Dir) × (entries : List EntryValue) × EntriesOf look v (Ok entries) × ((name : PathName) → by_name dir.entries name ≡ named name entries)

-- nothing is kept, or such a directory
abbrev pub IsKept : RevisionBytes → Option KeptDir → Type 0
IsKept look None = Unit {0}
IsKept look (Some dir) = IsDirAt look dir

-- it is the one at a path of a revision
abbrev pub is_place : Option KeptDir → ℕ → Path → Bool
is_place None rev path = false
is_place (Some dir) rev path = dir.rev == rev && same_path dir.path path
