-- The directories of a revision's tree that were read.
use Rattle.std.specs.Prelude.{◌≡◌, ℕ, Bool, true, false, List, [], Option, Some, None, IsSome, Ok, if◌then◌else◌}
use Rattle.std.specs.Map.{lookup}
use Rattle.std.specs.BTreeMap.{is_at}
use Rattle.fsfs_base.specs.Paths.{PathName, Path, path_cmp, same_path}
use Rattle.fsfs_base.specs.declared.kind.Kind.TheVariants.{Dir}
use Rattle.fsfs_revision.specs.Told.{RevisionBytes}
use Rattle.fsfs_noderev.specs.declared.node_id.NodeId.{NodeId}
use Rattle.fsfs_noderev.specs.declared.node_rev.NodeRev.{NodeRev}
use Rattle.fsfs_revision.specs.Shows.Reading.{DirEntry, EntriesOf, RootOf, StandsAt, named}
use Rattle.fsfs_history.specs.declared.entries_by_name.EntriesByName.{EntriesByName}
use Rattle.fsfs_history.specs.KeptDirs.{by_name}
use Rattle.fsfs_verify.specs.declared.dirs.ReadDirs.{ReadDirs}
use Rattle.fsfs_sound.specs.Revisions.{NamesAt}

-- these are the entries of the directory that stands at the path
abbrev pub IsListAt : RevisionBytes → ℕ → Path → EntriesByName → Type 0
IsListAt look r path found = (v : NodeRev) × StandsAt look r path v × (v.kind ≡ Dir) × (entries : List DirEntry) × EntriesOf look v (Ok entries) × ((name : PathName) → by_name found name ≡ named name entries)

abbrev pub list_of : ReadDirs → Path → Option EntriesByName
list_of dirs path = lookup (is_at (path_cmp path)) dirs.dirs.entries

-- the id is that of the root, whose list was read, and each list is that of the directory at its path
pub record AreDirs (look : RevisionBytes) (r : ℕ) (dirs : ReadDirs) : Type 0 where
  pub root : (v : NodeRev) × RootOf look r (Ok v) × (dirs.root ≡ v.id)
  pub top : IsSome (list_of dirs [])
  pub each : (path : Path) (found : EntriesByName) → list_of dirs path ≡ Some found → IsListAt look r path found

-- the entry of a name in a list that was read
abbrev pub entry_in : Option EntriesByName → PathName → Option DirEntry
entry_in None name = None
entry_in (Some found) name = by_name found name

-- the list of a directory was put at a path, and the others are as before
pub record IsDirPut (look : RevisionBytes) (v : NodeRev) (path : Path) (old new : ReadDirs) : Type 0 where
  pub root : new.root ≡ old.root
  pub entries : List DirEntry
  pub entries_are : EntriesOf look v (Ok entries)
  pub found : EntriesByName
  pub by_name_is : (name : PathName) → by_name found name ≡ named name entries
  pub put : (other : Path) → list_of new other ≡ (if same_path path other then Some found else list_of old other)

-- the directory that stands at a path; or none does
abbrev pub IsDirNamed : RevisionBytes → ℕ → Path → Option NodeRev → Type 0
IsDirNamed look r path None = (v : NodeRev) → StandsAt look r path v → v.kind ≡ Dir → ⊥
IsDirNamed look r path (Some v) = StandsAt look r path v

-- the directory at a path was read; or none stands there
abbrev pub IsReached : RevisionBytes → ℕ → Path → ReadDirs → Bool → Type 0
IsReached look r path dirs true = AreDirs look r dirs × IsSome (list_of dirs path)
IsReached look r path dirs false = AreDirs look r dirs × ((v : NodeRev) → StandsAt look r path v → v.kind ≡ Dir → ⊥)

-- what the tree names at a path; nothing stands there where it names nothing
abbrev pub IsNamedAt : RevisionBytes → ℕ → Path → Option NodeId → Type 0
IsNamedAt look r path None = (v : NodeRev) → StandsAt look r path v → ⊥
IsNamedAt look r path (Some id) = NamesAt look r path id
