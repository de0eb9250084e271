-- What the types of this crate are, apart from where they lie in memory.
use Rattle.std.specs.Prelude.{◌≡◌, ◌∷◌, [], ◌++◌, ℕ, List, map, true, Result, Ok, Err}
use Rattle.std.specs.List.{AllByRecursion}
use Rattle.std.specs.String.{string_bytes}
use Rattle.fsfs_noderev.specs.declared.node_rev.NodeRev.{NodeRev}
use Rattle.fsfs_revision.specs.declared.damage.RevOffset.{RevOffset}
use Rattle.fsfs_revision.specs.declared.wrong.ReadError.{ReadError}
use Rattle.fsfs_revision.specs.declared.wrong.ReadError.TheVariants as errors
use Rattle.fsfs_noderev.specs.declared.rep.Rep.{Rep}
use Rattle.fsfs_revision.specs.Nodes.{place_before}
use Rattle.fsfs_revision.specs.Shows.Reading.{DirEntry as EntryValue, IsEntry, EntryIn, offset_of, Met as MetValue, Stands, Lacking, Blocked}
use Rattle.fsfs_dag.specs.declared.directory.DirEntry.{DirEntry}
use Rattle.fsfs_dag.specs.declared.walk.Met.{Met}
use Rattle.fsfs_dag.specs.declared.walk.Met.TheVariants as mets

abbrev pub entry_value : DirEntry → EntryValue
entry_value entry = record { name = string_bytes entry.name; kind = entry.kind; id = entry.id }

abbrev pub entry_values : List DirEntry → List EntryValue
entry_values entries = map entry_value entries

-- where a node-revision stands
abbrev pub home_of : NodeRev → RevOffset
home_of v = offset_of v.id.place

-- the entry names a node-revision before this place
abbrev pub IsBefore : RevOffset → DirEntry → Type 0
IsBefore home entry = place_before home entry.id.place ≡ true

abbrev pub AreBefore : RevOffset → List DirEntry → Type 0
AreBefore home = AllByRecursion (IsBefore home)

-- the entry that a pair is was put behind the others; or what is wrong with the pair
abbrev pub PutsEntry : RevOffset → Rep → List ℕ × List ℕ → List DirEntry → List DirEntry → Result (Unit {0}) ReadError → Type 0
PutsEntry home rep pair old new (Ok x) = (entry : DirEntry) × IsEntry home pair (entry_value entry) × (new ≡ old ++ entry ∷ [])
PutsEntry home rep pair old new (Err (errors.Wrong w)) = EntryIn home rep pair (Err w)
PutsEntry home rep pair old new (Err errors.OutOfMemory) = Unit {0}
PutsEntry home rep pair old new (Err errors.DiskFault) = Unit {0}

abbrev pub met_value : Met → MetValue
met_value (mets.Node found) = Stands found.node
met_value (mets.Absent count) = Lacking count
met_value (mets.File count) = Blocked count
