-- The entries of a directory, and the list of pairs that is made of them.
use Rattle.std.specs.Prelude.{◌≡◌, ◌+◌, ◌≤◌, ◌++◌, ℕ, true, List, [], ◌∷◌, Option, Some, None, if◌then◌else◌}
use Rattle.std.specs.List.{AllByRecursion}
use Rattle.std.specs.Ordering.{nat_cmp}
use Rattle.std.specs.Cmp.Lexicographic.{slice_cmp}
use Rattle.std.specs.BTreeMap.{is_at}
use Rattle.std.specs.Map.{lookup}
use Rattle.fsfs_base.specs.Paths.{PathName, same_name}
use Rattle.fsfs_base.specs.declared.kind.Kind.{Kind}
use Rattle.fsfs_noderev.specs.Fields.{IsIdText}
use Rattle.fsfs_noderev.specs.declared.node_id.NodeId.{NodeId}
use Rattle.fsfs_revision.specs.declared.damage.RevOffset.{RevOffset}
use Rattle.fsfs_revision.specs.Nodes.{is_revision_id, place_before}
use Rattle.fsfs_revision.specs.Shows.Reading.{Pairs, DirEntry, IsEntryName, IsEntryValue, AreEntries, kind_word, named}
use Rattle.fsfs_revision.specs.EntryRooms.{pairs_room, entries_room}

-- ---- one entry put or taken

-- the entries with this one in place of the one of its name
abbrev pub HasPut : List DirEntry → PathName → Kind → NodeId → List DirEntry → Type 0
HasPut old name kind id new = (y : PathName) → named y new ≡ (if same_name name y then Some (record { name = name; kind = kind; id = id }) else named y old)

-- the entries without the one of this name
abbrev pub HasTaken : List DirEntry → PathName → List DirEntry → Type 0
HasTaken old name new = (y : PathName) → named y new ≡ (if same_name name y then None else named y old)

-- ---- by their names

-- `file <id>` or `dir <id>`
abbrev pub IsEntryText : List ℕ → Kind → NodeId → Type 0
IsEntryText text kind id = (id_text : List ℕ) × IsIdText id_text id × (text ≡ kind_word kind ++ id_text)

-- a value says the entry, and there is none where there is no entry
abbrev pub SaysEntry : Option DirEntry → Option (List ℕ) → Type 0
SaysEntry None value = value ≡ None
SaysEntry (Some entry) value = (text : List ℕ) × IsEntryText text entry.kind entry.id × (value ≡ Some text)

-- each name has the value of its entry; the first entry of a name counts
abbrev pub LeadTo : List DirEntry → Pairs → Type 0
LeadTo entries pairs = (name : PathName) → SaysEntry (named name entries) (lookup (is_at (slice_cmp nat_cmp name)) pairs)

-- ---- as the list of a directory

-- the first entry of its name
abbrev pub IsFirstIn : List DirEntry → DirEntry → Type 0
IsFirstIn entries entry = named entry.name entries ≡ Some entry

-- each pair is an entry's name and value, one by one
abbrev pub ArePairs : Pairs → List DirEntry → Type 0
ArePairs [] [] = Unit {0}
ArePairs [] (entry ∷ entries) = ⊥
ArePairs (pair ∷ pairs) [] = ⊥
ArePairs (pair ∷ pairs) (entry ∷ entries) = (pair.0 ≡ entry.name) × (is_revision_id entry.id ≡ true → IsEntryValue pair.1 entry.kind entry.id) × ArePairs pairs entries

-- the pairs are the first entry of each name
pub record HasFirsts (entries : List DirEntry) (pairs : Pairs) : Type 0 where
  pub sorted : List DirEntry
  pub pairs_are : ArePairs pairs sorted
  pub same : (name : PathName) → named name sorted ≡ named name entries
  pub first : AllByRecursion (IsFirstIn entries) sorted
  pub room : pairs_room pairs ≤ entries_room entries

-- the entry may stand in the directory whose node-revision stands at `home`
pub record MayStand (home : RevOffset) (entry : DirEntry) : Type 0 where
  pub name_is : IsEntryName entry.name
  pub lasting : is_revision_id entry.id ≡ true
  pub before : place_before home entry.id.place ≡ true

-- read as the list of a directory the pairs lead where the entries lead, if these may stand there; and they take no more bytes
pub record ListsEntries (entries : List DirEntry) (pairs : Pairs) : Type 0 where
  pub sorted : List DirEntry
  pub same : (name : PathName) → named name sorted ≡ named name entries
  pub room : pairs_room pairs ≤ entries_room entries
  pub are : (home : RevOffset) → ((name : PathName) (entry : DirEntry) → named name entries ≡ Some entry → MayStand home entry) → AreEntries home pairs sorted
