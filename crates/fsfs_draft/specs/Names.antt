-- How many names lead on from a directory.
use Rattle.std.specs.Prelude.{◌≡◌, ◌≤◌, ◌<◌, ◌++◌, ℕ, Bool, nat_lt, List, [], ◌∷◌, length, Some, is_some, Result, Ok, Err}
use Rattle.std.specs.List.{IsDistinct}
use Rattle.std.specs.Set.{is_member}
use Rattle.fsfs_base.specs.Paths.{PathName, Path, same_name}
use Rattle.fsfs_tree.specs.Nodes.{TreeFunction}
use Rattle.fsfs_revision.specs.Told.{Told, RevisionBytes, Knows}
use Rattle.fsfs_noderev.specs.declared.node_id.NodeId.{NodeId}
use Rattle.fsfs_revision.specs.Shows.Reading.{DirEntry, named}
use Rattle.fsfs_draft.specs.Drafts.{Kept, Folder}
use Rattle.fsfs_draft.specs.Steps.{kept_at}
use Rattle.fsfs_draft.specs.Entries.{OfKept, IsWithin}
use Rattle.fsfs_draft.specs.declared.error.EditError.{EditError}
use Rattle.fsfs_draft.specs.declared.error.EditError.TheVariants as errors

-- so many different names are held, and no other
pub record CountsNames (held : PathName → Bool) (count : ℕ) : Type 0 where
  pub names : List PathName
  pub apart : IsDistinct same_name names
  pub each : (x : PathName) → is_member same_name names x ≡ held x
  pub count_is : count ≡ length names

-- so many names have an entry
abbrev pub HasNames : List DirEntry → ℕ → Type 0
HasNames entries count = CountsNames (λ x. is_some (named x entries)) count

-- so many names lead from the path to something
abbrev pub HasEntries : TreeFunction → Path → ℕ → Type 0
HasEntries tree p count = CountsNames (λ x. is_some (tree (p ++ x ∷ []))) count

-- ---- at most 2 ^ 20 entries

abbrev pub IsFull : TreeFunction → Path → Type 0
IsFull tree p = (count : ℕ) × HasEntries tree p count × (1048576 ≤ count)

abbrev pub HasSpace : TreeFunction → Path → Type 0
HasSpace tree p = (count : ℕ) × HasEntries tree p count × (count < 1048576)

-- whether a list of entries has fewer names
abbrev pub IsRoom : List DirEntry → Bool → Type 0
IsRoom entries room = (count : ℕ) × HasNames entries count × (room ≡ nat_lt count 1048576)

-- so few are in its `children` file
abbrev pub HasFew : Kept → Type 0
HasFew k = (entries : List DirEntry) × (k.entries ≡ Some entries) × (length entries < 1048576)

abbrev pub IsRoomOf : RevisionBytes → Kept → Result Bool EditError → Type 0
IsRoomOf look k (Ok room) = (entries : List DirEntry) × OfKept look k (Ok entries) × IsRoom entries room
IsRoomOf look k (Err errors.BenchFault) = ⊥
IsRoomOf look k (Err errors.OutOfMemory) = Unit {0}
IsRoomOf look k (Err errors.DiskFault) = Unit {0}
IsRoomOf look k (Err (errors.Wrong w)) = OfKept look k (Err w)
IsRoomOf look k (Err errors.Lacking) = ⊥

-- of the own directory of an id
abbrev pub TellsRoom : Told → Folder → NodeId → Result Bool EditError → Type 0
TellsRoom told f id result = (look : RevisionBytes) (top : ℕ) (k : Kept) → Knows told top look → kept_at f.nodes id ≡ Some k → IsWithin top k.node.predecessor → IsRoomOf look k result
