-- What the entries of an own directory are.
use Rattle.std.specs.Prelude.{◌≡◌, ◌≤◌, ℕ, List, [], Option, Some, None, Result, Ok, Err}
use Rattle.std.specs.declared.vec.Vec.{Vec}
use Rattle.std.specs.declared.alloc.Global.{Global}
use Rattle.fsfs_base.specs.Paths.{PathName}
use Rattle.fsfs_base.specs.declared.kind.Kind.{Kind}
use Rattle.fsfs_base.specs.declared.kind.Kind.TheVariants.{File, Dir}
use Rattle.fsfs_revision.specs.Told.{RevisionBytes}
use Rattle.fsfs_noderev.specs.declared.node_id.NodeId.{NodeId}
use Rattle.fsfs_noderev.specs.declared.node_rev.NodeRev.{NodeRev}
use Rattle.fsfs_revision.specs.declared.wrong.Wrong.{Wrong}
use Rattle.fsfs_revision.specs.declared.wrong.ReadError.{ReadError}
use Rattle.fsfs_revision.specs.Damage.Readings.{AndThen, Answers}
use Rattle.fsfs_revision.specs.Shows.Reading.{DirEntry, EntriesOf, OfId, offset_of, named}
use Rattle.fsfs_dag.specs.declared.directory.DirEntry.{DirEntry as ListedEntry}
use Rattle.fsfs_dag.specs.Views.{entry_values}
use Rattle.fsfs_draft.specs.Drafts.{Kept, Folder}
use Rattle.fsfs_draft.specs.Steps.{kept_at}

-- of a directory; a file has none
abbrev pub OfKind : RevisionBytes → Kind → NodeRev → Result (List DirEntry) Wrong → Type 0
OfKind look File u r = r ≡ Ok []
OfKind look Dir u r = EntriesOf look u r

-- of the node-revision of an id
abbrev pub OfIdEntries : RevisionBytes → NodeId → Result (List DirEntry) Wrong → Type 0
OfIdEntries look id = AndThen (OfId look id) (λ u. OfKind look u.kind u)

abbrev pub OfPredecessor : RevisionBytes → Option NodeId → Result (List DirEntry) Wrong → Type 0
OfPredecessor look None r = r ≡ Ok []
OfPredecessor look (Some id) r = OfIdEntries look id r

abbrev pub OfListed : RevisionBytes → Option (List DirEntry) → Option NodeId → Result (List DirEntry) Wrong → Type 0
OfListed look (Some entries) before r = r ≡ Ok entries
OfListed look None before r = OfPredecessor look before r

abbrev pub OfKept : RevisionBytes → Kept → Result (List DirEntry) Wrong → Type 0
OfKept look k r = OfListed look k.entries k.node.predecessor r

-- the revision of the id is at most this one
abbrev pub IsWithin : ℕ → Option NodeId → Type 0
IsWithin top None = Unit {0}
IsWithin top (Some id) = (offset_of id.place).rev ≤ top

-- the same entries behind the names
pub record IsListedAs (look : RevisionBytes) (k : Kept) (listed : List DirEntry) : Type 0 where
  pub entries : List DirEntry
  pub of : OfKept look k (Ok entries)
  pub alike : (y : PathName) → named y listed ≡ named y entries

-- what is wrong with them, where that is why they are not told
abbrev pub FailsLike : RevisionBytes → Kept → ReadError → Type 0
FailsLike look k e = Answers (λ (v : Vec ListedEntry Global). entry_values v.items) (OfKept look k) (Err e)

-- where a directory has a `children` file, these are its entries
abbrev pub AreOwnEntries : Folder → NodeId → List DirEntry → Type 0
AreOwnEntries f dir listed = (k : Kept) (entries : List DirEntry) → kept_at f.nodes dir ≡ Some k → k.entries ≡ Some entries → listed ≡ entries
