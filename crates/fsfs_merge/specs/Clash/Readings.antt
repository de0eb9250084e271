-- What is read of ids, of the bytes of revisions and of a transaction's folder, and what is read where both sides changed something.
use Rattle.std.specs.Prelude.{◌≡◌, ◌≤◌, ℕ, Bool, true, false, List, Option, Some, None, Result, Ok, Err, if◌then◌else◌}
use Rattle.fsfs_revision.specs.declared.wrong.Wrong.{Wrong}
use Rattle.fsfs_revision.specs.Damage.Readings.{AndThen}
use Rattle.fsfs_revision.specs.Told.{RevisionBytes}
use Rattle.fsfs_noderev.specs.declared.node_id.NodeId.{NodeId}
use Rattle.fsfs_noderev.specs.declared.node_rev.NodeRev.{NodeRev}
use Rattle.fsfs_revision.specs.Shows.Reading.{DirEntry, EntriesOf, OfId, offset_of}
use Rattle.fsfs_draft.specs.Drafts.{Kept, Folder}
use Rattle.fsfs_draft.specs.OwnSides.{in_txn}
use Rattle.fsfs_draft.specs.Steps.{kept_at}
use Rattle.fsfs_draft.specs.Entries.{OfIdEntries, OfKept, IsWithin}
use Rattle.fsfs_merge.specs.declared.clash.facts.Facts.{Facts}
use Rattle.fsfs_merge.specs.declared.clash.turn.Dirs.{Dirs}
use Rattle.fsfs_merge.specs.Clash.Lists.{Lists, link_of}
use Rattle.fsfs_merge.specs.Clash.Sights.{facts_of, merge_with}

-- ---- the transaction's side

-- the own node-revision of an id
abbrev pub kept_in : Folder → NodeId → Option Kept
kept_in f id = if in_txn id.place then kept_at f.nodes id else None

-- an id of which the transaction keeps none is looked for in the revisions: so its own ids that lead to nothing are damage
abbrev pub NodeOfKept : RevisionBytes → Option Kept → NodeId → Result NodeRev Wrong → Type 0
NodeOfKept look None id r = OfId look id r
NodeOfKept look (Some k) id r = r ≡ Ok k.node

abbrev pub NodeOf : RevisionBytes → Folder → NodeId → Result NodeRev Wrong → Type 0
NodeOf look f id = NodeOfKept look (kept_in f id) id

-- what is asked of a node-revision that is read
abbrev pub FactsBy : (Result NodeRev Wrong → Type 0) → Result Facts Wrong → Type 0
FactsBy R (Ok own) = (v : NodeRev) × R (Ok v) × (own ≡ facts_of v)
FactsBy R (Err w) = R (Err w)

abbrev pub FactsOf : RevisionBytes → Folder → NodeId → Result Facts Wrong → Type 0
FactsOf look f id = FactsBy (NodeOf look f id)

abbrev pub ListOfKept : RevisionBytes → Option Kept → NodeId → Result (List DirEntry) Wrong → Type 0
ListOfKept look None id r = OfIdEntries look id r
ListOfKept look (Some k) id r = OfKept look k r

abbrev pub ListOf : RevisionBytes → Folder → NodeId → Result (List DirEntry) Wrong → Type 0
ListOf look f id = ListOfKept look (kept_in f id) id

-- ---- three directories

-- their entries
abbrev pub ListsOf : RevisionBytes → Folder → NodeRev → NodeRev → NodeId → Result Lists Wrong → Type 0
ListsOf look f x y own = AndThen (EntriesOf look x) (λ a. AndThen (EntriesOf look y) (λ b. AndThen (ListOf look f own) (λ c r. r ≡ Ok (record { link = link_of y own; base = a; head = b; own = c }))))

-- they are read where the three are merged
abbrev pub IfMerged : Bool → (Result Lists Wrong → Type 0) → Result (Option Lists) Wrong → Type 0
IfMerged false R r = r ≡ Ok None
IfMerged true R (Ok None) = ⊥
IfMerged true R (Ok (Some lists)) = R (Ok lists)
IfMerged true R (Err w) = R (Err w)

-- the node-revisions of the base, of the head and of the transaction, and then the entries
abbrev pub TurnAt : RevisionBytes → Folder → ℕ → Dirs → Result (Option Lists) Wrong → Type 0
TurnAt look f base d =
    AndThen (OfId look d.base) (λ x. AndThen (OfId look d.head) (λ y. AndThen (FactsOf look f d.own) (λ own. IfMerged (merge_with base x y own) (ListsOf look f x y d.own))))

-- where one of the three is no directory, nothing is read
abbrev pub LookAt : RevisionBytes → Folder → ℕ → Option Dirs → Result (Option Lists) Wrong → Type 0
LookAt look f base None r = r ≡ Ok None
LookAt look f base (Some d) r = TurnAt look f base d r

-- ---- all that is read is of revisions up to `top`

abbrev pub IsKeptIn : ℕ → Option Kept → Type 0
IsKeptIn top None = Unit {0}
IsKeptIn top (Some k) = IsWithin top k.node.predecessor

pub record IsIn (top : ℕ) (f : Folder) (id : NodeId) : Type 0 where
  pub rev : (offset_of id.place).rev ≤ top
  pub kept : IsKeptIn top (kept_in f id)

pub record AreIn (top : ℕ) (f : Folder) (d : Dirs) : Type 0 where
  pub base : (offset_of d.base.place).rev ≤ top
  pub head : (offset_of d.head.place).rev ≤ top
  pub own : IsIn top f d.own

abbrev pub AreDirsIn : ℕ → Folder → Option Dirs → Type 0
AreDirsIn top f None = Unit {0}
AreDirsIn top f (Some d) = AreIn top f d
