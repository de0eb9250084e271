-- What is known of node-revisions of revisions: what their bytes show.
use Rattle.std.specs.Prelude.{◌≡◌, ◌≤◌, ℕ, List, Ok, Err}
use Rattle.std.specs.List.{All}
use Rattle.fsfs_base.specs.Paths.{PathName}
use Rattle.fsfs_revision.specs.Told.{RevisionBytes}
use Rattle.fsfs_noderev.specs.declared.node_id.NodeId.{NodeId}
use Rattle.fsfs_noderev.specs.declared.node_rev.NodeRev.{NodeRev}
use Rattle.fsfs_revision.specs.declared.wrong.Wrong.{Wrong}
use Rattle.fsfs_revision.specs.Shows.Reading.{DirEntry, OfId, PropsOf, named}
use Rattle.fsfs_dag.specs.Views.{home_of}
use Rattle.fsfs_dag.specs.Listing.Views.{listed}
use Rattle.fsfs_draft.specs.Entries.{OfIdEntries}
use Rattle.fsfs_txn.specs.declared.opened.known.Known.{Known}

-- the same entries behind the names as the directory of an id has
pub record IsListOf (look : RevisionBytes) (id : NodeId) (listed : List DirEntry) : Type 0 where
  pub entries : List DirEntry
  pub of : OfIdEntries look id (Ok entries)
  pub alike : (y : PathName) → named y listed ≡ named y entries

pub record IsKnown (look : RevisionBytes) (k : Known) : Type 0 where
  pub node : OfId look k.node.id (Ok k.node)
  pub entries : IsListOf look k.node.id (listed k.entries)
  pub props : PropsOf look k.node (Ok k.props)

-- as far as revisions are told
abbrev pub IsKnownUpTo : RevisionBytes → ℕ → Known → Type 0
IsKnownUpTo look top k = (home_of k.node).rev ≤ top → IsKnown look k

abbrev pub AreKnown : RevisionBytes → ℕ → List Known → Type 0
AreKnown look top ks = All (λ k. IsKnownUpTo look top k) ks

-- nothing that is read of the node-revision of an id is wrong
pub record IsWhole (look : RevisionBytes) (id : NodeId) : Type 0 where
  pub node : (w : Wrong) → OfId look id (Err w) → ⊥
  pub entries : (w : Wrong) → OfIdEntries look id (Err w) → ⊥
  pub props : (v : NodeRev) (w : Wrong) → OfId look id (Ok v) → PropsOf look v (Err w) → ⊥
