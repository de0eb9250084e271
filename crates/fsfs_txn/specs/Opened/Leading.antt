-- Where a way leads by what is known on it, and what is lacking to an edit there.
use Rattle.std.specs.Prelude.{◌≡◌, ◌≤◌, ◌⊎◌, ℕ, true, false, List, [], ◌∷◌, Option, Some, None, IfSome, Result, Ok, IfErr}
use Rattle.fsfs_base.specs.Paths.{Path}
use Rattle.fsfs_base.specs.declared.kind.Kind.TheVariants.{Dir}
use Rattle.fsfs_tree.specs.Nodes.{TreeFunction}
use Rattle.fsfs_tree.specs.Trees.{IsTree}
use Rattle.fsfs_model.specs.declared.flat.mark.Mark.{Mark}
use Rattle.fsfs_base.specs.declared.fields.txn_name.TxnName.{TxnName}
use Rattle.fsfs_revision.specs.Told.{RevisionBytes}
use Rattle.fsfs_noderev.specs.declared.node_id.NodeId.{NodeId}
use Rattle.fsfs_revision.specs.Nodes.{is_revision_id}
use Rattle.fsfs_revision.specs.Shows.Reading.{DirEntry, named}
use Rattle.fsfs_draft.specs.Drafts.{Kept, Folder, ShowTrees}
use Rattle.fsfs_draft.specs.Edits.{IsDraftAfter}
use Rattle.fsfs_draft.specs.Steps.{Files, kept_at}
use Rattle.fsfs_draft.specs.Entries.{OfIdEntries, OfKept}
use Rattle.fsfs_draft.specs.Walks.{IsRootId}
use Rattle.fsfs_draft.specs.declared.error.EditError.{EditError}
use Rattle.fsfs_draft.specs.declared.error.EditError.TheVariants as errors
use Rattle.fsfs_txn.specs.declared.opened.known.Known.{Known}
use Rattle.fsfs_txn.specs.declared.opened.opening.Way.{Way}
use Rattle.fsfs_txn.specs.Opened.Knowing.{AreKnown}
use Rattle.fsfs_txn.specs.Opened.Failing.{OnLeft}

-- ---- what is known on a way

-- one of what is known has the id
abbrev pub IsAmong : NodeId → List Known → Type 0
IsAmong id [] = ⊥
IsAmong id (k ∷ ks) = (k.node.id ≡ id) ⊎ IsAmong id ks

-- what an own node-revision goes on from is known, if it goes on from anything
abbrev pub IsSourceKnown : List Known → Option NodeId → Type 0
IsSourceKnown known source = IfSome source (λ id. IsAmong id known)

-- the node-revision of a revision is known, or what an own one goes on from
pub data IsEndKnown (files : Files) (known : List Known) (id : NodeId) : Type 0 where
  OwnEnd : (k : Kept) → is_revision_id id ≡ false → kept_at files id ≡ Some k → IsSourceKnown known k.node.predecessor → IsEndKnown files known id
  LastingEnd : is_revision_id id ≡ true → IsAmong id known → IsEndKnown files known id

-- the directory of an id has these entries: in its `children` file, or by what is known
pub data HasEntries (look : RevisionBytes) (files : Files) (known : List Known) (id : NodeId) (entries : List DirEntry) : Type 0 where
  OfOwn : (k : Kept) → is_revision_id id ≡ false → kept_at files id ≡ Some k → k.node.kind ≡ Dir → (k.entries ≡ None → IsSourceKnown known k.node.predecessor) → OfKept look k (Ok entries) → HasEntries look files known id entries
  OfLasting : is_revision_id id ≡ true → IsAmong id known → OfIdEntries look id (Ok entries) → HasEntries look files known id entries

-- the names lead down from the node-revision of an id, by entries, to one that is known
abbrev pub LeadsDown : RevisionBytes → Files → List Known → Path → NodeId → Type 0
LeadsDown look files known [] id = IsEndKnown files known id
LeadsDown look files known (name ∷ rest) id = (entries : List DirEntry) × (entry : DirEntry) × HasEntries look files known id entries × (named name entries ≡ Some entry) × LeadsDown look files known rest entry.id

-- the way leads from the transaction's root to its path
abbrev pub Leads : RevisionBytes → TxnName → Folder → Way → Type 0
Leads look txn f way = (root : NodeId) → IsRootId txn root → LeadsDown look f.nodes way.known.items way.path root

-- ---- what an edit at its end wants

abbrev pub IsNotLacking : EditError → Type 0
IsNotLacking errors.BenchFault = Unit {0}
IsNotLacking errors.OutOfMemory = Unit {0}
IsNotLacking errors.DiskFault = Unit {0}
IsNotLacking (errors.Wrong w) = Unit {0}
IsNotLacking errors.Lacking = ⊥

-- nothing was lacking
abbrev pub HasAll : {T : Type 0} → Result T EditError → Type 0
HasAll result = IfErr result IsNotLacking

-- over any draft in which the way leads to its path, nothing is lacking
abbrev pub LacksNothing : {T : Type 0} → TxnName → Folder → Way → Result T EditError → Type 0
LacksNothing txn f way result = (look : RevisionBytes) (trees : ℕ → TreeFunction) (top base : ℕ) (tree : TreeFunction) (marks : List Mark) → AreKnown look top way.known.items → ShowTrees look top trees → base ≤ top → IsTree tree
    → IsDraftAfter look trees top base txn f tree marks → Leads look txn f way → HasAll result

-- over any draft, each way that led to its path leads there still, but where the bench failed
abbrev pub LeadStill : {T : Type 0} → TxnName → Folder → Folder → Way → Result T EditError → Type 0
LeadStill txn before after way result = (look : RevisionBytes) (trees : ℕ → TreeFunction) (top base : ℕ) (tree : TreeFunction) (marks : List Mark) → AreKnown look top way.known.items → ShowTrees look top trees → base ≤ top → IsTree tree
    → IsDraftAfter look trees top base txn before tree marks → (other : Way) → Leads look txn before other → OnLeft result (Leads look txn after other)
