-- What becomes of a transaction over a later revision.
use Rattle.std.specs.Prelude.{◌≡◌, ℕ, List, [], Some, Result, Ok, Err}
use Rattle.fsfs_base.specs.Paths.{Path}
use Rattle.fsfs_tree.specs.Nodes.{TreeFunction}
use Rattle.fsfs_base.specs.declared.fields.txn_name.TxnName.{TxnName}
use Rattle.fsfs_revision.specs.declared.wrong.Wrong.{Wrong}
use Rattle.fsfs_revision.specs.declared.wrong.ReadError.{ReadError}
use Rattle.fsfs_revision.specs.Damage.Readings.{AndThen}
use Rattle.fsfs_revision.specs.Told.{RevisionBytes}
use Rattle.fsfs_model.specs.declared.flat.mark.Mark.{Mark}
use Rattle.fsfs_model.specs.Flat.Landing.{NoClash, IsFirstClash}
use Rattle.fsfs_noderev.specs.declared.node_id.NodeId.{NodeId}
use Rattle.fsfs_noderev.specs.declared.node_rev.NodeRev.{NodeRev}
use Rattle.fsfs_revision.specs.Shows.Reading.{RootOf}
use Rattle.fsfs_draft.specs.Own.{Own}
use Rattle.fsfs_draft.specs.Drafts.{Folder}
use Rattle.fsfs_draft.specs.OwnSides.{NodesAt}
use Rattle.fsfs_draft.specs.Met.{draft_nodes, AreNodes}
use Rattle.fsfs_draft.specs.Walks.{IsRootId}
use Rattle.fsfs_merge.specs.FirstStops.{NoStop, FirstStop}
use Rattle.fsfs_merge.specs.declared.clash.turn.Halt.TheVariants as halts
use Rattle.fsfs_merge.specs.declared.clash.merged.MergedDir.{MergedDir}
use Rattle.fsfs_merge.specs.declared.clash.walk.Merge.{Merge}
use Rattle.fsfs_merge.specs.declared.clash.walk.Merge.TheVariants as merges
use Rattle.fsfs_merge.specs.Clash.Plans.{ArePlan, ArePlanned}
use Rattle.fsfs_merge.specs.Clash.Points.{Point, sights_of, IsSeenFrom}
use Rattle.fsfs_merge.specs.Clash.Sights.{sights}
use Rattle.fsfs_merge.specs.Clash.Turning.{IsFailure}

-- ---- of what is seen

-- the first path decides at which the merge goes no further: a clash, or what is wrong there; where there is none, nothing clashes,
-- nothing is wrong, and the directories are those through which it goes
abbrev pub MergeFrom : (Path → Point) → Result Merge Wrong → Type 0
MergeFrom see (Ok (merges.Dirs dirs)) = NoStop (sights_of see) [] × ArePlan see dirs.items
MergeFrom see (Ok (merges.Clash c)) = FirstStop (sights_of see) [] c × ((see c).halt ≡ Some halts.Clash)
MergeFrom see (Err w) = (c : Path) × FirstStop (sights_of see) [] c × ((see c).halt ≡ Some (halts.Wrong w))

abbrev pub MergeRooted : RevisionBytes → ℕ → TxnName → Folder → ℕ → NodeRev → NodeRev → (Path → Point) → Result Merge Wrong → Type 0
MergeRooted look top txn f base x y see r = (own : NodeId) → IsRootId txn own → IsSeenFrom look top f base (record { base = x.id; head = y.id; own = own }) see → MergeFrom see r

-- the root of the base, that of the head, and then the walk from them
abbrev pub MergeOf : RevisionBytes → ℕ → TxnName → Folder → ℕ → ℕ → (Path → Point) → Result Merge Wrong → Type 0
MergeOf look top txn f base head see = AndThen (RootOf look base) (λ x. AndThen (RootOf look head) (λ y. MergeRooted look top txn f base x y see))

-- ---- of a draft

-- they lead from the draft to what a merge leaves of it
abbrev pub LeadOn : RevisionBytes → ℕ → ℕ → ℕ → Own → List MergedDir → Type 0
LeadOn look top base head own dirs =
    (nodes : ℕ → NodesAt) × AreNodes look top nodes × ArePlanned (sights base (nodes base) (nodes head) (draft_nodes nodes own (nodes base))) (nodes head) (draft_nodes nodes own (nodes base)) dirs

-- the flat model's first clash, or that there is none; nothing is wrong
abbrev pub FindsMerge : RevisionBytes → ℕ → (ℕ → TreeFunction) → ℕ → ℕ → Own → TreeFunction → List Mark → Result Merge ReadError → Type 0
FindsMerge look top trees base head own t marks (Ok (merges.Dirs dirs)) = NoClash base (trees base) (trees head) t marks × LeadOn look top base head own dirs.items
FindsMerge look top trees base head own t marks (Ok (merges.Clash c)) = IsFirstClash base (trees base) (trees head) t marks c
FindsMerge look top trees base head own t marks (Err e) = IsFailure e
