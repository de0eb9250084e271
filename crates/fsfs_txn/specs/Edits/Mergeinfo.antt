-- Counts of mergeinfo on the way to where an edit is asked for. The fields `minfo-cnt` and `minfo-here` of a node-revision say how many
-- nodes at and below it have mergeinfo. (The libsvn_fs_fs structure file, "Node-revs"; that an edit is refused where it would have to
-- change them is this project's profile.)
use Rattle.std.specs.Prelude.{◌≡◌, ◌≤◌, ◌⊎◌, ℕ, Bool, true, false, ◌||◌, [], length, take, is_some, Some}
use Rattle.fsfs_base.specs.Paths.{Path}
use Rattle.fsfs_tree.specs.Nodes.{TreeFunction}
use Rattle.fsfs_revision.specs.Told.{RevisionBytes}
use Rattle.fsfs_noderev.specs.declared.node_rev.NodeRev.{NodeRev}
use Rattle.fsfs_revision.specs.Shows.Reading.{StandsAt}
use Rattle.fsfs_draft.specs.Own.{OwnNode, Own}
use Rattle.fsfs_draft.specs.Walks.{IsLastingAt}

-- the node-revision has one of the fields
abbrev pub has_counts : NodeRev → Bool
has_counts u = u.has_mergeinfo || is_some u.mergeinfo_count

-- what stands at the path of the revision has such a field, or has none
abbrev pub RevisionHas : RevisionBytes → ℕ → Path → Bool → Type 0
RevisionHas look rev path counts = (u : NodeRev) × StandsAt look rev path u × (has_counts u ≡ counts)

-- so has what stands at the path of the transaction's tree, and is a revision's
abbrev pub LastingHas : RevisionBytes → (ℕ → TreeFunction) → ℕ → Own → Path → Bool → Type 0
LastingHas look trees base own path counts = (u : NodeRev) × IsLastingAt look trees base own path u × (has_counts u ≡ counts)

-- it is the transaction's own, or has no such field
abbrev pub IsPlainAt : RevisionBytes → (ℕ → TreeFunction) → ℕ → Own → Path → Type 0
IsPlainAt look trees base own path = ((v : OwnNode) × (own path ≡ Some v)) ⊎ LastingHas look trees base own path false

-- at the base's root, or at the end of one of the first names of the path, there is such a field
abbrev pub MeetsCountsTo : RevisionBytes → (ℕ → TreeFunction) → ℕ → Own → Path → ℕ → Type 0
MeetsCountsTo look trees base own path names = RevisionHas look base [] true ⊎ ((depth : ℕ) × (depth ≤ names) × LastingHas look trees base own (take depth path) true)

-- there is none
abbrev pub LacksCountsTo : RevisionBytes → (ℕ → TreeFunction) → ℕ → Own → Path → ℕ → Type 0
LacksCountsTo look trees base own path names = RevisionHas look base [] false × ((depth : ℕ) → depth ≤ names → IsPlainAt look trees base own (take depth path))

abbrev pub CountsTo : RevisionBytes → (ℕ → TreeFunction) → ℕ → Own → Path → ℕ → Bool → Type 0
CountsTo look trees base own path names true = MeetsCountsTo look trees base own path names
CountsTo look trees base own path names false = LacksCountsTo look trees base own path names

-- on the whole way: a node with such a field would have to become the transaction's own, or the base's root has one
abbrev pub MeetsCounts : RevisionBytes → (ℕ → TreeFunction) → ℕ → Own → Path → Type 0
MeetsCounts look trees base own path = MeetsCountsTo look trees base own path (length path)

abbrev pub LacksCounts : RevisionBytes → (ℕ → TreeFunction) → ℕ → Own → Path → Type 0
LacksCounts look trees base own path = LacksCountsTo look trees base own path (length path)

abbrev pub Counts : RevisionBytes → (ℕ → TreeFunction) → ℕ → Own → Path → Bool → Type 0
Counts look trees base own path counted = CountsTo look trees base own path (length path) counted
