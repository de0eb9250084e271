-- The own node-revisions of a transaction in the order in which they are put into a new revision: each behind what is in it.
--
-- The order is this project's profile; libsvn_fs_fs puts them so, too.
use Rattle.std.specs.Prelude.{◌≡◌, ◌⊎◌, Bool, true, false, List, [], ◌∷◌, ◌++◌, Some, map, reverse}
use Rattle.std.specs.List.{AllByRecursion, list_any}
use Rattle.std.specs.Borrow.{Bor}
use Rattle.fsfs_base.specs.Paths.{PathName, Path, same_path}
use Rattle.fsfs_noderev.specs.declared.node_id.NodeId.{NodeId}
use Rattle.fsfs_draft.specs.Own.{OwnNode, Own}
use Rattle.fsfs_draft.specs.Drafts.{Kept, kept_of}
use Rattle.fsfs_draft.specs.Steps.{Files, kept_at}
use Rattle.fsfs_draft.specs.declared.txn_noderevs.KeptNode.{KeptNode}
use Rattle.fsfs_draft.specs.Views.{kept_value}

-- where it was made
abbrev pub path_of : Kept → Path
path_of k = k.node.created_path

-- a list from its end on
abbrev pub last_first : List (Bor KeptNode) → List Kept
last_first ks = reverse (map (λ (k : Bor KeptNode). kept_value k.now) ks)

-- one of them was made at the path
abbrev pub is_in : List Kept → Path → Bool
is_in ks p = list_any (λ (k : Kept). same_path (path_of k) p) ks

-- it is the own node-revision where it was made
abbrev pub IsKeptAt : Own → Kept → Type 0
IsKeptAt own k = (v : OwnNode) × (own (path_of k) ≡ Some v) × (kept_of v ≡ k)

-- the folder holds it
abbrev pub IsHeld : Files → Kept → Type 0
IsHeld files k = (id : NodeId) × (kept_at files id ≡ Some k)

abbrev pub AreHeld : Files → List Kept → Type 0
AreHeld files = AllByRecursion (IsHeld files)

-- the path is the root, or in one of these
abbrev pub IsInOne : List Kept → Path → Type 0
IsInOne ks p = (p ≡ []) ⊎ ((dir : Path) × (name : PathName) × (p ≡ dir ++ name ∷ []) × (is_in ks dir ≡ true))

-- each stands once, and its directory behind it
abbrev pub AreInOrder : Own → List Kept → Type 0
AreInOrder own [] = Unit {0}
AreInOrder own (k ∷ ks) = IsKeptAt own k × (is_in ks (path_of k) ≡ false) × IsInOne ks (path_of k) × AreInOrder own ks

-- and none lacks
pub record IsOrder (own : Own) (ks : List Kept) : Type 0 where
  pub order : AreInOrder own ks
  pub all : (p : Path) (v : OwnNode) → own p ≡ Some v → is_in ks p ≡ true
