-- What an item of a revision says of its tree, and what is wrong with it.
use Rattle.std.specs.Prelude.{◌≡◌, ◌≢◌, ◌≤◌, ◌<◌, ◌⊎◌, ℕ, Bool, true, false, Option, Some, None, Ok, Err}
use Rattle.fsfs_base.specs.declared.action.Action.TheVariants.{Delete}
use Rattle.fsfs_revision.specs.Told.{RevisionBytes}
use Rattle.fsfs_revision.specs.declared.wrong.Wrong.{Wrong}
use Rattle.fsfs_noderev.specs.declared.node_id.NodeId.{NodeId}
use Rattle.fsfs_noderev.specs.declared.changes.item.ChangeItem.{ChangeItem}
use Rattle.fsfs_noderev.specs.declared.node_rev.NodeRev.{NodeRev}
use Rattle.fsfs_revision.specs.Nodes.{is_revision_id}
use Rattle.fsfs_revision.specs.Shows.Reading.{OfId, Met, Stands, Lacking, Blocked, MetAt}
use Rattle.fsfs_stands.specs.Changes.{FitsTree}
use Rattle.fsfs_sound.specs.Revisions.{IsSoundItem}
use Rattle.fsfs_sound.specs.Written.{rev_of_id}

-- what is there, or nothing, is what the item says
pub record FitsThere (item : ChangeItem) (found : Option NodeId) : Type 0 where
  pub gone : item.action ≡ Delete → found ≡ None
  pub there : item.action ≢ Delete → (id : NodeId) × (found ≡ Some id) × (is_revision_id item.id ≡ true → item.id ≡ id)

-- the id of what is met at a path
abbrev pub id_met : Met → Option NodeId
id_met (Stands v) = Some v.id
id_met (Lacking names) = None
id_met (Blocked names) = None

-- the kind would be that of a node-revision of a later revision
pub record IsOfLater (r : ℕ) (item : ChangeItem) : Type 0 where
  pub kind : item.kind ≡ None
  pub lasting : is_revision_id item.id ≡ true
  pub later : r < rev_of_id item.id

abbrev pub IsFalseItem : RevisionBytes → ℕ → ChangeItem → Type 0
IsFalseItem look r item = IsOfLater r item ⊎ (FitsTree look r item → ⊥)

-- the node-revision that tells the kind
abbrev pub IsWrongKind : RevisionBytes → ℕ → ChangeItem → Wrong → Type 0
IsWrongKind look r item w = (item.kind ≡ None) × (is_revision_id item.id ≡ true) × (rev_of_id item.id ≤ r) × OfId look item.id (Err w)

-- which is had, where the item doesn't say the kind and could name it
abbrev pub HasKindOf : RevisionBytes → ℕ → ChangeItem → Type 0
HasKindOf look r item = item.kind ≡ None → is_revision_id item.id ≡ true → rev_of_id item.id ≤ r → (u : NodeRev) × OfId look item.id (Ok u)

-- it isn't had, or what is wrong is met on the way to the item's path
abbrev pub IsWrongAt : RevisionBytes → ℕ → ChangeItem → Wrong → Type 0
IsWrongAt look r item w = IsWrongKind look r item w ⊎ MetAt look r item.path (Err w)

-- whether the item says what the tree says
abbrev pub IsTold : RevisionBytes → ℕ → ChangeItem → Bool → Type 0
IsTold look r item true = IsSoundItem look r item
IsTold look r item false = IsFalseItem look r item
