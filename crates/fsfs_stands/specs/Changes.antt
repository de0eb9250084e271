-- The changed paths that the bytes of a revision tell, against its tree.
--
-- The libsvn_fs_fs structure file has the form of the items ("Revision file format", changed-path data). What an item without a kind
-- means, and that each path comes once, are this project's profile.
use Rattle.std.specs.Prelude.{◌≡◌, ◌≢◌, ◌≤◌, ℕ, true, false, List, drop, Contains, Some, None, option_map, Ok}
use Rattle.std.specs.FinMap.{FinMap, get}
use Rattle.fsfs_base.specs.Paths.{Path, path_cmp}
use Rattle.fsfs_base.specs.declared.kind.Kind.{Kind}
use Rattle.fsfs_base.specs.declared.kind.Kind.TheVariants.{File}
use Rattle.fsfs_base.specs.declared.action.Action.TheVariants.{Delete}
use Rattle.fsfs_tree.specs.declared.change_map.Change.{Change}
use Rattle.fsfs_revision.specs.Told.{RevisionBytes}
use Rattle.fsfs_noderev.specs.declared.node_rev.NodeRev.{NodeRev}
use Rattle.fsfs_revision.specs.Nodes.{is_revision_id}
use Rattle.fsfs_revision.specs.Trailers.{EndsWith}
use Rattle.fsfs_revision.specs.declared.trailer.Trailer.{Trailer}
use Rattle.fsfs_noderev.specs.Changes.Texts.{AreRevisionChanges}
use Rattle.fsfs_noderev.specs.declared.changes.item.ChangeItem.{ChangeItem}
use Rattle.fsfs_revision.specs.Shows.Reading.{offset_of, OfId, StandsAt}

-- the bytes of a revision have these items between the place that the trailer names and the trailer
pub record HasItems (bytes : List ℕ) (items : List ChangeItem) : Type 0 where
  pub trailer : Trailer
  pub ends : EndsWith 0 bytes trailer
  pub items_are : AreRevisionChanges (drop trailer.changes ends.front) items

-- the kind of what an item without a kind is about: that of the node-revision of its id, which is of no later revision; where the id is
-- a transaction's, that of the node at its path, and a file where none stands there
pub data IsKindOf (look : RevisionBytes) (r : ℕ) (item : ChangeItem) : Kind → Type 0 where
  Said : (kind : Kind) → item.kind ≡ Some kind → IsKindOf look r item kind
  Named : (u : NodeRev) → item.kind ≡ None → is_revision_id item.id ≡ true → (offset_of item.id.place).rev ≤ r → OfId look item.id (Ok u) → IsKindOf look r item u.kind
  There : (v : NodeRev) → item.kind ≡ None → is_revision_id item.id ≡ false → StandsAt look r item.path v → IsKindOf look r item v.kind
  NotThere : item.kind ≡ None → is_revision_id item.id ≡ false → ((v : NodeRev) → StandsAt look r item.path v → ⊥) → IsKindOf look r item File

-- an item tells this change of its path
pub record IsChangeOf (look : RevisionBytes) (r : ℕ) (item : ChangeItem) (change : Change) : Type 0 where
  pub action : change.action ≡ item.action
  pub kind : IsKindOf look r item change.kind
  pub text_changed : change.text_changed ≡ item.text_changed
  pub props_changed : change.props_changed ≡ item.props_changed
  pub source : change.source ≡ option_map (λ s. (s.rev, s.path)) item.source

-- what is deleted is gone; what is added, replaced or modified is there, and an id that isn't a transaction's is that of the node there
pub record FitsTree (look : RevisionBytes) (r : ℕ) (item : ChangeItem) : Type 0 where
  pub gone : item.action ≡ Delete → (v : NodeRev) → StandsAt look r item.path v → ⊥
  pub there : item.action ≢ Delete → (v : NodeRev) × StandsAt look r item.path v × (is_revision_id item.id ≡ true → item.id ≡ v.id)

-- these are the changed paths of the revision
pub record AreChangesOf (look : RevisionBytes) (r : ℕ) (bytes : List ℕ) (changes : FinMap path_cmp Change) : Type 0 where
  pub items : List ChangeItem
  pub items_are : HasItems bytes items
  pub each : (item : ChangeItem) → Contains items item → (change : Change) × IsChangeOf look r item change × (get changes item.path ≡ Some change)
  pub only : (p : Path) (change : Change) → get changes p ≡ Some change → (item : ChangeItem) × Contains items item × (item.path ≡ p)
  pub fits : (item : ChangeItem) → Contains items item → FitsTree look r item
