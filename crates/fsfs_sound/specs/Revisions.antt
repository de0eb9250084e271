-- What is checked of a revision: its tree so far as it wrote it, its changed paths, and its property file.
use Rattle.std.specs.Prelude.{◌≡◌, ◌≢◌, ◌≤◌, ◌<◌, ◌++◌, ℕ, true, List, [], ◌∷◌, Contains, None, Ok}
use Rattle.fsfs_base.specs.Paths.{PathName, Path}
use Rattle.fsfs_base.specs.declared.action.Action.TheVariants.{Delete}
use Rattle.fsfs_base.specs.declared.kind.Kind.TheVariants.{Dir}
use Rattle.fsfs_tree.specs.Dated.{IsDated}
use Rattle.fsfs_revision.specs.Told.{RevisionBytes}
use Rattle.fsfs_revision.specs.RevProps.{only}
use Rattle.fsfs_noderev.specs.declared.node_id.NodeId.{NodeId}
use Rattle.fsfs_noderev.specs.declared.node_rev.NodeRev.{NodeRev}
use Rattle.fsfs_noderev.specs.declared.changes.item.ChangeItem.{ChangeItem}
use Rattle.fsfs_revision.specs.Nodes.{is_revision_id}
use Rattle.fsfs_revision.specs.Shows.Reading.{DirEntry, OfId, RootOf, StandsAt}
use Rattle.fsfs_stands.specs.Items.{ItemsOf}
use Rattle.fsfs_look.specs.Revprops.Files.{Pairs, RevPropsOf}
use Rattle.fsfs_sound.specs.Written.{rev_of_id, IsNewAt, IsNewChild, Names}
use Rattle.fsfs_sound.specs.Rules.{PartFrom, IsSoundNode, IsSoundRoot}

-- ---- the tree

pub record IsSoundTree (look : RevisionBytes) (r : ℕ) : Type 0 where
  pub root : (v : NodeRev) × RootOf look r (Ok v) × IsSoundRoot look r v
  pub nodes : (p : Path) (v : NodeRev) → IsNewAt look r p v → IsSoundNode look r p v
  -- copy parts of what is no copy, also of earlier revisions: no copy of this one has one that was drawn
  pub parts : (s : ℕ) (p : Path) (name : PathName) (dir v : NodeRev) → s ≤ r → IsNewChild look s p name dir v → v.copy_from ≡ None → PartFrom look r dir v

-- ---- the changed paths

-- the tree names this node-revision at the path
pub data NamesAt (look : RevisionBytes) (r : ℕ) : Path → NodeId → Type 0 where
  Root : (v : NodeRev) → RootOf look r (Ok v) → NamesAt look r [] v.id
  -- where it was met on the way from the root
  There : (p : Path) (v : NodeRev) → StandsAt look r p v → NamesAt look r p v.id
  Below : (p : Path) (name : PathName) (dir : NodeRev) (entry : DirEntry) → StandsAt look r p dir → dir.kind ≡ Dir → Names look dir name entry → NamesAt look r (p ++ name ∷ []) entry.id

-- what an item says is so: nothing stands where it deletes; else the tree names something there, and the item's id where that is of a
-- revision. The node-revision that tells the kind, where the item doesn't, is of no later revision, and is had.
pub record IsSoundItem (look : RevisionBytes) (r : ℕ) (item : ChangeItem) : Type 0 where
  pub gone : item.action ≡ Delete → (v : NodeRev) → StandsAt look r item.path v → ⊥
  pub there : item.action ≢ Delete → (id : NodeId) × NamesAt look r item.path id × (is_revision_id item.id ≡ true → item.id ≡ id)
  pub kind : item.kind ≡ None → is_revision_id item.id ≡ true → (rev_of_id item.id ≤ r) × (u : NodeRev) × OfId look item.id (Ok u)

abbrev pub HasSoundItems : RevisionBytes → ℕ → Type 0
HasSoundItems look r = (items : List ChangeItem) × ItemsOf look r (Ok (items, None)) × ((item : ChangeItem) → Contains items item → IsSoundItem look r item)

-- ---- the property file

-- it is a dump, and a date in it has the form in which dates are stored
abbrev pub HasSoundProps : RevisionBytes → ℕ → Type 0
HasSoundProps props r = (pairs : Pairs) × RevPropsOf (only props) r (Ok pairs) × IsDated pairs

-- ---- all of a revision, and of the revisions before one

pub record IsSoundRevision (look props : RevisionBytes) (r : ℕ) : Type 0 where
  pub tree : IsSoundTree look r
  pub items : HasSoundItems look r
  pub file : HasSoundProps props r

abbrev pub AreSoundBefore : RevisionBytes → RevisionBytes → ℕ → Type 0
AreSoundBefore look props n = (r : ℕ) → r < n → IsSoundRevision look props r
