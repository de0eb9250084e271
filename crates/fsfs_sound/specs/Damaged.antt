-- What is wrong with a revision, as a check tells it: a row of the table of damage that applies there, at its place.
--
-- What is wrong in an earlier revision is wrong with each later one, too.
use Rattle.std.specs.Prelude.{◌≡◌, ◌≢◌, ◌≤◌, ◌<◌, ◌⊎◌, ◌+◌, ◌++◌, ℕ, suc, true, List, [], ◌∷◌, length, Contains, Option, Some, None, Ok, Err}
use Rattle.fsfs_base.specs.Grammar.Relations.{Begins}
use Rattle.fsfs_base.specs.Paths.{PathName, Path}
use Rattle.fsfs_base.specs.declared.kind.Kind.TheVariants.{File, Dir}
use Rattle.fsfs_tree.specs.Dated.{IsDated}
use Rattle.fsfs_revision.specs.Told.{RevisionBytes}
use Rattle.fsfs_revision.specs.RevProps.{only}
use Rattle.fsfs_revision.specs.declared.damage.DamageKind.TheVariants as what
use Rattle.fsfs_revision.specs.declared.wrong.Wrong.{Wrong}
use Rattle.fsfs_revision.specs.Damage.Damages.{place_of, damaged}
use Rattle.fsfs_revision.specs.Nodes.{is_revision_id}
use Rattle.fsfs_noderev.specs.Changes.Items.{IsItem}
use Rattle.fsfs_noderev.specs.Changes.Texts.{AreRevisionChanges}
use Rattle.fsfs_noderev.specs.Ids.{part_value, Old}
use Rattle.fsfs_noderev.specs.declared.changes.item.ChangeItem.{ChangeItem}
use Rattle.fsfs_noderev.specs.declared.node_rev.CopySource.{CopySource}
use Rattle.fsfs_noderev.specs.declared.node_rev.NodeRev.{NodeRev}
use Rattle.fsfs_revision.specs.Shows.Reading.{DirEntry, ChildOf, EntriesOf, TextOf, PropsOf, OfId, offset_of, MetAt, StandsAt}
use Rattle.fsfs_revision.specs.Shows.Chains.{own_rev, Chain, IsPred, copy_root_of, contents_rev}
use Rattle.fsfs_revision.specs.Shows.IdRules.{IsOf, IsChild, HasSuffix, CopyPartFrom, root_after}
use Rattle.fsfs_stands.specs.Changes.{FitsTree}
use Rattle.fsfs_stands.specs.Items.{DataOf, ItemsOf}
use Rattle.fsfs_look.specs.Revprops.Files.{Pairs, RevPropsOf}
use Rattle.fsfs_sound.specs.Written.{rev_of_id, GoesOnFrom}

-- ---- the rules of ids

-- it doesn't go on from its predecessor
abbrev pub BreaksOff : RevisionBytes → NodeRev → Type 0
BreaksOff look v = (u : NodeRev) × IsPred look v u × (GoesOnFrom v u → ⊥)

-- a node-revision breaks another rule of ids, in a tree of the revisions up to r: each constructor is a clause of `IdRule` that fails
pub data BreaksRule (look : RevisionBytes) (r : ℕ) (v : NodeRev) : Type 0 where
  RootId : (s : ℕ) → s ≤ r → StandsAt look s [] v → ((part_value v.id.node ≡ Old 0) × (part_value v.id.copy ≡ Old 0) × (own_rev v ≡ s) → ⊥) → BreaksRule look r v
  RootCopy : (s : ℕ) → s ≤ r → StandsAt look s [] v → v.copy_from ≢ None → BreaksRule look r v
  RootNext : (s : ℕ) (u : NodeRev) → suc s ≤ r → StandsAt look (suc s) [] v → StandsAt look s [] u → v.predecessor ≢ Some u.id → BreaksRule look r v
  RootRoot : (s : ℕ) (u : NodeRev) → suc s ≤ r → StandsAt look (suc s) [] v → StandsAt look s [] u → copy_root_of v ≢ copy_root_of u → BreaksRule look r v
  First : StandsAt look 0 [] v → ((v.predecessor ≡ None) × (v.props ≡ None) × ((copy_root_of v).0 ≡ 0) → ⊥) → BreaksRule look r v
  -- the root of revision 0 has an entry
  Alone : (entry : DirEntry) (entries : List DirEntry) → StandsAt look 0 [] v → EntriesOf look v (Ok (entry ∷ entries)) → BreaksRule look r v
  BeginsOnce : (u : NodeRev) → IsOf look r v → IsOf look r u → v.predecessor ≡ None → u.predecessor ≡ None → v.id.node ≡ u.id.node → v.id ≢ u.id → BreaksRule look r v
  BeginsIn : IsOf look r v → v.predecessor ≡ None → (HasSuffix (own_rev v) v.id.node → ⊥) → BreaksRule look r v
  CopyPlace : (from : CopySource) (p : Path) → IsOf look r v → v.copy_from ≡ Some from → StandsAt look (own_rev v) p v → p ≢ v.created_path → BreaksRule look r v
  CopyRoot : (from : CopySource) → IsOf look r v → v.copy_from ≡ Some from → copy_root_of v ≢ (own_rev v, v.created_path) → BreaksRule look r v
  CopyPart : (from : CopySource) → IsOf look r v → v.copy_from ≡ Some from → ((part_value v.id.copy ≢ Old 0) × HasSuffix (own_rev v) v.id.copy → ⊥) → BreaksRule look r v
  CopyOwn : (u : NodeRev) (from other : CopySource) → IsOf look r v → IsOf look r u → v.copy_from ≡ Some from → u.copy_from ≡ Some other → v.id.copy ≡ u.id.copy → v.id ≢ u.id → BreaksRule look r v
  CopySourceOf : (from : CopySource) → IsOf look r v → v.copy_from ≡ Some from
      → ((from.rev < own_rev v) × (u : NodeRev) × StandsAt look from.rev from.path u × (v.predecessor ≡ Some u.id) → ⊥) → BreaksRule look r v
  RootOfNew : (s : ℕ) (p : Path) (name : PathName) (dir : NodeRev) → IsChild look r s p name dir v → own_rev v ≡ s → v.copy_from ≡ None → v.predecessor ≡ None
      → copy_root_of v ≢ copy_root_of dir → BreaksRule look r v
  RootOfNext : (s : ℕ) (p : Path) (name : PathName) (dir u : NodeRev) → IsChild look r s p name dir v → own_rev v ≡ s → v.copy_from ≡ None → IsPred look v u
      → copy_root_of v ≢ root_after dir u → BreaksRule look r v
  PartOf : (s : ℕ) (p : Path) (name : PathName) (dir : NodeRev) → IsChild look r s p name dir v → own_rev v ≡ s → v.copy_from ≡ None → (CopyPartFrom look r dir v → ⊥) → BreaksRule look r v
  -- a copy with a part that an earlier node-revision, which is no copy, has of nowhere else
  PartTaken : (from : CopySource) (s : ℕ) (p : Path) (name : PathName) (dir u : NodeRev) → IsOf look r v → v.copy_from ≡ Some from → IsChild look r s p name dir u → own_rev u ≡ s → u.copy_from ≡ None
      → u.id.copy ≡ v.id.copy → (CopyPartFrom look r dir u → ⊥) → BreaksRule look r v
  Older : (s : ℕ) (p : Path) (name : PathName) (dir : NodeRev) → IsChild look r s p name dir v → own_rev v < own_rev dir
      → ((u : NodeRev) × IsPred look dir u × ChildOf look u name (Ok (Some v)) → ⊥) → BreaksRule look r v
  GoesOn : (s : ℕ) (p : Path) (name : PathName) (dir w : NodeRev) → IsChild look r s p name dir v → own_rev v ≡ own_rev dir → v.copy_from ≡ None → IsPred look v w
      → ((u : NodeRev) × IsPred look dir u × ChildOf look u name (Ok (Some w)) → ⊥) → BreaksRule look r v
  Props : (u : NodeRev) → IsOf look r v → IsPred look v u → (contents_rev v.props < own_rev v) ⊎ (v.props ≡ None) → v.props ≢ u.props → BreaksRule look r v

-- ---- the changed paths

-- a revision has this item, which begins at this offset
pub record BeginsAt (look : RevisionBytes) (r : ℕ) (item : ChangeItem) (at : ℕ) : Type 0 where
  pub items : List ChangeItem
  pub wrong : Option Wrong
  pub read : ItemsOf look r (Ok (items, wrong))
  pub among : Contains items item
  -- where the items before it end
  pub begins : ℕ
  pub bytes : List ℕ
  pub bytes_are : DataOf look r (Ok (begins, bytes))
  pub front : List ℕ
  pub rest : List ℕ
  pub parts : bytes ≡ front ++ rest
  pub earlier : List ChangeItem
  pub earlier_are : AreRevisionChanges front earlier
  pub behind : List ℕ
  pub item_is : Begins IsItem rest item behind
  pub place : at ≡ begins + length front

-- ---- a revision

pub data IsDamaged (look props : RevisionBytes) (r : ℕ) : Wrong → Type 0 where
  -- readings: of a path; of the chain of predecessors of what stands at one, and of the list of the predecessor; of a text; of
  -- properties
  AtPath : (s : ℕ) (p : Path) (w : Wrong) → s ≤ r → MetAt look s p (Err w) → IsDamaged look props r w
  Behind : (v : NodeRev) (w : Wrong) → IsOf look r v → Chain look v (Err w) → IsDamaged look props r w
  ListBehind : (v u : NodeRev) (w : Wrong) → IsOf look r v → v.kind ≡ Dir → IsPred look v u → EntriesOf look u (Err w) → IsDamaged look props r w
  AtText : (v : NodeRev) (w : Wrong) → IsOf look r v → v.kind ≡ File → TextOf look v (Err w) → IsDamaged look props r w
  AtProps : (v : NodeRev) (w : Wrong) → IsOf look r v → PropsOf look v (Err w) → IsDamaged look props r w
  -- the rules of ids, at the node-revision
  Off : (v : NodeRev) → IsOf look r v → BreaksOff look v → IsDamaged look props r (damaged (offset_of v.id.place) what.PredId)
  Rule : (v : NodeRev) → BreaksRule look r v → IsDamaged look props r (damaged (offset_of v.id.place) what.CopyId)
  -- the changed paths: their data; an item that is none; the kind of what an item is about; an item that says what the tree doesn't, or
  -- whose kind would be that of a later revision's node-revision
  Data : (w : Wrong) → ItemsOf look r (Err w) → IsDamaged look props r w
  Item : (items : List ChangeItem) (w : Wrong) → ItemsOf look r (Ok (items, Some w)) → IsDamaged look props r w
  KindOf : (item : ChangeItem) (at : ℕ) (w : Wrong) → BeginsAt look r item at → item.kind ≡ None → is_revision_id item.id ≡ true → rev_of_id item.id ≤ r → OfId look item.id (Err w) → IsDamaged look props r w
  Later : (item : ChangeItem) (at : ℕ) → BeginsAt look r item at → item.kind ≡ None → is_revision_id item.id ≡ true → r < rev_of_id item.id → IsDamaged look props r (damaged (place_of r at) what.ChangePath)
  Unfit : (item : ChangeItem) (at : ℕ) → BeginsAt look r item at → (FitsTree look r item → ⊥) → IsDamaged look props r (damaged (place_of r at) what.ChangePath)
  -- the property file
  PropFile : (w : Wrong) → RevPropsOf (only props) r (Err w) → IsDamaged look props r w
  Date : (pairs : Pairs) → RevPropsOf (only props) r (Ok pairs) → (IsDated pairs → ⊥) → IsDamaged look props r (damaged (place_of r 0) what.BadDate)
