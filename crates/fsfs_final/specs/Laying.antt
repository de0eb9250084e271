-- What was put of a whole draft, as it is laid in the revision.
use Rattle.std.specs.Prelude.{◌≡◌, ℕ, suc, true, false, List, [], ◌∷◌, ◌++◌, length, Option, Some, None}
use Rattle.fsfs_base.specs.Paths.{PathName, Path}
use Rattle.fsfs_base.specs.PathTexts.{IsPath}
use Rattle.fsfs_base.specs.declared.fields.txn_name.TxnName.{TxnName}
use Rattle.fsfs_tree.specs.Nodes.{TreeFunction}
use Rattle.fsfs_model.specs.declared.flat.mark.Mark.{Mark}
use Rattle.fsfs_revision.specs.Told.{RevisionBytes}
use Rattle.fsfs_noderev.specs.declared.node_id.Place.TheVariants as places
use Rattle.fsfs_noderev.specs.declared.rep.Contents.{Contents}
use Rattle.fsfs_noderev.specs.declared.rep.Contents.TheVariants as contents
use Rattle.fsfs_noderev.specs.declared.node_rev.NodeRev.{NodeRev}
use Rattle.fsfs_revision.specs.Nodes.{is_revision_id}
use Rattle.fsfs_revision.specs.Shows.Reading.{Pairs, DirEntry, AreEntries, named, offset_of}
use Rattle.fsfs_draft.specs.Own.{OwnNode, Own}
use Rattle.fsfs_draft.specs.Drafts.{Kept, Folder, ShowTrees}
use Rattle.fsfs_draft.specs.OwnSides.{NodesAt}
use Rattle.fsfs_draft.specs.Met.{AreNodes}
use Rattle.fsfs_draft.specs.Staying.{IsYoungest}
use Rattle.fsfs_draft.specs.Whole.{IsDraftOf}
use Rattle.fsfs_final.specs.Final.{IsFinal}
use Rattle.fsfs_final.specs.Laid.{Laid, IsLaid}
use Rattle.fsfs_final.specs.Pieces.Lists.{in_revision}
use Rattle.fsfs_final.specs.Pieces.Naming.{FinalIds}
use Rattle.fsfs_final.specs.Pieces.Nodes.{HasList}
use Rattle.fsfs_final.specs.Order.Orders.{is_in, AreInOrder, IsOrder}
use Rattle.fsfs_final.specs.Putting.{ArePut, no_ids}

-- a whole draft on the youngest revision
pub record IsCommittable (look : RevisionBytes) (trees : ℕ → TreeFunction) (top : ℕ) (nodes : ℕ → NodesAt) (txn : TxnName) (f : Folder) (tree : TreeFunction) (marks : List Mark) : Type 0 where
  pub shows : ShowTrees look top trees
  pub youngest : IsYoungest look top
  pub are : AreNodes look top nodes
  pub draft : IsDraftOf look trees top top txn f tree marks

-- ---- what was put

-- an entry leads where it led; that of an own node-revision, to what is laid at its path
pub record LeadsOn (laid : Laid) (p : Path) (name : PathName) (e now : DirEntry) : Type 0 where
  pub kind : now.kind ≡ e.kind
  pub lasting : is_revision_id e.id ≡ true → now.id ≡ e.id
  pub mine : is_revision_id e.id ≡ false → (off : ℕ) × (w : NodeRev) × (laid (p ++ name ∷ []) ≡ Some (off, w)) × (now.id ≡ w.id)

abbrev pub LeadAlike : Laid → Path → PathName → Option DirEntry → Option DirEntry → Type 0
LeadAlike laid p name None None = Unit {0}
LeadAlike laid p name None (Some now) = ⊥
LeadAlike laid p name (Some e) None = ⊥
LeadAlike laid p name (Some e) (Some now) = LeadsOn laid p name e now

-- the bytes have the list of the directory
pub record IsListPut (n : ℕ) (bytes : List ℕ) (laid : Laid) (p : Path) (entries : List DirEntry) (v : NodeRev) : Type 0 where
  pub pairs : Pairs
  pub has : HasList n bytes v.text pairs
  pub sorted : List DirEntry
  pub are : AreEntries (offset_of v.id.place) pairs sorted
  pub alike : (name : PathName) → LeadAlike laid p name (named name entries) (named name sorted)

-- a text that stands in a revision, or in the prototype file
abbrev pub IsTextKept : ℕ → Option Contents → Option Contents → Type 0
IsTextKept n None now = now ≡ None
IsTextKept n (Some contents.Own) now = Unit {0}
IsTextKept n (Some (contents.At rep)) now = now ≡ Some (contents.At (in_revision n rep))

-- the own node-revision is laid at its path, final, with its lists
pub record IsPut (n : ℕ) (bytes : List ℕ) (laid : Laid) (ids : FinalIds) (p : Path) (v : OwnNode) : Type 0 where
  pub off : ℕ
  pub done : NodeRev
  pub path : IsPath p
  pub at : laid p ≡ Some (off, done)
  pub id_is : ids p ≡ Some done.id
  pub place : done.id.place ≡ places.At n off
  pub final : IsFinal n v.node done
  pub text : IsTextKept n v.node.text done.text
  pub list : (entries : List DirEntry) → v.entries ≡ Some entries → IsListPut n bytes laid p entries done
  pub set : (pairs : Pairs) → v.props ≡ Some pairs → HasList n bytes done.props pairs

-- all but those that are left
pub record AreLaid (n : ℕ) (bytes : List ℕ) (own : Own) (left : List Kept) (laid : Laid) (ids : FinalIds) : Type 0 where
  pub is_laid : IsLaid n bytes laid
  pub order : AreInOrder own left
  pub each : (p : Path) (v : OwnNode) → own p ≡ Some v → is_in left p ≡ false → IsPut n bytes laid ids p v

-- all of a whole draft, behind the prototype file
abbrev pub PutsLay : Type 0
PutsLay = (look : RevisionBytes) (trees : ℕ → TreeFunction) (top : ℕ) (nodes : ℕ → NodesAt) (txn : TxnName) (f : Folder) (tree : TreeFunction) (marks : List Mark) (is : IsCommittable look trees top nodes txn f tree marks)
    → (ks : List Kept) (old new : List ℕ) (ids : FinalIds) → IsOrder is.draft.shows.own ks → ArePut (suc top) (length f.proto) ks old no_ids new ids
    → (laid : Laid) × AreLaid (suc top) (f.proto ++ new) is.draft.shows.own [] laid ids
