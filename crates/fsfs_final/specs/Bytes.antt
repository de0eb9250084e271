-- The bytes of a new revision hold a draft: node-revisions at their offsets, and directories' lists.
--
-- The libsvn_fs_fs structure file has the parts ("Revision file format"); in which order they stand, and that each child comes before its
-- directory, is what makes `off` and the order of places true, and is this project's profile.
use Rattle.std.specs.Prelude.{◌≡◌, ℕ, true, false, List, [], ◌∷◌, ◌++◌, drop, Some, None, Ok}
use Rattle.fsfs_base.specs.Paths.{PathName, Path}
use Rattle.fsfs_base.specs.declared.kind.Kind.{Kind}
use Rattle.fsfs_base.specs.declared.kind.Kind.TheVariants.{Dir}
use Rattle.fsfs_revision.specs.Told.{RevisionBytes}
use Rattle.fsfs_noderev.specs.declared.node_id.NodeId.{NodeId}
use Rattle.fsfs_noderev.specs.declared.node_id.Place.TheVariants as places
use Rattle.fsfs_noderev.specs.declared.rep.Rep.{Rep}
use Rattle.fsfs_noderev.specs.declared.rep.Contents.TheVariants as contents
use Rattle.fsfs_noderev.specs.declared.node_rev.NodeRev.{NodeRev}
use Rattle.fsfs_layout.specs.Hash.Dump.{IsDump}
use Rattle.fsfs_revision.specs.Rep.Frames.{rev_of, RepIn}
use Rattle.fsfs_revision.specs.Nodes.{IsNodeAt, is_root, is_before}
use Rattle.fsfs_revision.specs.Damage.Damages.{place_of}
use Rattle.fsfs_revision.specs.Trailers.{EndsWith}
use Rattle.fsfs_revision.specs.declared.trailer.Trailer.{Trailer}
use Rattle.fsfs_revision.specs.Shows.Reading.{offset_of, Pairs, DirEntry, AreEntries, named, ChildOf}
use Rattle.fsfs_revision.specs.Shows.Chains.{IsPred}
use Rattle.fsfs_draft.specs.OwnSides.{NodesAt, in_txn}
use Rattle.fsfs_draft.specs.NodeDrafts.{IsOwn, IsDraft}
use Rattle.fsfs_final.specs.Final.{IsFinal}
use Rattle.fsfs_final.specs.Directories.{ReadsAsDraft}

-- the entry of a name leads to this id and kind
abbrev pub LeadsTo : PathName → List DirEntry → NodeId → Kind → Type 0
LeadsTo name entries id kind = (e : DirEntry) × (named name entries ≡ Some e) × (e.id ≡ id) × (e.kind ≡ kind)

-- the list has the draft's entries of a directory, with final ids
pub record Lists (own : NodesAt) (done : Path → NodeRev) (p : Path) (entries : List DirEntry) : Type 0 where
  pub none : (name : PathName) → own (p ++ name ∷ []) ≡ None → named name entries ≡ None
  pub mine : (name : PathName) (w : NodeRev) → own (p ++ name ∷ []) ≡ Some w → IsOwn w → LeadsTo name entries (done (p ++ name ∷ [])).id w.kind
  pub lasting : (name : PathName) (w : NodeRev) → own (p ++ name ∷ []) ≡ Some w → in_txn w.id.place ≡ false → LeadsTo name entries w.id w.kind

-- where the entries of a directory of the transaction stand
pub data Listed (look : RevisionBytes) (n : ℕ) (bytes : List ℕ) (own : NodesAt) (done : Path → NodeRev) (p : Path) (u : NodeRev) : Type 0 where
  -- in a representation of this revision
  Written : (rep : Rep) (text : List ℕ) (pairs : Pairs) (entries : List DirEntry) → (done p).text ≡ Some (contents.At rep) → rev_of rep ≡ n → RepIn rep bytes (Ok text) → IsDump text pairs
      → AreEntries (offset_of (done p).id.place) pairs entries → Lists own done p entries → Listed look n bytes own done p u
  -- no entry was changed: in its predecessor's, which stands before
  Inherited : (w : NodeRev) → IsPred look u w → w.kind ≡ Dir → (done p).text ≡ w.text → is_before (offset_of w.id.place).rev (offset_of w.id.place).offset (offset_of (done p).id.place) ≡ true
      → ((name : PathName) → own (p ++ name ∷ []) ≡ None → ChildOf look w name (Ok None))
      → ((name : PathName) (x : NodeRev) → own (p ++ name ∷ []) ≡ Some x → (in_txn x.id.place ≡ false) × ChildOf look w name (Ok (Some x))) → Listed look n bytes own done p u
  -- it is new and has none
  Bare : (done p).text ≡ None → ((name : PathName) → own (p ++ name ∷ []) ≡ None) → Listed look n bytes own done p u

pub record HoldsDraft (look : RevisionBytes) (n : ℕ) (bytes : List ℕ) (own : NodesAt) (done : Path → NodeRev) (off : Path → ℕ) : Type 0 where
  pub bytes_are : look n ≡ Ok bytes
  pub trailer : Trailer
  pub ends : EndsWith 0 bytes trailer
  pub root_at : trailer.root ≡ off []
  pub root_is : is_root (place_of n (off [])) (done []) ≡ true
  pub final : (p : Path) (u : NodeRev) → own p ≡ Some u → IsOwn u → IsFinal n u (done p)
  pub place : (p : Path) (u : NodeRev) → own p ≡ Some u → IsOwn u → (done p).id.place ≡ places.At n (off p)
  pub node : (p : Path) (u : NodeRev) → own p ≡ Some u → IsOwn u → IsNodeAt (place_of n (off p)) (drop (off p) bytes) (done p)
  pub list : (p : Path) (u : NodeRev) → own p ≡ Some u → IsOwn u → u.kind ≡ Dir → Listed look n bytes own done p u
  pub apart : (p q : Path) (u w : NodeRev) → own p ≡ Some u → own q ≡ Some w → IsOwn u → IsOwn w → off p ≡ off q → p ≡ q

abbrev pub HeldDraftsAreRead : Type 0
HeldDraftsAreRead = (look : RevisionBytes) (top n : ℕ) (bytes : List ℕ) (own : NodesAt) (done : Path → NodeRev) (off : Path → ℕ)
    → IsDraft look top top own → HoldsDraft look n bytes own done off → ReadsAsDraft look n own done
