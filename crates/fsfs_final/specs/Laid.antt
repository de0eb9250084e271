-- What the writer of a new revision has laid down so far: node-revisions and representations, at the offsets at which they were appended.
use Rattle.std.specs.Prelude.{◌≡◌, ◌≤◌, ℕ, true, List, [], ◌++◌, length, drop, Option, Some, None, Ok, if◌then◌else◌, codes}
use Rattle.md5.specs.Md5.{md5}
use Rattle.fsfs_base.specs.Paths.{Path, same_path}
use Rattle.fsfs_base.specs.declared.kind.Kind.TheVariants.{Dir}
use Rattle.fsfs_revision.specs.Told.{RevisionBytes}
use Rattle.fsfs_noderev.specs.NodeRevs.{IsNodeRev}
use Rattle.fsfs_noderev.specs.declared.node_id.Place.TheVariants as places
use Rattle.fsfs_noderev.specs.declared.rep.Rep.{Rep}
use Rattle.fsfs_noderev.specs.declared.node_rev.NodeRev.{NodeRev}
use Rattle.fsfs_revision.specs.Nodes.{IsNodeAt, is_of_revision, is_ordered, is_root}
use Rattle.fsfs_revision.specs.Damage.Damages.{place_of}
use Rattle.fsfs_revision.specs.Trailers.{EndsWith}
use Rattle.fsfs_revision.specs.declared.trailer.Trailer.{Trailer}
use Rattle.fsfs_revision.specs.Rep.Frames.{RepIn}
use Rattle.fsfs_draft.specs.OwnSides.{NodesAt}
use Rattle.fsfs_draft.specs.NodeDrafts.{IsOwn}
use Rattle.fsfs_final.specs.Final.{IsFinal}
use Rattle.fsfs_final.specs.Bytes.{Listed, HoldsDraft}

-- the node-revision that may stand at an offset of revision n, as a text
pub record IsTextAt (n o : ℕ) (text : List ℕ) (v : NodeRev) : Type 0 where
  pub is : IsNodeRev text v
  pub short : length text ≤ 65536
  pub of : is_of_revision v ≡ true
  pub ordered : is_ordered (place_of n o) v ≡ true

-- it stands there in the bytes
pub record IsPlaced (n : ℕ) (bytes : List ℕ) (o : ℕ) (v : NodeRev) : Type 0 where
  pub front : List ℕ
  pub text : List ℕ
  pub back : List ℕ
  pub parts : bytes ≡ front ++ (text ++ back)
  pub at : length front ≡ o
  pub holds : IsTextAt n o text v

-- the representation tells this text, were it at this offset
pub record IsRepAt (o : ℕ) (rep : Rep) (text : List ℕ) : Type 0 where
  pub offset : rep.offset ≡ o
  pub length_is : rep.length ≡ length text
  pub size : rep.size ≡ length text
  pub md5_is : rep.md5.bytes ≡ md5 text
  pub unique : rep.unique ≡ None

pub record IsFramed (bytes : List ℕ) (rep : Rep) (text : List ℕ) : Type 0 where
  pub front : List ℕ
  pub back : List ℕ
  pub parts : bytes ≡ front ++ (codes "PLAIN\n" ++ (text ++ (codes "ENDREP\n" ++ back)))
  pub is : IsRepAt (length front) rep text

-- what is laid at each path: its offset, and the node-revision
abbrev pub Laid : Type 0
Laid = Path → Option (ℕ × NodeRev)

abbrev pub nothing_laid : Laid
nothing_laid p = None

abbrev pub with_laid : Laid → Path → ℕ → NodeRev → Laid
with_laid laid p o v q = if same_path q p then Some (o, v) else laid q

-- the invariant of the loop
pub record IsLaid (n : ℕ) (bytes : List ℕ) (laid : Laid) : Type 0 where
  pub placed : (p : Path) (o : ℕ) (v : NodeRev) → laid p ≡ Some (o, v) → IsPlaced n bytes o v
  pub apart : (p q : Path) (o : ℕ) (v w : NodeRev) → laid p ≡ Some (o, v) → laid q ≡ Some (o, w) → p ≡ q

-- all of a draft was laid, and the trailer names the root
pub record LaysDraft (look : RevisionBytes) (n : ℕ) (bytes : List ℕ) (own : NodesAt) (done : Path → NodeRev) (off : Path → ℕ) (laid : Laid) : Type 0 where
  pub trailer : Trailer
  pub ends : EndsWith 0 bytes trailer
  pub root_at : trailer.root ≡ off []
  pub root_is : is_root (place_of n (off [])) (done []) ≡ true
  pub all : (p : Path) (u : NodeRev) → own p ≡ Some u → IsOwn u → (laid p ≡ Some (off p, done p)) × IsFinal n u (done p) × ((done p).id.place ≡ places.At n (off p))
  pub list : (p : Path) (u : NodeRev) → own p ≡ Some u → IsOwn u → u.kind ≡ Dir → Listed look n bytes own done p u

pub record LoopLaws : Type 0 where
  pub begins : (n : ℕ) (bytes : List ℕ) → IsLaid n bytes nothing_laid
  -- whatever is appended
  pub stays : (n : ℕ) (bytes more : List ℕ) (laid : Laid) → IsLaid n bytes laid → IsLaid n (bytes ++ more) laid
  pub framed_stays : (bytes more : List ℕ) (rep : Rep) (text : List ℕ) → IsFramed bytes rep text → IsFramed (bytes ++ more) rep text
  -- a node-revision is appended, a representation
  pub grows : (n : ℕ) (bytes text : List ℕ) (laid : Laid) (p : Path) (v : NodeRev) → IsLaid n bytes laid → IsTextAt n (length bytes) text v → IsLaid n (bytes ++ text) (with_laid laid p (length bytes) v)
  pub framed : (bytes text : List ℕ) (rep : Rep) → IsRepAt (length bytes) rep text → IsFramed (bytes ++ (codes "PLAIN\n" ++ (text ++ codes "ENDREP\n"))) rep text
  -- what was laid is read
  pub node_read : (n : ℕ) (bytes : List ℕ) (laid : Laid) (p : Path) (o : ℕ) (v : NodeRev) → IsLaid n bytes laid → laid p ≡ Some (o, v) → IsNodeAt (place_of n o) (drop o bytes) v
  pub rep_read : (bytes : List ℕ) (rep : Rep) (text : List ℕ) → IsFramed bytes rep text → RepIn rep bytes (Ok text)
  pub held : (look : RevisionBytes) (n : ℕ) (bytes : List ℕ) (own : NodesAt) (done : Path → NodeRev) (off : Path → ℕ) (laid : Laid)
      → look n ≡ Ok bytes → IsLaid n bytes laid → LaysDraft look n bytes own done off laid → HoldsDraft look n bytes own done off
