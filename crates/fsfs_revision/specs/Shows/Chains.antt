-- Going back from a node-revision: its predecessors, and the copy that it came by.
--
-- A node-revision names its predecessor by id, and its copy root by revision and path: the copy by which it, or something above
-- it, came to where it stands. (The libsvn_fs_fs structure file, "Node-revision identities" and the fields `pred`, `copyroot` and
-- `copyfrom`.)
use Rattle.std.specs.Prelude.{◌≡◌, ◌≤◌, ℕ, take, length, Option, Some, None, unwrap_or, Result, Ok, Err}
use Rattle.fsfs_base.specs.Paths.{Path}
use Rattle.fsfs_revision.specs.Told.{RevisionBytes}
use Rattle.fsfs_noderev.specs.declared.node_id.NodeId.{NodeId}
use Rattle.fsfs_noderev.specs.declared.rep.Contents.{Contents}
use Rattle.fsfs_noderev.specs.declared.rep.Contents.TheVariants as contents
use Rattle.fsfs_noderev.specs.declared.node_rev.CopyRoot.{CopyRoot}
use Rattle.fsfs_noderev.specs.declared.node_rev.NodeRev.{NodeRev}
use Rattle.fsfs_revision.specs.Rep.Frames.{rev_of}
use Rattle.fsfs_revision.specs.declared.wrong.Wrong.{Wrong}
use Rattle.fsfs_revision.specs.Shows.Reading.{offset_of, OfId, StandsAt}

-- the revision that a node-revision is of
abbrev pub own_rev : NodeRev → ℕ
own_rev v = (offset_of v.id.place).rev

-- u is the predecessor of v
abbrev pub IsPred : RevisionBytes → NodeRev → NodeRev → Type 0
IsPred look v u = (id : NodeId) × (v.predecessor ≡ Some id) × OfId look id (Ok u)

-- going back along the predecessors gives the revision of the first one, or what is wrong on the way
pub data Chain (look : RevisionBytes) : NodeRev → Result ℕ Wrong → Type 0 where
  First : (v : NodeRev) → v.predecessor ≡ None → Chain look v (Ok (own_rev v))
  Breaks : (v : NodeRev) (id : NodeId) (w : Wrong) → v.predecessor ≡ Some id → OfId look id (Err w) → Chain look v (Err w)
  Goes : (v u : NodeRev) (id : NodeId) (end : Result ℕ Wrong) → v.predecessor ≡ Some id → OfId look id (Ok u) → Chain look u end → Chain look v end

-- the revision and path of a node-revision's copy root: its own revision and created path, unless it names others
abbrev pub root_or_own : NodeRev → Option CopyRoot → ℕ × Path
root_or_own v None = (own_rev v, v.created_path)
root_or_own v (Some root) = (unwrap_or root.rev 0, root.path)

abbrev pub copy_root_of : NodeRev → ℕ × Path
copy_root_of v = root_or_own v v.copy_root

-- `rev` is the greatest copy-root revision of what stands at the path and above it
pub record IsCopiedIn (look : RevisionBytes) (r : ℕ) (p : Path) (rev : ℕ) : Type 0 where
  pub at_most : (k : ℕ) (q : NodeRev) → k ≤ length p → StandsAt look r (take k p) q → (copy_root_of q).0 ≤ rev
  pub some : (k : ℕ) × (q : NodeRev) × (k ≤ length p) × StandsAt look r (take k p) q × ((copy_root_of q).0 ≡ rev)

-- the revision in which the properties that it has were set; 0 where it has none
abbrev pub contents_rev : Option Contents → ℕ
contents_rev None = 0
contents_rev (Some contents.Own) = 0
contents_rev (Some (contents.At rep)) = rev_of rep
