-- What is appended to a revision's bytes is read again where it stands.
use Rattle.std.specs.Prelude.{◌≡◌, ◌≤◌, ℕ, true, List, ◌++◌, length, drop, None, Ok, codes}
use Rattle.md5.specs.Md5.{md5}
use Rattle.fsfs_noderev.specs.NodeRevs.{IsNodeRev}
use Rattle.fsfs_noderev.specs.declared.rep.Rep.{Rep}
use Rattle.fsfs_noderev.specs.declared.node_rev.NodeRev.{NodeRev}
use Rattle.fsfs_revision.specs.Nodes.{IsNodeAt, is_of_revision, is_ordered}
use Rattle.fsfs_revision.specs.Damage.Damages.{place_of}
use Rattle.fsfs_revision.specs.Rep.Frames.{RepIn}

pub record PiecesAreRead : Type 0 where
  -- a node-revision, behind what came before
  pub node : (n : ℕ) (front text back : List ℕ) (v : NodeRev) → IsNodeRev text v → length text ≤ 65536 → is_of_revision v ≡ true → is_ordered (place_of n (length front)) v ≡ true
      → IsNodeAt (place_of n (length front)) (drop (length front) (front ++ (text ++ back))) v
  -- a list of a directory or of properties
  pub rep : (rep : Rep) (front text back : List ℕ) → rep.offset ≡ length front → rep.length ≡ length text → rep.size ≡ length text → rep.md5.bytes ≡ md5 text → rep.unique ≡ None
      → RepIn rep (front ++ (codes "PLAIN\n" ++ (text ++ (codes "ENDREP\n" ++ back)))) (Ok text)
