-- The texts of the files that are written whole.
use Rattle.std.specs.Prelude.{◌≡◌, ℕ, List, ◌++◌, take}
use Rattle.fsfs_noderev.specs.NodeRevs.{IsRead}
use Rattle.fsfs_noderev.specs.Writing.{IsWritten}
use Rattle.fsfs_noderev.specs.declared.node_rev.NodeRev.{NodeRev}
use Rattle.fsfs_layout.specs.Hash.Dump.{IsDump, dump_text}

-- its lines in order, which read back as it, whatever stands behind
pub record IsNodeFile (node : NodeRev) (text : List ℕ) : Type 0 where
  pub lines : IsWritten text node
  pub reads_back : (rest : List ℕ) → IsRead (take 65536 (text ++ rest)) node

-- the dump of these pairs, in byte order of their names
pub record ArePropsOf (pairs : List (List ℕ × List ℕ)) (text : List ℕ) : Type 0 where
  pub text_is : text ≡ dump_text pairs
  pub dump : IsDump text pairs
