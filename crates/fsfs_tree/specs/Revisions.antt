-- A revision: its tree, its changed paths and its properties; and the list of them. (The libsvn_fs_fs structure file, "Layout of the
-- FS directory": a revision file and a revision-property file for each number.)
use Rattle.std.specs.Prelude.{ℕ, List, Option, Some, None, slice_get}
use Rattle.std.specs.FinMap.{FinMap, get}
use Rattle.fsfs_tree.specs.declared.change_map.Change.{Change}
use Rattle.fsfs_base.specs.Paths.{path_cmp}
use Rattle.fsfs_tree.specs.Nodes.{Node, TreeFunction}

pub record Revision : Type 0 where
  pub tree : FinMap path_cmp Node
  pub changes : FinMap path_cmp Change
  -- names and values, by the names' bytes
  pub properties : List (List ℕ × List ℕ)

-- what stands at a path of a revision, if there is one
abbrev pub node_in : Option Revision → TreeFunction
node_in None p = None
node_in (Some revision) p = get revision.tree p

-- the tree of revision r as a function, and nothing where there is no such revision: the revisions are counted from 0
abbrev pub tree_of : List Revision → ℕ → TreeFunction
tree_of revisions r = node_in (slice_get revisions r)
