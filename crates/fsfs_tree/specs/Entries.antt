-- The entries of a directory of a tree.
use Rattle.std.specs.Prelude.{ℕ, ◌+◌, nat_eq, Bool, ◌&&◌, length}
use Rattle.std.specs.List.{filter}
use Rattle.std.specs.FinMap as map
use Rattle.fsfs_base.specs.Paths.{Path, path_cmp, covers}
use Rattle.fsfs_tree.specs.Nodes.{Node}

-- q is one name below the path
abbrev pub is_entry : Path → Path → Bool
is_entry p q = covers p q && nat_eq (length q) (length p + 1)

-- how many entries a directory of the tree has
abbrev pub entry_count : map.FinMap path_cmp Node → Path → ℕ
entry_count tree p = length (filter (is_entry p) (map.keys tree))
