-- The text of a tree: a line for each node, parents first, names in the order of their bytes. (It is the text of Subversion's own
-- `svnlook tree`.)
use Rattle.std.specs.Prelude.{ℕ, List, [], ◌∷◌, ◌++◌, ◌-◌, replicate, length, codes}
use Rattle.std.specs.List.{flat_map}
use Rattle.std.specs.FinMap.{FinMap, entries, retain_keys}
use Rattle.fsfs_base.specs.declared.kind.Kind.{Kind}
use Rattle.fsfs_base.specs.declared.kind.Kind.TheVariants.{File, Dir}
use Rattle.fsfs_base.specs.Paths.{Path, path_cmp, covers}
use Rattle.fsfs_tree.specs.Nodes.{Node}

abbrev pub last_name : Path → List ℕ
last_name [] = []
last_name (name ∷ []) = name
last_name (name ∷ next ∷ names) = last_name (next ∷ names)

abbrev pub kind_mark : Kind → List ℕ
kind_mark File = []
kind_mark Dir = codes "/"

-- a space for each level below the path, the last name, `/` for a directory, and what is shown behind it
abbrev pub tree_line : (Path → List ℕ) → Path → Path × Node → List ℕ
tree_line shown top e = replicate (length e.0 - length top) 32 ++ last_name e.0 ++ kind_mark e.1.kind ++ shown e.0 ++ codes "\n"

-- of the nodes at the path and below it, in the order of their paths
abbrev pub tree_text : (Path → List ℕ) → Path → FinMap path_cmp Node → List ℕ
tree_text shown top tree = flat_map (tree_line shown top) (entries (retain_keys tree (covers top)))
