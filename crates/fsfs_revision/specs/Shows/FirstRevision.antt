-- The tree that the bytes of revision 0 of a new repository show.
use Rattle.std.specs.Prelude.{[], ◌∷◌, Some, None}
use Rattle.fsfs_tree.specs.Nodes.{TreeFunction, empty_node}
use Rattle.fsfs_base.specs.declared.kind.Kind.TheVariants.{Dir}

-- `/` alone, without properties and source, all numbers 0
abbrev pub first_tree : TreeFunction
first_tree [] = Some (empty_node Dir)
first_tree (name ∷ names) = None
