-- The bytes of a revision 1 that made the directory `/a`, and the tree that they show.
use Rattle.std.specs.Prelude.{ℕ, List, [], ◌∷◌, Some, None, if◌then◌else◌, codes}
use Rattle.fsfs_base.specs.Paths.{PathName, same_name}
use Rattle.fsfs_tree.specs.Nodes.{Node, TreeFunction, empty_node}
use Rattle.fsfs_base.specs.declared.kind.Kind.TheVariants.{Dir}

-- the node-revision of `/a`, the root's entries, the root's node-revision, the changed path, the trailer
abbrev pub directory_bytes : List ℕ
directory_bytes = codes "id: 0-1.0.r1/0\ntype: dir\ncount: 0\ncpath: /a\ncopyroot: 0 /\n\nPLAIN\nK 1\na\nV 14\ndir 0-1.0.r1/0\nEND\nENDREP\nid: 0.0.r1/102\ntype: dir\npred: 0.0.r0/17\ncount: 1\ntext: 1 59 30 30 63880cd9dea1c72f787be697eaf2f7b4\ncpath: /\ncopyroot: 0 /\n\n0-1.0.r1/0 add-dir false false /a\n\n\n102 226\n"

abbrev pub a_name : PathName
a_name = codes "a"

-- `/` was there, and was changed in revision 1
abbrev pub changed_root : Node
changed_root = record (empty_node Dir) { last_changed = 1 }

-- `/a` was added in revision 1
abbrev pub added_directory : Node
added_directory = record (empty_node Dir) { added = 1; props_changed = 1; last_changed = 1 }

abbrev pub directory_tree : TreeFunction
directory_tree [] = Some changed_root
directory_tree (name ∷ []) = if same_name a_name name then Some added_directory else None
directory_tree (name ∷ next ∷ names) = None
