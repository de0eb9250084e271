-- What an edit of a transaction makes of its tree, and where it is refused. (svn_fs.h: svn_fs_make_dir, svn_fs_make_file,
-- svn_fs_delete, svn_fs_copy, svn_fs_apply_text and svn_fs_change_node_prop; the limits are this project's profile.)
use Rattle.std.specs.Prelude.{ℕ, ◌-◌, ◌+◌, Bool, true, false, ◌&&◌, not, nat_le, nat_lt, List, Option, Some, None, is_some, if◌then◌else◌, length, take, drop, ◌++◌, Vec}
use Rattle.std.specs.Global.{Global}
use Rattle.std.specs.Cmp.Lexicographic.{slice_cmp}
use Rattle.std.specs.Ordering.{nat_cmp}
use Rattle.std.specs.BTreeMap.{insert_entry, is_at}
use Rattle.std.specs.Map.{remove_entry}
use Rattle.std.specs.FinMap as map
use Rattle.fsfs_model.specs.declared.flat.edit.Edit.{Edit}
use Rattle.fsfs_model.specs.declared.flat.edit.Edit.TheVariants.{MakeDir, MakeFile, Delete, Copy, PutText, SetProp}
use Rattle.fsfs_model.specs.declared.flat.mark.Mark.{Mark}
use Rattle.fsfs_model.specs.declared.flat.mark.What.TheVariants.{Make, Gone, Text, Prop}
use Rattle.fsfs_base.specs.declared.kind.Kind.{Kind}
use Rattle.fsfs_base.specs.declared.kind.Kind.TheVariants.{File, Dir}
use Rattle.fsfs_base.specs.Paths.{Path, path_cmp, covers, is_root, same_path}
use Rattle.fsfs_tree.specs.Nodes.{Node, TreeFunction, Bytes, empty_node}
use Rattle.fsfs_tree.specs.Entries.{entry_count}

abbrev pub is_dir : Kind → Bool
is_dir File = false
is_dir Dir = true

abbrev pub is_dir_node : Option Node → Bool
is_dir_node None = false
is_dir_node (Some n) = is_dir n.kind

abbrev pub is_file_node : Option Node → Bool
is_file_node None = false
is_file_node (Some n) = not (is_dir n.kind)

-- the kind of what stands there
abbrev pub kind_of_node : Option Node → Kind
kind_of_node None = Dir
kind_of_node (Some n) = n.kind

-- the path without its last name
abbrev pub parent : Path → Path
parent p = take (length p - 1) p

-- what comes after a path's first names
abbrev pub rest_after : Path → Path → Path
rest_after p q = drop (length p) q

-- nothing stands at the path, and its parent is a directory
abbrev pub can_make : TreeFunction → Path → Bool
can_make t p = not (is_root p) && not (is_some (t p)) && is_dir_node (t (parent p))

-- the tree with this node at the path
abbrev pub with_node : TreeFunction → Path → Option Node → TreeFunction
with_node t p node q = if same_path q p then node else t q

-- the tree without the path and all below it
abbrev pub without : TreeFunction → Path → TreeFunction
without t p q = if covers p q then None else t q

-- a copy of what stands at a path of a revision
abbrev pub copied_node : ℕ → Path → Option Node → Option Node
copied_node r from None = None
copied_node r from (Some n) = Some (record n { source = Some (r, from) })

-- the tree with a copy of what the tree `of` of revision r has at and below `from`, put at `to`
abbrev pub with_copy : TreeFunction → ℕ → TreeFunction → Path → Path → TreeFunction
with_copy t r of from to q = if covers to q then copied_node r (from ++ rest_after to q) (of (from ++ rest_after to q)) else t q

abbrev pub with_text : List ℕ → Option Node → Option Node
with_text text None = None
with_text text (Some n) = Some (record n { text = Bytes text })

-- the properties with this value under the name, or without the name
abbrev pub changed_props : List ℕ → Option (List ℕ) → List (List ℕ × List ℕ) → List (List ℕ × List ℕ)
changed_props name None properties = remove_entry (is_at (slice_cmp nat_cmp name)) properties
changed_props name (Some value) properties = insert_entry (slice_cmp nat_cmp) properties name value

abbrev pub with_prop : List ℕ → Option (List ℕ) → Option Node → Option Node
with_prop name value None = None
with_prop name value (Some n) = Some (record n { properties = changed_props name value n.properties })

abbrev pub bytes_of : Option (Vec ℕ Global) → Option (List ℕ)
bytes_of None = None
bytes_of (Some value) = Some value.items

abbrev pub fits_value : Option (List ℕ) → Bool
fits_value None = true
fits_value (Some value) = nat_le (length value) 1048576

-- the edit is not refused, but for a limit: `tree` gives the trees of the revisions 0 to last, and t is the transaction's
abbrev pub accepts : Edit → (ℕ → TreeFunction) → ℕ → TreeFunction → Bool
accepts (MakeDir path) tree last t = can_make t path
accepts (MakeFile path) tree last t = can_make t path
accepts (Delete path) tree last t = not (is_root path) && is_some (t path)
accepts (Copy rev from to) tree last t = can_make t to && nat_le rev last && is_some (tree rev from)
accepts (PutText path text) tree last t = is_file_node (t path)
accepts (SetProp path name value) tree last t = is_some (t path)

-- the tree after the edit
abbrev pub applied : Edit → (ℕ → TreeFunction) → TreeFunction → TreeFunction
applied (MakeDir path) tree t = with_node t path (Some (empty_node Dir))
applied (MakeFile path) tree t = with_node t path (Some (empty_node File))
applied (Delete path) tree t = without t path
applied (Copy rev from to) tree t = with_copy t rev (tree rev) from to
applied (PutText path text) tree t = with_node t path (with_text text.items (t path))
applied (SetProp path name value) tree t = with_node t path (with_prop name (bytes_of value) (t path))

-- the mark that the edit adds
abbrev pub mark_of : Edit → (ℕ → TreeFunction) → TreeFunction → Mark
mark_of (MakeDir path) tree t = record { path = path; kind = Dir; what = Make None }
mark_of (MakeFile path) tree t = record { path = path; kind = File; what = Make None }
mark_of (Delete path) tree t = record { path = path; kind = kind_of_node (t path); what = Gone }
mark_of (Copy rev from to) tree t = record { path = to; kind = kind_of_node (tree rev from); what = Make (Some (rev, from)) }
mark_of (PutText path text) tree t = record { path = path; kind = kind_of_node (t path); what = Text }
mark_of (SetProp path name value) tree t = record { path = path; kind = kind_of_node (t path); what = Prop }

-- no more entries than 2 ^ 20 in a directory, no longer property than 2 ^ 20 bytes and no longer text than 2 ^ 30
abbrev pub within_limits : Edit → map.FinMap path_cmp Node → Bool
within_limits (MakeDir path) tree = nat_lt (entry_count tree (parent path)) 1048576
within_limits (MakeFile path) tree = nat_lt (entry_count tree (parent path)) 1048576
within_limits (Delete path) tree = true
within_limits (Copy rev from to) tree = nat_lt (entry_count tree (parent to)) 1048576
within_limits (PutText path text) tree = nat_le (length text.items) 1073741824
within_limits (SetProp path name value) tree = fits_value (bytes_of value)
