-- Entries in a tree, by the byte order of their names.
use Rattle.std.specs.Prelude.{◌≡◌, Bool, true, ◌&&◌, List, ◌++◌, Option}
use Rattle.fsfs_base.specs.Paths.{PathName}
use Rattle.fsfs_revision.specs.Shows.Reading.{DirEntry}
use Rattle.fsfs_dag.specs.Views.{entry_values}
use Rattle.fsfs_dag.specs.declared.listing.target.Target.{Target}
use Rattle.fsfs_dag.specs.declared.listing.tree.Tree.{Tree}
use Rattle.fsfs_dag.specs.declared.listing.tree.Tree.TheVariants.{Leaf, Branch'}
use Rattle.fsfs_dag.specs.Listing.Lists.{all_names, is_below, is_from, IsChangedList, IsSameList}
use Rattle.fsfs_dag.specs.Listing.Targets.{target_entry}

-- the entries, from the lowest names on
abbrev pub values : Tree → List DirEntry
values (Leaf entries) = entry_values entries.items
values (Branch' p low middle q high count) = values low ++ values high

-- each branch has on its low side the names below its own, and the others on its high side
abbrev pub is_sorted : Tree → Bool
is_sorted (Leaf entries) = true
is_sorted (Branch' p low middle q high count) = (all_names (is_below middle.items) (values low) && all_names (is_from middle.items) (values high)) && (is_sorted low && is_sorted high)

-- the same of the sides of one
abbrev pub sorted_sides : PathName → Tree → Tree → Bool
sorted_sides middle low high = (all_names (is_below middle) (values low) && all_names (is_from middle) (values high)) && (is_sorted low && is_sorted high)

-- a tree of these entries
pub record HasEntries (entries : List DirEntry) (tree : Tree) : Type 0 where
  pub sorted : is_sorted tree ≡ true
  pub same : IsSameList entries (values tree)

-- a tree of just these entries, in their order
pub record IsTreeOf (entries : List DirEntry) (tree : Tree) : Type 0 where
  pub sorted : is_sorted tree ≡ true
  pub all : values tree ≡ entries

-- the tree with this behind a name, or with nothing
pub record IsChangedTree (old new : Tree) (name : PathName) (target : Option Target) : Type 0 where
  pub sorted : is_sorted new ≡ true
  pub changed : IsChangedList (values old) (values new) name (target_entry name target)
