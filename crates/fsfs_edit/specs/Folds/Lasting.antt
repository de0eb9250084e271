-- The items that no later delete takes away, and what these say alone.
use Rattle.std.specs.Prelude.{ℕ, Bool, false, ◌||◌, ◌&&◌, List, [], ◌∷◌, Option, if◌then◌else◌}
use Rattle.std.specs.List.{list_any}
use Rattle.std.specs.Str.{bytes_eq}
use Rattle.fsfs_base.specs.Paths.{Path, is_above, same_path, names_text}
use Rattle.fsfs_noderev.specs.declared.changes.item.ChangeItem.{ChangeItem}
use Rattle.fsfs_edit.specs.Folds.FoldedItems.{FoldedItem, joined}
use Rattle.fsfs_model.specs.Flat.Folding.{deletes}

-- f holds of a path above p
abbrev pub any_above : (Path → Bool) → Path → Bool
any_above f [] = false
any_above f (x ∷ p) = f [] || any_above (λ q. f (x ∷ q)) p

-- an item deletes what is above the path
abbrev pub is_deleted_above : Path → List ChangeItem → Bool
is_deleted_above p items = list_any (λ item. deletes item.action && is_above item.path p) items

-- an item deletes what is at the path
abbrev pub is_deleted_at : Path → List ChangeItem → Bool
is_deleted_at p items = list_any (λ item. deletes item.action && same_path item.path p) items

-- the same of a path's key, once one more item was looked at
abbrev pub is_deleted_after : List ℕ → ChangeItem → Bool → Bool
is_deleted_after key item was = (deletes item.action && bytes_eq (names_text item.path) key) || was

-- the items behind which nothing above their path is deleted
abbrev pub lasting : List ChangeItem → List ChangeItem
lasting [] = []
lasting (item ∷ items) = if is_deleted_above item.path items then lasting items else item ∷ lasting items

-- what is said of a path, by its key, after one more item
abbrev pub say_by_key : List ℕ → Option FoldedItem → ChangeItem → Option FoldedItem
say_by_key key o item = if bytes_eq (names_text item.path) key then joined o item else o

abbrev pub say_all_by_key : List ℕ → Option FoldedItem → List ChangeItem → Option FoldedItem
say_all_by_key key o [] = o
say_all_by_key key o (item ∷ items) = say_all_by_key key (say_by_key key o item) items
