-- What the items of a transaction come to, path by path: one item at most. (The libsvn_fs_fs structure file, "Revision file format",
-- on changed-path data; the pairs of changes are folded as libsvn_fs_fs folds them.)
use Rattle.std.specs.Prelude.{◌||◌, ◌&&◌, List, [], ◌∷◌, ℕ, Option, Some, None, if◌then◌else◌}
use Rattle.fsfs_base.specs.declared.action.Action.{Action}
use Rattle.fsfs_base.specs.declared.action.Action.TheVariants.{Add, Delete, Replace, Modify}
use Rattle.fsfs_base.specs.Paths.{Path, covers, same_path, path_text}
use Rattle.fsfs_base.specs.PathTexts.{IsPath}
use Rattle.fsfs_noderev.specs.declared.changes.item.ChangeItem.{ChangeItem}
use Rattle.fsfs_model.specs.Flat.Folding.{deletes}

-- its path is within the limits of paths
abbrev pub HasPath : ChangeItem → Type 0
HasPath item = IsPath item.path

abbrev pub text_of : ChangeItem → List ℕ
text_of item = path_text item.path

-- what is said of a path so far; where that is a delete or a replace, `was` names what the first delete took away
pub record FoldedItem : Type 0 where
  pub item : ChangeItem
  pub was : ChangeItem

-- an item, with none before it
abbrev pub begun : ChangeItem → FoldedItem
begun item = record { item = item; was = item }

-- a delete after an item: an add and its delete leave nothing, and of a replace the first delete is left
abbrev pub after_delete : Action → FoldedItem → ChangeItem → Option FoldedItem
after_delete Add f item = None
after_delete Modify f item = Some (begun item)
after_delete Replace f item = Some (record { item = record item { id = f.was.id; kind = f.was.kind }; was = f.was })
after_delete Delete f item = Some (begun item)

-- an add after an item: after a delete it is a replace
abbrev pub after_add : Action → FoldedItem → ChangeItem → FoldedItem
after_add Delete f item = record { item = record item { action = Replace }; was = f.was }
after_add Add f item = begun item
after_add Modify f item = begun item
after_add Replace f item = begun item

-- the item with the flags of a further one too
abbrev pub flagged : FoldedItem → ChangeItem → FoldedItem
flagged f item = record f { item = record f.item { text_changed = f.item.text_changed || item.text_changed; props_changed = f.item.props_changed || item.props_changed } }

-- a modify after an item
abbrev pub after_modify : Action → FoldedItem → ChangeItem → FoldedItem
after_modify Delete f item = begun item
after_modify Add f item = flagged f item
after_modify Replace f item = flagged f item
after_modify Modify f item = flagged f item

-- by the action of the later item. (No transaction has an item after one that leaves no room for it; the later one stands then.)
abbrev pub joined_by : Action → FoldedItem → ChangeItem → Option FoldedItem
joined_by Add f item = Some (after_add f.item.action f item)
joined_by Delete f item = after_delete f.item.action f item
joined_by Modify f item = Some (after_modify f.item.action f item)
joined_by Replace f item = Some (begun item)

-- what was said of a path, and one more item of that path
abbrev pub joined : Option FoldedItem → ChangeItem → Option FoldedItem
joined None item = Some (begun item)
joined (Some f) item = joined_by item.action f item

-- what is said of the path q after one more item: a delete takes away what was said of the paths below it
abbrev pub fold_item : Path → Option FoldedItem → ChangeItem → Option FoldedItem
fold_item q o item = if same_path item.path q then joined o item else (if deletes item.action && covers item.path q then None else o)

abbrev pub fold_items_from : Path → Option FoldedItem → List ChangeItem → Option FoldedItem
fold_items_from q o [] = o
fold_items_from q o (item ∷ items) = fold_items_from q (fold_item q o item) items

abbrev pub item_in : Option FoldedItem → Option ChangeItem
item_in None = None
item_in (Some f) = Some f.item

-- the item of a path that the items come to, if any
abbrev pub fold_items : List ChangeItem → Path → Option ChangeItem
fold_items items q = item_in (fold_items_from q None items)

-- the item of a path among some
abbrev pub item_at : List ChangeItem → Path → Option ChangeItem
item_at [] q = None
item_at (item ∷ items) q = if same_path item.path q then Some item else item_at items q
