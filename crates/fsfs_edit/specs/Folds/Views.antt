-- What the code keeps of a path, as a folded item.
use Rattle.std.specs.Prelude.{List, [], ◌∷◌, ◌++◌, Option, Some, None}
use Rattle.fsfs_noderev.specs.declared.changes.item.ChangeItem.{ChangeItem}
use Rattle.fsfs_edit.specs.Folds.FoldedItems.{FoldedItem}
use Rattle.fsfs_edit.specs.declared.folds.said.Said.{Said}

abbrev pub said_value : Said → FoldedItem
said_value s = record {
  item = record s.item.now { id = s.named.now.id; action = s.action; kind = s.named.now.kind; text_changed = s.text_changed; props_changed = s.props_changed };
  was = s.was.now;
}

-- what a map has at a key: a key without a value, and none, say nothing
abbrev pub told : Option (Option Said) → Option FoldedItem
told None = None
told (Some None) = None
told (Some (Some s)) = Some (said_value s)

-- the item of a value, if something is said
abbrev pub items_of_one : Option Said → List ChangeItem
items_of_one None = []
items_of_one (Some s) = (said_value s).item ∷ []

abbrev pub items_told : List (Option Said) → List ChangeItem
items_told [] = []
items_told (o ∷ os) = items_of_one o ++ items_told os
