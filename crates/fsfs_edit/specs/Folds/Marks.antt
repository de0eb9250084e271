-- Items and the marks of the flat model: an edit leaves one of each.
use Rattle.std.specs.Prelude.{◌≡◌, Option, Some, None, option_map}
use Rattle.fsfs_model.specs.declared.flat.mark.Mark.{Mark}
use Rattle.fsfs_model.specs.Flat.Folding.{change_of}
use Rattle.fsfs_tree.specs.declared.change_map.Change.{Change}
use Rattle.fsfs_noderev.specs.declared.changes.item.ChangeItem.{ChangeItem}

-- the item tells this change of its path
pub record Tells (item : ChangeItem) (change : Change) : Type 0 where
  pub action : item.action ≡ change.action
  pub kind : item.kind ≡ Some change.kind
  pub text_changed : item.text_changed ≡ change.text_changed
  pub props_changed : item.props_changed ≡ change.props_changed
  pub source : option_map (λ s. (s.rev, s.path)) item.source ≡ change.source

-- the item of the `changes` file that stands for a mark
pub record SaysMark (item : ChangeItem) (mark : Mark) : Type 0 where
  pub path : item.path ≡ mark.path
  pub change : Tells item (change_of mark.kind mark.what)

-- there is an item exactly where there is a change, which it tells
abbrev pub AgreesWith : Option ChangeItem → Option Change → Type 0
AgreesWith None None = Unit {0}
AgreesWith None (Some change) = ⊥
AgreesWith (Some item) None = ⊥
AgreesWith (Some item) (Some change) = Tells item change
