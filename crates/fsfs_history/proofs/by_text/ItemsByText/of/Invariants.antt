use Rattle.std.proofs.Common.{◌≡◌, length}
use Rattle.std.specs.Vec.Iter.{into_iter_items, into_iter_len}
use Rattle.fsfs_base.specs.Paths.{path_text}
use Rattle.fsfs_noderev.specs.declared.changes.item.ChangeItem.{ChangeItem}
use Rattle.fsfs_tree.specs.ChangedTexts.{put_by}
use Rattle.fsfs_stands.specs.ChangedTexts.{by_text}
use Rattle.fsfs_history.specs.Views.{by_text_value}
use Rattle.fsfs_history.proofs.by_text.ItemsByText.of.Given as goal

-- with those that are left put too they are all
abbrev pub invariant-loop-item : goal.invariant-loop-item
invariant-loop-item l = record {
  long : into_iter_len l.item-iterator ≡ length (into_iter_items l.item-iterator);
  put : put_by (λ (item : ChangeItem). path_text item.path) (by_text_value l.found) (into_iter_items l.item-iterator) ≡ by_text l.fn.items.items;
}
