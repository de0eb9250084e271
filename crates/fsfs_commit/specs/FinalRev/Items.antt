-- The changed paths of a new revision, made of a transaction's items.
use Rattle.std.specs.Prelude.{◌≡◌, ◌≤◌, false, List, [], All, length, map, Any}
use Rattle.std.specs.List.{AllZip}
use Rattle.std.specs.List.Sorted.{IsStrictlySortedBy}
use Rattle.std.specs.Ordering.{nat_cmp}
use Rattle.std.specs.Cmp.Lexicographic.{slice_cmp}
use Rattle.fsfs_base.specs.Paths.{Path}
use Rattle.fsfs_base.specs.declared.action.Action.{Action}
use Rattle.fsfs_base.specs.declared.action.Action.TheVariants.{Add, Delete, Replace, Modify}
use Rattle.fsfs_base.specs.declared.fields.txn_name.TxnName.{TxnName}
use Rattle.fsfs_model.specs.declared.flat.mark.Mark.{Mark}
use Rattle.fsfs_model.specs.Flat.Folding.{fold}
use Rattle.fsfs_noderev.specs.declared.node_id.NodeId.{NodeId}
use Rattle.fsfs_noderev.specs.declared.node_id.Place.TheVariants as places
use Rattle.fsfs_noderev.specs.Changes.Items.{HasText}
use Rattle.fsfs_noderev.specs.Changes.Texts.{HavePathsOnce}
use Rattle.fsfs_noderev.specs.declared.changes.item.ChangeItem.{ChangeItem}
use Rattle.fsfs_noderev.specs.Limits.{IsItemPast, is_told}
use Rattle.fsfs_noderev.specs.declared.limits.limit.PathLimit.{PathLimit}
use Rattle.fsfs_edit.specs.Folds.FoldedItems.{fold_items, item_at, text_of}
use Rattle.fsfs_edit.specs.Folds.Marks.{SaysMark, AgreesWith}
use Rattle.fsfs_final.specs.Pieces.Naming.{FinalIds, final_item}

-- a delete names what it took away, any other item a node-revision of the transaction
abbrev pub own_id : Action → TxnName → NodeId → NodeId
own_id Delete txn id = id
own_id Add txn id = record id { place = places.In txn }
own_id Replace txn id = record id { place = places.In txn }
own_id Modify txn id = record id { place = places.In txn }

abbrev pub own_item : TxnName → ChangeItem → ChangeItem
own_item txn item = record item { id = own_id item.action txn item.id }

-- by its id in the revision, where one is known of the path
abbrev pub told_item : TxnName → FinalIds → ChangeItem → ChangeItem
told_item txn ids item = final_item ids (own_item txn item)

-- what the items come to, path by path, in byte order of the paths' texts
pub record AreFinalItems (txn : TxnName) (items : List ChangeItem) (ids : FinalIds) (told : List ChangeItem) : Type 0 where
  pub folded : List ChangeItem
  pub each : (p : Path) → item_at folded p ≡ fold_items items p
  pub marks : (marks : List Mark) → AllZip SaysMark items marks → (p : Path) → AgreesWith (item_at folded p) (fold marks p)
  pub told_are : told ≡ map (told_item txn ids) folded
  pub fewer : length told ≤ length items
  pub rising : IsStrictlySortedBy (slice_cmp nat_cmp) (map text_of told)
  pub once : HavePathsOnce [] told
  pub text : All HasText told

-- ---- what has no text

-- it tells no kind, or is a delete with a flag
abbrev pub IsUntold : ChangeItem → Type 0
IsUntold item = is_told item ≡ false

abbrev pub IsOneUntold : List ChangeItem → Type 0
IsOneUntold items = Any IsUntold items

-- a path of one of them is past this limit
abbrev pub IsOneItemPast : PathLimit → List ChangeItem → Type 0
IsOneItemPast limit items = Any (IsItemPast limit) items
