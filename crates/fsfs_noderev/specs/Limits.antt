-- Paths past their limits, and what has such a path.
use Rattle.std.specs.Prelude.{◌<◌, Bool, ◌&&◌, is_some, length, Option, Some, None}
use Rattle.std.specs.List.{AllByRecursion}
use Rattle.fsfs_base.specs.Paths.{Path, path_text}
use Rattle.fsfs_base.specs.PathTexts.{IsName, IsPath}
use Rattle.fsfs_noderev.specs.Writing.{FitsSource}
use Rattle.fsfs_noderev.specs.declared.node_rev.CopySource.{CopySource}
use Rattle.fsfs_noderev.specs.declared.node_rev.CopyRoot.{CopyRoot}
use Rattle.fsfs_noderev.specs.declared.node_rev.NodeRev.{NodeRev}
use Rattle.fsfs_noderev.specs.Changes.Words.{flags_fit}
use Rattle.fsfs_noderev.specs.declared.changes.item.ChangeItem.{ChangeItem}
use Rattle.fsfs_noderev.specs.declared.limits.limit.PathLimit.{PathLimit}
use Rattle.fsfs_noderev.specs.declared.limits.limit.PathLimit.TheVariants as limits
use Rattle.fsfs_noderev.specs.declared.limits.limit.LimitError.{LimitError}
use Rattle.fsfs_noderev.specs.declared.limits.limit.LimitError.TheVariants as errors

abbrev pub IsPast : PathLimit → Path → Type 0
IsPast limits.Names p = 128 < length p
IsPast limits.Bytes p = 4096 < length (path_text p)
IsPast limits.Name p = ¬ AllByRecursion IsName p

abbrev pub IsSourcePast : PathLimit → Option CopySource → Type 0
IsSourcePast limit None = ⊥
IsSourcePast limit (Some s) = IsPast limit s.path

abbrev pub IsRootPast : PathLimit → Option CopyRoot → Type 0
IsRootPast limit None = ⊥
IsRootPast limit (Some r) = IsPast limit r.path

-- one of the paths of a node-revision is
pub data IsNodePast (limit : PathLimit) (v : NodeRev) : Type 0 where
  Created : IsPast limit v.created_path → IsNodePast limit v
  CopiedFrom : IsSourcePast limit v.copy_from → IsNodePast limit v
  CopyRootOf : IsRootPast limit v.copy_root → IsNodePast limit v

-- one of the paths of an item is
pub data IsItemPast (limit : PathLimit) (item : ChangeItem) : Type 0 where
  Changed : IsPast limit item.path → IsItemPast limit item
  Source : IsSourcePast limit item.source → IsItemPast limit item

-- none of the paths of an item is
pub record HasPaths (item : ChangeItem) : Type 0 where
  pub path : IsPath item.path
  pub source : FitsSource item.source

-- it tells its kind, and has no flag in a delete
abbrev pub is_told : ChangeItem → Bool
is_told item = is_some item.kind && flags_fit item.action item.text_changed item.props_changed

-- a fact of the limit, where a path is past it
abbrev pub IfPast : (PathLimit → Type 0) → LimitError → Type 0
IfPast P errors.OutOfMemory = Unit {0}
IfPast P (errors.Past limit) = P limit
