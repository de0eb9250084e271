-- The directories that a merge writes.
use Rattle.std.specs.Prelude.{◌≡◌, ◌⊎◌, ◌++◌, true, List, [], ◌∷◌, Some, None}
use Rattle.std.specs.List.{AllByRecursion}
use Rattle.fsfs_base.specs.Paths.{PathName, Path}
use Rattle.fsfs_noderev.specs.declared.node_rev.NodeRev.{NodeRev}
use Rattle.fsfs_revision.specs.Shows.Reading.{named}
use Rattle.fsfs_dag.specs.Views.{entry_values}
use Rattle.fsfs_draft.specs.OwnSides.{NodesAt}
use Rattle.fsfs_draft.specs.Tied.{IsListed}
use Rattle.fsfs_merge.specs.declared.sight.Sight.{Sight}
use Rattle.fsfs_merge.specs.MergeLaws.{is_merged, landed_nodes}
use Rattle.fsfs_merge.specs.declared.clash.merged.MergedDir.{MergedDir}
use Rattle.fsfs_merge.specs.Clash.Lists.{target_named, link_of}
use Rattle.fsfs_merge.specs.Clash.Points.{Point, IsMet}
use Rattle.fsfs_merge.specs.Clash.Threes.{merged_target}

-- of one of the list
abbrev pub OneIs : {X : Type 0} → (X → Type 0) → List X → Type 0
OneIs P [] = ⊥
OneIs P (x ∷ xs) = P x ⊎ OneIs P xs

-- ---- by what is seen

-- the directory at a path through which the merge goes, with what is there after it
pub record IsMergedDir (see : Path → Point) (p : Path) (dir : MergedDir) : Type 0 where
  pub met : IsMet see p
  pub goes : (see p).halt ≡ None
  pub link : (see p).link ≡ Some dir.link
  pub entries : (name : PathName) → target_named (entry_values dir.entries.items) name ≡ merged_target (see (p ++ name ∷ [])).three

abbrev pub AreMergedDirs : (Path → Point) → List MergedDir → Type 0
AreMergedDirs see = AllByRecursion (λ dir. (p : Path) × IsMergedDir see p dir)

-- all of them, and no other
pub record ArePlan (see : Path → Point) (dirs : List MergedDir) : Type 0 where
  pub each : AreMergedDirs see dirs
  pub all : (p : Path) → IsMet see p → (see p).halt ≡ None → OneIs (IsMergedDir see p) dirs

-- ---- by the node-revisions

pub record IsPlanned (see : Path → Sight) (head met : NodesAt) (p : Path) (dir : MergedDir) : Type 0 where
  pub merged : is_merged see p ≡ true
  pub y : NodeRev
  pub v : NodeRev
  pub head_is : head p ≡ Some y
  pub own_is : met p ≡ Some v
  pub link : dir.link ≡ link_of y v.id
  pub listed : (name : PathName) → IsListed (named name (entry_values dir.entries.items)) (landed_nodes see head met (p ++ name ∷ []))

pub record ArePlanned (see : Path → Sight) (head met : NodesAt) (dirs : List MergedDir) : Type 0 where
  pub each : AllByRecursion (λ dir. (p : Path) × IsPlanned see head met p dir) dirs
  pub all : (p : Path) → is_merged see p ≡ true → OneIs (IsPlanned see head met p) dirs
