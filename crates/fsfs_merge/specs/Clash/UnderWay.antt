-- A walk that is under way.
use Rattle.std.specs.Prelude.{◌≡◌, ◌⊎◌, ◌++◌, ◌∷◌, true, List, [], Option, Some, None, Result, Ok, Err}
use Rattle.std.specs.declared.vec.Vec.{Vec}
use Rattle.std.specs.declared.alloc.Global.{Global}
use Rattle.std.specs.List.{AllByRecursion, list_any}
use Rattle.std.specs.declared.cmp.Ordering.TheVariants.{Less}
use Rattle.fsfs_base.specs.Paths.{PathName, Path, path_cmp, covers}
use Rattle.fsfs_revision.specs.declared.wrong.ReadError.{ReadError}
use Rattle.fsfs_revision.specs.declared.wrong.ReadError.TheVariants as errors
use Rattle.fsfs_merge.specs.declared.sight.Sight.{Sight}
use Rattle.fsfs_merge.specs.Walks.{clashes_by_ids}
use Rattle.fsfs_merge.specs.FirstStops.{NoStop, FirstStop}
use Rattle.fsfs_dag.specs.Views.{entry_values}
use Rattle.fsfs_merge.specs.declared.clash.turn.Halt.{Halt}
use Rattle.fsfs_merge.specs.declared.clash.turn.Halt.TheVariants as halts
use Rattle.fsfs_merge.specs.declared.clash.entries.Sides.{Sides}
use Rattle.fsfs_merge.specs.declared.clash.walk.Pending.{Pending}
use Rattle.fsfs_merge.specs.declared.clash.walk.Found.{Found}
use Rattle.fsfs_merge.specs.declared.clash.walk.Progress.{Progress}
use Rattle.fsfs_merge.specs.declared.clash.walk.Merge.{Merge}
use Rattle.fsfs_merge.specs.declared.clash.walk.Merge.TheVariants as merges
use Rattle.fsfs_merge.specs.declared.clash.merged.MergedDir.{MergedDir}
use Rattle.fsfs_merge.specs.Clash.Lists.{Lists, target_named, three_in, AreAllListed}
use Rattle.fsfs_merge.specs.Clash.Plans.{OneIs, IsMergedDir, AreMergedDirs, ArePlan}
use Rattle.fsfs_merge.specs.Clash.Points.{Point, sights_of, IsMet}
use Rattle.fsfs_merge.specs.Clash.Threes.{merged_target}
use Rattle.fsfs_merge.specs.Clash.Walks.{opened}

-- it stands there, and the walk comes to it
pub record IsPending (see : Path → Point) (p : Pending) : Type 0 where
  pub three : p.three ≡ (see p.path).three
  pub met : IsMet see p.path

abbrev pub ArePending : (Path → Point) → List Pending → Type 0
ArePending see = AllByRecursion (IsPending see)

-- c is not after q
abbrev pub NotAfter : Path → Path → Type 0
NotAfter c q = path_cmp q c ≡ Less → ⊥

-- the path is at or below something that is left, or a path that was found is not after it
abbrev pub IsFoundOrLeft : List Pending → Option Found → Path → Type 0
IsFoundOrLeft todo first q = (list_any (λ (p : Pending). covers p.path q) todo ≡ true) ⊎ ((c : Found) × (first ≡ Some c) × NotAfter c.path q)

-- each path that stops the walk
abbrev pub AreFoundOrLeft : (Path → Sight) → List Pending → Option Found → Type 0
AreFoundOrLeft see todo first = (q : Path) → clashes_by_ids see q ≡ true → IsFoundOrLeft todo first q

-- it stops the walk, for this
pub record IsHalt (see : Path → Point) (found : Found) : Type 0 where
  pub stops : clashes_by_ids (sights_of see) found.path ≡ true
  pub halt : (see found.path).halt ≡ Some found.halt

-- each path through which the merge goes is at or below something that is left, or written
pub record IsPlanning (see : Path → Point) (todo : List Pending) (dirs : List MergedDir) : Type 0 where
  pub each : AreMergedDirs see dirs
  pub all : (p : Path) → IsMet see p → (see p).halt ≡ None → (list_any (λ (q : Pending). covers q.path p) todo ≡ true) ⊎ OneIs (IsMergedDir see p) dirs

pub record IsUnderWay (see : Path → Point) (todo : List Pending) (first : Option Found) (dirs : List MergedDir) : Type 0 where
  pub pending : ArePending see todo
  pub all : AreFoundOrLeft (sights_of see) todo first
  pub halts : (c : Found) → first ≡ Some c → IsHalt see c
  pub plan : IsPlanning see todo dirs

abbrev pub IsWalk : (Path → Point) → List Pending → Type 0
IsWalk see todo = IsUnderWay see todo None []

-- ---- at its end

abbrev pub IsFirst : (Path → Point) → Option Found → Type 0
IsFirst see None = NoStop (sights_of see) []
IsFirst see (Some found) = FirstStop (sights_of see) [] found.path × ((see found.path).halt ≡ Some found.halt)

pub record IsWalked (see : Path → Point) (walk : Progress) : Type 0 where
  pub first : IsFirst see walk.first
  pub dirs : ArePlan see walk.dirs.items

-- ---- a step

-- with these entries
pub record IsOpened (lists : Lists) (path : Path) (old new : List Pending) (dir : MergedDir) : Type 0 where
  pub sides : Sides
  pub listed : AreAllListed lists sides
  pub new_is : new ≡ opened path sides old
  pub link : dir.link ≡ lists.link
  pub entries : (name : PathName) → target_named (entry_values dir.entries.items) name ≡ merged_target (three_in sides name)

pub record GoesDown (lists : Lists) (path : Path) (old new : Progress) : Type 0 where
  pub dir : MergedDir
  pub opened : IsOpened lists path old.todo.items new.todo.items dir
  pub dirs : new.dirs.items ≡ old.dirs.items ++ dir ∷ []
  pub first : new.first ≡ old.first

-- the path of a clash, or what is wrong
abbrev pub answer_of : Path → Halt → Result Merge ReadError
answer_of path halts.Clash = Ok (merges.Clash path)
answer_of path (halts.Wrong w) = Err (errors.Wrong w)

abbrev pub answer_in : Option Found → Vec MergedDir Global → Result Merge ReadError
answer_in None dirs = Ok (merges.Dirs dirs)
answer_in (Some found) dirs = answer_of found.path found.halt

abbrev pub answered : Progress → Result Merge ReadError
answered walk = answer_in walk.first walk.dirs
