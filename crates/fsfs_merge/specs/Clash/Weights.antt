-- Why the walk ends: what the base has at a path weighs more than all that can stand in that directory.
use Rattle.std.specs.Prelude.{ℕ, suc, ◌+◌, ◌^◌, List, [], ◌∷◌, Option, Some, None}
use Rattle.fsfs_revision.specs.declared.damage.RevOffset.{RevOffset}
use Rattle.fsfs_revision.specs.Shows.Reading.{offset_of}
use Rattle.fsfs_dag.specs.TreeWalks.{rank}
use Rattle.fsfs_merge.specs.declared.clash.three.Target.{Target}
use Rattle.fsfs_merge.specs.declared.clash.walk.Pending.{Pending}

-- more than a directory's walk weighs at the place
abbrev pub weight : RevOffset → ℕ
weight at = (2 ^ 65) ^ suc (rank at)

abbrev pub weight_in : Option Target → ℕ
weight_in None = 1
weight_in (Some t) = weight (offset_of t.id.place)

abbrev pub total : List Pending → ℕ
total [] = 0
total (p ∷ todo) = weight_in p.three.base + total todo
