-- The history of a path: the revisions in which it, or anything below it, was changed, and where it was copied from.
-- (svn_fs.h, svn_fs_node_history and svn_fs_history_prev.)
use Rattle.std.specs.Prelude.{ℕ, zero, suc, ◌+◌, ◌-◌, nat_lt, List, [], ◌∷◌, Option, Some, None, if◌then◌else◌}
use Rattle.fsfs_base.specs.Paths.{Path}
use Rattle.fsfs_tree.specs.Nodes.{Node, TreeFunction}

-- where a point of a history leads: the revision and the path to go on with
abbrev pub leads_to : Path → Node → Option (ℕ × Path)
leads_to p n = if nat_lt n.added n.last_changed then Some (n.last_changed - 1, p) else n.source

-- go on where a point leads
abbrev pub go_on : ((ℕ × Path) → List (ℕ × Path)) → Option (ℕ × Path) → List (ℕ × Path)
go_on then_on None = []
go_on then_on (Some to) = then_on to

abbrev pub points_at : ((ℕ × Path) → List (ℕ × Path)) → Path → Option Node → List (ℕ × Path)
points_at then_on p None = []
points_at then_on p (Some n) = (n.last_changed, p) ∷ go_on then_on (leads_to p n)

-- the points of a path from a revision on, newest first, but no more than `most`
abbrev pub history_within : ℕ → (ℕ → TreeFunction) → ℕ → Path → List (ℕ × Path)
history_within zero tree r p = []
history_within (suc most) tree r p = points_at (λ to. history_within most tree to.0 to.1) p (tree r p)

-- each point is of a lower revision, so a history has at most r + 1
abbrev pub path_history : (ℕ → TreeFunction) → ℕ → Path → List (ℕ × Path)
path_history tree r p = history_within (r + 1) tree r p
