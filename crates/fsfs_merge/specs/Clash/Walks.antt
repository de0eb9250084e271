-- What is left to look at.
use Rattle.std.specs.Prelude.{◌++◌, List, [], ◌∷◌, Option, Some, None, if◌then◌else◌}
use Rattle.std.specs.Ordering.{is_lt}
use Rattle.fsfs_base.specs.Paths.{PathName, Path, path_cmp}
use Rattle.fsfs_base.specs.declared.kind.Kind.TheVariants.{Dir}
use Rattle.fsfs_noderev.specs.declared.node_id.NodeId.{NodeId}
use Rattle.fsfs_merge.specs.declared.clash.three.Target.{Target}
use Rattle.fsfs_merge.specs.declared.clash.three.Three.{Three}
use Rattle.fsfs_merge.specs.declared.clash.three.Which.{Which}
use Rattle.fsfs_merge.specs.declared.clash.three.Which.TheVariants.{Changed, Made}
use Rattle.fsfs_merge.specs.declared.clash.entries.Sides.{Sides}
use Rattle.fsfs_merge.specs.declared.clash.walk.Pending.{Pending}
use Rattle.fsfs_merge.specs.declared.clash.walk.Found.{Found}
use Rattle.fsfs_merge.specs.declared.clash.walk.Roots.{Roots}
use Rattle.fsfs_merge.specs.Clash.Lists.{names_in, three_in}
use Rattle.fsfs_merge.specs.Clash.Threes.{is_of}

abbrev pub root_target : NodeId → Target
root_target id = record { kind = Dir; id = id }

abbrev pub root_three : Roots → Three
root_three roots = record { base = Some (root_target roots.base); head = Some (root_target roots.head); own = Some (root_target roots.own) }

abbrev pub pending : Path → Three → Pending
pending path three = record { path = path; three = three }

abbrev pub if_changed : Which → Path → Three → List Pending
if_changed which path three = if is_of which three then pending path three ∷ [] else []

-- those of the names behind which there is such a change
abbrev pub changed : Which → Path → Sides → List PathName → List Pending
changed which path sides [] = []
changed which path sides (name ∷ names) = if_changed which (path ++ name ∷ []) (three_in sides name) ++ changed which path sides names

-- with what both sides changed in a directory: among the base's names, and made on both sides
abbrev pub opened : Path → Sides → List Pending → List Pending
opened path sides todo = (todo ++ changed Changed path sides (names_in sides.base)) ++ changed Made path sides (names_in sides.own)

-- the lesser of two paths, the first at the same path
abbrev pub least : Option Found → Found → Found
least None found = found
least (Some other) found = if is_lt (path_cmp found.path other.path) then found else other
