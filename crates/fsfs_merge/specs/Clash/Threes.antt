-- What the three sides of a merge have at a path.
use Rattle.std.specs.Prelude.{Bool, false, ◌&&◌, not, Option, Some, None, is_some, option_map, if◌then◌else◌}
use Rattle.fsfs_noderev.specs.declared.node_rev.NodeRev.{NodeRev}
use Rattle.fsfs_revision.specs.Shows.Reading.{DirEntry}
use Rattle.fsfs_dag.specs.Same.{same_id}
use Rattle.fsfs_merge.specs.declared.clash.three.Target.{Target}
use Rattle.fsfs_merge.specs.declared.clash.three.Three.{Three}
use Rattle.fsfs_merge.specs.declared.clash.three.Side.{Side}
use Rattle.fsfs_merge.specs.declared.clash.three.Side.TheVariants.{Head, Own}
use Rattle.fsfs_merge.specs.declared.clash.three.Which.{Which}
use Rattle.fsfs_merge.specs.declared.clash.three.Which.TheVariants.{Changed, Made}

abbrev pub entry_target : DirEntry → Target
entry_target e = record { kind = e.kind; id = e.id }

abbrev pub node_target : NodeRev → Target
node_target v = record { kind = v.kind; id = v.id }

abbrev pub three_of : Option NodeRev → Option NodeRev → Option NodeRev → Three
three_of x y v = record { base = option_map node_target x; head = option_map node_target y; own = option_map node_target v }

-- the side has what the base has
abbrev pub has_id : Target → Option Target → Bool
has_id b None = false
has_id b (Some t) = same_id b.id t.id

abbrev pub changed_in : Option Target → Option Target → Option Target → Bool
changed_in None head own = is_some head && is_some own
changed_in (Some b) head own = not (has_id b head) && not (has_id b own)

abbrev pub is_changed : Three → Bool
is_changed t = changed_in t.base t.head t.own

-- after a merge without a clash the head's is there: the transaction left what the base has, and the head did not; or neither the base
-- nor the transaction has anything
abbrev pub takes_in : Option Target → Option Target → Option Target → Bool
takes_in None head own = not (is_some own)
takes_in (Some b) head own = has_id b own && not (has_id b head)

abbrev pub takes_head : Three → Bool
takes_head t = takes_in t.base t.head t.own

abbrev pub merged_target : Three → Option Target
merged_target t = if takes_head t then t.head else t.own

abbrev pub is_taken : Side → Three → Bool
is_taken Head t = takes_head t
is_taken Own t = not (takes_head t)

-- both made something where the base has nothing
abbrev pub made_in : Option Target → Option Target → Option Target → Bool
made_in None head own = is_some head && is_some own
made_in (Some b) head own = false

abbrev pub is_made : Three → Bool
is_made t = made_in t.base t.head t.own

abbrev pub is_of : Which → Three → Bool
is_of Changed t = is_changed t
is_of Made t = is_made t
