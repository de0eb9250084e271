-- Whether two ids are the same, by their numbers.
use Rattle.std.specs.Prelude.{Bool, false, ◌==◌, ◌&&◌}
use Rattle.fsfs_noderev.specs.declared.node_id.Part.{Part}
use Rattle.fsfs_noderev.specs.declared.node_id.Part.TheVariants.{New, Old, Made}
use Rattle.fsfs_noderev.specs.declared.node_id.Place.{Place}
use Rattle.fsfs_noderev.specs.declared.node_id.Place.TheVariants.{At, In}
use Rattle.fsfs_noderev.specs.declared.node_id.NodeId.{NodeId}

abbrev pub same_part : Part → Part → Bool
same_part (New m) (New n) = m.number == n.number
same_part (New m) (Old n) = false
same_part (New m) (Made n rev) = false
same_part (Old m) (New n) = false
same_part (Old m) (Old n) = m.number == n.number
same_part (Old m) (Made n rev) = false
same_part (Made m made) (New n) = false
same_part (Made m made) (Old n) = false
same_part (Made m made) (Made n rev) = m.number == n.number && made == rev

abbrev pub same_place : Place → Place → Bool
same_place (At rev offset) (At other place) = rev == other && offset == place
same_place (At rev offset) (In txn) = false
same_place (In txn) (At rev offset) = false
same_place (In txn) (In other) = txn.base == other.base && txn.number.number == other.number.number

abbrev pub same_id : NodeId → NodeId → Bool
same_id a b = same_part a.node b.node && same_part a.copy b.copy && same_place a.place b.place
