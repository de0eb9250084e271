-- Keys: the node part and the copy part of an id, by their numbers.
use Rattle.std.specs.Prelude.{Bool, ◌&&◌, Option, Some, if◌then◌else◌}
use Rattle.fsfs_noderev.specs.Ids.{PartValue, New, Old, Made}
use Rattle.fsfs_draft.specs.Drafts.{Kept}
use Rattle.fsfs_draft.specs.Steps.{Files, same_value}
use Rattle.fsfs_txn_nodes.specs.declared.memory.keys.KeyPart.{KeyPart}
use Rattle.fsfs_txn_nodes.specs.declared.memory.keys.KeyPart.TheVariants as keys
use Rattle.fsfs_txn_nodes.specs.declared.memory.keys.NodeKey.{NodeKey}

abbrev pub part_of : KeyPart → PartValue
part_of (keys.New n) = New n
part_of (keys.Old n) = Old n
part_of (keys.Made n rev) = Made n rev

-- the key has these parts
abbrev pub has_parts : PartValue → PartValue → NodeKey → Bool
has_parts node copy key = same_value node (part_of key.node) && same_value copy (part_of key.copy)

-- what stands at a key
abbrev pub at_key : Files → NodeKey → Option Kept
at_key files key = files (part_of key.node) (part_of key.copy)

-- with a node-revision at a key, in place of what stands there
abbrev pub with_key : NodeKey → Kept → Files → Files
with_key key k files node copy = if same_value (part_of key.node) node && same_value (part_of key.copy) copy then Some k else files node copy
