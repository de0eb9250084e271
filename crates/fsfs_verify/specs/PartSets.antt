-- Sets of parts of ids.
use Rattle.std.specs.Prelude.{◌≡◌, ◌≤◌, ◌<◌, ◌↔◌, Bool, true, false, ◌==◌}
use Rattle.std.specs.Ordering.{nat_cmp}
use Rattle.std.specs.BTreeSet as set
use Rattle.fsfs_noderev.specs.declared.node_id.Part.{Part}
use Rattle.fsfs_noderev.specs.declared.node_id.Part.TheVariants.{New, Old, Made}
use Rattle.fsfs_verify.specs.declared.numbers.PartSet.{PartSet}

-- whether the number of a part is among those of its form
abbrev pub holds : PartSet → Part → Bool
holds parts (New n) = false
holds parts (Old n) = set.contains nat_cmp parts.lasting n.number
holds parts (Made n rev) = set.contains nat_cmp parts.made n.number

-- two parts of one form have one number
abbrev pub same_number : Part → Part → Bool
same_number (New m) other = false
same_number (Old m) (New n) = false
same_number (Old m) (Old n) = m.number == n.number
same_number (Old m) (Made n rev) = false
same_number (Made m made) (New n) = false
same_number (Made m made) (Old n) = false
same_number (Made m made) (Made n rev) = m.number == n.number

-- a part that doesn't tell its revision
abbrev pub is_old : Part → Bool
is_old (New n) = false
is_old (Old n) = true
is_old (Made n rev) = false
