use Rattle.std.proofs.Common.{◌≡◌, ℕ, List, length}
use Rattle.std.specs.Ordering.{nat_cmp}
use Rattle.std.specs.Cmp.Lexicographic.{slice_cmp}
use Rattle.std.specs.BTreeSet as set
use Rattle.fsfs_noderev.specs.Changes.Texts.{HasNewPath}
use Rattle.fsfs_noderev.proofs.ItemLists.{HasItems}
use Rattle.fsfs_noderev.proofs.PathSets.{any_has}
use Rattle.fsfs_noderev.proofs.changes.reading.read_in_any_order.Given as goal

-- the set has the texts of the paths so far
abbrev pub invariant-data : goal.invariant-data
invariant-data l = HasItems HasNewPath l.bytes l.items.items l.rest × ((q : List ℕ) → set.contains_by (λ k. slice_cmp nat_cmp q k.now) l.paths ≡ any_has q l.items.items)

abbrev pub decreases-data : goal.decreases-data
decreases-data l = length l.rest
