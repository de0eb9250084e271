use Rattle.std.proofs.Common.{length}
use Rattle.fsfs_noderev.specs.Changes.Texts.{IsAny}
use Rattle.fsfs_noderev.proofs.ItemLists.{HasItems}
use Rattle.fsfs_noderev.proofs.changes.reading.read_changes.Given as goal

abbrev pub invariant-data : goal.invariant-data
invariant-data l = HasItems IsAny l.bytes l.items.items l.rest

abbrev pub decreases-data : goal.decreases-data
decreases-data l = length l.rest
