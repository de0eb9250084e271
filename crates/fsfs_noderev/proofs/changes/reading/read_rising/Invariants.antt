use Rattle.std.proofs.Common.{length}
use Rattle.fsfs_noderev.specs.Changes.Texts.{HasNewPath}
use Rattle.fsfs_noderev.proofs.ItemLists.{HasItems}
use Rattle.fsfs_noderev.proofs.Rising.{AreUpTo}
use Rattle.fsfs_noderev.proofs.changes.reading.read_rising.Given as goal

-- the items so far rise up to the last
abbrev pub invariant-data : goal.invariant-data
invariant-data l = HasItems HasNewPath l.bytes l.items.items l.rest × AreUpTo l.last l.items.items

abbrev pub decreases-data : goal.decreases-data
decreases-data l = length l.rest
