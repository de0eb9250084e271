use Rattle.std.proofs.Common.{◌≡◌, take}
use Rattle.fsfs_folders.specs.TxnEntries.{txns_among}
use Rattle.fsfs_folders.proofs.listing.txns_among.Given as goal

-- those among so many of the names
abbrev pub invariant-loop-name : goal.invariant-loop-name
invariant-loop-name l = l.found.items ≡ txns_among (take l.name-index l.names)
