use Rattle.std.proofs.Common.{◌≡◌, map, take}
use Rattle.std.specs.List.{flat_map}
use Rattle.fsfs_disk.specs.Transactions.Txns.{text_of}
use Rattle.fsfs_disk.specs.Transactions.Entries.{name_at}
use Rattle.fsfs_disk.proofs.transactions.listing.txns_among.Given as goal

-- those among so many of the entries
abbrev pub invariant-loop-entry : goal.invariant-loop-entry
invariant-loop-entry l = map text_of l.names.items ≡ flat_map name_at (take l.entry-index l.entries)
