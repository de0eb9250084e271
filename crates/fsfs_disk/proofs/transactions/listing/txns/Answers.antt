use Rattle.std.proofs.Common.{map}
use Rattle.fsfs_disk.specs.Transactions.Txns.{text_of}
use Rattle.fsfs_disk.proofs.Listed.{listing_told}
use Rattle.fsfs_disk.proofs.transactions.listing.txns.Goals as goal

pub returns-in-Ok-clause-names : goal.returns-in-Ok-clause-names
returns-in-Ok-clause-names g c =
    listing_told (g.D.Disk.trace c.args.disk.now) c.in_ok-entries.entries.items c.deref.result.now (map text_of c.in-Ok.names.items) c.in_ok-entries.ensures.names c.deref.ensures.value c.in-Ok.ensures
