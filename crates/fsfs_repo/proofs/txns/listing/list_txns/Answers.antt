use Rattle.std.proofs.Common.{map}
use Rattle.fsfs_disk.specs.Transactions.Txns.{text_of}
use Rattle.fsfs_repo.proofs.Listed.{named_so}
use Rattle.fsfs_repo.proofs.txns.listing.list_txns.Goals as goal

pub returns-in-Ok-txns_among-clause-names : goal.returns-in-Ok-txns_among-clause-names
returns-in-Ok-txns_among-clause-names g c = named_so _ c.in-Ok.entries.items c.deref.result.now (map text_of c.in-Ok-txns_among.names.items) c.in-Ok.ensures.names c.deref.ensures.value c.in-Ok-txns_among.ensures
