-- The names of the transactions that a pass lists are those of a listing by turns.
use Rattle.std.proofs.Common.{◌≡◌, ℕ, List, ◌∙◌, ap}
use Rattle.std.specs.Prelude.{Option, Some, None, IfSome}
use Rattle.std.specs.List.{flat_map}
use Rattle.fsfs_disk.specs.Labels.{Label, IsListing}
use Rattle.fsfs_disk.specs.Transactions.Txns.{AreTxns}
use Rattle.fsfs_disk.specs.Transactions.Entries.{name_at}
use Rattle.fsfs_disk.proofs.Listed.{listing_named}

pub named_so : (told : Option (List Label)) (entries lent names : List (List ℕ)) → IfSome told (λ ls. IsListing ls entries) → lent ≡ entries → names ≡ flat_map name_at lent → IfSome told (λ ls. AreTxns ls names)
named_so None entries lent names listing same is = tt
named_so (Some ls) entries lent names listing same is = listing_named ls entries names listing (is ∙ ap (flat_map name_at) same)
