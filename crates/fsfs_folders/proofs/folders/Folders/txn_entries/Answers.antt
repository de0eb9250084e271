use Rattle.std.proofs.Common.{◌≡◌, rules, ap, subst, ◌∙◌}
use Rattle.std.specs.List.Sorted.{IsPermutation}
use Rattle.fsfs_folders.specs.TxnEntries.{txns_among}
use Rattle.fsfs_folders.proofs.TxnEntries.{listing_told}
use Rattle.fsfs_folders.proofs.folders.Folders.txn_entries.Goals as goal

pub returns-clause-names : goal.returns-clause-names
returns-clause-names g c =
    let old = g.C.Calls.history c.args.self.now.calls in
    let folders = c.in_ok-folders.folders.items in
    listing_told old folders c.sort.new.self.items c.in_ok-folders.ensures.names (search rules)
    (subst (λ l. IsPermutation l c.sort.new.self.items) (c.in-Ok.ensures ∙ ap txns_among c.as_slice.ensures.value) c.sort.ensures.permutation)
