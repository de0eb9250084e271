use Rattle.std.proofs.Common.{◌≡◌, rules, List, ℕ, [], ◌∷◌, ◌++◌, ◌+◌, ◌-◌, Bool, cond, take, length, refl, true, false, sym, ap, subst, ◌∙◌, arith}
use Rattle.fsfs_folders.proofs.TxnEntries.{none_pushed, one_pushed}
use Rattle.fsfs_folders.proofs.listing.push_txn.Goals as goal

pub returns-then-not-is_txn_entry : goal.returns-then-not-is_txn_entry
returns-then-not-is_txn_entry c = none_pushed c.args.found.now.items c.args.name.now (search rules)

pub returns : goal.returns
returns c = one_pushed c.args.found.now.items c.push.new.self.items c.args.name.now c.copy.result c.copy.ensures (search rules) c.in_ok-push.ensures.items
