use Rattle.std.proofs.Common.{drop}
use Rattle.fsfs_txn.specs.Opened.Leading.{IsAmong}
use Rattle.fsfs_txn.proofs.opened.known.find.Given as goal

-- it is none of those so far
abbrev pub invariant-loop-one : goal.invariant-loop-one
invariant-loop-one l = IsAmong l.id l.known → IsAmong l.id (drop l.one-index l.known)
