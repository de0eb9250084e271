use Rattle.std.proofs.Common.{◌≤◌, map, take}
use Rattle.fsfs_base.specs.Streams.{Adds}
use Rattle.fsfs_disk.specs.Transactions.Txns.{text_of}
use Rattle.fsfs_top.specs.TxnAnswers.{names_text}
use Rattle.fsfs_top.proofs.output.print_txns.Given as goal

-- the names so far were written
abbrev pub invariant-loop-txn : goal.invariant-loop-txn
invariant-loop-txn g l = record {
  written : Adds (g.S.Sink.written l.fn.sink) (g.S.Sink.written l.sink) (names_text (map text_of (take l.txn-index l.txns)));
  later : g.S.Sink.faults l.fn.sink ≤ g.S.Sink.faults l.sink;
}
