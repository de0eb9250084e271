use Rattle.std.proofs.Common.{◌≡◌, take}
use Rattle.std.specs.Prelude.{option_map}
use Rattle.fsfs_txn_files.specs.Changes.{changed_all}
use Rattle.fsfs_txn_files.proofs.making.make_all.Given as goal

-- the first changes were made
abbrev pub invariant-loop-change : goal.invariant-loop-change
invariant-loop-change g l = record {
  made : g.B.Bench.contents l.bench ≡ option_map (changed_all (take l.change-index l.changes)) (g.B.Bench.contents l.fn.bench);
  quiet : g.B.Bench.faults l.bench ≡ g.B.Bench.faults l.fn.bench;
}
