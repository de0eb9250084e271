use Rattle.std.specs.Prelude.{IsTrue}
use Rattle.fsfs_disk_examples.proofs.edge.after.Given as goal

abbrev pub invariant-loop-line : goal.invariant-loop-line
invariant-loop-line l = record {
  right : IsTrue l.disk.writes;
}
