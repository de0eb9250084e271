use Rattle.std.proofs.Common.{◌≡◌, ◌++◌, List, vec_len}
use Rattle.fsfs_merge.specs.declared.clash.merged.MergedDir.{MergedDir}
use Rattle.fsfs_merge.specs.Relinked.{AreRelinked}
use Rattle.fsfs_merge.proofs.relink.relink_all.Given as goal

-- the last directories were written
abbrev pub invariant-loop-dir : goal.invariant-loop-dir
invariant-loop-dir g l = record {
  settled : g.N.Own.settled l.own ≡ g.N.Own.settled l.fn.own;
  name : g.N.Own.txn l.own ≡ g.N.Own.txn l.fn.own;
  quiet : g.N.Own.faults l.own ≡ g.N.Own.faults l.fn.own;
  done : List MergedDir;
  all : l.fn.dirs.items ≡ l.left.items ++ done;
  written : AreRelinked (g.N.Own.folder l.fn.own) (g.N.Own.folder l.own) done;
}

abbrev pub decreases-loop-dir : goal.decreases-loop-dir
decreases-loop-dir g l = vec_len l.left
