use Rattle.std.proofs.Common.{drop}
use Rattle.fsfs_layout.specs.Hash.Reading.{views}
use Rattle.fsfs_dag.proofs.PairLemmas.{AreSoFar}
use Rattle.fsfs_dag.proofs.directory.entries_of.Given as goal

-- the pairs so far are the entries so far
abbrev pub invariant-loop-pair : goal.invariant-loop-pair
invariant-loop-pair l = AreSoFar l.home l.rep (views l.pairs) (views (drop l.pair-index l.pairs)) l.entries.items
