use Rattle.std.proofs.Common.{ap}
use Rattle.fsfs_dag.specs.TreeWalks.{in_order}
use Rattle.fsfs_dag.proofs.tree_walk.TreeWalk.new.Goals as goal

pub returns-clause-left : goal.returns-clause-left
returns-clause-left c = ap in_order c.new.ensures.items
