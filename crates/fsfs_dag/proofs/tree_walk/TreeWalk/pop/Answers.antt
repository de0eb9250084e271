use Rattle.fsfs_dag.proofs.TreeWalkLemmas.{popped_first}
use Rattle.fsfs_dag.proofs.tree_walk.TreeWalk.pop.Goals as goal

pub returns-clause-next : goal.returns-clause-next
returns-clause-next c = popped_first c.args.self.now.todo.items c.pop.new.self.items c.pop.result c.args.self.now.todo.len c.pop.new.self.len c.args.self.now.todo.ok.0 c.pop.ensures.items c.pop.ensures.cases
