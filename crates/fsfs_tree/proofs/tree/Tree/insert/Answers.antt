use Rattle.std.proofs.Common.{◌∙◌, ap}
use Rattle.std.specs.FinMap as map
use Rattle.fsfs_tree.proofs.TreeLemmas.{one_put}
use Rattle.fsfs_tree.proofs.tree.Tree.insert.Goals as goal

pub returns-clause-ok : goal.returns-clause-ok
returns-clause-ok c =
    one_put c.self.inside.nodes.entries c.insert.new.self.entries c.args.path c.args.node c.in_ok-insert.ensures.updates.0
    ∙ ap (λ m. map.insert m c.args.path c.args.node) c.self.view_is
