use Rattle.std.proofs.Common.{sym, ◌∙◌, ap}
use Rattle.std.specs.FinMap as map
use Rattle.fsfs_tree.proofs.TreeLemmas.{get_is}
use Rattle.fsfs_tree.proofs.change_map.ChangeMap.get.Goals as goal

pub returns : goal.returns
returns c = c.get.ensures.value ∙ sym (get_is c.self.inside.changes.entries c.args.path.now) ∙ ap (λ m. map.get m c.args.path.now) c.self.view_is
