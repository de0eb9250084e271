use Rattle.std.proofs.Common.{◌∙◌, ap}
use Rattle.fsfs_final.specs.Order.Orders.{last_first}
use Rattle.fsfs_final.proofs.OrderLists.{last_pushed}
use Rattle.fsfs_final.proofs.order.children.push.Goals as goal

pub returns : goal.returns
returns c = ap last_first c.in_ok-push.ensures.items ∙ last_pushed c.args.list.now.items c.args.kept
