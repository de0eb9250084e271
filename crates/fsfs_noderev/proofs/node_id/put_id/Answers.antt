use Rattle.fsfs_base.proofs.Appending.{appends_cut, appends_as}
use Rattle.fsfs_noderev.specs.Ids.{id_value}
use Rattle.fsfs_noderev.proofs.node_id.put_id.Goals as goal

pub returns : goal.returns
returns c = appends_as {y = id_value c.args.id.now} (appends_cut 46 c.in_ok-put_part.ensures c.in_ok-push.ensures.items
    (appends_cut 46 c.in_ok-put_part-2.ensures c.in_ok-push-2.ensures.items c.in_ok-put_place.ensures)) (λ t w. w)
