use Rattle.fsfs_base.proofs.Appending.{appends_cut, appends_as}
use Rattle.fsfs_noderev.specs.Fields.{IsIdText}
use Rattle.fsfs_noderev.proofs.changes.writing.put_first_line.Goals as goal

pub returns : goal.returns
returns c =
    let item = c.args.item.now in
    let id = appends_as {H = IsIdText} {y = item.id} c.in_ok-put_id.ensures (λ t w. w) in
    appends_as {y = item} (appends_cut 32 id c.in_ok-push.ensures.items
    (appends_cut 32 c.in_ok-put_action_and_kind.ensures c.in_ok-push-2.ensures.items
    (appends_cut 32 c.in_ok-put_flag.ensures c.in_ok-push-3.ensures.items
    (appends_cut 32 c.in_ok-put_flag-2.ensures c.in_ok-push-4.ensures.items c.in_ok-put_path.ensures)))) (λ t w. w)
