use Rattle.std.proofs.Common.{refl, arith}
use Rattle.fsfs_base.proofs.Appending.{appends_cut, appends_as, appends_marked, appends_plain}
use Rattle.fsfs_noderev.specs.Reps.{unique_value, IsMarked}
use Rattle.fsfs_noderev.proofs.rep.put_unique.Goals as goal

pub returns : goal.returns
returns c =
    let u = c.args.unique.now in
    let number = appends_plain 36 170581728179578208255 u.number.number (omega (arith, u.number.small)) c.in_ok-put_b36.ensures in
    let marked = appends_marked {H = IsMarked} {y = u.number.number} 95 c.in_ok-push-3.ensures.items number (λ t is. (t, is, refl)) in
    appends_as {y = unique_value u} (appends_cut 32 c.in_ok-put_sha1.ensures c.in_ok-push.ensures.items (appends_cut 47 c.in_ok-put_txn_name.ensures c.in_ok-push-2.ensures.items marked)) (λ t w. w)
