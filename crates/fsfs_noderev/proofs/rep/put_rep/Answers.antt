use Rattle.std.proofs.Common.{arith}
use Rattle.fsfs_base.proofs.Appending.{appends_cut, appends_as, appends_plain}
use Rattle.fsfs_noderev.specs.Reps.{rep_value}
use Rattle.fsfs_noderev.proofs.rep.put_rep.Goals as goal

pub returns : goal.returns
returns c =
    let r = c.args.rep.now in
    let offset = appends_plain 10 18446744073709551615 r.offset (omega arith) c.in_ok-put_dec.ensures in
    let length = appends_plain 10 18446744073709551615 r.length (omega arith) c.in_ok-put_dec-2.ensures in
    let size = appends_plain 10 18446744073709551615 r.size (omega arith) c.in_ok-put_dec-3.ensures in
    appends_as {y = rep_value r} (appends_cut 32 c.in_ok-put_rev_or_none.ensures c.in_ok-push.ensures.items (appends_cut 32 offset c.in_ok-push-2.ensures.items
    (appends_cut 32 length c.in_ok-push-3.ensures.items (appends_cut 32 size c.in_ok-push-4.ensures.items c.in_ok-put_digests.ensures)))) (λ t w. w)
