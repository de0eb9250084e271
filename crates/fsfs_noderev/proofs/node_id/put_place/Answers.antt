use Rattle.std.proofs.Common.{refl, sym, subst}
use Rattle.fsfs_base.specs.Grammar.Relations.{Appends}
use Rattle.fsfs_base.proofs.Appending.{appends_marked}
use Rattle.fsfs_noderev.specs.Ids.{In, place_value, IsPlace}
use Rattle.fsfs_noderev.specs.declared.node_id.Place.{Place}
use Rattle.fsfs_noderev.proofs.node_id.put_place.Goals as goal

pub returns-in_ok-put_txn_name-in-In : goal.returns-in_ok-put_txn_name-in-In
returns-in_ok-put_txn_name-in-In c =
    let txn = c.in-In.txn in
    subst (λ (p : Place). Appends IsPlace c.args.out.now.items c.put_txn_name.new.out.items (place_value p)) (sym c.in-In.is)
    (appends_marked {H = IsPlace} {y = In txn.base txn.number.number} 116 c.in_ok-push-in-In.ensures.items c.in_ok-put_txn_name-in-In.ensures (λ t is. (t, is, refl)))
