-- A merge lands the transaction, or answers the first clash.
use Rattle.std.proofs.Common.{◌≡◌, ◌<◌, ◌≤◌, ◌∙◌, length, Some, sym, ap, arith}
use Rattle.std.proofs.lemmas.Option.{slice_get-get_or}
use Rattle.std.specs.Prelude.{slice_get}
use Rattle.fsfs_core.specs.State.{world_of}
use Rattle.fsfs_core.proofs.Calling.{merge_landed, merge_clash}
use Rattle.fsfs_core.proofs.state.State.merge.Goals as goal

pub returns-in-Ok : goal.returns-in-Ok
returns-in-Ok c =
    let w = world_of c.args.self.now in
    let x = c.index-txn.result.now in
    let less : c.args.t < length c.args.self.now.txns.items = omega (arith, c.args.self.now.txns.ok.0) in
    let reached : x.base ≤ c.args.head = omega (arith, c.if-get.false, c.get.ensures.same, c.get-2.ensures.same) in
    let there : slice_get c.args.self.now.txns.items c.args.t ≡ Some x = slice_get-get_or c.args.self.now.txns.items c.args.t x less ∙ ap Some (sym c.index-txn.ensures) in
    merge_landed w (record w { txns = c.set_merged.new.txns.items }) c.args.t c.args.head x c.revisions-history.result.now c.in-Some-Some.base.now c.in-Some-Some.tip.now c.in-Ok.tree c.in_ok-tree-in-Some-Some.field-0
    there c.revisions-history.ensures reached c.in-Some-Some.ensures'.0 c.in-Some-Some.ensures.1 c.in-Some-Some.ensures'.1 c.in-Ok.is c.in_ok-tree-in-Some-Some.ensures
    (ap (λ z. record w { txns = z }) c.set_merged.ensures)

pub returns-in-Err : goal.returns-in-Err
returns-in-Err c =
    let w = world_of c.args.self.now in
    let x = c.index-txn.result.now in
    let less : c.args.t < length c.args.self.now.txns.items = omega (arith, c.args.self.now.txns.ok.0) in
    let reached : x.base ≤ c.args.head = omega (arith, c.if-get.false, c.get.ensures.same, c.get-2.ensures.same) in
    let there : slice_get c.args.self.now.txns.items c.args.t ≡ Some x = slice_get-get_or c.args.self.now.txns.items c.args.t x less ∙ ap Some (sym c.index-txn.ensures) in
    merge_clash w c.args.t c.args.head x c.revisions-history.result.now c.in-Some-Some.base.now c.in-Some-Some.tip.now c.in-Err.path c.in_ok-tree-in-Some-Some.field-0
    there c.revisions-history.ensures reached c.in-Some-Some.ensures'.0 c.in-Some-Some.ensures.1 c.in-Some-Some.ensures'.1 c.in-Err.is c.in_ok-tree-in-Some-Some.ensures
