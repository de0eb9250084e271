-- An accepted edit changes its transaction alone.
use Rattle.std.proofs.Common.{◌≡◌, ◌<◌, ◌∙◌, length, Some, sym, ap, arith}
use Rattle.std.proofs.lemmas.Option.{slice_get-get_or}
use Rattle.std.specs.Prelude.{slice_get}
use Rattle.fsfs_core.specs.State.{world_of}
use Rattle.fsfs_core.proofs.Calling.{edit_found}
use Rattle.fsfs_core.proofs.state.State.edit.Goals as goal

pub returns-in_ok-set_edited-in-Some : goal.returns-in_ok-set_edited-in-Some
returns-in_ok-set_edited-in-Some c =
    let w = world_of c.args.self.now in
    let x = c.index.result.now in
    let less : c.args.t < length c.args.self.now.txns.items = omega (arith, c.args.self.now.txns.ok.0) in
    let there : slice_get c.args.self.now.txns.items c.args.t ≡ Some x = slice_get-get_or c.args.self.now.txns.items c.args.t x less ∙ ap Some (sym c.index.ensures) in
    edit_found w (record w { txns = c.set_edited.new.txns.items }) c.args.t c.args.edit.now x c.revisions.result.now c.in_ok-edit_of.field-0 (c.in-Some.tree, c.in-Some.mark) there c.revisions.ensures c.in-Some.is c.in_ok-edit_of.ensures
    (ap (λ z. record w { txns = z }) c.in_ok-set_edited-in-Some.ensures)
