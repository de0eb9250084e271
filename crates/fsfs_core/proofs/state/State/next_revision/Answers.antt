-- What is found for a transaction is found at its place.
use Rattle.std.proofs.Common.{◌≡◌, ◌<◌, ◌∙◌, length, Some, sym, ap, arith}
use Rattle.std.proofs.lemmas.Option.{slice_get-get_or}
use Rattle.std.specs.Prelude.{slice_get}
use Rattle.fsfs_core.proofs.Calling.{next_at}
use Rattle.fsfs_core.proofs.state.State.next_revision.Goals as goal

pub returns : goal.returns
returns c = λ p.
    let txns = c.args.self.now.txns in
    let x = c.index.result.now in
    let less : c.args.t < length txns.items = omega (arith, txns.ok.0) in
    let there : slice_get txns.items c.args.t ≡ Some x = slice_get-get_or txns.items c.args.t x less ∙ ap Some (sym c.index.ensures) in
    next_at c.next_of.result c.args.self.now.line c.revisions.result.now p c.args.t txns.items x c.args.properties.now there c.revisions.ensures (c.next_of.ensures p)
