use Rattle.std.proofs.Common.{sym, ap, ◌∙◌}
use Rattle.std.proofs.lemmas.Result.{err_from_is_err_and}
use Rattle.fsfs_turn.specs.Views.{View}
use Rattle.fsfs_pack.proofs.Reading.{sought, unsought}
use Rattle.fsfs_pack.proofs.packing.find.Goals as goal

pub returns-in_err-floor-clause-found : goal.returns-in_err-floor-clause-found
returns-in_err-floor-clause-found g c = λ v known.
    let p = err_from_is_err_and c.from_residual.result c.from_residual.ensures.1 in
    let l = c.look-youngest.ensures.turned v known in
    let same = c.layout-layout.ensures ∙ (g.met.T.Turns.tells c.args.turns.now v known).layout in
    rw (p.1, p.2) (unsought (g.T.Turns.knows c.read_floor.new.turns) (g.T.Turns.knows c.look-youngest.new.self) c.look-youngest.result _ v l (c.in_err-floor.ensures.read l.0 l.1 (same ∙ sym (ap {A = View} (λ z. z.layout) l.2.is))))

pub returns-clause-found : goal.returns-clause-found
returns-clause-found g c = λ v known.
    let l = c.look-youngest.ensures.turned v known in
    let same = c.layout-layout.ensures ∙ (g.met.T.Turns.tells c.args.turns.now v known).layout in
    sought (g.T.Turns.knows c.read_floor.new.turns) (g.T.Turns.knows c.look-youngest.new.self) c.layout-layout.result c.look-youngest.result c.in_ok-floor.floor c.at.result v same c.at.ensures l (c.in_ok-floor.ensures.read l.0 l.1 (same ∙ sym (ap {A = View} (λ z. z.layout) l.2.is)))
