use Rattle.std.proofs.Common.{ap, sym, ◌∙◌, length, take, arith}
use Rattle.fsfs_script.specs.Places.{Place, newlines, passed}
use Rattle.fsfs_script.proofs.PlaceLemmas.{passed_is}
use Rattle.fsfs_script.proofs.ahead.Ahead.pass.Goals as goal

pub returns-in-Some : goal.returns-in-Some
returns-in-Some c =
    let i = c.self.inside in
    let lines = c.newlines_in-lines.ensures ∙ ap (λ s. newlines (take c.args.count s)) (c.as_slice.ensures ∙ ap (λ (p : Place). p.bytes) (sym c.self.view_is)) in
    passed_is i.piece.items i.from i.to c.args.count i.line c.newlines_in-lines.result c.in-Some.line c.self.invariant.0 (omega (arith, c.self.invariant.1, i.piece.ok.0)) (omega (arith, c.requires, ap (λ (p : Place). length p.bytes) c.self.view_is)) lines c.in-Some.ensures.1 ∙ ap (passed c.args.count) c.self.view_is
