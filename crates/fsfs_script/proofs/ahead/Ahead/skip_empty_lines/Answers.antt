use Rattle.std.proofs.Common.{◌≡◌, List, ℕ, get_or, subst, arith}
use Rattle.std.proofs.lemmas.Result.{err_from_is_err_and}
use Rattle.fsfs_script.specs.Places.{place_of}
use Rattle.fsfs_script.proofs.TextLemmas.{skips_kept, skips_to_end, skips_some}
use Rattle.fsfs_script.proofs.ahead.Ahead.skip_empty_lines.Goals as goal

pub returns-in_err-fill-clause-cause : goal.returns-in_err-fill-clause-cause
returns-in_err-fill-clause-cause g c =
    let p = err_from_is_err_and c.from_residual.result c.from_residual.ensures.1 in
    rw (p.1, p.2) (record { later = omega (arith, c.loop.invariant.faults, c.in_err-fill.ensures.cause.later); failed = omega (arith, c.loop.invariant.faults, c.in_err-fill.ensures.cause.failed) })

pub returns-then-not-branch-clause-given : goal.returns-then-not-branch-clause-given
returns-then-not-branch-clause-given g c = skips_to_end (place_of (g.S.Source.remaining c.args.source.now) c.args.self.now) (place_of (g.S.Source.remaining c.loop.source) c.loop.self) (place_of (g.S.Source.remaining c.fill.new.source) c.fill.new.self) c.loop.invariant.skips c.in_ok-fill.ensures.kept (c.in_ok-fill.ensures.end c.if-not-branch.true)

pub returns-then-as_slice-ne10-clause-given : goal.returns-then-as_slice-ne10-clause-given
returns-then-as_slice-ne10-clause-given g c =
    let skips = skips_kept (place_of (g.S.Source.remaining c.args.source.now) c.args.self.now) (place_of (g.S.Source.remaining c.loop.source) c.loop.self) (place_of (g.S.Source.remaining c.fill.new.source) c.fill.new.self) c.loop.invariant.skips c.in_ok-fill.ensures.kept in
    let other = subst (λ (s : List ℕ). get_or s 0 0 ≡ 10 → ⊥) c.as_slice.ensures c.if-as_slice-ne10.true in
    skips_some (g.S.Source.remaining c.fill.new.source) c.fill.new.self (place_of (g.S.Source.remaining c.args.source.now) c.args.self.now) 0 skips (c.in_ok-fill.ensures.some c.if-not-branch.false) other
