use Rattle.std.proofs.Common.{List, ℕ, sym, subst, arith}
use Rattle.std.proofs.lemmas.Result.{err_from_is_err_and}
use Rattle.fsfs_script.specs.Places.{place_of}
use Rattle.fsfs_script.proofs.PlaceLemmas.{passes_none}
use Rattle.fsfs_script.proofs.TextLemmas.{IsTaking, taking_kept, taking_more, taking_short, taking_ends, taking_fails}
use Rattle.fsfs_script.proofs.ahead.Ahead.take_text.Goals as goal

abbrev same : List ℕ → List ℕ
same t = t

abbrev none : Unit {0} → Unit {0}
none u = tt

pub pieces-init : goal.pieces-init
pieces-init g c = record {
  taking = subst (λ (t : List ℕ). IsTaking (place_of (g.S.Source.remaining c.args.source.now) c.args.self.now) (place_of (g.S.Source.remaining c.args.source.now) c.args.self.now) c.args.count t) (sym c.new-text.ensures.items) (record { passes = passes_none (place_of (g.S.Source.remaining c.args.source.now) c.args.self.now); fits = omega arith });
  faults = omega arith;
}

pub returns-then-not-branch-clause-given : goal.returns-then-not-branch-clause-given
returns-then-not-branch-clause-given g c =
    rw c.bad.ensures (taking_short (place_of (g.S.Source.remaining c.args.source.now) c.args.self.now) (place_of (g.S.Source.remaining c.pieces.source) c.pieces.self) (place_of (g.S.Source.remaining c.fill.new.source) c.fill.new.self) c.args.count c.pieces.text.items same c.pieces.invariant.taking (omega (arith, c.pieces-test.true, c.len.ensures, c.pieces.text.ok.0)) (c.in_ok-fill.ensures.end c.if-not-branch.true))

pub pieces-preserved : goal.pieces-preserved
pieces-preserved g c =
    let taking = taking_kept (place_of (g.S.Source.remaining c.args.source.now) c.args.self.now) (place_of (g.S.Source.remaining c.pieces.source) c.pieces.self) (place_of (g.S.Source.remaining c.fill.new.source) c.fill.new.self) c.args.count c.pieces.text.items c.pieces.invariant.taking c.in_ok-fill.ensures.kept in
    record { taking = taking_more (g.S.Source.remaining c.fill.new.source) (place_of (g.S.Source.remaining c.args.source.now) c.args.self.now) c.args.count c.fill.new.self c.take_some.new.self c.pieces.text.items c.take_some.new.text.items taking c.in_ok-take_some.ensures; faults = omega (arith, c.pieces.invariant.faults, c.fill.ensures.cause.later) }

pub returns-in_err-take_newline-clause-given : goal.returns-in_err-take_newline-clause-given
returns-in_err-take_newline-clause-given g c =
    let p = err_from_is_err_and c.from_residual-in_err-take_newline.result c.from_residual-in_err-take_newline.ensures.1 in
    rw (p.1, p.2) (taking_fails (place_of (g.S.Source.remaining c.args.source.now) c.args.self.now) (place_of (g.S.Source.remaining c.pieces.source) c.pieces.self) (place_of (g.S.Source.remaining c.take_newline.new.source) c.take_newline.new.self) c.args.count c.pieces.text.items same none c.in_err-take_newline.field-0.0 c.pieces.invariant.taking (omega (arith, c.pieces-test.false, c.len.ensures, c.pieces.text.ok.0)) c.in_err-take_newline.ensures.given)

pub returns-clause-given : goal.returns-clause-given
returns-clause-given g c =
    taking_ends (place_of (g.S.Source.remaining c.args.source.now) c.args.self.now) (place_of (g.S.Source.remaining c.pieces.source) c.pieces.self) (place_of (g.S.Source.remaining c.take_newline.new.source) c.take_newline.new.self) c.args.count c.pieces.text.items same none c.new.result c.in_ok-take_newline.field-0 c.new.ensures c.pieces.invariant.taking (omega (arith, c.pieces-test.false, c.len.ensures, c.pieces.text.ok.0)) c.in_ok-take_newline.ensures.given
